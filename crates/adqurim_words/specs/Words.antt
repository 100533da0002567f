-- The words that the C interface's entries fill.
-- Assumes nothing.
use Rattle.std.specs.Prelude.{ℕ, Bool, true, false, List, [], ◌∷◌, ◌++◌, map, length, drop, leb}
use Rattle.std.specs.Prelude.{if◌then◌else◌}
use Rattle.timing.specs.declared.ListAnswer.{ListAnswer}
use Rattle.timing.specs.declared.ReadAnswer.{ReadAnswer}
use Rattle.machine.specs.declared.RunAnswer.{RunAnswer}
use Rattle.sheets.specs.declared.SheetAnswer.{SheetAnswer}
use Rattle.walk.specs.declared.Verdict.{Verdict}
use Rattle.walk.specs.declared.Verdict.TheVariants.{None, Holds, Fails}
use Rattle.walk.specs.declared.WalkAnswer.{WalkAnswer}
use Rattle.writer.specs.declared.WriteAnswer.{WriteAnswer}

-- how many words the reader, a replay and a walk answer
abbrev pub words_of_read : ℕ
words_of_read = 11

abbrev pub words_of_run : ℕ
words_of_run = 43

abbrev pub words_of_walk : ℕ
words_of_walk = 45

-- and the job list, the sheet and the entries over a table in memory
abbrev pub words_of_list : ℕ
words_of_list = 3

abbrev pub words_of_sheet : ℕ
words_of_sheet = 3

abbrev pub words_of_write : ℕ
words_of_write = 3

-- number, place, how many records the job list has
unfoldable pub list_words : ListAnswer → List ℕ
list_words a = a.number ∷ a.place ∷ a.jobs ∷ []

-- number, place, how many bytes the sheet has
unfoldable pub sheet_words : SheetAnswer → List ℕ
sheet_words a = a.number ∷ a.place ∷ a.length ∷ []

-- number, place, how many bytes were written
unfoldable pub write_words : WriteAnswer → List ℕ
write_words a = a.number ∷ a.place ∷ a.length ∷ []

-- number, place, the response times of tasks 0 to 7, the number of jobs
unfoldable pub read_words : ReadAnswer → List ℕ
read_words a = a.number ∷ a.place ∷ a.responses ++ (a.jobs ∷ [])

-- a flag as a word
unfoldable pub flag : Bool → ℕ
flag true = 1
flag false = 0

-- number, place, the end store, a flag for each failed job, how many bytes were written
unfoldable pub run_words : RunAnswer → List ℕ
run_words a = a.number ∷ a.place ∷ a.store ++ map flag a.failed ++ (a.length ∷ [])

-- a verdict as a word
unfoldable pub verdict_number : Verdict → ℕ
verdict_number None = 0
verdict_number Holds = 1
verdict_number Fails = 2

-- what a walk answers of its failing order's run
unfoldable pub run_part : WalkAnswer → RunAnswer
run_part x = record { number = x.number; place = x.place; store = x.store; failed = x.failed; length = x.length }

-- the words of the run, then the verdict and the count of moves
unfoldable pub walk_words : WalkAnswer → List ℕ
walk_words x = run_words (run_part x) ++ (verdict_number x.verdict ∷ x.count ∷ [])

-- lent words with these at their front, if there is room for them; else as they were
unfoldable pub filled_with : List ℕ → List ℕ → List ℕ
filled_with words lent = if leb (length words) (length lent) then words ++ drop (length words) lent else lent
