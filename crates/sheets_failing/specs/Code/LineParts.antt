-- The parts of the lines about a failing order, as the functions write them.
-- Assumes nothing.
use Rattle.std.specs.Prelude.{ℕ, Bool, true, false, [], ◌∷◌, map}
use Rattle.notation.specs.Letters.{space}
use Rattle.notation.specs.Texts.{Text, decimal, line}
use Rattle.plan_marks.specs.declared.Marks.{Marks}
use Rattle.plan_marks.specs.Code.Marks.{rounds_in}
use Rattle.sheets.specs.SheetWords.{job_word, rounds_word}

-- a space and the job's number, if its flag is set
unfoldable pub failed_part : Bool → ℕ → Text
failed_part true x = space ∷ decimal x
failed_part false x = []

-- the line of the rounds of job x
abbrev pub job_line : Marks → ℕ → Text
job_line marks x = line job_word (decimal x ∷ rounds_word ∷ map (λ r. decimal r.0) (rounds_in marks x))
