-- The index that a record of a table would have had: its position in the list of the table's sites. Document 02, E2:
-- "at the index the record would have had"; the order is document 01's: "header, each task followed by its body, then
-- locks".
-- Assumes nothing.
use Rattle.std.specs.Prelude.{ℕ, suc, Bool, List, [], ◌∷◌, ◌++◌, map, length}
use Rattle.notation.specs.Lists.{up_to, same}
use Rattle.taskfile.specs.declared.Kind.TheVariants.{Header, TaskRecord, LockRecord, InstructionRecord}
use Rattle.taskfile.specs.declared.Site.{Site}
use Rattle.taskfile.specs.declared.Site.TheVariants.{AtHeader, AtTask, AtInstruction, AtLock}
use Rattle.taskfile.specs.declared.Table.{Table}
use Rattle.taskfile.specs.declared.TaskEntry.{TaskEntry}
use Rattle.taskfile.specs.Judgement.{numbered}
use Rattle.taskfile.specs.Records.{kind_number}
use Rattle.writer.specs.Claims.{claimed_tasks, claimed_body, claimed_locks}
use Rattle.writer.specs.Positions.{position_where}

-- the body of task i
unfoldable pub body_sites : ℕ → TaskEntry → List Site
body_sites i e = map (AtInstruction (numbered i)) (up_to (length (claimed_body e)))

-- the tasks from task i on, each followed by its body
unfoldable pub task_sites : ℕ → List TaskEntry → List Site
task_sites i [] = []
task_sites i (e ∷ others) = AtTask (numbered i) ∷ body_sites i e ++ task_sites (suc i) others

-- "header, each task followed by its body, then locks": of each, what the table claims
unfoldable pub sites : Table → List Site
sites t = AtHeader ∷ task_sites 0 (claimed_tasks t) ++ map AtLock (up_to (length (claimed_locks t)))

-- a site by numbers: its record's kind, and then its task and its position in the body, or its lock
unfoldable pub site_numbers : Site → List ℕ
site_numbers AtHeader = kind_number Header ∷ []
site_numbers (AtTask i) = kind_number TaskRecord ∷ i.0 ∷ []
site_numbers (AtLock l) = kind_number LockRecord ∷ l ∷ []
site_numbers (AtInstruction i p) = kind_number InstructionRecord ∷ i.0 ∷ p ∷ []

-- are the two sites the same?
unfoldable pub same_site : Site → Site → Bool
same_site a b = same (site_numbers a) (site_numbers b)

-- "the index the record would have had"
unfoldable pub index_of : Table → Site → ℕ
index_of t site = position_where (same_site site) (sites t)

-- the index of the first lock; where there is none, that after the last record
unfoldable pub locks_at : Table → ℕ
locks_at t = index_of t (AtLock 0)
