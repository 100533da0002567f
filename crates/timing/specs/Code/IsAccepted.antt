-- What the table of an accepted file is like: well made, judged and timed.
-- Assumes nothing.
use Rattle.std.specs.Prelude.{◌≡◌, ◌≤◌}
use Rattle.notation.specs.Checked.{passed}
use Rattle.taskfile.specs.Judgement.{task_numbers, judged}
use Rattle.timing.specs.Accepted.{Accepted, responses_of}
use Rattle.timing.specs.Jobs.{jobs_of, job_count}
use Rattle.taskfile.specs.Code.WellMade.{WellMade}

-- what a table that passed holds
pub record Timed (a : Accepted) : Type 0 where
  pub found : responses_of a.table (task_numbers a.table) ≡ passed a.responses
  pub listed : a.jobs ≡ jobs_of a.table a.responses
  pub few : job_count a.table ≤ 32

-- an accepted file's table is well made, judged and timed
pub record IsAccepted (a : Accepted) : Type 0 where
  pub is_made : WellMade a.table
  pub is_judged : judged a.table ≡ passed tt
  pub is_timed : Timed a
