-- What demand 2 says of response times, for every file: "Response times are the least solutions of the response
-- equation." Document 01, "Response times and jobs" and "Numbers by who causes them". `ResponseDemandLaws` proves it.
-- Assumes nothing.
use Rattle.std.specs.Prelude.{◌≡◌, ◌↔◌, ℕ, ◌≤◌, ◌<◌, get_or}
use Rattle.taskfile.specs.declared.Site.TheVariants.{AtTask}
use Rattle.taskfile.specs.declared.Table.{Table}
use Rattle.taskfile.specs.declared.Task.{Task}
use Rattle.notation.specs.Checked.{passed}
use Rattle.taskfile.specs.File.{Loaded, load, record_at}
use Rattle.taskfile.specs.Records.{File}
use Rattle.taskfile.specs.Tables.{task_of}
use Rattle.timing.specs.declared.ReadAnswer.{ReadAnswer}
use Rattle.timing.specs.Accepted.{Accepted, accept}
use Rattle.timing.specs.ReadEntries.{read_answer}
use Rattle.timing.specs.Response.{IsResponse}

-- R is the response time of task i, and "R ≤ P_i"
pub record MeetsPeriod (t : Table) (i : Task) (R : ℕ) : Type 0 where
  pub response : IsResponse t i R
  pub within : R ≤ (task_of t i).period

-- "no R ≤ P; the lowest such task": task i of the table has no response time up to its period, each lower task has one
pub record LowestLate (t : Table) (i : Task) : Type 0 where
  pub listed : i.0 < t.tasks
  pub late : (R : ℕ) → ¬ MeetsPeriod t i R
  pub lowest : (k : Task) → k.0 < i.0 → (R : ℕ) × MeetsPeriod t k R

-- a file that passes 1 to 9, and whose lowest task without a response time up to its period stands at this record
pub record OverloadAt (f : File) (place : ℕ) : Type 0 where
  pub loaded : Loaded
  pub loads : load f ≡ passed loaded
  pub task : Task
  pub late : LowestLate loaded.table task
  pub named : record_at loaded.chains (AtTask task) ≡ place

-- the response time of task i in the reader's answer
abbrev pub response_in : ReadAnswer → Task → ℕ
response_in answer i = get_or answer.responses i.0 0

pub record ResponseDemand (f : File) : Type 0 where
  -- "The response time of task i is the smallest positive R with .. A table needs R ≤ P_i for every task"
  pub responses : (a : Accepted) → accept f ≡ passed a → (i : Task) → i.0 < a.table.tasks
      → MeetsPeriod a.table i (response_in (read_answer f) i)
  -- "(0 past the last task)"
  pub past : (a : Accepted) → accept f ≡ passed a → (i : Task) → a.table.tasks ≤ i.0
      → response_in (read_answer f) i ≡ 0
  -- "10 OVERLOAD: no R ≤ P; the lowest such task's record": the answer is 10 at a record exactly if it is that task's
  pub overload : (place : ℕ) → (((read_answer f).number ≡ 10) × ((read_answer f).place ≡ place)) ↔ OverloadAt f place
