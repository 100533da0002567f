-- Small tables that the computed examples of orders, walks and plans are about.
-- Assumes nothing.
use Rattle.std.specs.Prelude.{◌≡◌, refl, ℕ, true, false, [], ◌∷◌, replicate}
use Rattle.notation.specs.Checked.{passed}
use Rattle.taskfile.specs.declared.Table.{Table}
use Rattle.taskfile.proofs.Laws.SmallTables.{instruction, task, locked_table, table}
use Rattle.taskfile.specs.Tables.{end_instruction}
use Rattle.timing.specs.declared.JobRecord.{JobRecord}
use Rattle.timing.specs.Accepted.{Accepted, timed}
use Rattle.timing.specs.Response.{response_of}
use Rattle.machine.specs.Ends.{Flags}
use Rattle.machine.specs.Instructions.{Store}
use Rattle.examples.specs.Laws.Opened.{opened}

abbrev job : ℕ → ℕ → ℕ → JobRecord
job i arrival latest = record { task = record { 0 = i }; arrival = arrival; latest = latest }

-- a store of which the first two variables may be other than 0
abbrev pub two_set : ℕ → ℕ → Store
two_set x y = x ∷ y ∷ replicate 6 0

-- job 0 alone failed
abbrev pub first_failed : Flags
first_failed = true ∷ replicate 31 false

-- Three tasks with a job each: job 1 may preempt job 0, and job 2 both. Lock 0 has the ceiling 1.
-- Job 0: Acquire 0, Release 0, Load 0 from variable 0, Assert 0, End. Job 1: Set 0 to 1, Store to variable 0, End.
-- Job 2: Pick 0 of 0 to 3, Store to variable 1, End.
unfoldable pub nest_table : Table
nest_table =
    table 3 0
    (task 1 16 0
    (instruction 9 0 0 0 ∷ instruction 10 0 0 0 ∷ instruction 1 0 0 0 ∷ instruction 11 0 0 0 ∷ end_instruction ∷ [])
    ∷ task 1 16 1 (instruction 3 0 1 0 ∷ instruction 2 0 0 0 ∷ end_instruction ∷ [])
    ∷ task 1 16 2 (instruction 8 0 3 0 ∷ instruction 2 1 0 0 ∷ end_instruction ∷ []) ∷ [])
    (1 ∷ [])

unfoldable pub nest : Accepted
nest = record { table = nest_table; responses = 3 ∷ 2 ∷ 1 ∷ []; jobs = job 0 0 3 ∷ job 1 1 3 ∷ job 2 2 3 ∷ [] }

-- Two tasks with a job each, both from time 0: job 1 comes before job 0. Each body is End.
unfoldable pub pair_table : Table
pair_table = table 1 0 (task 1 4 0 (end_instruction ∷ []) ∷ task 1 4 0 (end_instruction ∷ []) ∷ []) []

unfoldable pub pair : Accepted
pair = record { table = pair_table; responses = 2 ∷ 1 ∷ []; jobs = job 0 0 2 ∷ job 1 0 1 ∷ [] }

-- One task with one job: Pick 0 of 0 to 2, skip 1 if register 0 equals register 1, Assert 1, End. It fails unless it
-- picks 0.
unfoldable pub pick_table : Table
pick_table =
    table 1 0
    (task 1 1 0 (instruction 8 0 2 0 ∷ instruction 7 0 1 1 ∷ instruction 11 1 0 0 ∷ end_instruction ∷ []) ∷ []) []

unfoldable pub pick_up_to : Accepted
pick_up_to = record { table = pick_table; responses = 1 ∷ []; jobs = job 0 0 1 ∷ [] }

-- One task that arrives when the window ends, so no job. Variable 0 is 5 at first.
unfoldable pub idle_table : Table
idle_table = table 5 5 (task 1 1 5 (end_instruction ∷ []) ∷ []) []

unfoldable pub idle : Accepted
idle = record { table = idle_table; responses = 1 ∷ []; jobs = [] }

-- Two tasks with a job each: job 1 may preempt job 0. Lock 0 has the ceiling 1. Job 0: Release 0, Acquire 0, Acquire
-- 0, Release 0, Release 0, Acquire 0, End. Job 1: End.
unfoldable pub twice_table : Table
twice_table =
    table 2 0
    (task 1 8 0
    (instruction 10 0 0 0 ∷ instruction 9 0 0 0 ∷ instruction 9 0 0 0 ∷ instruction 10 0 0 0 ∷ instruction 10 0 0 0
    ∷ instruction 9 0 0 0 ∷ end_instruction ∷ [])
    ∷ task 1 8 1 (end_instruction ∷ []) ∷ [])
    (1 ∷ [])

unfoldable pub twice : Accepted
twice = record { table = twice_table; responses = 2 ∷ 1 ∷ []; jobs = job 0 0 2 ∷ job 1 1 2 ∷ [] }

-- Two jobs, of tasks 1 and 2: job 0 loads variable 0 twice and asserts that it did not change in between, job 1 stores 1
-- there. Task 0 has no job; its body acquires lock 0, whose ceiling is 1 and whose longest holding time is given.
abbrev slow_table : ℕ → Table
slow_table holding =
    locked_table 4 0
    (task 1 16 4 (instruction 9 0 0 0 ∷ end_instruction ∷ [])
    ∷ task 1 16 0
    (instruction 1 0 0 0 ∷ instruction 1 1 0 0 ∷ instruction 7 0 1 1 ∷ instruction 11 2 0 0 ∷ end_instruction ∷ [])
    ∷ task 1 16 3 (instruction 3 0 1 0 ∷ instruction 2 0 0 0 ∷ end_instruction ∷ []) ∷ [])
    (1 ∷ []) (holding ∷ [])

-- where nobody waits, job 0 ends before job 1 arrives
unfoldable pub apart_table : Table
apart_table = slow_table 0

unfoldable pub apart : Accepted
apart = record { table = apart_table; responses = 3 ∷ 2 ∷ 1 ∷ []; jobs = job 1 0 2 ∷ job 2 3 4 ∷ [] }

-- where job 0 may have to wait 4 for the lock, job 1 may preempt it
unfoldable pub wait_table : Table
wait_table = slow_table 4

unfoldable pub wait : Accepted
wait = record { table = wait_table; responses = 3 ∷ 6 ∷ 1 ∷ []; jobs = job 1 0 6 ∷ job 2 3 4 ∷ [] }

-- Document 02, E7: one task with one job, Pick 0 of 3 to 6, Set 1 to 5, skip 1 if register 0 is less than register 1,
-- Assert 2, End. It fails unless it picks 3 or 4.
unfoldable pub sensor_table : Table
sensor_table =
    table 1 0
    (task 1 1 0
    (instruction 8 0 6 3 ∷ instruction 3 1 5 0 ∷ instruction 6 0 1 1 ∷ instruction 11 2 0 0 ∷ end_instruction ∷ []) ∷ [])
    []

unfoldable pub sensor : Accepted
sensor = record { table = sensor_table; responses = 1 ∷ []; jobs = job 0 0 1 ∷ [] }

-- one name for all of them
unfoldable pub samples_opened : Unit {0}
unfolding nest_table nest pair_table pair pick_table pick_up_to idle_table idle twice_table twice apart_table
    apart wait_table wait sensor_table sensor
samples_opened = tt

-- these are the accepted tables that their tables' own times and jobs make
pub record TimedAs : Type 0 where
  pub nest_timed : timed nest_table ≡ passed nest
  pub pair_timed : timed pair_table ≡ passed pair
  pub pick_timed : timed pick_table ≡ passed pick_up_to
  pub idle_timed : timed idle_table ≡ passed idle
  pub twice_timed : timed twice_table ≡ passed twice
  pub apart_timed : timed apart_table ≡ passed apart
  pub wait_timed : timed wait_table ≡ passed wait
  pub sensor_timed : timed sensor_table ≡ passed sensor

pub all_timed : TimedAs
unfolding opened response_of samples_opened
all_timed =
    record {
      nest_timed = refl;
      pair_timed = refl;
      pick_timed = refl;
      idle_timed = refl;
      twice_timed = refl;
      apart_timed = refl;
      wait_timed = refl;
      sensor_timed = refl;
    }
