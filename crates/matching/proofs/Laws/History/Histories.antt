-- Histories: for each job, in number order, its steps so far as rounds and values. A history is read in two ways. By
-- rows, round after round and in each round job after job, it is an order's bytes. By columns, job after job, each
-- step on its round's store, it is a plan's run. The theorem of demand 3 goes by histories; neither orders nor plans
-- speak of them.
-- Assumes nothing.
use Rattle.order.specs.OrderBytes.{order_byte}
use Rattle.std.specs.Prelude.{ℕ, suc, Bool, false, ◌||◌, List, [], ◌∷◌, ◌++◌, map, get_or, set, eqb}
use Rattle.taskfile.specs.Judgement.{instruction_of}
use Rattle.notation.specs.Lists.{up_to, only, each}
use Rattle.taskfile.specs.Tables.{ceilings_of}
use Rattle.timing.specs.declared.Job.{Job}
use Rattle.timing.specs.Accepted.{Accepted}
use Rattle.timing.specs.Relations.{base, job_at}
use Rattle.machine.specs.declared.Effect.{Effect}
use Rattle.machine.specs.declared.Local.{Local}
use Rattle.machine.specs.Ends.{no_store}
use Rattle.machine.specs.Held.{priority}
use Rattle.machine.specs.Instructions.{Store, fresh, perform}
use Rattle.plan.specs.declared.Round.{Round}
use Rattle.plan.specs.Runs.{Step}

-- a step: its round and its value
pub record Mark : Type 0 where
  pub round : ℕ
  pub value : ℕ

-- each job's steps so far, by number
abbrev pub Marks : Type 0
Marks = List (List Mark)

unfoldable pub job : ℕ → Job
job x = record { 0 = x }

abbrev pub round : ℕ → Round
round r = record { 0 = r }

-- one step more of job x, at the end
unfoldable pub marked : Marks → ℕ → Mark → Marks
marked h x m = set h x (get_or h x [] ++ (m ∷ []))

-- ---- by rows

-- the order bytes of these steps of job x
unfoldable pub bytes_of : Accepted → ℕ → List Mark → List ℕ
bytes_of a x ms = map (λ m. order_byte (base a (job x)) m.value) ms

unfoldable pub in_round : ℕ → List Mark → List Mark
in_round r ms = only (λ m. eqb m.round r) ms

-- the steps of round r, job after job from number x on
unfoldable pub row_from : Accepted → ℕ → ℕ → Marks → List ℕ
row_from a r x [] = []
row_from a r x (ms ∷ h) = bytes_of a x (in_round r ms) ++ row_from a r (suc x) h

-- n rounds, one after the other
unfoldable pub rows : Accepted → ℕ → Marks → List ℕ
rows a n h = each (up_to n) (λ r. row_from a r 0 h)

-- ---- by columns

-- a job after its steps so far
pub record JobColumn : Type 0 where
  pub local : Local
  pub ended : Bool
  pub failed : Bool
  pub steps : List Step

unfoldable pub unbegun : JobColumn
unbegun = record { local = fresh; ended = false; failed = false; steps = [] }

-- a job and each round's store
pub record ColumnRun : Type 0 where
  pub column : JobColumn
  pub stores : List Store

unfoldable pub effect_of : Accepted → ℕ → Mark → ColumnRun → Effect
effect_of a x m c =
    perform (instruction_of a.table (job_at a (job x)).task c.column.local.next) m.value c.column.local
    (get_or c.stores m.round no_store)

-- one step, on its round's store
unfoldable pub stepped : Accepted → ℕ → Mark → Effect → ColumnRun → ColumnRun
stepped a x m effect c =
    record {
      column =
          record {
            local = effect.local;
            ended = effect.ended;
            failed = c.column.failed || effect.failed;
            steps =
                c.column.steps
                ++ (record {
                  round = record { 0 = m.round };
                  value = m.value;
                  priority_after = priority (ceilings_of a.table) (base a (job x)) effect.local.held;
                } ∷ []);
          };
      stores = set c.stores m.round effect.store;
    }

unfoldable pub mark_step : Accepted → ℕ → Mark → ColumnRun → ColumnRun
mark_step a x m c = stepped a x m (effect_of a x m c) c

unfoldable pub run_marks : Accepted → ℕ → List Mark → ColumnRun → ColumnRun
run_marks a x [] c = c
run_marks a x (m ∷ ms) c = run_marks a x ms (mark_step a x m c)

-- the jobs from number x on, and the stores that all leave
pub record Columns : Type 0 where
  pub jobs : List JobColumn
  pub stores : List Store

unfoldable pub columns_from : Accepted → ℕ → Marks → List Store → Columns
columns_from a x [] stores = record { jobs = []; stores = stores }
columns_from a x (ms ∷ h) stores =
    let one = run_marks a x ms (record { column = unbegun; stores = stores }) in
    let others = columns_from a (suc x) h one.stores in
    record { jobs = one.column ∷ others.jobs; stores = others.stores }

unfoldable pub columns : Accepted → Marks → List Store → Columns
columns a h stores = columns_from a 0 h stores
