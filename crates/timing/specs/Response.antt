-- The response time of a task. Document 01, "Response times and jobs": "The response time of task i is the smallest
-- positive R with R = C_i + the sum over k > i of ceil(R / P_k) times C_k. A table needs R ≤ P_i for every task".
-- Document 02, E4: "The response rule becomes R = C_i + B_i + the same sum, and demand 2 means this equation."
-- `IsResponse` is that sentence. `response_of` looks for the response time upwards from 1 as far as the period.
-- Assumes nothing.
use Rattle.std.specs.Prelude.{◌≡◌, ℕ, zero, suc, ◌+◌, ◌*◌, ◌/◌, ◌%◌, ◌≤◌, Bool, true, false, List, map, drop, eqb}
use Rattle.std.proofs.Math.Option.{Option, none, some}
use Rattle.taskfile.specs.declared.Table.{Table}
use Rattle.taskfile.specs.declared.Task.{Task}
use Rattle.taskfile.specs.declared.TaskEntry.{TaskEntry}
use Rattle.std.specs.Prelude.{if◌then◌else◌}
use Rattle.notation.specs.Lists.{sum}
use Rattle.taskfile.specs.Tables.{tasks_of, task_of}
use Rattle.timing.specs.Blocking.{blocking}

-- ceil(n / d)
unfoldable pub rounded_up : ℕ → ℕ → ℕ
rounded_up n d = n / d + (if eqb (n % d) 0 then 0 else 1)

-- the tasks k > i: those with a higher number
unfoldable pub tasks_above : Table → Task → List TaskEntry
tasks_above t i = drop (suc i.0) (tasks_of t)

-- "the sum over k > i of ceil(R / P_k) times C_k"
unfoldable pub interference : List TaskEntry → ℕ → ℕ
interference above R = sum (map (λ e. rounded_up R e.period * e.execution) above)

-- what task i needs beside the sum: "C_i + B_i"
unfoldable pub need : Table → Task → ℕ
need t i = (task_of t i).execution + blocking t i

-- the right-hand side of the response equation
unfoldable pub demand : Table → Task → ℕ → ℕ
demand t i R = need t i + interference (tasks_above t i) R

-- "the smallest positive R with R = .."
pub record IsResponse (t : Table) (i : Task) (R : ℕ) : Type 0 where
  pub positive : 1 ≤ R
  pub solves : R ≡ demand t i R
  pub least : (Q : ℕ) → 1 ≤ Q → Q ≡ demand t i Q → R ≤ Q

-- the smallest of the n numbers from `start` on of which the test holds
unfoldable pub smallest : (ℕ → Bool) → ℕ → ℕ → Option ℕ
smallest test start zero = none
smallest test start (suc n) = elim (test start) [ true ↦ some start | false ↦ smallest test (suc start) n ]

-- the response time, if it is at most the period
unfoldable pub response_of : Table → Task → Option ℕ
response_of t i = smallest (λ R. eqb R (demand t i R)) 1 (task_of t i).period
