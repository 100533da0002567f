-- Orders of steps. Document 01, "Orders of steps": "Starting performs its first instruction. Otherwise only the
-- active job started last may step. An order byte is 16 × task + value, the value being the Pick's choice, else 0. ..
-- each byte is a step from the state that the last one left. It is complete if each byte is an allowed step and all
-- jobs have ended after the last, at most 512 steps."
-- Assumes nothing.
use Rattle.std.specs.Prelude.{◌≡◌, ℕ, ◌≤◌, Bool, true, ◌&&◌, List, [], ◌∷◌, length, eqb}
use Rattle.std.proofs.Math.Option.{Option, none, some, map, bind}
use Rattle.taskfile.specs.declared.Instruction.{Instruction}
use Rattle.taskfile.specs.Judgement.{instruction_of}
use Rattle.std.specs.Prelude.{if◌then◌else◌}
use Rattle.notation.specs.Lists.{member, first_with}
use Rattle.timing.specs.Accepted.{Accepted}
use Rattle.timing.specs.Relations.{base, job_at, job_numbers}
use Rattle.machine.specs.Ends.{flagged}
use Rattle.machine.specs.declared.End.{End}
use Rattle.machine.specs.declared.Effect.{Effect}
use Rattle.machine.specs.Instructions.{fresh, values, perform}
use Rattle.order.specs.OrderBytes.{task_of_byte, value_of_byte}
use Rattle.order.specs.declared.Frame.{Frame}
use Rattle.order.specs.States.{State, initial, all_ended, may_start}

-- whose turn it is: the job that steps, and the active jobs under it
pub record Turn : Type 0 where
  pub frame : Frame
  pub under : List Frame

-- the start of the job of task i that may start, if there is one
unfoldable pub start_of : Accepted → State → ℕ → Option Turn
start_of a s i =
    map (λ y. record { frame = record { job = y; local = fresh }; under = s.active })
    (first_with (λ y. eqb (base a y) i && may_start a s y) (job_numbers a))

-- the turn that a byte of task i takes: the active job started last, if it is of that task, else a start
unfoldable pub turn_among : Accepted → State → ℕ → List Frame → Option Turn
turn_among a s i [] = start_of a s i
turn_among a s i (f ∷ under) =
    if eqb (base a f.job) i then some (record { frame = f; under = under }) else start_of a s i

unfoldable pub turn_of : Accepted → State → ℕ → Option Turn
turn_of a s i = turn_among a s i s.active

-- the instruction that a job performs next
unfoldable pub next_of : Accepted → Frame → Instruction
next_of a f = instruction_of a.table (job_at a f.job).task f.local.next

-- the state after the job whose turn it is has performed its next instruction, with the value v
unfoldable pub performed : Accepted → State → ℕ → Turn → State
performed a s v turn =
    let job = turn.frame.job in
    let effect : Effect = perform (next_of a turn.frame) v turn.frame.local s.store in
    record {
      store = effect.store;
      ended = flagged effect.ended job.0 s.ended;
      failed = flagged effect.failed job.0 s.failed;
      active = if effect.ended then turn.under else record { job = job; local = effect.local } ∷ turn.under;
    }

-- is the value v on offer to the job whose turn it is?
abbrev pub is_offered : Accepted → Turn → ℕ → Bool
is_offered a turn v = member v (values (next_of a turn.frame))

-- the turn's step with the value v, if that value is on offer
unfoldable pub step_with : Accepted → State → ℕ → Turn → Option State
step_with a s v turn = if is_offered a turn v then some (performed a s v turn) else none

-- "An order byte is 16 × task + value": the state after that byte, if it is an allowed step
unfoldable pub step : Accepted → State → ℕ → Option State
step a s byte = bind (turn_of a s (task_of_byte byte)) (step_with a s (value_of_byte byte))

-- the state that an order's bytes lead to, if each is an allowed step
unfoldable pub run : Accepted → State → List ℕ → Option State
run a s [] = some s
run a s (byte ∷ bytes) = bind (step a s byte) (λ next. run a next bytes)

-- "It ends with the store left and the failed jobs"
unfoldable pub order_end : State → End
order_end s = record { store = s.store; failed = s.failed }

-- "at most 512 steps"
abbrev pub most_steps : ℕ
most_steps = 512

-- "It is complete if .."
pub record Complete (a : Accepted) (order : List ℕ) (s : State) : Type 0 where
  pub allowed : run a (initial a) order ≡ some s
  pub finished : all_ended a s ≡ true
  pub short : length order ≤ most_steps

-- a complete order, and how it ends: "It ends with the store left and the failed jobs, those with a failed assertion
-- noted."
pub record OrderEnds (a : Accepted) (order : List ℕ) (e : End) : Type 0 where
  pub after : State
  pub complete : Complete a order after
  pub ends : order_end after ≡ e
