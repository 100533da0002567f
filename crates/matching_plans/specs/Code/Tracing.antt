-- The run of a complete order, as its functions note it: each step in its round, and each round's first store.
-- Assumes nothing.
use Rattle.order.specs.OrderBytes.{task_of_byte, value_of_byte}
use Rattle.std.specs.Prelude.{ℕ, ◌+◌, Bool, List, [], ◌∷◌, ltb, eqb, Option, Some, None}
use Rattle.std.specs.Prelude.{if◌then◌else◌}
use Rattle.taskfile.specs.declared.Ceilings.{Ceilings}
use Rattle.timing.specs.declared.Job.{Job}
use Rattle.machine.specs.Instructions.{Store}
use Rattle.plan.specs.declared.Round.{Round}
use Rattle.order_states.specs.declared.Due.{Due}
use Rattle.order_states.specs.Code.Snapshots.{Snapshot}
use Rattle.order_states.specs.Code.SnapshotSteps.{Program, LentTimes, turn_in, made_in}
use Rattle.order_states.specs.Code.StateBytes.{snapshot_in}
use Rattle.plan_marks.specs.declared.Marks.{Marks}
use Rattle.plan_marks.specs.Code.Marks.{step_count, with_mark, with_store}
use Rattle.matching_plans.specs.declared.Trace.{Trace}

-- where a traced order stands: its state, its round, the marks of its steps and the guesses so far
pub record TraceState : Type 0 where
  pub state : Snapshot
  pub round : ℕ
  pub marks : Marks
  pub guesses : List ℕ

-- the marks with one step more of job x, if it has room for one
unfoldable pub note_in : Marks → ℕ → Round → ℕ → Marks
note_in marks x r value =
    if ltb (step_count marks x) 16
    then with_mark marks x (step_count marks x) (record { round = r; value = value; priority_after = 0 })
    else marks

-- the guesses with the store where the round after r begins, and that round, of 32
unfoldable pub guess_in : List ℕ → ℕ → Store → List ℕ
guess_in guesses r store = if ltb r 31 then with_store guesses (r + 1) store else guesses

unfoldable pub round_in : ℕ → ℕ
round_in r = if ltb r 31 then r + 1 else r

-- after a step of job x to a state with so many active jobs under it: a round ends with a job's End
unfoldable pub noted_in : Snapshot → ℕ → Job → ℕ → TraceState → TraceState
noted_in after under x value n =
    let ends : Bool = eqb after.depth under in
    record {
      state = after;
      round = if ends then round_in n.round else n.round;
      marks = note_in n.marks x.0 (record { 0 = n.round }) value;
      guesses = if ends then guess_in n.guesses n.round after.store else n.guesses;
    }

-- after the step that is due, if one is
unfoldable pub due_noted : Program → ℕ → ℕ → Option Due → TraceState → TraceState
due_noted program i value None n = n
due_noted program i value (Some d) n =
    if ltb d.frame.local.next 16
    then noted_in (made_in program n.state d.frame d.under i value) d.under d.frame.job value n
    else n

-- after the step that a byte asks for
unfoldable pub step_noted : Program → LentTimes → Ceilings → TraceState → ℕ → TraceState
step_noted program waits locks n byte =
    due_noted program (task_of_byte byte) (value_of_byte byte) (turn_in program waits locks n.state (task_of_byte byte)) n

-- after the steps of an order's bytes
unfoldable pub order_noted : Program → LentTimes → Ceilings → TraceState → List ℕ → TraceState
order_noted program waits locks n [] = n
order_noted program waits locks n (byte ∷ bytes) =
    order_noted program waits locks (step_noted program waits locks n byte) bytes

-- ---- what the functions leave

-- where a trace stands
abbrev pub noted_of : Trace → TraceState
noted_of t = record { state = snapshot_in t.state.bytes; round = t.round.0; marks = t.marks; guesses = t.guesses }

-- with one step more of job x in the round
abbrev pub with_step : TraceState → ℕ → ℕ → TraceState
with_step n x value =
    record {
      state = n.state;
      round = n.round;
      marks = note_in n.marks x (record { 0 = n.round }) value;
      guesses = n.guesses;
    }

-- where the next round begins, with its store noted
abbrev pub in_next_round : TraceState → TraceState
in_next_round n =
    record {
      state = n.state;
      round = round_in n.round;
      marks = n.marks;
      guesses = guess_in n.guesses n.round n.state.store;
    }
