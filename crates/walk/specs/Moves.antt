-- The moves of a state, in the walk's order. Document 01, "Orders of steps": "at a state it tries the running job's
-- step, then each start by ascending task, and Pick values ascending."
-- Assumes nothing.
use Rattle.std.specs.Prelude.{ℕ, List, [], ◌∷◌, ◌++◌, map}
use Rattle.std.proofs.Math.Option.{Option, none, some}
use Rattle.taskfile.specs.Judgement.{task_numbers}
use Rattle.notation.specs.Lists.{each}
use Rattle.timing.specs.Accepted.{Accepted}
use Rattle.timing.specs.Relations.{base}
use Rattle.machine.specs.Instructions.{values}
use Rattle.order.specs.OrderBytes.{order_byte}
use Rattle.order.specs.declared.Frame.{Frame}
use Rattle.order.specs.Orders.{Turn, start_of, next_of, performed}
use Rattle.order.specs.States.{State}

-- a move: its order byte, and the state that it leads to
pub record Move : Type 0 where
  pub byte : ℕ
  pub after : State

-- the moves of one turn, values ascending
unfoldable pub turn_moves : Accepted → State → Turn → List Move
turn_moves a s turn =
    map (λ v. record { byte = order_byte (base a turn.frame.job) v; after = performed a s v turn })
    (values (next_of a turn.frame))

-- the running job, the active job started last
unfoldable pub running_moves : Accepted → State → List Frame → List Move
running_moves a s [] = []
running_moves a s (f ∷ under) = turn_moves a s (record { frame = f; under = under })

unfoldable pub start_moves : Accepted → State → Option Turn → List Move
start_moves a s none = []
start_moves a s (some turn) = turn_moves a s turn

-- "the running job's step, then each start by ascending task"
unfoldable pub moves : Accepted → State → List Move
moves a s = running_moves a s s.active ++ each (task_numbers a.table) (λ i. start_moves a s (start_of a s i.0))
