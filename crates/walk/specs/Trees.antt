-- The tree of moves. Document 01, "Orders of steps": the walk "goes depth first", "each move of the tree once". The
-- tree is as deep as an order may be long; `left` counts the steps that may still come. The complete orders, the walk
-- and the paths of its moves are three readings of it (`Walks`, `Paths`).
-- Assumes nothing.
use Rattle.std.specs.Prelude.{ℕ, zero, suc, true, false, List, [], ◌∷◌}
use Rattle.std.specs.Prelude.{if◌then◌else◌}
use Rattle.timing.specs.Accepted.{Accepted}
use Rattle.order.specs.States.{State, initial, all_ended}
use Rattle.walk.specs.Moves.{Move, moves}
use Rattle.order.specs.Orders.{most_steps}

pub data Tree : Type 0 where
  -- all jobs have ended: no move is left, and the order is complete
  ended : State → Tree
  -- no move is left to try
  tried : Tree
  -- a move by its byte, the tree below it, and the moves not tried yet
  move : (byte : ℕ) (below others : Tree) → Tree

-- the moves in their order, where `below` gives the tree from a state on
unfoldable pub through : (State → Tree) → List Move → Tree
through below [] = tried
through below (m ∷ ms) = move m.byte (below m.after) (through below ms)

unfoldable pub tree_from : Accepted → ℕ → State → Tree
tree_from a zero s = if all_ended a s then ended s else tried
tree_from a (suc left) s =
    elim (all_ended a s) [ true ↦ ended s | false ↦ through (λ next. tree_from a left next) (moves a s) ]

abbrev pub tree : Accepted → Tree
tree a = tree_from a most_steps (initial a)
