-- The complete orders that the tree of moves lists, and the walk. Document 01, "Orders of steps": "It goes depth first
-- and stops at the first complete order with a failed assertion. Its count is the moves made up to there, each move of
-- the tree once, or all moves of the tree if none fails."
-- Assumes nothing.
use Rattle.std.specs.Prelude.{ℕ, ◌+◌, Bool, List, [], ◌∷◌, ◌++◌, map}
use Rattle.std.proofs.Math.Option.{Option, none, some}
use Rattle.std.specs.Prelude.{if◌then◌else◌}
use Rattle.notation.specs.Lists.{any}
use Rattle.timing.specs.Accepted.{Accepted}
use Rattle.machine.specs.declared.End.{End}
use Rattle.order.specs.Orders.{order_end}
use Rattle.order.specs.States.{State}
use Rattle.walk.specs.Trees.{Tree, ended, tried, move, tree}

-- a complete order: its bytes and its end
pub record EndedOrder : Type 0 where
  pub bytes : List ℕ
  pub ending : End

-- does a complete order with this end fail: was some job's assertion noted?
unfoldable pub fails : End → Bool
fails end = any (λ flag. flag) end.failed

-- the order that begins with the byte and goes on as found
unfoldable pub starting : ℕ → EndedOrder → EndedOrder
starting byte found = record { bytes = byte ∷ found.bytes; ending = found.ending }

-- ---- the complete orders that the tree lists, depth first

unfoldable pub orders_of : Tree → List EndedOrder
orders_of (ended s) = record { bytes = []; ending = order_end s } ∷ []
orders_of tried = []
orders_of (move byte below others) = map (starting byte) (orders_of below) ++ orders_of others

-- all complete orders of the table, in the walk's order
unfoldable pub orders : Accepted → List EndedOrder
orders a = orders_of (tree a)

-- ---- the walk

-- what a walk comes to: the first failing order, if there is one, and the moves made
pub record Walked : Type 0 where
  pub failing : Option EndedOrder
  pub count : ℕ

-- a move, then the walk below it, then, unless that failed, the moves not tried yet
unfoldable pub after_move : ℕ → Walked → Walked → Walked
after_move byte below others =
    elim below.failing [
      | none ↦ record { failing = others.failing; count = 1 + below.count + others.count }
      | some found ↦ record { failing = some (starting byte found); count = 1 + below.count }
    ]

-- at a complete order
unfoldable pub at_end : State → Walked
at_end s =
    record {
      failing = if fails (order_end s) then some (record { bytes = []; ending = order_end s }) else none;
      count = 0;
    }

unfoldable pub walk_of : Tree → Walked
walk_of (ended s) = at_end s
walk_of tried = record { failing = none; count = 0 }
walk_of (move byte below others) = after_move byte (walk_of below) (walk_of others)

unfoldable pub walk : Accepted → Walked
walk a = walk_of (tree a)
