-- The three readings of the tree from a state on, and each through a list of moves, where `below` gives what is read
-- from a state on.
-- Assumes nothing.
use Rattle.std.specs.Prelude.{ℕ, List, [], ◌∷◌, ◌++◌, map}
use Rattle.std.proofs.Math.Option.{none}
use Rattle.timing.specs.Accepted.{Accepted}
use Rattle.order.specs.States.{State}
use Rattle.walk.specs.Moves.{Move}
use Rattle.walk.specs.Paths.{paths_of}
use Rattle.walk.specs.Trees.{tree_from}
use Rattle.walk.specs.Walks.{EndedOrder, Walked, starting, orders_of, after_move, walk_of}

unfoldable pub orders_from : Accepted → ℕ → State → List EndedOrder
orders_from a left s = orders_of (tree_from a left s)

unfoldable pub paths_from : Accepted → ℕ → State → List (List ℕ)
paths_from a left s = paths_of (tree_from a left s)

unfoldable pub walk_from : Accepted → ℕ → State → Walked
walk_from a left s = walk_of (tree_from a left s)

unfoldable pub orders_through : (State → List EndedOrder) → List Move → List EndedOrder
orders_through below [] = []
orders_through below (m ∷ ms) = map (starting m.byte) (below m.after) ++ orders_through below ms

unfoldable pub paths_through : (State → List (List ℕ)) → List Move → List (List ℕ)
paths_through below [] = []
paths_through below (m ∷ ms) =
    (m.byte ∷ []) ∷ (map (λ path. m.byte ∷ path) (below m.after) ++ paths_through below ms)

unfoldable pub trial : (State → Walked) → List Move → Walked
trial below [] = record { failing = none; count = 0 }
trial below (m ∷ ms) = after_move m.byte (below m.after) (trial below ms)
