-- What the theorem of demand 2 says orders and counts by: the ascending order of two lists of bytes, and the moves of
-- the tree, each by its path. Document 01, "Orders of steps": "the moves made up to there, each move of the tree
-- once".
-- Assumes nothing.
use Rattle.std.specs.Prelude.{◌≡◌, ◌⊎◌, ℕ, suc, ◌≤◌, ◌<◌, List, [], ◌∷◌, ◌++◌, map, length}
use Rattle.std.proofs.Math.Option.{some}
use Rattle.timing.specs.Accepted.{Accepted}
use Rattle.order.specs.Orders.{run}
use Rattle.order.specs.States.{State}
use Rattle.walk.specs.Trees.{Tree, ended, tried, move, tree}

-- xs branches off lower than ys: after a common beginning it goes on with a smaller number. No list is a proper
-- beginning of one that it branches off from.
pub record BranchesLower (xs ys : List ℕ) : Type 0 where
  pub common : List ℕ
  pub lower : ℕ
  pub higher : ℕ
  pub rest_lower : List ℕ
  pub rest_higher : List ℕ
  pub first : xs ≡ common ++ (lower ∷ rest_lower)
  pub second : ys ≡ common ++ (higher ∷ rest_higher)
  pub smaller : lower < higher

-- xs is a proper beginning of ys: ys goes on after it
pub record Begins (xs ys : List ℕ) : Type 0 where
  pub next : ℕ
  pub rest : List ℕ
  pub parts : ys ≡ xs ++ (next ∷ rest)

-- depth first, xs comes sooner than ys: it is a proper beginning of ys, or branches off lower
abbrev pub Sooner : List ℕ → List ℕ → Type 0
Sooner xs ys = Begins xs ys ⊎ BranchesLower xs ys

-- the paths of the tree's moves, depth first: each move's own, then those below it with its byte in front, then those
-- of the moves not tried yet
unfoldable pub paths_of : Tree → List (List ℕ)
paths_of (ended s) = []
paths_of tried = []
paths_of (move byte below others) = (byte ∷ []) ∷ (map (λ path. byte ∷ path) (paths_of below) ++ paths_of others)

-- all moves of the tree, each as the bytes from the root up to it
unfoldable pub paths : Accepted → List (List ℕ)
paths a = paths_of (tree a)

-- the bytes of one or more allowed steps from a state on
pub record Begun (a : Accepted) (s : State) (bytes : List ℕ) : Type 0 where
  pub after : State
  pub allowed : run a s bytes ≡ some after
  pub filled : 1 ≤ length bytes

-- how many moves there are up to the one that makes these bytes, among the listed paths
pub record UpTo (count : ℕ) (listed : List (List ℕ)) (bytes : List ℕ) : Type 0 where
  pub earlier : List (List ℕ)
  pub later : List (List ℕ)
  pub parts : listed ≡ earlier ++ (bytes ∷ later)
  pub counted : count ≡ suc (length earlier)
