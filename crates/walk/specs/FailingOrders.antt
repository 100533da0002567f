-- The complete orders that fail, and the first of them in the walk. Document 01, "Orders of steps": "It goes depth
-- first and stops at the first complete order with a failed assertion."
-- Assumes nothing.
use Rattle.std.specs.Prelude.{◌≡◌, ◌⊎◌, ℕ, true, List}
use Rattle.timing.specs.Accepted.{Accepted}
use Rattle.machine.specs.declared.End.{End}
use Rattle.order.specs.Orders.{OrderEnds}
use Rattle.walk.specs.declared.WalkAnswer.{WalkAnswer}
use Rattle.walk.specs.Paths.{BranchesLower}
use Rattle.walk.specs.Walks.{fails}

-- a "complete order with a failed assertion", and how it ends
pub record FailingOrder (a : Accepted) (order : List ℕ) (end : End) : Type 0 where
  pub complete : OrderEnds a order end
  pub failed : fails end ≡ true

-- some complete order fails
pub record SomeFails (a : Accepted) : Type 0 where
  pub order : List ℕ
  pub end : End
  pub failing : FailingOrder a order end

-- the order fails, and no failing complete order comes before it in the walk: each is this one, or branches off with a
-- larger byte. The moves of a state in the walk's order have ascending bytes (`MoveLaws.moves_ascend`; they are all its
-- steps, `ByteLaws.moves_steps`), so of two bytes at one state the smaller is tried first.
pub record FirstFailing (a : Accepted) (order : List ℕ) (end : End) : Type 0 where
  pub failing : FailingOrder a order end
  pub first : (other : List ℕ) (otherEnd : End) → FailingOrder a other otherEnd
      → (order ≡ other) ⊎ BranchesLower order other

-- the end that an answer returns
abbrev pub answered_end : WalkAnswer → End
answered_end answer = record { store = answer.store; failed = answer.failed }
