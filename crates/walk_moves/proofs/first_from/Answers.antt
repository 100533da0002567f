-- `walk_moves::first_from` meets its contract: each return is one case of the definition.
-- Assumes nothing.
use mathlib.Core.Path.{◌≡◌, ap, ◌∙◌}
use native.Mathlib.Omega.{arith}
use Prim.Native.Nat.{max}
use Rattle.taskfile.specs.Code.Choices.{lowest}
use Rattle.walk_moves.specs.Code.MoveParts.{raised}
use Rattle.walk_moves.specs.Laws.OfferLaws.{raised_max, from_high, from_large, from_found}
use Rattle.walk_moves.proofs.first_from.Goals as goal
use Rattle.walk_moves.proofs.first_from.Goals.{After-highest}
use Rattle.walk_moves.proofs.first_from.Goals.{then-highest-first-via-then-highest-first, then-highest-first-via-else-highest-first+then-first-gt-LAST_VALUE}

larger : (c : After-highest) → c.max-first.result ≡ raised c.args.v (lowest c.args.o)
larger c = c.max-first.ensures ∙ ap (max c.args.v) c.lowest.ensures ∙ raised_max _ _

pub returns-then-highest-first : goal.returns-then-highest-first
returns-then-highest-first c =
    let is = larger (goal.at.returns-then-highest-first c).After-highest in
    elim c.then-highest-first.branch [
      | then-highest-first-via-then-highest-first w ↦
          from_high _ _ is (omega (arith, c.highest.ensures, w.if-highest-first.true))
      | then-highest-first-via-else-highest-first+then-first-gt-LAST_VALUE w ↦
          from_large _ _ is w.if-first-gt-LAST_VALUE.true
    ]

pub returns : goal.returns
returns c = (
  omega (arith, c.if-first-gt-LAST_VALUE.false),
  from_found _ _ (larger (goal.at.returns c).After-highest) (omega (arith, c.highest.ensures, c.if-highest-first.false))
      c.if-first-gt-LAST_VALUE.false,
)
