-- What `walk_moves::start_from` owes and the search does not find.
use native.Mathlib.Omega.{arith}
use Rattle.walk_moves.specs.Laws.MoveLaws.{starts_passed, starts_refused, starts_found}
use Rattle.walk_moves.proofs.start_from.Goals as goal
use Rattle.walk_moves.proofs.start_from.Goals.{then-may_start+in_default, else-may_start}

pub returns-in-Some : goal.returns-in-Some
returns-in-Some c locks level high =
    let inv = c.loop-k.invariant in
    let found = c.in-Some.ensures in (
      found.0,
      starts_found _ _ locks _ level _ _ c.loop-k-test.true high inv.0 (inv.2 locks level high) c.may_start.ensures
          c.if-may_start.true found.1 found.0,
    )

pub loop-k-preserved : goal.loop-k-preserved
loop-k-preserved c =
    let inv = c.loop-k.invariant in (
      omega (arith, inv.0),
      omega (arith, c.loop-k-test.true),
      λ locks level high.
          elim c.if-may_start.branch [
            | then-may_start+in_default w ↦
                starts_refused _ _ locks _ level _ _ c.loop-k-test.true high inv.0 (inv.2 locks level high) c.may_start.ensures
                w.if-may_start.true w.in_default.ensures (omega arith)
            | else-may_start w ↦
                starts_passed _ _ locks _ level _ _ c.loop-k-test.true high inv.0 (inv.2 locks level high) c.may_start.ensures
                w.if-may_start.false
          ],
    )
