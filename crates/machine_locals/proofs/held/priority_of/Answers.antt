-- What `machine_locals::held::priority_of` owes and the search does not find.
use native.Mathlib.Omega.{arith}
use mathlib.Core.Path.{sym, ◌∙◌}
use mathlib.Core.Bool.{true, false}
use Rattle.std.specs.Prelude.{◌≡◌}
use Rattle.machine.proofs.Laws.HeldLaws.{highest_start, highest_step, priority_raised}
use Rattle.machine_locals.proofs.held.priority_of.Goals as goal
use Rattle.machine_locals.proofs.held.priority_of.Goals.{else-holds_lock-via-then-holds_lock+else-highest-ceiling, else-holds_lock-via-else-holds_lock}

pub loop-lock-init : goal.loop-lock-init
loop-lock-init c = highest_start _ _ _ _

pub loop-lock-preserved-then-highest-ceiling : goal.loop-lock-preserved-then-highest-ceiling
loop-lock-preserved-then-highest-ceiling c =
    let start = c.args in
    omega (
      arith,
      highest_step start.ceilings start.locks start.base start.held c.loop-lock.lock c.loop-lock.highest true
          (omega arith) (omega arith) (omega arith) c.loop-lock.invariant (sym c.holds_lock.ensures ∙ c.if-holds_lock.true),
    )

pub loop-lock-preserved : goal.loop-lock-preserved
loop-lock-preserved c =
    let start = c.args in
    elim c.else-holds_lock.branch [
      | else-holds_lock-via-then-holds_lock+else-highest-ceiling w ↦
          omega (
            arith,
            highest_step start.ceilings start.locks start.base start.held c.loop-lock.lock c.loop-lock.highest true
                (omega arith) (omega arith) (omega arith) c.loop-lock.invariant (sym c.holds_lock.ensures ∙ w.if-holds_lock.true),
          )
      | else-holds_lock-via-else-holds_lock w ↦
          omega (
            arith,
            highest_step start.ceilings start.locks start.base start.held c.loop-lock.lock c.loop-lock.highest false
                (omega arith) (omega arith) (omega arith) c.loop-lock.invariant (sym c.holds_lock.ensures ∙ w.if-holds_lock.false),
          )
    ]

pub returns : goal.returns
returns c =
    let start = c.args in
    let last : c.loop-lock.lock ≡ 0 = omega arith in
    rw last at c.loop-lock.invariant ∙ sym (priority_raised start.held start.base _)
