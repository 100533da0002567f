-- What `timing_demands::blocking::blocking_of` owes and the search does not find.
use mathlib.Core.Path.{◌≡◌, refl, sym, ◌∙◌}
use native.Mathlib.Omega.{arith}
use Rattle.timing.proofs.Laws.BlockingLaws.{longest_none, longest_more, longest_other, longest_kept, longest_all}
use Rattle.timing_demands.proofs.blocking.blocking_of.Goals as goal
use Rattle.timing_demands.proofs.blocking.blocking_of.Goals.{else-longest-holding-via-then-longest-holding+else-blocks}
use Rattle.timing_demands.proofs.blocking.blocking_of.Goals.{else-longest-holding-via-else-longest-holding}

pub loop-lock-init : goal.loop-lock-init
loop-lock-init c = (sym (longest_none c.requires.0 _), omega arith)

pub loop-lock-preserved-then-blocks : goal.loop-lock-preserved-then-blocks
loop-lock-preserved-then-blocks c = (
  sym (longest_more c.requires.0 _ c.loop-lock.lock c.loop-lock-test.true c.loop-lock.auto.lock
      refl c.loop-lock.invariant.0 (sym c.blocks-then-longest-holding.ensures ∙ c.if-blocks.true) c.if-longest-holding.true),
  omega arith,
)

pub loop-lock-preserved : goal.loop-lock-preserved
loop-lock-preserved c = (
  sym (elim c.else-longest-holding.branch [
    | else-longest-holding-via-then-longest-holding+else-blocks w ↦
        longest_other c.requires.0 _ c.loop-lock.lock c.loop-lock-test.true c.loop-lock.auto.lock refl c.loop-lock.invariant.0
        (sym w.blocks-then-longest-holding.ensures ∙ w.if-blocks.false)
    | else-longest-holding-via-else-longest-holding w ↦
        longest_kept c.requires.0 _ c.loop-lock.lock c.loop-lock-test.true c.loop-lock.auto.lock refl c.loop-lock.invariant.0
        w.if-longest-holding.false
  ]),
  c.loop-lock.invariant.1,
)

pub returns : goal.returns
returns c =
    let last : c.loop-lock.lock ≡ 0 = omega arith in
    (c.from.ensures ∙ rw last at c.loop-lock.invariant.0 ∙ longest_all c.requires.0 _, omega arith)
