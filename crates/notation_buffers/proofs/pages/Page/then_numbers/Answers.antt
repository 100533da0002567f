-- One number more at each step.
-- Assumes nothing.
use Rattle.notation_buffers.specs.Code.Spaced.{spaced_numbers}
use Rattle.notation_buffers.specs.Laws.PageLaws.{listed_none, listed_more, listed_whole}
use Rattle.notation_buffers.proofs.pages.Page.then_numbers.Goals as goal

pub loop-byte-init : goal.loop-byte-init
loop-byte-init c = listed_none _ _ _

pub loop-byte-preserved : goal.loop-byte-preserved
loop-byte-preserved c =
    listed_more 0 c.loop-byte.invariant c.loop-byte-test.true (rw c.from.ensures at c.then_number.ensures)

pub returns : goal.returns
unfolding spaced_numbers
returns c = listed_whole c.loop-byte.invariant c.loop-byte-test.false
