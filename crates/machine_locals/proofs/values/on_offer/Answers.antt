-- `machine_locals::values::on_offer` meets its contract: a value is on offer from the lowest to the highest.
-- Assumes nothing.
use Rattle.std.proofs.Common.{arith}
use mathlib.Core.Path.{sym, ap, ◌∙◌}
use lib.Dec.{leb}
use borrow.Author.Tests.{lt-leb}
use Rattle.machine.proofs.Laws.ValueLaws.{offered_from, offered_below}
use Rattle.machine_locals.proofs.values.on_offer.Goals as goal

pub returns-then-lowest-v : goal.returns-then-lowest-v
returns-then-lowest-v c =
    ap (leb _) c.highest.ensures
    ∙ offered_from _ _ (omega (arith, c.lowest.ensures, c.if-lowest-v.true))

pub returns-else-lowest-v : goal.returns-else-lowest-v
returns-else-lowest-v c = lt-leb _ _ c.if-lowest-v.false ∙ sym (offered_below _ _ (omega (arith, c.lowest.ensures, c.if-lowest-v.false)))
