-- `writer_layout::claimed_parts::lock_of` meets its contract: the arrays have one length, so a lock's parts stand at its number.
-- Assumes nothing.
use mathlib.Core.Path.{sym, ◌∙◌}
use native.Mathlib.Omega.{arith}
use lib.ListN.{get_or-eq_default}
use Rattle.writer.specs.Claims.{lock_array, no_lock}
use Rattle.writer.proofs.Laws.FitsLaws.{table_fits}
use Rattle.writer.proofs.Laws.LockLaws.{locks_get_or, locks_full}
use Rattle.writer_layout.proofs.claimed_parts.lock_of.Goals as goal

pub returns-then-l-ge-MOST_LOCKS : goal.returns-then-l-ge-MOST_LOCKS
returns-then-l-ge-MOST_LOCKS c =
    let t = c.args.t in
    sym (get_or-eq_default (lock_array t) no_lock (omega (arith, locks_full t (table_fits t _ c.well_formed.0))))

pub returns : goal.returns
returns c =
    let t = c.args.t in
    let fits = table_fits t _ c.well_formed.0 in
    sym (locks_get_or t.ceilings t.holdings c.args.l (fits.ceilings ∙ sym fits.holdings_full))
