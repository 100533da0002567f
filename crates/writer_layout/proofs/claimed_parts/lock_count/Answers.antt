-- `writer_layout::claimed_parts::lock_count` meets its contract.
-- Assumes nothing.
use native.Mathlib.Omega.{arith}
use Rattle.writer.proofs.Laws.FitsLaws.{table_fits}
use Rattle.writer_layout.specs.Laws.CountedLaws.{locks_claim}
use Rattle.writer_layout.proofs.claimed_parts.lock_count.Goals as goal

pub returns : goal.returns
returns c =
    let claimed = locks_claim c.args.t (table_fits c.args.t _ c.well_formed.0) in
    (omega (arith, claimed, c.claimed_count.ensures), omega (arith, c.claimed_count.ensures))
