-- `writer_layout::claimed_parts::body_count` meets its contract.
-- Assumes nothing.
use native.Mathlib.Omega.{arith}
use Rattle.writer_layout.specs.Laws.CountedLaws.{body_claims}
use Rattle.writer_layout.proofs.claimed_parts.body_count.Goals as goal

pub returns : goal.returns
returns c =
    let claimed = body_claims c.args.e c.well_formed.0.1.1.1.1.1.1.0.1.0.1 in
    (omega (arith, claimed, c.claimed_count.ensures), omega (arith, c.claimed_count.ensures))
