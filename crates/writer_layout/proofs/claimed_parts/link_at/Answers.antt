-- `writer_layout::claimed_parts::link_at` meets its contract.
-- Assumes nothing.
use native.Mathlib.Omega.{arith}
use Rattle.writer_layout.specs.Laws.CountedLaws.{link_at_inside, link_at_outside}
use Rattle.writer_layout.proofs.claimed_parts.link_at.Goals as goal

pub returns-then-p-count : goal.returns-then-p-count
returns-then-p-count c = link_at_inside _ _ _ (omega arith)

pub returns-else-p-count : goal.returns-else-p-count
returns-else-p-count c = link_at_outside _ _ _ (omega arith)
