-- `writer_layout::claimed_parts::record_total` meets its contract. The loop's invariant: the records of the first i tasks are counted.
-- Assumes nothing.
use mathlib.Core.Path.{◌≡◌}
use Prim.Native.Nat.{◌+◌, ◌*◌, ◌≤◌}
use Rattle.writer.specs.Claims.{claimed_tasks}
use Rattle.writer.proofs.Laws.SiteLaws.{record_total}
use Rattle.writer_layout.specs.Laws.CountedLaws.{total_from}
use Rattle.writer_layout.proofs.claimed_parts.record_total.Given as goal

abbrev pub invariant-loop-i : goal.invariant-loop-i
invariant-loop-i l =
    (l.total ≤ 18 * l.i) × (l.total + total_from (claimed_tasks l.t) l.i ≡ record_total (claimed_tasks l.t))
