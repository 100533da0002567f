-- `taskfile_tables::sites::link_after` meets its contract. The loop's invariant: as many links as are left lead from the record at
-- hand to the record that n links lead to from `index`.
-- Assumes nothing.
use Prim.Native.Nat.{◌-◌}
use mathlib.Core.Path.{◌≡◌}
use Rattle.taskfile.specs.Code.ReadingParts.{link_after}
use Rattle.taskfile_tables.proofs.sites.link_after.Given as goal

abbrev pub invariant-loop-i : goal.invariant-loop-i
invariant-loop-i l = link_after l.file l.at (l.n - l.i) ≡ link_after l.file l.index l.n
