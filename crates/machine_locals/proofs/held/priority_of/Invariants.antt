-- `machine_locals::held::priority_of` meets its contract. The loop's invariant: `highest` is the largest of the base and the
-- held locks' ceilings from `lock` on.
-- Assumes nothing.
use mathlib.Core.Path.{◌≡◌}
use Rattle.machine.proofs.Laws.HeldLaws.{highest_from}
use Rattle.machine_locals.proofs.held.priority_of.Given as goal

abbrev pub invariant-loop-lock : goal.invariant-loop-lock
invariant-loop-lock l = l.highest ≡ highest_from l.ceilings l.locks l.base l.held l.lock
