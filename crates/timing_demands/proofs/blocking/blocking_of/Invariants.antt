-- `timing_demands::blocking::blocking_of` meets its contract. The loop's invariant: `longest` is the longest holding time of the locks
-- from `lock` on that task i may have to wait for.
-- Assumes nothing.
use mathlib.Core.Path.{◌≡◌}
use Prim.Native.Nat.{◌^◌, ◌<◌}
use Rattle.timing.proofs.Laws.BlockingLaws.{longest_from}
use Rattle.timing_demands.proofs.blocking.blocking_of.Given as goal

abbrev pub invariant-loop-lock : goal.invariant-loop-lock
invariant-loop-lock l = (l.longest ≡ longest_from l.t l.i l.lock) × (l.longest < 2 ^ 32)
