-- `timing_iteration::utilisation::common_divisor` meets its contract. The loop's invariant: whatever divides x and y divides a and b, and x is
-- positive. The measure is y. Assumes nothing.
use Prim.Native.Nat.{ℕ, ◌≤◌, ◌∣◌}
use Rattle.timing_iteration.proofs.utilisation.common_divisor.Given as goal

abbrev pub invariant-loop-y : goal.invariant-loop-y
invariant-loop-y l = (1 ≤ l.x) × ((d : ℕ) → d ∣ l.x → d ∣ l.y → (d ∣ l.a) × (d ∣ l.b))

abbrev pub decreases-loop-y : goal.decreases-loop-y
decreases-loop-y l = l.y
