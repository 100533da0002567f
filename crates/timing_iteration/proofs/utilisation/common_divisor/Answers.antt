-- What `timing_iteration::utilisation::common_divisor` owes and the search does not find.
use mathlib.Core.Path.{◌≡◌}
use native.Mathlib.Nat.{dvd_refl, dvd-zero, dvd-mod_iff}
use native.Mathlib.Omega.{arith}
use Rattle.timing_iteration.proofs.utilisation.common_divisor.Goals as goal

pub loop-y-preserved : goal.loop-y-preserved
loop-y-preserved c =
    (omega arith, λ d first second. c.loop-y.invariant.1 d ((dvd-mod_iff d first).0 second) first)

pub returns : goal.returns
returns c =
    let ended : c.loop-y.y ≡ 0 = omega arith in
    let both = c.loop-y.invariant.1 _ (dvd_refl _) (rw ended (dvd-zero _)) in
    (c.loop-y.invariant.0, both.0, both.1)
