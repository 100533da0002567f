-- Laws of a job's flag: raised by neither of two tests, or by one of them.
-- Assumes nothing.
use Rattle.std.specs.Prelude.{◌≡◌, refl, ℕ, Bool, true, false, ◌||◌, set}
use Rattle.std.proofs.Common.{set-set}
use Rattle.machine.specs.Ends.{Flags, flagged}

-- a test that holds, and one that does not
pub flag_raised : (test : Bool) (x : ℕ) (flags : Flags) → test ≡ true → set flags x true ≡ flagged test x flags
unfolding flagged
flag_raised test x flags e = rw e refl

pub flag_kept : (test : Bool) (x : ℕ) (flags : Flags) → test ≡ false → flags ≡ flagged test x flags
unfolding flagged
flag_kept test x flags e = rw e refl

-- a flag raised by one test, then by another
pub flag_twice : (p q : Bool) (x : ℕ) (flags : Flags) → flagged q x (flagged p x flags) ≡ flagged (p || q) x flags
unfolding flagged
flag_twice true true x flags = set-set flags x true true
flag_twice true false x flags = refl
flag_twice false q x flags = refl
