-- Laws of tests joined by `&&` and `||`: what a test that holds says of its parts, and the other way round.
-- Assumes nothing.
use Rattle.std.specs.Prelude.{◌≡◌, refl, ◌⊎◌, Bool, true, false, not, ◌&&◌, ◌||◌, T}
use Rattle.std.proofs.Common.{sym, inl, inr, true≢false}
use Rattle.std.proofs.lemmas.Bool.{false≢true}

pub and_both : (p q : Bool) → (p && q) ≡ true → (p ≡ true) × (q ≡ true)
and_both true q h = (refl, h)
and_both false q h = absurd (false≢true h)

pub and_holds : (p q : Bool) → p ≡ true → q ≡ true → (p && q) ≡ true
and_holds true q h k = k
and_holds false q h k = h

pub or_either : (p q : Bool) → (p || q) ≡ true → (p ≡ true) ⊎ (q ≡ true)
or_either true q h = inl refl
or_either false q h = inr h

pub or_left : (p q : Bool) → p ≡ true → (p || q) ≡ true
or_left true q h = refl
or_left false q h = absurd (false≢true h)

pub or_right : (p q : Bool) → q ≡ true → (p || q) ≡ true
or_right true q h = refl
or_right false q h = h

-- a test holds or it does not
pub test_decided : (p : Bool) → (p ≡ true) ⊎ (p ≡ false)
test_decided true = inl refl
test_decided false = inr refl

pub not_both : (p : Bool) → p ≡ true → p ≡ false → ⊥
not_both true h k = true≢false k
not_both false h k = false≢true h

-- where neither of two tests joined by `||` holds
pub or_neither : (p q : Bool) → (p || q) ≡ false → (p ≡ false) × (q ≡ false)
or_neither true q h = absurd (true≢false h)
or_neither false q h = (refl, h)

-- where one of two tests joined by `&&` holds and not both, the other does not
pub other_fails : (p q : Bool) → (p && q) ≡ false → p ≡ true → q ≡ false
other_fails true q h k = h
other_fails false q h k = absurd (false≢true k)

-- a test behind one that holds, or does not, is decided by the other, or by the first
pub and_second : (p q : Bool) → p ≡ true → (p && q) ≡ q
and_second true q h = refl
and_second false q h = absurd (false≢true h)

pub and_first : (p q : Bool) → p ≡ false → (p && q) ≡ false
and_first true q h = absurd (true≢false h)
and_first false q h = refl

pub or_second : (p q : Bool) → p ≡ false → (p || q) ≡ q
or_second true q h = absurd (true≢false h)
or_second false q h = refl

pub and_last : (p q : Bool) → q ≡ false → (p && q) ≡ false
and_last true q h = h
and_last false q h = refl

-- where one of two tests joined by `||` holds and the second does not, the first does
pub or_first : (p q : Bool) → (p || q) ≡ true → q ≡ false → p ≡ true
or_first true q h k = refl
or_first false q h k = absurd (not_both q h k)

-- a rule that is asked only where p holds
pub implied_holds : (p q : Bool) → (not p || q) ≡ true → p ≡ true → q ≡ true
implied_holds true q h e = h
implied_holds false q h e = absurd (false≢true e)

-- holds where q follows from p
pub holds_implied : (p q : Bool) → (p ≡ true → q ≡ true) → (not p || q) ≡ true
holds_implied true q h = h refl
holds_implied false q h = refl

-- what is not true is false
pub not_true_false : (b : Bool) → (b ≡ true → ⊥) → b ≡ false
not_true_false true h = absurd (h refl)
not_true_false false h = refl

-- two tests that follow from each other are the same
pub both_ways : (p q : Bool) → (p ≡ true → q ≡ true) → (q ≡ true → p ≡ true) → p ≡ q
both_ways true true f g = refl
both_ways true false f g = sym (f refl)
both_ways false true f g = g refl
both_ways false false f g = refl

-- a test or nothing
pub or_nothing : (b : Bool) → b ≡ (b || false)
or_nothing true = refl
or_nothing false = refl

-- a test as a type, and as an equation
pub test_holds : (b : Bool) → T b → b ≡ true
test_holds true t = refl
test_holds false t = absurd t
