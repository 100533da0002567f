-- Laws of checks: what a check that passed says of its parts.
-- Assumes nothing.
use Rattle.std.specs.Prelude.{ℕ, ◌<◌, ◌≡◌, refl, Bool, true, false, length, get_or, T, ◌⊎◌}
use Rattle.std.proofs.Common.{arith, ap, ◌∙◌, inl, inr}
use mathlib.Core.List.{List, Memᴰ, [], ◌∷◌}
use Rattle.std.proofs.Math.Option.{Option, none, some}
use Rattle.notation.specs.Checked.{Checked, refused, passed, require, given, none_of, placed_by, ◌>>=◌, ◌>>◌}
use Rattle.std.specs.Prelude.{if◌then◌else◌}
use Rattle.notation.specs.Lists.{same}
use Rattle.notation.specs.Laws.ListLaws.{get_or_member}

-- a refusal is no pass
pub refused_passed {ℓ} : {P A : Type 0} {X : Type ℓ} {number : ℕ} {place : P} {x : A}
    → refused number place ≡ passed x → X
refused_passed e = absurd (let z : ◌≡◌ {A = ℕ} 0 1 = cc in omega arith)

-- a check passes one value
pub passed_same : {P A : Type 0} {x y : A} → ◌≡◌ {A = Checked P A} (passed x) (passed y) → x ≡ y
passed_same e = cc

-- a check that hands its value on to the next passed, and so did the next
pub bind_passed : {P A B : Type 0} (c : Checked P A) (k : A → Checked P B) {b : B} → ◌>>=◌ c k ≡ passed b
    → (x : A) × (c ≡ passed x) × (k x ≡ passed b)
unfolding ◌>>=◌
bind_passed (refused number place) k e = refused_passed e
bind_passed (passed x) k e = (x, refl, e)

-- the same where the next check takes no value
pub then_passed : {P A B : Type 0} (c : Checked P A) (d : Checked P B) {b : B} → ◌>>◌ c d ≡ passed b
    → (x : A) × (c ≡ passed x) × (d ≡ passed b)
unfolding ◌>>◌
then_passed (refused number place) d e = refused_passed e
then_passed (passed x) d e = (x, refl, e)

-- a requirement that passed holds
pub require_passed : {P : Type 0} (test : Bool) (number : ℕ) (place : P) {u : Unit {0}}
    → require test number place ≡ passed u → T test
unfolding require
require_passed true number place e = tt
require_passed false number place e = refused_passed e

-- and one that holds passes
pub require_of : {P : Type 0} (test : Bool) (number : ℕ) (place : P) → T test → require test number place ≡ passed tt
unfolding require
require_of true number place t = refl
require_of false number place t = absurd t

-- a value that was asked for and passed on was there
pub given_passed : {P A : Type 0} (o : Option A) (number : ℕ) (place : P) {x : A} → given o number place ≡ passed x
    → o ≡ some x
unfolding given
given_passed none number place e = refused_passed e
given_passed (some y) number place e = ap some (passed_same e)

-- a check that passed with its places renamed passed
pub placed_passed : {P Q A : Type 0} (f : P → Q) (c : Checked P A) {x : A} → placed_by f c ≡ passed x → c ≡ passed x
unfolding placed_by
placed_passed f (refused number place) e = refused_passed e
placed_passed f (passed y) e = cc

-- the first listed place has no fault, and those after it pass
none_of_first : {P : Type 0} (number : ℕ) (test : Bool) (place : P) (rest : Checked P (Unit {0})) {u : Unit {0}}
    → (if test then refused number place else rest) ≡ passed u → (test ≡ false) × (rest ≡ passed u)
none_of_first number true place rest e = refused_passed e
none_of_first number false place rest e = (refl, e)

-- no listed place has the fault
pub none_of_passed : {P : Type 0} (number : ℕ) (fault : P → Bool) {p : P} {places : List P} {u : Unit {0}}
    → none_of number fault places ≡ passed u → Memᴰ p places → fault p ≡ false
unfolding none_of
none_of_passed number fault e (Memᴰ.head {x} {xs} same) =
    ap fault same ∙ (none_of_first number (fault x) x (none_of number fault xs) e).0
none_of_passed number fault e (Memᴰ.tail {x} {xs} m) =
    none_of_passed number fault (none_of_first number (fault x) x (none_of number fault xs) e).1 m

-- the same by index
pub none_of_at : {P : Type 0} (number : ℕ) (fault : P → Bool) (places : List P) {u : Unit {0}}
    → none_of number fault places ≡ passed u → (k : ℕ) (d : P) → k < length places → fault (get_or places k d) ≡ false
none_of_at number fault places e k d h = none_of_passed number fault e (get_or_member places k d h)

-- a requirement that holds leaves the check to what follows, and one that does not decides it
pub require_holds : {P A : Type 0} (test : Bool) (number : ℕ) (place : P) (rest : Checked P A) → test ≡ true
    → ◌>>◌ (require test number place) rest ≡ rest
unfolding require ◌>>◌
require_holds test number place rest e = rw e

pub require_fails : {P A : Type 0} (test : Bool) (number : ℕ) (place : P) (rest : Checked P A) → test ≡ false
    → ◌>>◌ (require test number place) rest ≡ refused number place
unfolding require ◌>>◌
require_fails test number place rest e = rw e

-- a check that is refused decides, and one that passes a value on leaves it to what follows
pub bind_refused : {P A B : Type 0} {c : Checked P A} (k : A → Checked P B) {number : ℕ} {place : P}
    → c ≡ refused number place → ◌>>=◌ c k ≡ refused number place
unfolding ◌>>=◌
bind_refused k e = rw e

pub bind_goes : {P A B : Type 0} {c : Checked P A} (k : A → Checked P B) {x : A} → c ≡ passed x → ◌>>=◌ c k ≡ k x
unfolding ◌>>=◌
bind_goes k e = rw e

pub then_refused : {P A B : Type 0} {c : Checked P A} (d : Checked P B) {number : ℕ} {place : P}
    → c ≡ refused number place → ◌>>◌ c d ≡ refused number place
unfolding ◌>>◌
then_refused d e = rw e

pub then_goes : {P A B : Type 0} {c : Checked P A} (d : Checked P B) {x : A} → c ≡ passed x → ◌>>◌ c d ≡ d
unfolding ◌>>◌
then_goes d e = rw e

-- ---- what a refusal says

-- it stands where a value was asked for
pub given_refused : {P A : Type 0} (o : Option A) (number : ℕ) (place : P) {n : ℕ} {p : P}
    → given o number place ≡ refused n p → p ≡ place
unfolding given
given_refused none number place e = cc
given_refused (some x) number place e = absurd (let z : ◌≡◌ {A = ℕ} 0 1 = cc in omega arith)

-- the place of a refusal is a listed one
pub first_listed : {P : Type 0} (number : ℕ) (b : Bool) (q : P) (places : List P) (rest : Checked P (Unit {0}))
    {n : ℕ} {p : P} → (if b then refused number q else rest) ≡ refused n p → (rest ≡ refused n p → Memᴰ p places)
    → Memᴰ p (q ∷ places)
first_listed number true q places rest {p} e later = let same : p ≡ q = cc in Memᴰ.head same
first_listed number false q places rest e later = Memᴰ.tail (later e)

pub none_of_listed : {P : Type 0} (number : ℕ) (fault : P → Bool) (places : List P) {n : ℕ} {p : P}
    → none_of number fault places ≡ refused n p → Memᴰ p places
unfolding none_of
none_of_listed number fault [] e = absurd (let z : ◌≡◌ {A = ℕ} 0 1 = cc in omega arith)
none_of_listed number fault (q ∷ places) e =
    first_listed number (fault q) q places (none_of number fault places) e (none_of_listed number fault places)

-- a check of two parts that is refused was refused by one of them
pub then_refuses : {P A B : Type 0} (c : Checked P A) (d : Checked P B) {n : ℕ} {p : P} → ◌>>◌ c d ≡ refused n p
    → (c ≡ refused n p) ⊎ (d ≡ refused n p)
unfolding ◌>>◌
then_refuses (refused number place) d e = inl cc
then_refuses (passed x) d e = inr e

pub bind_refuses : {P A B : Type 0} (c : Checked P A) (k : A → Checked P B) {n : ℕ} {p : P} → ◌>>=◌ c k ≡ refused n p
    → (c ≡ refused n p) ⊎ ((x : A) × (k x ≡ refused n p))
unfolding ◌>>=◌
bind_refuses (refused number place) k e = inl cc
bind_refuses (passed x) k e = inr (x, e)

pub bind_passes : {P A B : Type 0} (c : Checked P A) (g : A → B) {n : ℕ} {p : P}
    → ◌>>=◌ c (λ x. passed (g x)) ≡ refused n p → c ≡ refused n p
unfolding ◌>>=◌
bind_passes (refused number place) g e = cc
bind_passes (passed x) g e = absurd (let z : ◌≡◌ {A = ℕ} 0 1 = cc in omega arith)

-- a check that was refused with its places renamed was refused at a place of that name
pub placed_refused : {P Q A : Type 0} (g : P → Q) (c : Checked P A) {n : ℕ} {q : Q} → placed_by g c ≡ refused n q
    → (p : P) × (c ≡ refused n p) × (g p ≡ q)
unfolding placed_by
placed_refused g (refused number p) {n} {q} e =
    let same : number ≡ n = cc in
    let place : g p ≡ q = cc in
    (p, ap (λ (m : ℕ). refused m p) same, place)
placed_refused g (passed x) e = absurd (let z : ◌≡◌ {A = ℕ} 0 1 = cc in omega arith)

-- where no listed place has the fault, the check passes
pub none_faulty : {P : Type 0} (number : ℕ) (fault : P → Bool) (places : List P)
    → ((p : P) → Memᴰ p places → fault p ≡ false) → none_of number fault places ≡ passed tt
unfolding none_of
none_faulty number fault [] h = refl
none_faulty number fault (p ∷ ps) h = rw (h p (Memᴰ.head refl)) (none_faulty number fault ps (λ q m. h q (Memᴰ.tail m)))
