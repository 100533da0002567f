-- Laws of where numbers stand in a list: in a list without repetition, each stands at its own index.
-- Assumes nothing.
use Rattle.std.specs.Prelude.{ℕ, suc, ◌+◌, ◌≡◌, refl, Bool, false, ◌||◌, List, [], ◌∷◌, ◌++◌, eqb, length}
use Rattle.std.proofs.Common.{arith, sym, ap, subst, ◌∙◌, append_assoc, append-nil, length-append, eq-eqb}
use Rattle.std.proofs.Math.Bool.{or_comm}
use Rattle.std.specs.Prelude.{if◌then◌else◌}
use Rattle.notation.specs.Lists.{member}
use Rattle.notation.specs.Laws.MemberLaws.{member_append}
use Rattle.notation.specs.Laws.TestLaws.{or_neither}
use Rattle.writer.specs.Positions.{position_where, position_of}

-- a number that does not stand in front stands right behind
pub position_behind : (front : List ℕ) (x : ℕ) (others : List ℕ) → member x front ≡ false
    → position_of x (front ++ (x ∷ others)) ≡ length front
unfolding position_where member
position_behind [] x others h = rw (eq-eqb x x refl)
position_behind (y ∷ front) x others h =
    let parts = or_neither (eqb x y) (member x front) h in
    rw parts.0 (ap suc (position_behind front x others parts.1))

-- no number of the list stands in front of it, or earlier in the list
abbrev pub AllNew : List ℕ → List ℕ → Type 0
AllNew front [] = Unit {0}
AllNew front (x ∷ xs) = (member x front ≡ false) × AllNew (front ++ (x ∷ [])) xs

-- the numbers stand in `walk` from index n on, one after the other
abbrev pub StandFrom : List ℕ → ℕ → List ℕ → Type 0
StandFrom walk n [] = Unit {0}
StandFrom walk n (x ∷ xs) = (position_of x walk ≡ n) × StandFrom walk (suc n) xs

-- new numbers, and behind them more that are new
pub new_append : (front xs ys : List ℕ) → AllNew front xs → AllNew (front ++ xs) ys → AllNew front (xs ++ ys)
new_append front [] ys h k = subst (λ (l : List ℕ). AllNew l ys) (append-nil front) k
new_append front (x ∷ xs) ys h k =
    let later : AllNew ((front ++ (x ∷ [])) ++ xs) ys =
    subst (λ (l : List ℕ). AllNew l ys) (sym (append_assoc front (x ∷ []) xs)) k in
    (h.0, new_append (front ++ (x ∷ [])) xs ys h.1 later)

-- new numbers stand behind the front, each at its own index
pub new_stand : (walk front xs others : List ℕ) → walk ≡ front ++ (xs ++ others) → AllNew front xs
    → StandFrom walk (length front) xs
new_stand walk front [] others e h = tt
new_stand walk front (x ∷ xs) others e h =
    let here : position_of x walk ≡ length front =
    ap (position_of x) e ∙ position_behind front x (xs ++ others) h.0 in
    let longer : length (front ++ (x ∷ [])) ≡ suc (length front) = length-append front (x ∷ []) ∙ omega arith in
    let later : walk ≡ (front ++ (x ∷ [])) ++ (xs ++ others) = e ∙ sym (append_assoc front (x ∷ []) (xs ++ others)) in
    (here, subst (λ (n : ℕ). StandFrom walk n xs) longer (new_stand walk (front ++ (x ∷ [])) xs others later h.1))

-- the parts of numbers that stand one after the other
pub stand_first : (walk : List ℕ) (n : ℕ) (xs ys : List ℕ) → StandFrom walk n (xs ++ ys) → StandFrom walk n xs
stand_first walk n [] ys h = tt
stand_first walk n (x ∷ xs) ys h = (h.0, stand_first walk (suc n) xs ys h.1)

pub stand_second : (walk : List ℕ) (n : ℕ) (xs ys : List ℕ) → StandFrom walk n (xs ++ ys)
    → StandFrom walk (n + length xs) ys
stand_second walk n [] ys h = let same : n ≡ n + 0 = omega arith in subst (λ (m : ℕ). StandFrom walk m ys) same h
stand_second walk n (x ∷ xs) ys h =
    let same : suc n + length xs ≡ n + suc (length xs) = omega arith in
    subst (λ (m : ℕ). StandFrom walk m ys) same (stand_second walk (suc n) xs ys h.1)

-- numbers joined at the end of one list, or at the front of another that has the same numbers: the same are in both
pub member_joined : (front reached : List ℕ) → ((x : ℕ) → member x front ≡ member x reached) → (xs : List ℕ) (x : ℕ)
    → member x (front ++ xs) ≡ member x (xs ++ reached)
member_joined front reached same xs x =
    member_append x front xs
    ∙ or_comm (member x front) (member x xs)
    ∙ ap (λ (b : Bool). member x xs || b) (same x)
    ∙ sym (member_append x xs reached)
