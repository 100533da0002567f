-- Laws of searches that count: for the first number of which a test holds, for any element of a list of which it holds,
-- and for the first fault at the places that stand under each number. Each has a record of how far it has come, for a
-- loop to keep.
-- Assumes nothing.
use Rattle.std.specs.Prelude.{ℕ, suc, ◌+◌, ◌-◌, ◌≤◌, ◌<◌, ◌≡◌, refl, Bool, true, false, List, [], ◌∷◌, ◌++◌, map, length, get_or}
use Rattle.std.proofs.Math.Decide.{ℕ_discrete}
use Rattle.std.proofs.Common.{arith, ◌∙◌}
use Rattle.std.proofs.Math.Path.{ap}
use Rattle.std.proofs.Math.Option.{Option, none, some}
use Rattle.notation.specs.Checked.{Checked, refused, passed, none_of, ◌>>◌}
use Rattle.std.specs.Prelude.{if◌then◌else◌}
use Rattle.notation.specs.Lists.{from, up_to, any, first_with, each}
use Rattle.notation.specs.Laws.QuantifierLaws.{at_none}

-- the numbers from p on up to n are p and those after it, or none
pub from_first : (p n : ℕ) → p < n → from p (n - p) ≡ p ∷ from (p + 1) (n - (p + 1))
unfolding from
from_first p n below =
    let count : n - p ≡ suc (n - (p + 1)) = omega arith in
    let next : suc p ≡ p + 1 = omega arith in
    ap (from p) count ∙ ap (λ (k : ℕ). p ∷ from k (n - (p + 1))) next

pub from_none : (p n : ℕ) → n ≤ p → from p (n - p) ≡ []
unfolding from
from_none p n above = let count : n - p ≡ 0 = omega arith in ap (from p) count

from_all : (n : ℕ) → up_to n ≡ from 0 (n - 0)
unfolding up_to
from_all n = let count : n ≡ n - 0 = omega arith in ap (from 0) count

-- the search of the numbers below n for one of which the test holds has come to p
pub record Searched (test : ℕ → Bool) (n p : ℕ) : Type 0 where
  pub within : p ≤ n
  pub same : first_with test (up_to n) ≡ first_with test (from p (n - p))

module _ (test : ℕ → Bool) (n : ℕ) where
  pub search_starts : Searched test n 0
  search_starts = record { within = omega arith; same = ap (first_with test) (from_all n) }

  module _ (p : ℕ) (so_far : Searched test n p) where
    pub search_goes_on : p < n → test p ≡ false → Searched test n (p + 1)
    unfolding first_with
    search_goes_on below fails =
        record {
          within = omega arith;
          same = so_far.same ∙ ap (first_with test) (from_first p n below) ∙ rw fails;
        }

    pub search_finds : p < n → test p ≡ true → first_with test (up_to n) ≡ some p
    unfolding first_with
    search_finds below holds = so_far.same ∙ ap (first_with test) (from_first p n below) ∙ rw holds

    pub search_ends : n ≤ p → first_with test (up_to n) ≡ none
    unfolding first_with
    search_ends above = so_far.same ∙ ap (first_with test) (from_none p n above)

-- the search of a list for an element of which the test holds has come to place p
pub record Unfound {A : Type 0} (test : A → Bool) (xs : List A) (d : A) (p : ℕ) : Type 0 where
  pub none : (k : ℕ) → k < p → test (get_or xs k d) ≡ false

module _ {A : Type 0} (test : A → Bool) (xs : List A) (d : A) where
  pub unfound_starts : Unfound test xs d 0
  unfound_starts = record { none = λ k lt. absurd (omega arith) }

  module _ (p : ℕ) (so_far : Unfound test xs d p) where
    pub unfound_goes_on : test (get_or xs p d) ≡ false → Unfound test xs d (p + 1)
    unfound_goes_on fails = record {
      none = λ k lt.
          elim (ℕ_discrete k p) [
            | yes same ↦ ap (λ (j : ℕ). test (get_or xs j d)) same ∙ fails
            | no other ↦ so_far.none k (omega arith)
          ];
    }

    pub unfound_ends : length xs ≤ p → any test xs ≡ false
    unfound_ends above = at_none test xs d (λ k lt. so_far.none k (omega arith))

-- a function of a choice is the choice of its values
if_under : {A B : Type 0} (f : A → B) (test : Bool) (x y : A) → (if test then f x else f y) ≡ f (if test then x else y)
if_under f true x y = refl
if_under f false x y = refl

-- a check of places that are listed by f refuses at the first x whose place has the fault
unfoldable pub refused_at : {A P : Type 0} → ℕ → (A → P) → Option A → Checked P (Unit {0})
refused_at number f none = passed tt
refused_at number f (some x) = refused number (f x)

pub none_of_map : {A P : Type 0} (number : ℕ) (fault : P → Bool) (f : A → P) (xs : List A)
    → none_of number fault (map f xs) ≡ refused_at number f (first_with (λ x. fault (f x)) xs)
unfolding none_of first_with refused_at
none_of_map number fault f [] = refl
none_of_map number fault f (x ∷ xs) =
    rw (none_of_map number fault f xs) (if_under (refused_at number f) (fault (f x)) (some x) (first_with (λ x. fault (f x)) xs))

-- a check of two lists is a check of one and then of the other
none_of_append : {P : Type 0} (number : ℕ) (fault : P → Bool) (xs ys : List P)
    → none_of number fault (xs ++ ys) ≡ ◌>>◌ (none_of number fault xs) (none_of number fault ys)
unfolding none_of ◌>>◌
none_of_append number fault [] ys = refl
none_of_append number fault (x ∷ xs) ys =
    rw (none_of_append number fault xs ys)
    (if_under (λ (c : Checked _ (Unit {0})). ◌>>◌ c (none_of number fault ys)) (fault x) (refused number x)
    (none_of number fault xs))

-- the check of the places under the numbers below n has come to i
pub record CheckedTo {P : Type 0} (number : ℕ) (fault : P → Bool) (all : List P) (places : ℕ → List P) (n i : ℕ) :
    Type 0 where
  pub within : i ≤ n
  pub same : none_of number fault all ≡ none_of number fault (each (from i (n - i)) places)

module _ {P : Type 0} (number : ℕ) (fault : P → Bool) (all : List P) (places : ℕ → List P) (n : ℕ) where
  pub check_starts : all ≡ each (up_to n) places → CheckedTo number fault all places n 0
  check_starts listed =
      record { within = omega arith; same = ap (none_of number fault) (listed ∙ ap (λ xs. each xs places) (from_all n)) }

  module _ (i : ℕ) (so_far : CheckedTo number fault all places n i) where
    -- the check of what is left, as that of the places under i and then of the rest
    check_step : i < n
        → none_of number fault all
        ≡ ◌>>◌ (none_of number fault (places i)) (none_of number fault (each (from (i + 1) (n - (i + 1))) places))
    unfolding each
    check_step below =
        so_far.same ∙ ap (λ xs. none_of number fault (each xs places)) (from_first i n below)
        ∙ none_of_append number fault (places i) _

    pub check_goes_on : i < n → none_of number fault (places i) ≡ passed tt → CheckedTo number fault all places n (i + 1)
    unfolding ◌>>◌
    check_goes_on below sound = record { within = omega arith; same = check_step below ∙ rw sound }

    pub check_refuses : (place : P) → i < n → none_of number fault (places i) ≡ refused number place
        → none_of number fault all ≡ refused number place
    unfolding ◌>>◌
    check_refuses place below faulty = check_step below ∙ rw faulty

    pub check_ends : n ≤ i → none_of number fault all ≡ passed tt
    unfolding each none_of
    check_ends above = so_far.same ∙ ap (λ xs. none_of number fault (each xs places)) (from_none i n above)
