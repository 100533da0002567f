-- Laws of clearing a part of a buffer, byte after byte.
-- Assumes nothing.
use Rattle.std.specs.Prelude.{◌≡◌, refl, ℕ, zero, suc, ◌+◌, ◌-◌, ◌≤◌, ◌<◌, List, [], ◌∷◌, ◌++◌, length, get_or, take, drop, set, replicate}
use Rattle.std.proofs.Common.{sym, ap, ◌∙◌, arith, add-one, append_assoc, length-append, length-drop, take-append-drop, drop-cons, length-take-le}
use Rattle.std.proofs.lemmas.List.{set_at}

replicate_length : (n : ℕ) → length (replicate {A = ℕ} n 0) ≡ n
replicate_length zero = refl
replicate_length (suc n) = ap suc (replicate_length n)

replicate_more : (n : ℕ) → replicate {A = ℕ} n 0 ++ (0 ∷ []) ≡ replicate (suc n) 0
replicate_more zero = refl
replicate_more (suc n) = ap (λ (xs : List ℕ). 0 ∷ xs) (replicate_more n)

-- of a room at the front of the buffer, the bytes from `from` up to i are zeros, and all others as before
pub record Cleared (room from : ℕ) (before : List ℕ) (i : ℕ) (now : List ℕ) : Type 0 where
  pub is : now ≡ take from before ++ (replicate (i - from) 0 ++ drop i before)
  pub least : from ≤ i
  pub most : i ≤ room

pub cleared_none : (room from : ℕ) (before : List ℕ) → from ≤ room → Cleared room from before from before
cleared_none room from before le =
    let none : from - from ≡ 0 = omega arith in
    record {
      is = sym (ap (λ (n : ℕ). take from before ++ (replicate n 0 ++ drop from before)) none ∙ take-append-drop from before);
      least = omega arith;
      most = le;
    }

pub cleared_length : {room from : ℕ} {before : List ℕ} {i : ℕ} {now : List ℕ} → Cleared room from before i now
    → room ≤ length before → length now ≡ length before
cleared_length {room} {from} {before} {i} {now} cleared enough =
    let front = length-take-le from before (omega (arith, cleared.least, cleared.most)) in
    let rest = length-drop i before in
    let zeros = replicate_length (i - from) in
    ap (λ (xs : List ℕ). length xs) cleared.is
    ∙ length-append (take from before) (replicate (i - from) 0 ++ drop i before)
    ∙ omega (arith, length-append (replicate (i - from) 0) (drop i before), front, rest, zeros, cleared.least, cleared.most)

pub cleared_more : {room from : ℕ} {before : List ℕ} {i : ℕ} {now : List ℕ} → Cleared room from before i now
    → room ≤ length before → i < room → Cleared room from before (i + 1) (set now i 0)
cleared_more {room} {from} {before} {i} {now} cleared enough lt =
    let front = take from before in
    let zeros = replicate {A = ℕ} (i - from) 0 in
    let long : length (front ++ zeros) ≡ i =
    length-append front zeros ∙ omega (arith, length-take-le from before (omega (arith, cleared.least)), replicate_length (i - from), cleared.least) in
    let split : now ≡ (front ++ zeros) ++ (get_or before i 0 ∷ drop (suc i) before) =
    cleared.is ∙ sym (append_assoc front zeros (drop i before)) ∙ ap (λ (xs : List ℕ). (front ++ zeros) ++ xs) (drop-cons before i 0 (omega arith)) in
    let more : i + 1 - from ≡ suc (i - from) = omega (arith, cleared.least) in
    record {
      is =
          ap (λ (xs : List ℕ). set xs i 0) split
          ∙ set_at (front ++ zeros) (get_or before i 0) (drop (suc i) before) 0 i long
          ∙ append_assoc front zeros (0 ∷ drop (suc i) before)
          ∙ ap (λ (xs : List ℕ). front ++ xs)
          (sym (append_assoc zeros (0 ∷ []) (drop (suc i) before)) ∙ ap
          (λ (xs : List ℕ). xs ++ drop (suc i) before) (replicate_more (i - from)))
          ∙ ap (λ (n : ℕ). front ++ (replicate n 0 ++ drop (suc i) before)) (sym more)
          ∙ ap (λ (n : ℕ). front ++ (replicate (i + 1 - from) 0 ++ drop n before)) (sym (add-one i));
      least = omega (arith, cleared.least);
      most = omega arith;
    }

pub cleared_all : {room from : ℕ} {before : List ℕ} {i : ℕ} {now : List ℕ} → Cleared room from before i now → room ≤ i
    → now ≡ take from before ++ (replicate (room - from) 0 ++ drop room before)
cleared_all {room} {from} {before} {i} cleared enough =
    let all : i ≡ room = omega (arith, cleared.most) in
    cleared.is ∙ ap (λ (n : ℕ). take from before ++ (replicate (n - from) 0 ++ drop n before)) all
