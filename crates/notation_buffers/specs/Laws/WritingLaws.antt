-- Laws of writing into a room: byte after byte, then zeros.
-- Assumes nothing.
use Rattle.std.specs.Prelude.{◌≡◌, refl, ℕ, zero, suc, ◌+◌, ◌-◌, ◌≤◌, ◌<◌, List, [], ◌∷◌, ◌++◌, length, take, drop, set, replicate}
use Rattle.std.proofs.Common.{sym, ap, ◌∙◌, le_of_suc-le-suc, not-suc-le-zero, add-one, arith, append_assoc}
use Rattle.std.proofs.Common.{length-append, length-take, length-drop, take-append-drop, take_all, take_at, drop_at}
use Rattle.std.proofs.Common.{drop-drop, length-take-le}
use Rattle.std.proofs.Math.Decide.{dec_le}
use Rattle.std.proofs.Math.Seq.{take-nil}
use Rattle.std.proofs.lemmas.List.{set_split}
use Rattle.notation.specs.Lists.{padded}
use Rattle.notation_buffers.specs.Code.Writing.{Appends, cleared_from}

-- ---- parts of a joined list

take_none : (n : ℕ) (xs : List ℕ) → n ≡ 0 → take n xs ≡ []
take_none n xs none = ap (λ (k : ℕ). take k xs) none

take_append : (n : ℕ) (xs ys : List ℕ) → take n (xs ++ ys) ≡ take n xs ++ take (n - length xs) ys
take_append n [] ys =
    let same : n ≡ n - 0 = omega arith in
    ap (λ (k : ℕ). take k ys) same ∙ ap (λ (l : List ℕ). l ++ take (n - 0) ys) (sym (take-nil n))
take_append zero (x ∷ xs) ys = sym (take_none (0 - length (x ∷ xs)) ys (omega arith))
take_append (suc n) (x ∷ xs) ys =
    let same : n - length xs ≡ suc n - length (x ∷ xs) = omega arith in
    ap (λ (l : List ℕ). x ∷ l) (take_append n xs ys)
    ∙ ap (λ (k : ℕ). (x ∷ take n xs) ++ take k ys) same

take_zeros : (k n : ℕ) → k ≤ n → take k (replicate {A = ℕ} n 0) ≡ replicate k 0
take_zeros zero n h = refl
take_zeros (suc k) zero h = absurd (not-suc-le-zero h)
take_zeros (suc k) (suc n) h = ap (λ (l : List ℕ). 0 ∷ l) (take_zeros k n (le_of_suc-le-suc h))

-- what stands after a front and a part
drop_past : (front rest : List ℕ) (m j : ℕ) → length front ≡ m → drop (m + j) (front ++ rest) ≡ drop j rest
drop_past front rest m j long =
    sym (drop-drop j m (front ++ rest)) ∙ ap (λ (l : List ℕ). drop j l) (drop_at front rest m long)

-- ---- nothing, and one byte

-- past the room nothing is written
pub appends_past : (room : ℕ) (before : List ℕ) (at : ℕ) (bytes : List ℕ) → room ≤ at
    → Appends room before at bytes before at
appends_past room before at bytes full =
    let none = take_none (room - at) bytes (omega arith) in
    record {
      next = omega (arith, ap (λ (l : List ℕ). length l) none);
      is =
          sym (take-append-drop at before)
          ∙ ap (λ (l : List ℕ). take at before ++ (l ++ drop at before)) (sym none);
    }

pub appends_none : (room : ℕ) (before : List ℕ) (at : ℕ) → Appends room before at [] before at
appends_none room before at =
    let none = take-nil {A = ℕ} (room - at) in
    record {
      next = omega (arith, ap (λ (l : List ℕ). length l) none);
      is =
          sym (take-append-drop at before)
          ∙ ap (λ (l : List ℕ). take at before ++ (l ++ drop at before)) (sym none);
    }

take_one : (n b : ℕ) → 0 < n → take n (b ∷ []) ≡ b ∷ []
take_one zero b h = absurd (not-suc-le-zero h)
take_one (suc n) b h = ap (λ (l : List ℕ). b ∷ l) (take-nil n)

pub appends_one : (room : ℕ) (before : List ℕ) (at b : ℕ) → at < room → room ≤ length before
    → Appends room before at (b ∷ []) (set before at b) (at + 1)
appends_one room before at b inside enough =
    let one = take_one (room - at) b (omega arith) in
    record {
      next = omega (arith, ap (λ (l : List ℕ). length l) one);
      is =
          set_split before at b (omega arith)
          ∙ ap (λ (n : ℕ). take at before ++ (b ∷ drop n before)) (sym (add-one at))
          ∙ ap (λ (l : List ℕ). take at before ++ (l ++ drop (at + 1) before)) (sym one);
    }

-- ---- what was written

-- the next place is in the room or at its end
pub appends_within : {room : ℕ} {before : List ℕ} {at : ℕ} {bytes after : List ℕ} {n : ℕ}
    → Appends room before at bytes after n → at ≤ room → n ≤ room
appends_within {room} {before} {at} {bytes} does inside =
    omega (arith, does.next, length-take (room - at) bytes)

pub appends_later : {room : ℕ} {before : List ℕ} {at : ℕ} {bytes after : List ℕ} {n : ℕ}
    → Appends room before at bytes after n → at ≤ n
appends_later does = omega (arith, does.next)

-- bytes for which there is room are all written
pub appends_next : {room : ℕ} {before : List ℕ} {at : ℕ} {bytes after : List ℕ} {n : ℕ}
    → Appends room before at bytes after n → at + length bytes ≤ room → n ≡ at + length bytes
appends_next {room} {before} {at} {bytes} does fits = omega (arith, does.next, length-take (room - at) bytes)

-- past the room, nothing has changed
pub appends_full : {room : ℕ} {before : List ℕ} {at : ℕ} {bytes after : List ℕ} {n : ℕ}
    → Appends room before at bytes after n → room ≤ at → (n ≡ at) × (after ≡ before)
appends_full {room} {before} {at} {bytes} {after} {n} does full =
    let none = take_none (room - at) bytes (omega arith) in
    let stays : n ≡ at = omega (arith, does.next, ap (λ (l : List ℕ). length l) none) in (
      stays,
      does.is
          ∙ ap (λ (l : List ℕ). take at before ++ (l ++ drop n before)) none
          ∙ ap (λ (k : ℕ). take at before ++ drop k before) stays
          ∙ take-append-drop at before,
    )

pub appends_length : {room : ℕ} {before : List ℕ} {at : ℕ} {bytes after : List ℕ} {n : ℕ}
    → Appends room before at bytes after n → room ≤ length before → length after ≡ length before
appends_length {room} {before} {at} {bytes} {after} {n} does enough =
    let written = take (room - at) bytes in
    elim (dec_le at room) [
      | yes inside ↦
          ap (λ (l : List ℕ). length l) does.is
          ∙ length-append (take at before) (written ++ drop n before)
          ∙ omega (
            arith,
            does.next,
            length-append written (drop n before),
            length-take-le at before (omega arith),
            length-take (room - at) bytes,
            length-drop n before,
          )
      | no outside ↦ ap (λ (l : List ℕ). length l) (appends_full does (omega arith)).1
    ]

-- ---- one after the other

-- where the first place is in the room
more_inside : {room : ℕ} {before : List ℕ} {at : ℕ} {xs mid : List ℕ} {m : ℕ} {ys after : List ℕ} {n : ℕ}
    → at ≤ room → room ≤ length before → Appends room before at xs mid m → Appends room mid m ys after n
    → Appends room before at (xs ++ ys) after n
more_inside {room} {before} {at} {xs} {mid} {m} {ys} {after} {n} inside enough first second =
    let front = take at before in
    let one = take (room - at) xs in
    let two = take (room - m) ys in
    let long : length (front ++ one) ≡ m =
    length-append front one ∙ omega (arith, first.next, length-take-le at before (omega arith)) in
    let left : room - at - length xs ≡ room - m = omega (arith, first.next, length-take (room - at) xs) in
    let both : take (room - at) (xs ++ ys) ≡ one ++ two =
    take_append (room - at) xs ys ∙ ap (λ (k : ℕ). one ++ take k ys) left in
    let split : mid ≡ (front ++ one) ++ drop m before = first.is ∙ sym (append_assoc front one (drop m before)) in
    let kept : take m mid ≡ front ++ one =
    ap (λ (l : List ℕ). take m l) split ∙ take_at (front ++ one) (drop m before) m long in
    let rest : drop n mid ≡ drop n before =
    ap (λ (l : List ℕ). drop n l) split
    ∙ ap (λ (k : ℕ). drop k ((front ++ one) ++ drop m before)) second.next
    ∙ drop_past (front ++ one) (drop m before) m (length two) long
    ∙ drop-drop (length two) m before
    ∙ ap (λ (k : ℕ). drop k before) (sym second.next) in
    record {
      next =
          omega (
            arith,
            first.next,
            second.next,
            length-append one two,
            ap (λ (l : List ℕ). length l) both,
          );
      is =
          second.is
          ∙ ap (λ (l : List ℕ). l ++ (two ++ drop n mid)) kept
          ∙ ap (λ (l : List ℕ). (front ++ one) ++ (two ++ l)) rest
          ∙ append_assoc front one (two ++ drop n before)
          ∙ ap (λ (l : List ℕ). front ++ l) (sym (append_assoc one two (drop n before)))
          ∙ ap (λ (l : List ℕ). front ++ (l ++ drop n before)) (sym both);
    }

-- bytes, and then more bytes
pub appends_more : {room : ℕ} {before : List ℕ} {at : ℕ} {xs mid : List ℕ} {m : ℕ} {ys after : List ℕ} {n : ℕ}
    → room ≤ length before → Appends room before at xs mid m → Appends room mid m ys after n
    → Appends room before at (xs ++ ys) after n
appends_more {room} {before} {at} {xs} {mid} {m} {ys} {after} {n} enough first second =
    elim (dec_le at room) [
      | yes inside ↦ more_inside inside enough first second
      | no outside ↦
          let one = appends_full first (omega arith) in
          let two = appends_full second (omega (arith, one.0)) in
          let here : n ≡ at = two.0 ∙ one.0 in
          let same : after ≡ before = two.1 ∙ one.1 in
          rw (here, same) (appends_past room before at (xs ++ ys) (omega arith))
    ]

-- ---- from the front of the room, and zeros after them

-- the next place, from the front of a room that holds all bytes
pub appends_count : {room : ℕ} {before bytes after : List ℕ} {n : ℕ} → Appends room before 0 bytes after n
    → length bytes ≤ room → n ≡ length bytes
appends_count does fits = omega (arith, appends_next does (omega arith))

-- bytes that were written at the front, as many as there are
pub appends_front : {room : ℕ} {before bytes after : List ℕ} {n : ℕ} → Appends room before 0 bytes after n
    → length bytes ≤ room → after ≡ bytes ++ drop (length bytes) before
appends_front {room} {before} {bytes} {after} {n} does fits =
    let all : take (room - 0) bytes ≡ bytes = take_all (room - 0) bytes (omega arith) in
    does.is ∙ (λ j. all j ++ drop (appends_count does fits j) before)

-- the bytes from the front of the room on, and zeros after them up to its end
pub appends_filled : {room : ℕ} {before bytes mid : List ℕ} {n : ℕ} → room ≤ length before
    → Appends room before 0 bytes mid n → cleared_from room n mid ≡ padded room 0 bytes ++ drop room before
unfolding padded
appends_filled {room} {before} {bytes} {mid} {n} enough does =
    let whole : room - 0 ≡ room = omega arith in
    let written = take room bytes in
    let same : take (room - 0) bytes ≡ written = ap (λ (k : ℕ). take k bytes) whole in
    let long : length written ≡ n = omega (arith, does.next, ap (λ (l : List ℕ). length l) same) in
    let size = length-take room bytes in
    let is : mid ≡ written ++ drop n before = does.is ∙ ap (λ (l : List ℕ). l ++ drop n before) same in
    let beyond : n + (room - n) ≡ room = omega arith in
    let front : take n mid ≡ written =
    ap (λ (l : List ℕ). take n l) is ∙ take_at written (drop n before) n long in
    let rest : drop room mid ≡ drop room before =
    ap (λ (l : List ℕ). drop room l) is
    ∙ ap (λ (k : ℕ). drop k (written ++ drop n before)) (sym beyond)
    ∙ drop_past written (drop n before) n (room - n) long
    ∙ drop-drop (room - n) n before
    ∙ ap (λ (k : ℕ). drop k before) beyond in
    let left : room - length bytes ≡ room - n = omega arith in
    let zeros : take (room - length bytes) (replicate {A = ℕ} room 0) ≡ replicate (room - n) 0 =
    take_zeros (room - length bytes) room (omega arith)
    ∙ ap (λ (k : ℕ). replicate {A = ℕ} k 0) left in
    let filled : take room (bytes ++ replicate room 0) ≡ written ++ replicate (room - n) 0 =
    take_append room bytes (replicate room 0) ∙ ap (λ (l : List ℕ). written ++ l) zeros in
    ap (λ (l : List ℕ). l ++ (replicate (room - n) 0 ++ drop room mid)) front
    ∙ ap (λ (l : List ℕ). written ++ (replicate (room - n) 0 ++ l)) rest
    ∙ sym (append_assoc written (replicate (room - n) 0) (drop room before))
    ∙ ap (λ (l : List ℕ). l ++ drop room before) (sym filled)
