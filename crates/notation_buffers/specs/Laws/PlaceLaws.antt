-- Laws of a page that begins at any place of a buffer.
-- Assumes nothing.
use Rattle.std.specs.Prelude.{◌≡◌, ℕ, ◌+◌, ◌-◌, ◌≤◌, List, ◌++◌, min, length, take, drop}
use Rattle.std.proofs.Common.{sym, ap, subst, ◌∙◌, arith, append_assoc, take-append-drop, length-take, length-take-le}
use Rattle.std.proofs.Math.Decide.{dec_le}
use Rattle.std.proofs.lemmas.List.{take-take, drop-append-le}
use Rattle.std.proofs.Math.Nat.{min-eq_left, min-eq_right}
use Rattle.notation_buffers.specs.declared.pages.Page.{Page}
use Rattle.notation_buffers.specs.Code.Writing.{Appends}
use Rattle.notation_buffers.specs.Code.Pages.{Puts}
use Rattle.notation_buffers.specs.Laws.WritingLaws.{appends_past, appends_full, appends_later}

-- What is written on the page is written from that place on: past the buffer's end nothing, and the place stays.
pub place_puts : {page put : Page} {before bytes : List ℕ} {at : ℕ} → page.bytes.now ≡ before
    → page.at ≡ min at (length before) → Puts page bytes put
    → Appends (length before) before at bytes put.bytes.now (at + (put.at - page.at))
place_puts {page} {put} {before} {bytes} {at} holds place puts =
    let room = length before in
    elim (dec_le at room) [
      | yes inside ↦
          let here : page.at ≡ at = place ∙ min-eq_left inside in
          let made : Appends room before at bytes put.bytes.now put.at = rw (here, holds) at puts.puts in
          let next : put.at ≡ at + (put.at - page.at) = omega (arith, here, appends_later made) in
          rw (sym next) made
      | no outside ↦
          let here : page.at ≡ room = place ∙ min-eq_right (omega arith) in
          let made : Appends room before room bytes put.bytes.now put.at = rw (here, holds) at puts.puts in
          let full = appends_full made (omega arith) in
          let next : at ≡ at + (put.at - page.at) = omega (arith, here, full.0) in
          rw (full.1, sym next) (appends_past room before at bytes (omega arith))
    ]

-- what is written in the room at a buffer's front is written in the buffer
room_whole : {room : ℕ} {before : List ℕ} {at : ℕ} {bytes after : List ℕ} {n : ℕ} → room ≤ length before
    → Appends room (take room before) at bytes after n → Appends room before at bytes (after ++ drop room before) n
room_whole {room} {before} {at} {bytes} {after} {n} enough does =
    elim (dec_le at room) [
      | yes inside ↦
          let written = take (room - at) bytes in
          let within : n ≤ room = omega (arith, does.next, length-take (room - at) bytes) in
          let front = take-take at room before inside in
          let long : n ≤ length (take room before) = omega (arith, within, length-take-le room before enough) in
          let rest : drop n (take room before) ++ drop room before ≡ drop n before =
          sym (drop-append-le n (take room before) (drop room before) long)
          ∙ ap (λ (l : List ℕ). drop n l) (take-append-drop room before) in
          record {
            next = does.next;
            is =
                ap (λ (l : List ℕ). l ++ drop room before) does.is
                ∙ append_assoc (take at (take room before)) (written ++ drop n (take room before)) (drop room before)
                ∙ ap (λ (l : List ℕ). take at (take room before) ++ l)
                (append_assoc written (drop n (take room before)) (drop room before))
                ∙ (λ j. front j ++ (written ++ rest j));
          }
      | no outside ↦
          let full = appends_full does (omega arith) in
          let same : after ++ drop room before ≡ before =
          ap (λ (l : List ℕ). l ++ drop room before) full.1 ∙ take-append-drop room before in
          rw (full.0, same) (appends_past room before at bytes (omega arith))
    ]

-- a page over that room writes into it
pub room_appends : {room : ℕ} {before : List ℕ} {at : ℕ} {bytes after : List ℕ} {n : ℕ} → room ≤ length before
    → Appends (length (take room before)) (take room before) at bytes after n
    → Appends room before at bytes (after ++ drop room before) n
room_appends {room} {before} {at} {bytes} {after} {n} enough does =
    room_whole enough
    (subst (λ (k : ℕ). Appends k (take room before) at bytes after n) (length-take-le room before enough) does)
