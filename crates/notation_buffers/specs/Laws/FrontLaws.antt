-- Laws of a page that is written from its front on and then cleared.
-- Assumes nothing.
use Rattle.std.specs.Prelude.{◌≡◌, ℕ, ◌-◌, ◌≤◌, List, ◌++◌, length, take, drop}
use Rattle.std.proofs.Common.{ap, ◌∙◌, arith, length-take, length-take-le, append-nil, drop_of_length-le}
use Rattle.notation.specs.Lists.{padded}
use Rattle.notation_buffers.specs.declared.pages.Page.{Page}
use Rattle.notation_buffers.specs.Code.Writing.{Appends, cleared_from}
use Rattle.notation_buffers.specs.Code.Pages.{Puts, Clears, Fills}
use Rattle.notation_buffers.specs.Laws.WritingLaws.{appends_filled, appends_length}

-- what is written on a page that was made over a buffer stands at the buffer's front
pub page_puts : {page put : Page} {before bytes after : List ℕ} {n : ℕ} → page.bytes.now ≡ before → page.at ≡ 0
    → Puts page bytes put → n ≡ put.at → after ≡ put.bytes.now → Appends (length before) before 0 bytes after n
page_puts holds front puts counted left = rw (counted, left) (rw (front, holds) at puts.puts)

-- what a page that was made over a buffer, and then cleared, leaves in it
pub page_fills : {page put end : Page} {before bytes after : List ℕ} {n : ℕ} → page.bytes.now ≡ before → page.at ≡ 0
    → Puts page bytes put → Clears put end → n ≡ end.at → after ≡ end.bytes.now → Fills before bytes after n
page_fills {page} {put} {end} {before} {bytes} holds front puts clears counted left =
    let room = length before in
    let made : Appends room before 0 bytes put.bytes.now put.at = rw (front, holds) at puts.puts in
    let whole : room - 0 ≡ room = omega arith in
    record {
      count = counted ∙ clears.place ∙ omega (arith, made.next, ap (λ (k : ℕ). length (take k bytes)) whole);
      fills =
          left
          ∙ clears.clears
          ∙ ap (λ (k : ℕ). cleared_from k put.at put.bytes.now) (appends_length made (omega arith))
          ∙ appends_filled (omega arith) made
          ∙ ap (λ (l : List ℕ). padded room 0 bytes ++ l) (drop_of_length-le before (omega arith))
          ∙ append-nil (padded room 0 bytes);
    }

-- the room at the front of a buffer was filled
module _ {room : ℕ} (before : List ℕ) {bytes after : List ℕ} {n : ℕ} (enough : room ≤ length before)
    (does : Fills (take room before) bytes after n) where
  long : length (take room before) ≡ room
  long = length-take-le room before enough

  pub front_count : n ≡ length (take room bytes)
  front_count = does.count ∙ ap (λ (k : ℕ). length (take k bytes)) long

  pub front_within : n ≤ room
  front_within = omega (arith, front_count, length-take room bytes)

  -- bytes for which there is room are all written
  pub front_whole : length bytes ≤ room → n ≡ length bytes
  front_whole fits = omega (arith, front_count, length-take room bytes)

  pub front_fills : after ++ drop room before ≡ padded room 0 bytes ++ drop room before
  front_fills = ap (λ (l : List ℕ). l ++ drop room before) (does.fills ∙ ap (λ (k : ℕ). padded k 0 bytes) long)
