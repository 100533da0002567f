-- The parts of a table written one after the other: of each element of an array, and four or five by themselves.
-- Assumes nothing.
use Rattle.std.specs.Prelude.{◌≡◌, ℕ, ◌+◌, ◌≤◌, ◌<◌, length, take, get_or}
use Rattle.std.proofs.Math.Path.{ap}
use Rattle.std.proofs.Common.{subst, ◌∙◌, add-one, arith, take_all, take-suc}
use mathlib.Core.List.{List, [], ◌∷◌, ◌++◌, append-nil}
use Rattle.notation.specs.Laws.ListLaws.{each_append}
use Rattle.notation.specs.Lists.{each}
use Rattle.notation_buffers.specs.declared.pages.Page.{Page}
use Rattle.notation_buffers.specs.Code.Writing.{Appends}
use Rattle.notation_buffers.specs.Code.Pages.{Puts}
use Rattle.notation_buffers.specs.Laws.PageLaws.{puts_more}
use Rattle.notation_buffers.specs.Laws.WritingLaws.{appends_none, appends_more}

module _ {A : Type 0} (f : A → List ℕ) where
  -- the parts of the first n elements stand in the room
  pub record PiecesPut (room : ℕ) (before : List ℕ) (at : ℕ) (xs : List A) (after : List ℕ) (next n : ℕ) : Type 0 where
    pub within : n ≤ length xs
    pub does : Appends room before at (each (take n xs) f) after next

  -- before the first turn, after each, and after the last
  pub pieces_none : (room : ℕ) (before : List ℕ) (at : ℕ) (xs : List A) → PiecesPut room before at xs before at 0
  unfolding each
  pieces_none room before at xs = record { within = omega arith; does = appends_none room before at }

  pub pieces_more : (d : A) {room : ℕ} {before : List ℕ} {at : ℕ} {xs : List A} {mid : List ℕ} {m n : ℕ}
      {after : List ℕ} {next : ℕ} → room ≤ length before → PiecesPut room before at xs mid m n → n < length xs
      → Appends room mid m (f (get_or xs n d)) after next → PiecesPut room before at xs after next (n + 1)
  unfolding each
  pieces_more d {room} {before} {at} {xs} {mid} {m} {n} {after} {next} enough h below does =
      let one : each (take (n + 1) xs) f ≡ each (take n xs) f ++ f (get_or xs n d) =
      ap (λ (k : ℕ). each (take k xs) f) (add-one n)
      ∙ ap (λ (l : List A). each l f) (take-suc xs n d below)
      ∙ each_append f (take n xs) (get_or xs n d ∷ [])
      ∙ ap (λ (l : List ℕ). each (take n xs) f ++ l) (append-nil (f (get_or xs n d))) in
      record {
        within = omega arith;
        does = rw one (appends_more enough h.does does);
      }

  pub pieces_all : {room : ℕ} {before : List ℕ} {at : ℕ} {xs : List A} {after : List ℕ} {next n : ℕ}
      → PiecesPut room before at xs after next n → length xs ≤ n → Appends room before at (each xs f) after next
  pieces_all {room} {before} {at} {xs} {after} {next} {n} h end =
      subst (λ (l : List A). Appends room before at (each l f) after next) (take_all n xs end) h.does

-- four bytes, one after the other
pub four_put : {room : ℕ} {before : List ℕ} {at a b c d : ℕ} {one : List ℕ} {n : ℕ} {two : List ℕ} {m : ℕ}
    {three : List ℕ} {k : ℕ} {after : List ℕ} {end : ℕ} → room ≤ length before
    → Appends room before at (a ∷ []) one n → Appends room one n (b ∷ []) two m → Appends room two m (c ∷ []) three k
    → Appends room three k (d ∷ []) after end → Appends room before at (a ∷ b ∷ c ∷ d ∷ []) after end
four_put enough first second third fourth =
    appends_more enough (appends_more enough (appends_more enough first second) third) fourth

-- five parts on a page, one after the other
pub five_put : {before one two three four after : Page} {a b c d e : List ℕ} → Puts before a one → Puts one b two
    → Puts two c three → Puts three d four → Puts four e after → Puts before (a ++ b ++ c ++ d ++ e) after
five_put first second third fourth fifth =
    puts_more (puts_more (puts_more (puts_more first second) third) fourth) fifth
