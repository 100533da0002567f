-- Laws of what is written element by element: the parts of a list, the numbers of a line.
-- Assumes nothing.
use Rattle.std.specs.Prelude.{◌≡◌, ℕ, ◌+◌, ◌≤◌, ◌<◌, length, get_or}
use Rattle.std.proofs.Math.Path.{sym, ap}
use Rattle.std.proofs.Common.{◌∙◌, add-one, take-suc, take_all}
use mathlib.Core.List.{List, [], ◌∷◌, ◌++◌, map}
use Rattle.std.proofs.Math.ListN.{take}
use Rattle.notation.specs.Letters.{space, newline}
use Rattle.notation.specs.Lists.{each}
use Rattle.notation.specs.Texts.{Text, decimal, line}
use Rattle.sheets_printing.specs.Code.Puts.{PutsText}
use Rattle.notation_buffers.specs.Code.Spaced.{spaced_numbers}
use Rattle.notation_buffers.specs.Laws.LineLaws.{numbers_line, numbers_snoc}
use Rattle.notation_buffers.specs.Laws.PageLaws.{each_last}
use Rattle.sheets_printing.specs.Laws.LineLaws.{puts_same, puts_none, puts_more}

-- ---- the parts of a list

module _ {A : Type 0} (part : A → Text) (xs : List A) where
  -- the parts of the first k elements
  unfoldable pub parts_to : ℕ → Text
  parts_to k = each (take k xs) part

  -- nothing is written yet
  pub listed_none : (before : Text) (at : ℕ) → PutsText before at (parts_to 0) before at
  unfolding parts_to each
  listed_none before at = puts_none before at

  -- one part more
  pub listed_more : {before : Text} {at : ℕ} (k : ℕ) (d : A) {x : A} {mid : Text} {m : ℕ} {after : Text} {n : ℕ}
      → k < length xs → x ≡ get_or xs k d → PutsText before at (parts_to k) mid m
      → PutsText mid m (part x) after n → PutsText before at (parts_to (k + 1)) after n
  unfolding parts_to
  listed_more k d {x} lt is first second =
      let more : take k xs ++ (x ∷ []) ≡ take (k + 1) xs =
      ap (λ (y : A). take k xs ++ (y ∷ [])) is
      ∙ sym (take-suc xs k d lt)
      ∙ ap (λ (j : ℕ). take j xs) (sym (add-one k)) in
      puts_same (sym (each_last part (take k xs) x) ∙ ap (λ (l : List A). each l part) more)
      (puts_more first second)

  -- all parts
  pub listed_whole : {before : Text} {at : ℕ} (k : ℕ) {after : Text} {n : ℕ} → length xs ≤ k
      → PutsText before at (parts_to k) after n → PutsText before at (each xs part) after n
  unfolding parts_to
  listed_whole k all puts = puts_same (ap (λ (l : List A). each l part) (take_all k xs all)) puts

-- ---- numbers

-- nothing is written yet
pub spaced_none : (before : Text) (at : ℕ) → PutsText before at (spaced_numbers []) before at
unfolding spaced_numbers each
spaced_none before at = puts_none before at

-- one number more
pub numbers_more : {before : Text} {at : ℕ} (ns : List ℕ) {mid : Text} {m : ℕ} (n : ℕ) {after : Text} {k : ℕ}
    → PutsText before at (spaced_numbers ns) mid m → PutsText mid m (space ∷ decimal n) after k
    → PutsText before at (spaced_numbers (ns ++ (n ∷ []))) after k
numbers_more ns n first second = puts_same (numbers_snoc ns n) (puts_more first second)

-- a line of numbers, from its three parts
pub numbers_put : {before : Text} {at : ℕ} (word : Text) (ns : List ℕ) {one : Text} {l : ℕ} {two : Text} {m : ℕ}
    {after : Text} {n : ℕ} → PutsText before at word one l → PutsText one l (spaced_numbers ns) two m
    → PutsText two m (newline ∷ []) after n → PutsText before at (line word (map decimal ns)) after n
numbers_put word ns first second third =
    puts_same (numbers_line word ns) (puts_more (puts_more first second) third)
