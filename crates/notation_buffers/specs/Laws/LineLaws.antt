-- Laws of lines as they are written on a page: word after word, each after a space, then the newline.
-- Assumes nothing.
use Rattle.std.specs.Prelude.{◌≡◌, refl, ℕ, ◌+◌, ◌/◌, ◌%◌, ◌^◌, ◌≤◌, ◌<◌, List, [], ◌∷◌, ◌++◌, map}
use Rattle.std.proofs.Common.{sym, ap, ◌∙◌, arith, append_assoc, append-nil}
use Rattle.notation.specs.Letters.{space, newline, d0}
use Rattle.notation.specs.Lists.{each}
use Rattle.notation.specs.Texts.{Text, digit, decimal, spaced, line}
use Rattle.notation.specs.Laws.DecimalLaws.{decimal_digit, decimal_more}
use Rattle.notation.specs.Laws.ListLaws.{each_map}
use Rattle.notation_buffers.specs.declared.pages.Page.{Page}
use Rattle.notation_buffers.specs.Code.Pages.{Puts}
use Rattle.notation_buffers.specs.Code.Spaced.{spaced_numbers}
use Rattle.notation_buffers.specs.Laws.PageLaws.{puts_same, puts_none, puts_more, each_last}

-- ---- words with a space between two of them

-- one word more stands at the end, after a space
pub spaced_snoc : (word : Text) (words : List Text) (last : Text)
    → spaced word words ++ (space ∷ last) ≡ spaced word (words ++ (last ∷ []))
unfolding spaced
spaced_snoc word [] last = refl
spaced_snoc word (next ∷ words) last =
    append_assoc word (space ∷ spaced next words) (space ∷ last)
    ∙ ap (λ (l : Text). word ++ (space ∷ l)) (spaced_snoc next words last)

-- the first word, and each other one after a space
pub spaced_each : (word : Text) (words : List Text) → spaced word words ≡ word ++ each words (λ w. space ∷ w)
unfolding spaced each
spaced_each word [] = sym (append-nil word)
spaced_each word (next ∷ words) = ap (λ (l : Text). word ++ (space ∷ l)) (spaced_each next words)

-- ---- a line that is being written

-- the words of a line up to one of them were written
pub record LineBegun (before : Page) (word : Text) (words : List Text) (after : Page) : Type 0 where
  pub puts : Puts before (spaced word words) after

pub line_begun : {before after : Page} {word : Text} → Puts before word after → LineBegun before word [] after
unfolding spaced
line_begun puts = record { puts = puts }

-- one word more
pub line_more : {before mid after : Page} {word : Text} {words : List Text} {last : Text}
    → LineBegun before word words mid → Puts mid (space ∷ last) after → LineBegun before word (words ++ (last ∷ [])) after
line_more {word = word} {words} {last} begun puts = record {
  puts = puts_same (spaced_snoc word words last) (puts_more begun.puts puts);
}

-- the newline
pub line_ended : {before mid after : Page} {word : Text} {words : List Text} → LineBegun before word words mid
    → Puts mid (newline ∷ []) after → Puts before (line word words) after
unfolding line
line_ended begun puts = puts_more begun.puts puts

-- ---- the digits of a number

pub number_one : {before after : Page} {x d : ℕ} → x < 10 → d ≡ d0 + x % 10 → Puts before (d ∷ []) after
    → Puts before (decimal x) after
unfolding digit
number_one {x = x} small is puts =
    let same : x % 10 ≡ x = omega arith in
    puts_same (ap (λ (y : ℕ). y ∷ []) (is ∙ ap (λ (y : ℕ). d0 + y) same) ∙ sym (decimal_digit x small)) puts

pub number_more : {before mid after : Page} {x d : ℕ} → 10 ≤ x → x < 2 ^ 64 → d ≡ d0 + x % 10
    → Puts before (decimal (x / 10)) mid → Puts mid (d ∷ []) after → Puts before (decimal x) after
unfolding digit
number_more {x = x} large fits is first second =
    puts_same (ap (λ (y : ℕ). decimal (x / 10) ++ (y ∷ [])) is ∙ sym (decimal_more x large fits))
    (puts_more first second)

-- ---- numbers

pub numbers_are : (ns : List ℕ) → each (map decimal ns) (λ w. space ∷ w) ≡ spaced_numbers ns
unfolding spaced_numbers
numbers_are ns = each_map decimal ns (λ w. space ∷ w)

pub numbers_line : (word : Text) (ns : List ℕ) → (word ++ spaced_numbers ns) ++ (newline ∷ []) ≡ line word (map decimal ns)
unfolding line
numbers_line word ns =
    ap (λ (l : Text). l ++ (newline ∷ [])) (sym (spaced_each word (map decimal ns) ∙ ap (λ (l : Text). word ++ l) (numbers_are ns)))

-- nothing is written yet
pub spaced_none : (page : Page) → Puts page (spaced_numbers []) page
unfolding spaced_numbers each
spaced_none page = puts_none page

-- one number more
pub numbers_snoc : (ns : List ℕ) (n : ℕ) → spaced_numbers ns ++ (space ∷ decimal n) ≡ spaced_numbers (ns ++ (n ∷ []))
unfolding spaced_numbers
numbers_snoc ns n = sym (each_last (λ k. space ∷ decimal k) ns n)

pub numbers_more : {before mid after : Page} (ns : List ℕ) (n : ℕ) → Puts before (spaced_numbers ns) mid
    → Puts mid (space ∷ decimal n) after → Puts before (spaced_numbers (ns ++ (n ∷ []))) after
numbers_more ns n first second = puts_same (numbers_snoc ns n) (puts_more first second)

-- a line of numbers, from its three parts
pub numbers_put : {before one two after : Page} (word : Text) (ns : List ℕ) → Puts before word one
    → Puts one (spaced_numbers ns) two → Puts two (newline ∷ []) after → Puts before (line word (map decimal ns)) after
numbers_put word ns first second third =
    puts_same (numbers_line word ns) (puts_more (puts_more first second) third)
