-- Laws of lines as they are written: word after word, each after a space, then the newline.
-- Assumes nothing.
use Rattle.std.specs.Prelude.{◌≡◌, ℕ, ◌+◌, ◌/◌, ◌%◌, ◌^◌, ◌≤◌, ◌<◌, List, [], ◌∷◌, ◌++◌, length}
use Rattle.std.proofs.Common.{sym, ap, subst, ◌∙◌, arith, append_assoc}
use Rattle.notation.specs.Letters.{space, newline, d0}
use Rattle.notation.specs.Lists.{each}
use Rattle.notation.specs.Texts.{Text, digit, decimal, spaced, line}
use Rattle.notation.specs.Laws.DecimalLaws.{decimal_digit, decimal_more}
use Rattle.notation_buffers.specs.Code.Writing.{Appends}
use Rattle.notation_buffers.specs.Laws.WritingLaws.{appends_none, appends_more, appends_length}
use Rattle.notation_buffers.specs.Laws.LineLaws.{spaced_snoc, spaced_each}
use Rattle.sheets_printing.specs.Code.Puts.{PutsText}

-- ---- one after the other

pub puts_same : {before : Text} {at : ℕ} {bytes other after : Text} {n : ℕ} → bytes ≡ other
    → PutsText before at bytes after n → PutsText before at other after n
puts_same {before} {at} {bytes} {other} {after} {n} e puts = subst (λ (l : Text). PutsText before at l after n) e puts

-- the text keeps its length, and so its room
pub puts_length : {before : Text} {at : ℕ} {bytes after : Text} {n : ℕ} → PutsText before at bytes after n
    → length after ≡ length before
puts_length puts = appends_length puts (omega arith)

pub puts_none : (before : Text) (at : ℕ) → PutsText before at [] before at
puts_none before at = appends_none (length before) before at

pub puts_more : {before : Text} {at : ℕ} {xs mid : Text} {m : ℕ} {ys after : Text} {n : ℕ}
    → PutsText before at xs mid m → PutsText mid m ys after n → PutsText before at (xs ++ ys) after n
puts_more {mid = mid} {m} {ys} {after} {n} first second =
    appends_more (omega arith) first (subst (λ (room : ℕ). Appends room mid m ys after n) (puts_length first) second)

-- ---- a whole line

pub line_each : (word : Text) (words : List Text)
    → line word words ≡ word ++ (each words (λ w. space ∷ w) ++ (newline ∷ []))
unfolding line
line_each word words =
    ap (λ (l : Text). l ++ (newline ∷ [])) (spaced_each word words)
    ∙ append_assoc word (each words (λ w. space ∷ w)) (newline ∷ [])

-- ---- a line that is being written

-- the words of a line up to one of them were written
pub record LineBegun (before : Text) (at : ℕ) (word : Text) (words : List Text) (after : Text) (n : ℕ) : Type 0 where
  pub puts : PutsText before at (spaced word words) after n

pub line_begun : {before : Text} {at : ℕ} {word after : Text} {n : ℕ} → PutsText before at word after n
    → LineBegun before at word [] after n
unfolding spaced
line_begun puts = record { puts = puts }

-- one word more
pub line_more : {before : Text} {at : ℕ} {word : Text} {words : List Text} {mid : Text} {m : ℕ} {last after : Text}
    {n : ℕ} → LineBegun before at word words mid m → PutsText mid m (space ∷ last) after n
    → LineBegun before at word (words ++ (last ∷ [])) after n
line_more {word = word} {words} {last = last} begun puts = record {
  puts = puts_same (spaced_snoc word words last) (puts_more begun.puts puts);
}

-- the newline
pub line_ended : {before : Text} {at : ℕ} {word : Text} {words : List Text} {mid : Text} {m : ℕ} {after : Text} {n : ℕ}
    → LineBegun before at word words mid m → PutsText mid m (newline ∷ []) after n
    → PutsText before at (line word words) after n
unfolding line
line_ended begun puts = puts_more begun.puts puts

-- ---- the digits of a number

pub number_one : {before : Text} {at x d : ℕ} {after : Text} {n : ℕ} → x < 10 → d ≡ d0 + x % 10
    → PutsText before at (d ∷ []) after n → PutsText before at (decimal x) after n
unfolding digit
number_one {x = x} small is puts =
    let same : x % 10 ≡ x = omega arith in
    puts_same (ap (λ (y : ℕ). y ∷ []) (is ∙ ap (λ (y : ℕ). d0 + y) same) ∙ sym (decimal_digit x small)) puts

pub number_more : {before : Text} {at x d : ℕ} {mid : Text} {m : ℕ} {after : Text} {n : ℕ} → 10 ≤ x → x < 2 ^ 64
    → d ≡ d0 + x % 10 → PutsText before at (decimal (x / 10)) mid m → PutsText mid m (d ∷ []) after n
    → PutsText before at (decimal x) after n
unfolding digit
number_more {x = x} large fits is first second =
    puts_same (ap (λ (y : ℕ). decimal (x / 10) ++ (y ∷ [])) is ∙ sym (decimal_more x large fits))
    (puts_more first second)
