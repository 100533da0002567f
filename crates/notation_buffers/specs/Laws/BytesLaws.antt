-- Bytes written one by one into the room at the front of a lent buffer.
-- Assumes nothing.
use Rattle.std.specs.Prelude.{◌≡◌, ℕ, ◌+◌, ◌/◌, ◌%◌, ◌^◌, ◌≤◌, ◌<◌, List, [], ◌∷◌, ◌++◌, length, get_or, take}
use Rattle.std.proofs.Common.{sym, ap, subst, ◌∙◌, arith, add-one, take_all, take-suc}
use Rattle.notation.specs.Letters.{d0}
use Rattle.notation.specs.Texts.{digit, decimal}
use Rattle.notation.specs.Laws.DecimalLaws.{decimal_digit, decimal_more}
use Rattle.notation_buffers.specs.Code.Writing.{Appends}
use Rattle.notation_buffers.specs.Laws.WritingLaws.{appends_none, appends_more, appends_length}

-- the first k of the bytes were written
pub record BytesTo (room : ℕ) (before : List ℕ) (at : ℕ) (bytes : List ℕ) (k : ℕ) (after : List ℕ) (n : ℕ) : Type 0 where
  pub few : k ≤ length bytes
  pub puts : Appends room before at (take k bytes) after n

appends_same : {room : ℕ} {before : List ℕ} {at : ℕ} {bytes other after : List ℕ} {n : ℕ} → bytes ≡ other
    → Appends room before at bytes after n → Appends room before at other after n
appends_same {room} {before} {at} {bytes} {other} {after} {n} e puts =
    subst (λ (l : List ℕ). Appends room before at l after n) e puts

pub bytes_none : (room : ℕ) (before : List ℕ) (at : ℕ) (bytes : List ℕ) → BytesTo room before at bytes 0 before at
bytes_none room before at bytes = record { few = omega arith; puts = appends_none room before at }

pub bytes_more : {room : ℕ} {before : List ℕ} {at : ℕ} {bytes : List ℕ} {k : ℕ} {mid : List ℕ} {m : ℕ} {after : List ℕ} {n : ℕ}
    → BytesTo room before at bytes k mid m → room ≤ length before → k < length bytes
    → Appends room mid m (get_or bytes k 0 ∷ []) after n → BytesTo room before at bytes (k + 1) after n
bytes_more {bytes = bytes} {k} so enough inside puts = record {
  few = omega arith;
  puts =
      appends_same (sym (take-suc bytes k 0 inside) ∙ ap (λ (j : ℕ). take j bytes) (sym (add-one k)))
      (appends_more enough so.puts puts);
}

pub bytes_length : {room : ℕ} {before : List ℕ} {at : ℕ} {bytes : List ℕ} {k : ℕ} {after : List ℕ} {n : ℕ}
    → BytesTo room before at bytes k after n → room ≤ length before → length after ≡ length before
bytes_length so enough = appends_length so.puts enough

pub bytes_all : {room : ℕ} {before : List ℕ} {at : ℕ} {bytes : List ℕ} {k : ℕ} {after : List ℕ} {n : ℕ}
    → BytesTo room before at bytes k after n → length bytes ≤ k → Appends room before at bytes after n
bytes_all {bytes = bytes} {k} so all = appends_same (take_all k bytes all) so.puts

-- a number of one digit, and one digit after the others
pub digit_written : {room : ℕ} {before : List ℕ} {at x d : ℕ} {after : List ℕ} {n : ℕ} → x < 10 → d ≡ d0 + x % 10
    → Appends room before at (d ∷ []) after n → Appends room before at (decimal x) after n
unfolding digit
digit_written {x = x} small is puts =
    let same : x % 10 ≡ x = omega arith in
    appends_same (ap (λ (y : ℕ). y ∷ []) (is ∙ ap (λ (y : ℕ). d0 + y) same) ∙ sym (decimal_digit x small)) puts

pub digits_written : {room : ℕ} {before : List ℕ} {at x d : ℕ} {mid : List ℕ} {m : ℕ} {after : List ℕ} {n : ℕ}
    → room ≤ length before → 10 ≤ x → x < 2 ^ 64 → d ≡ d0 + x % 10 → Appends room before at (decimal (x / 10)) mid m
    → Appends room mid m (d ∷ []) after n → Appends room before at (decimal x) after n
unfolding digit
digits_written {x = x} enough large fits is first second =
    appends_same (ap (λ (y : ℕ). decimal (x / 10) ++ (y ∷ [])) is ∙ sym (decimal_more x large fits))
    (appends_more enough first second)
