-- Numbers in decimal: how many digits they have, and that the bound on digits never matters.
-- Assumes nothing.
use Rattle.std.specs.Prelude.{◌≡◌, ℕ, zero, suc, ◌/◌, ◌%◌, ◌^◌, ◌≤◌, ◌<◌, [], ◌∷◌, ◌++◌, length}
use Rattle.std.proofs.Common.{sym, ap, ◌∙◌, arith, length-append, lt-ltb, le-ltb}
use Rattle.std.proofs.Math.Decide.{dec_lt}
use Rattle.notation.specs.Texts.{Text, digit, digits, decimal}

-- ---- one digit, and one digit after the others

digits_one : (most n : ℕ) → n < 10 → digits (suc most) n ≡ digit n ∷ []
unfolding digits
digits_one most n small = rw (lt-ltb n 10 small)

digits_more : (most n : ℕ) → 10 ≤ n → digits (suc most) n ≡ digits most (n / 10) ++ (digit (n % 10) ∷ [])
unfolding digits
digits_more most n large = rw (le-ltb n 10 large)

-- ---- how many

-- a number below 10^k has at most k digits, for k of 1 or more
pub digits_few : (most k n : ℕ) → 1 ≤ k → n < 10 ^ k → length (digits most n) ≤ k
unfolding digits
digits_few zero k n some small = omega arith
digits_few (suc most) zero n some small = omega arith
digits_few (suc most) (suc zero) n some small = omega (arith, ap (λ (l : Text). length l) (digits_one most n (omega arith)))
digits_few (suc most) (suc (suc k)) n some small =
    elim (dec_lt n 10) [
      | yes one ↦ omega (arith, ap (λ (l : Text). length l) (digits_one most n one))
      | no more ↦
          omega (
            arith,
            digits_few most (suc k) (n / 10) (omega arith) (omega arith),
            ap (λ (l : Text). length l) (digits_more most n (omega arith)),
            length-append (digits most (n / 10)) (digit (n % 10) ∷ []),
          )
    ]

pub decimal_few : (k n : ℕ) → 1 ≤ k → n < 10 ^ k → length (decimal n) ≤ k
unfolding decimal
decimal_few k n some small = digits_few 20 k n some small

-- ---- the bound does not matter where it is large enough

digits_enough : (k n : ℕ) → 1 ≤ k → n < 10 ^ k → digits (suc k) n ≡ digits k n
digits_enough zero n some small = absurd (omega arith)
digits_enough (suc zero) n some small = digits_one 1 n (omega arith) ∙ sym (digits_one 0 n (omega arith))
digits_enough (suc (suc k)) n some small =
    elim (dec_lt n 10) [
      | yes one ↦ digits_one (suc (suc k)) n one ∙ sym (digits_one (suc k) n one)
      | no more ↦
          digits_more (suc (suc k)) n (omega arith)
          ∙ ap (λ (l : Text). l ++ (digit (n % 10) ∷ [])) (digits_enough (suc k) (n / 10) (omega arith) (omega arith))
          ∙ sym (digits_more (suc k) n (omega arith))
    ]

-- one digit, and one digit after the others: what a function that calls itself on the quotient writes
pub decimal_digit : (n : ℕ) → n < 10 → decimal n ≡ digit n ∷ []
unfolding decimal
decimal_digit n small = digits_one 19 n small

pub decimal_more : (n : ℕ) → 10 ≤ n → n < 2 ^ 64 → decimal n ≡ decimal (n / 10) ++ (digit (n % 10) ∷ [])
unfolding decimal
decimal_more n large fits =
    digits_more 19 n large
    ∙ ap (λ (l : Text). l ++ (digit (n % 10) ∷ [])) (sym (digits_enough 19 (n / 10) (omega arith) (omega arith)))
