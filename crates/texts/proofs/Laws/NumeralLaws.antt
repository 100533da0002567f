-- Numerals and numbers: a number's decimal is a numeral that has its value, and a numeral is the decimal of its value.
-- Assumes nothing.
use Rattle.std.specs.Prelude.{◌≡◌, refl, ℕ, zero, suc, ◌+◌, ◌*◌, ◌-◌, ◌/◌, ◌%◌, ◌^◌, ◌≤◌, ◌<◌, true, false, not, ◌&&◌}
use Rattle.std.specs.Prelude.{◌||◌, List, [], ◌∷◌, ◌++◌, map, leb, ltb, eqb}
use Rattle.std.proofs.Common.{sym, ap, ◌∙◌, subst, arith, append_assoc, append-nil, leb-true, le-leb, lt-ltb, ne_eqb}
use Rattle.std.proofs.Math.Decide.{dec_lt}
use Rattle.std.proofs.lemmas.Bool.{false≢true, eqb-false, not-true}
use Rattle.notation.specs.Lists.{all}
use Rattle.notation.specs.Ordered.{Every}
use Rattle.notation.specs.Laws.QuantifierLaws.{all_append}
use Rattle.notation.specs.Laws.TestLaws.{and_both, and_holds, or_left, or_nothing}
use Rattle.notation.specs.Texts.{Text, digit, decimal}
use Rattle.notation.specs.Laws.DecimalLaws.{decimal_digit, decimal_more}
use Rattle.texts.specs.Grammar.{wide_field}
use Rattle.texts.specs.Reading.{is_digit, is_empty, is_numeral, value_after, value_of}

-- ---- digits

digit_holds : (n : ℕ) → n < 10 → is_digit (digit n) ≡ true
unfolding is_digit digit
digit_holds n small = and_holds _ _ (le-leb 48 (48 + n) (omega arith)) (le-leb (48 + n) 57 (omega arith))

-- a digit is one of the bytes 48 to 57
digit_within : (b : ℕ) → is_digit b ≡ true → (48 ≤ b) × (b ≤ 57)
unfolding is_digit
digit_within b h =
    let both = and_both (leb 48 b) (leb b 57) h in
    (leb-true 48 b both.0, leb-true b 57 both.1)

-- the digit of a digit's value is that digit
digit_back : (b : ℕ) → is_digit b ≡ true → digit (b - 48) ≡ b
unfolding digit
digit_back b h = omega (arith, digit_within b h)

-- ---- values

-- one digit more at the end
value_snoc : (n : ℕ) (word : Text) (b : ℕ)
    → value_after n (word ++ (b ∷ [])) ≡ 10 * value_after n word + (b - 48)
unfolding value_after
value_snoc n [] b = refl
value_snoc n (c ∷ word) b = value_snoc (10 * n + (c - 48)) word b

-- more digits make no number smaller
pub value_grows : (n : ℕ) (word : Text) → n ≤ value_after n word
unfolding value_after
value_grows n [] = omega arith
value_grows n (b ∷ word) = omega (arith, value_grows (10 * n + (b - 48)) word)

-- ---- from a number to its numeral

-- a word of digits with the value n, which begins with a zero only if n is 0
record WordOf (n : ℕ) (word : Text) : Type 0 where
  first : ℕ
  rest : Text
  begins : word ≡ first ∷ rest
  bytes : all is_digit word ≡ true
  leads : 1 ≤ n → eqb first 48 ≡ false
  value : value_of word ≡ n

word_one : (n : ℕ) → n < 10 → WordOf n (digit n ∷ [])
unfolding all value_of value_after digit
word_one n small =
    record {
      first = 48 + n;
      rest = [];
      begins = refl;
      bytes = and_holds _ true (digit_holds n small) refl;
      leads = λ positive. ne_eqb (48 + n) 48 (λ same. omega arith);
      value = omega arith;
    }

word_more : (n : ℕ) (word : Text) → 10 ≤ n → WordOf (n / 10) word → WordOf n (word ++ (digit (n % 10) ∷ []))
unfolding all value_of digit
word_more n word large w =
    record {
      first = w.first;
      rest = w.rest ++ (digit (n % 10) ∷ []);
      begins = ap (λ (l : Text). l ++ (digit (n % 10) ∷ [])) w.begins;
      bytes =
          all_append is_digit word (digit (n % 10) ∷ [])
          ∙ and_holds _ _ w.bytes (and_holds _ true (digit_holds (n % 10) (omega arith)) refl);
      leads = λ positive. w.leads (omega arith);
      value = value_snoc 0 word (digit (n % 10)) ∙ whole (n % 10) refl w.value;
    }
  where
    whole : (last : ℕ) → last ≡ n % 10 → value_after 0 word ≡ n / 10
        → 10 * value_after 0 word + (digit last - 48) ≡ n
    whole last is e = omega arith

decimal_word : (most n : ℕ) → n < 10 ^ most → n < 2 ^ 64 → WordOf n (decimal n)
decimal_word zero n small fits = subst (WordOf n) (sym (decimal_digit n (omega arith))) (word_one n (omega arith))
decimal_word (suc most) n small fits =
    elim (dec_lt n 10) [
      | yes one ↦ subst (WordOf n) (sym (decimal_digit n one)) (word_one n one)
      | no more ↦
          subst (WordOf n) (sym (decimal_more n (omega arith) fits))
          (word_more n (decimal (n / 10)) (omega arith) (decimal_word most (n / 10) (omega arith) (omega arith)))
    ]

word_numeral : (n : ℕ) (word : Text) → 1 ≤ n → WordOf n word → is_numeral word ≡ true
unfolding is_numeral
word_numeral n [] positive w = absurd (let z : ◌≡◌ {A = ℕ} 0 1 = cc w.begins in omega arith)
word_numeral n (first ∷ digits) positive w =
    let same : first ≡ w.first = cc w.begins in
    and_holds _ _ w.bytes
    (or_left (not (eqb first 48)) _ (ap (λ (b : ℕ). not (eqb b 48)) same ∙ ap not (w.leads positive)))

pub decimal_numeral : (n : ℕ) → n < 2 ^ 64 → is_numeral (decimal n) ≡ true
unfolding is_numeral is_digit is_empty all digit
decimal_numeral zero fits = rw (decimal_digit 0 (omega arith))
decimal_numeral (suc n) fits =
    word_numeral (suc n) (decimal (suc n)) (omega arith) (decimal_word 20 (suc n) (omega arith) fits)

pub decimal_value : (n : ℕ) → n < 2 ^ 64 → value_of (decimal n) ≡ n
decimal_value n fits = (decimal_word 20 n (omega arith) fits).value

-- ---- from a numeral to its number

decimal_snoc : (n b : ℕ) → 1 ≤ n → is_digit b ≡ true → 10 * n + (b - 48) < 2 ^ 64
    → decimal (10 * n + (b - 48)) ≡ decimal n ++ (b ∷ [])
decimal_snoc n b positive isOne fits =
    let within = digit_within b isOne in
    let whole : (10 * n + (b - 48)) / 10 ≡ n = omega arith in
    let last : (10 * n + (b - 48)) % 10 ≡ b - 48 = omega arith in
    decimal_more (10 * n + (b - 48)) (omega arith) fits
    ∙ (λ j. decimal (whole j) ++ (digit (last j) ∷ []))
    ∙ ap (λ (d : ℕ). decimal n ++ (d ∷ [])) (digit_back b isOne)

-- after the digits of a number that is not 0, each digit is one of the decimal's
after_decimal : (n : ℕ) (word : Text) → 1 ≤ n → all is_digit word ≡ true → value_after n word < 2 ^ 64
    → decimal (value_after n word) ≡ decimal n ++ word
unfolding value_after all
after_decimal n [] positive bytes fits = sym (append-nil (decimal n))
after_decimal n (b ∷ word) positive bytes fits =
    let both = and_both (is_digit b) (all is_digit word) bytes in
    let more = 10 * n + (b - 48) in
    after_decimal more word (omega arith) both.1 fits
    ∙ ap (λ (l : Text). l ++ word) (decimal_snoc n b positive both.0 (omega (arith, value_grows more word)))
    ∙ append_assoc (decimal n) (b ∷ []) word

numeral_more : (first : ℕ) (digits : Text) → all is_digit (first ∷ digits) ≡ true → 49 ≤ first
    → value_of (first ∷ digits) < 2 ^ 64 → decimal (value_of (first ∷ digits)) ≡ first ∷ digits
unfolding value_of value_after all
numeral_more first digits bytes leads fits =
    let both = and_both (is_digit first) (all is_digit digits) bytes in
    let within = digit_within first both.0 in
    let one : 10 * 0 + (first - 48) ≡ first - 48 = omega arith in
    after_decimal (10 * 0 + (first - 48)) digits (omega arith) both.1 fits
    ∙ ap (λ (n : ℕ). decimal n ++ digits) one
    ∙ ap (λ (l : Text). l ++ digits) (decimal_digit (first - 48) (omega arith))
    ∙ ap (λ (d : ℕ). d ∷ digits) (digit_back first both.0)

pub numeral_back : (word : Text) → is_numeral word ≡ true → value_of word < 2 ^ 64 → decimal (value_of word) ≡ word
unfolding is_numeral is_empty all value_of value_after
numeral_back [] numeral fits = absurd (false≢true numeral)
numeral_back (first ∷ []) numeral fits =
    let isOne = (and_both (is_digit first) true (and_both (is_digit first && true) _ numeral).0).0 in
    let within = digit_within first isOne in
    let one : 10 * 0 + (first - 48) ≡ first - 48 = omega arith in
    ap (λ (n : ℕ). decimal n) one
    ∙ decimal_digit (first - 48) (omega arith)
    ∙ ap (λ (d : ℕ). d ∷ []) (digit_back first isOne)
numeral_back (first ∷ next ∷ digits) numeral fits =
    let both = and_both (all is_digit (first ∷ next ∷ digits)) (not (eqb first 48) || false) numeral in
    let within = digit_within first (and_both (is_digit first) (all is_digit (next ∷ digits)) both.0).0 in
    let other = eqb-false first 48 (not-true (eqb first 48) (or_nothing (not (eqb first 48)) ∙ both.1)) in
    numeral_more first (next ∷ digits) both.0 (omega (arith, other)) fits

-- ---- numerals are of bytes above the space

digits_printed : (word : Text) → all is_digit word ≡ true → all (λ b. ltb 32 b) word ≡ true
unfolding all
digits_printed [] bytes = refl
digits_printed (b ∷ word) bytes =
    let both = and_both (is_digit b) (all is_digit word) bytes in
    and_holds (ltb 32 b) _ (lt-ltb 32 b (omega (arith, digit_within b both.0))) (digits_printed word both.1)

pub numeral_printed : (word : Text) → is_numeral word ≡ true → all (λ b. ltb 32 b) word ≡ true
unfolding is_numeral
numeral_printed [] numeral = absurd (false≢true numeral)
numeral_printed (first ∷ digits) numeral =
    digits_printed (first ∷ digits)
    (and_both (all is_digit (first ∷ digits)) (not (eqb first 48) || is_empty digits) numeral).0

-- ---- the numbers of a line

pub decimals_numerals : (numbers : List ℕ) → Every (λ n. n < wide_field) numbers
    → all is_numeral (map decimal numbers) ≡ true
unfolding all
decimals_numerals [] wide = refl
decimals_numerals (n ∷ numbers) wide =
    and_holds (is_numeral (decimal n)) _ (decimal_numeral n (omega arith)) (decimals_numerals numbers wide.1)

pub decimals_values : (numbers : List ℕ) → Every (λ n. n < wide_field) numbers
    → map value_of (map decimal numbers) ≡ numbers
decimals_values [] wide = refl
decimals_values (n ∷ numbers) wide = λ j. decimal_value n (omega arith) j ∷ decimals_values numbers wide.1 j

pub numerals_back : (words : List Text) → all is_numeral words ≡ true → Every (λ n. n < wide_field) (map value_of words)
    → map decimal (map value_of words) ≡ words
unfolding all
numerals_back [] numerals wide = refl
numerals_back (word ∷ words) numerals wide =
    let both = and_both (is_numeral word) (all is_numeral words) numerals in
    λ j. numeral_back word both.0 (omega arith) j ∷ numerals_back words both.1 wide.1 j
