-- Laws of the numerals of a line as they are read, word after word.
-- Assumes nothing.
use Rattle.std.specs.Prelude.{◌≡◌, refl, ℕ, ◌+◌, ◌-◌, ◌≤◌, ◌<◌, Bool, true, false, ◌&&◌, List, [], ◌∷◌, ◌++◌, map}
use Rattle.std.specs.Prelude.{length, drop, replicate, min, Some, None, is_some, unwrap_or}
use Rattle.std.specs.Prelude.{if◌then◌else◌}
use Rattle.std.proofs.Math.Path.{sym, ap}
use Rattle.std.proofs.Common.{◌∙◌, arith, append_assoc, append-nil, length-append}
use Rattle.std.proofs.Math.Decide.{dec_lt}
use Rattle.std.proofs.Math.ListN.{take, set}
use Rattle.std.proofs.lemmas.List.{length-map, take-append-le}
use Rattle.std.proofs.Math.Seq.{set_out}
use Rattle.notation.specs.Lists.{all, padded}
use Rattle.notation.specs.Laws.ListLaws.{map_snoc}
use Rattle.notation.specs.Laws.PaddedLaws.{padded_length, padded_snoc}
use Rattle.notation.specs.Laws.TestLaws.{and_first, and_second}
use Rattle.notation.specs.Texts.{Text}
use Rattle.texts.specs.declared.Numerals.{Numerals}
use Rattle.texts.specs.Grammar.{wide_field}
use Rattle.texts.specs.Reading.{is_numeral, value_of}
use Rattle.texts.specs.Code.LineParts.{part_end, words_past, capped_value, numeral_of, numerals_told, numerals_of}
use Rattle.texts_reading.specs.Code.NumeralParts.{PartEnds, with_numeral}
use Rattle.texts_reading.specs.Laws.PartEndLaws.{part_end_within, part_end_ends, words_past_none, words_past_more}

-- ---- one word more

-- an array that is full keeps nothing of what comes behind
padded_full : {A : Type 0} (n : ℕ) (x : A) (xs ys : List A) → n ≤ length xs → padded n x (xs ++ ys) ≡ padded n x xs
unfolding padded
padded_full n x xs ys le =
    ap (take n) (append_assoc xs ys (replicate n x))
    ∙ take-append-le n xs (ys ++ replicate n x) le
    ∙ sym (take-append-le n xs (replicate n x) le)

-- the next element is stored at its place, if the array has it
padded_stored : (xs : List ℕ) (y : ℕ) → set (padded 8 0 xs) (length xs) y ≡ padded 8 0 (xs ++ (y ∷ []))
padded_stored xs y =
    elim (dec_lt (length xs) 8) [
      | yes inside ↦ padded_snoc 8 0 xs y inside
      | no outside ↦
          set_out (padded 8 0 xs) (length xs) y (omega (arith, padded_length 8 0 xs))
          ∙ sym (padded_full 8 0 xs (y ∷ []) (omega arith))
    ]

-- the numerals that words are, as an array
unfoldable array_of : List Text → Numerals
array_of words = record { count = length words; values = padded 8 0 (map capped_value words) }

array_snoc : (words : List Text) (word : Text) → with_numeral (array_of words) word ≡ array_of (words ++ (word ∷ []))
unfolding with_numeral array_of
array_snoc words word =
    let count : length words + 1 ≡ length (words ++ (word ∷ [])) = sym (length-append words (word ∷ [])) in
    let values : set (padded 8 0 (map capped_value words)) (length words) (capped_value word)
    ≡ padded 8 0 (map capped_value (words ++ (word ∷ []))) =
    ap (λ (n : ℕ). set (padded 8 0 (map capped_value words)) n (capped_value word)) (sym (length-map words capped_value))
    ∙ padded_stored (map capped_value words) (capped_value word)
    ∙ ap (padded 8 0) (sym (map_snoc capped_value words word)) in
    λ i. record { count = count i; values = values i }

-- its value is stored if the array has a place for it, and else there is nothing to store
module _ (read : Numerals) (word : Text) {value : ℕ} (is_value : value ≡ capped_value word) where
  pub numeral_stored : record { count = read.count + 1; values = set read.values read.count value }
      ≡ with_numeral read word
  unfolding with_numeral
  numeral_stored = λ i. record { count = read.count + 1; values = set read.values read.count (is_value i) }

  pub numeral_dropped : length read.values ≤ read.count
      → record { count = read.count + 1; values = read.values } ≡ with_numeral read word
  unfolding with_numeral
  numeral_dropped full =
      let out = set_out read.values read.count (capped_value word) full in
      λ i. record { count = read.count + 1; values = sym out i }

-- what was found of a word says whether it is a numeral, and has its value or else 0
module _ (word : Text) where
  pub numeral_told : is_some (numeral_of word) ≡ is_numeral word
  unfolding numeral_of
  numeral_told = go (is_numeral word)
    where
      go : (b : Bool) → is_some (if b then Some (capped_value word) else None) ≡ b
      go true = refl
      go false = refl

  pub numeral_valued : unwrap_or (numeral_of word) 0 ≡ capped_value word
  unfolding numeral_of capped_value
  numeral_valued = go (is_numeral word)
    where
      go : (b : Bool)
          → unwrap_or (if b then Some (if b then min wide_field (value_of word) else 0) else None) 0
          ≡ (if b then min wide_field (value_of word) else 0)
      go true = refl
      go false = refl

-- words after those that were read
unfoldable pub with_numerals : Numerals → List Text → Numerals
with_numerals read [] = read
with_numerals read (word ∷ words) = with_numerals (with_numeral read word) words

numerals_append : (words more : List Text) → with_numerals (array_of words) more ≡ array_of (words ++ more)
unfolding with_numerals
numerals_append words [] = ap array_of (sym (append-nil words))
numerals_append words (word ∷ more) =
    ap (λ (read : Numerals). with_numerals read more) (array_snoc words word)
    ∙ numerals_append (words ++ (word ∷ [])) more
    ∙ ap array_of (append_assoc words (word ∷ []) more)

and_true : (b : Bool) → b ≡ (b && true)
and_true true = refl
and_true false = refl

and_assoc : (a b c : Bool) → (a && (b && c)) ≡ ((a && b) && c)
and_assoc true b c = refl
and_assoc false b c = refl

-- ---- the loop over the words

-- the words up to one that ends at a byte were read, and are numerals or not
pub record NumeralsTo (line : Text) (from : ℕ) (good : Bool) (read : Numerals) (at : ℕ) : Type 0 where
  pub whole : numerals_told (good && all is_numeral (words_past line at)) (with_numerals read (words_past line at))
      ≡ numerals_of (words_past line from)
  pub ends : PartEnds 32 line at
  pub few : read.count ≤ at

pub numerals_none : (line : Text) (from : ℕ) → PartEnds 32 line from
    → NumeralsTo line from true (record { count = 0; values = replicate 8 0 }) from
unfolding numerals_of array_of padded
numerals_none line from ends =
    record {
      whole = ap (numerals_told (all is_numeral (words_past line from))) (numerals_append [] (words_past line from));
      ends = ends;
      few = omega arith;
    }

module _ (line : Text) (from : ℕ) (good : Bool) (read : Numerals) (at : ℕ) (done : NumeralsTo line from good read at)
  where
    pub numerals_more : at < length line → (end : ℕ) → end ≡ part_end 32 line (at + 1) → (both : Bool) (next : Numerals)
        → both ≡ (good && is_numeral (take (end - (at + 1)) (drop (at + 1) line)))
        → next ≡ with_numeral read (take (end - (at + 1)) (drop (at + 1) line)) → NumeralsTo line from both next end
    unfolding with_numerals with_numeral all
    numerals_more lt end is_end both next isBoth isNext =
        let word = take (end - (at + 1)) (drop (at + 1) line) in
        let words : words_past line at ≡ word ∷ words_past line end =
        words_past_more line at lt (done.ends.stands lt)
        ∙ (λ i. take (sym is_end i - (at + 1)) (drop (at + 1) line) ∷ words_past line (sym is_end i)) in
        let rest = words_past line end in
        record {
          whole =
              (λ i. numerals_told (isBoth i && all is_numeral rest) (with_numerals (isNext i) rest))
              ∙ ap (λ (b : Bool). numerals_told b (with_numerals (with_numeral read word) rest))
              (sym (and_assoc good (is_numeral word) (all is_numeral rest)))
              ∙ sym (ap (λ (ws : List Text). numerals_told (good && all is_numeral ws) (with_numerals read ws)) words)
              ∙ done.whole;
          ends = rw is_end (part_end_ends 32 line (at + 1) (omega arith));
          few =
              (let one = ap (λ (x : Numerals). x.count) isNext in
              omega (arith, one, is_end, part_end_within 32 line (at + 1) (omega arith), done.few));
        }

    pub numerals_all : length line ≤ at → numerals_told good read ≡ numerals_of (words_past line from)
    unfolding with_numerals all
    numerals_all le =
        ap (λ (b : Bool). numerals_told b read) (and_true good)
        ∙ sym (ap (λ (ws : List Text). numerals_told (good && all is_numeral ws) (with_numerals read ws))
        (words_past_none line at le))
        ∙ done.whole

-- ---- the words so far, and one more

pub good_kept : (good : Bool) (word : Text) → good ≡ true → is_numeral word ≡ (good && is_numeral word)
good_kept good word e = sym (and_second good (is_numeral word) e)

pub good_lost : (good : Bool) (word : Text) → good ≡ false → false ≡ (good && is_numeral word)
good_lost good word e = sym (and_first good (is_numeral word) e)
