-- The parts of a text between separators: parts joined again are the text, and a text of parts that lack the separator
-- has these parts. The words of a line and the lines of a text are such parts.
-- Assumes nothing.
use Rattle.std.specs.Prelude.{◌≡◌, ℕ, ◌≤◌, Bool, ◌||◌, ltb}
use Rattle.std.proofs.Math.Path.{refl, sym, ap}
use Rattle.std.proofs.Common.{◌∙◌, arith, ltb-true, eqb-true, eq-eqb, ne_eqb}
use Rattle.std.proofs.Math.Bool.{true, false}
use mathlib.Core.List.{List, [], ◌∷◌, ◌++◌}
use Rattle.std.proofs.Math.Dec.{eqb}
use Rattle.std.proofs.lemmas.Bool.{eqb-false}
use Rattle.std.specs.Prelude.{if◌then◌else◌}
use Rattle.notation.specs.Lists.{all, member}
use Rattle.notation.specs.Ordered.{Every}
use Rattle.notation.specs.Laws.MemberLaws.{member_append, member_later}
use Rattle.notation.specs.Laws.TestLaws.{and_both, or_neither}
use Rattle.notation.specs.Texts.{Text, spaced}
use Rattle.texts.specs.Reading.{begins, parts}

-- parts with a separator between two of them
unfoldable pub rejoined : ℕ → List Text → Text
rejoined separator [] = []
rejoined separator (part ∷ []) = part
rejoined separator (part ∷ next ∷ others) = part ++ (separator ∷ rejoined separator (next ∷ others))

-- the separator is no byte of the part
abbrev pub Lacks : ℕ → Text → Type 0
Lacks separator part = member separator part ≡ false

-- ---- one part

other_byte : (separator b : ℕ) → eqb separator b ≡ false → b ≡ separator → ⊥
other_byte separator b e same = eqb-false separator b e (sym same)

module _ (separator : ℕ) where
  -- there is a first part
  pub parts_some : (text : Text) → (part : Text) × (others : List Text) × (parts separator text ≡ part ∷ others)
  unfolding parts begins
  parts_some [] = ([], [], refl)
  parts_some (b ∷ text) = go (eqb b separator) (parts separator text)
    where
      go : (isOne : Bool) (ps : List Text)
          → (part : Text) × (others : List Text) × ((if isOne then [] ∷ ps else begins b ps) ≡ part ∷ others)
      go true ps = ([], ps, refl)
      go false [] = (b ∷ [], [], refl)
      go false (p ∷ ps) = (b ∷ p, ps, refl)

  -- a separator ends a part
  pub parts_ended : (b : ℕ) (text : Text) → b ≡ separator → parts separator (b ∷ text) ≡ [] ∷ parts separator text
  unfolding parts
  parts_ended b text is = rw (eq-eqb b separator is)

  -- another byte belongs to the part
  pub parts_begun : (b : ℕ) (text : Text) → (b ≡ separator → ⊥)
      → parts separator (b ∷ text) ≡ begins b (parts separator text)
  unfolding parts
  parts_begun b text other = rw (ne_eqb b separator other)

  -- a part that lacks the separator is read whole: where the text ends, and where a separator follows
  pub parts_last : (part : Text) → Lacks separator part → parts separator part ≡ part ∷ []
  unfolding member begins parts
  parts_last [] lacks = refl
  parts_last (b ∷ part) lacks =
      let both = or_neither (eqb separator b) (member separator part) lacks in
      parts_begun b part (other_byte separator b both.0) ∙ ap (begins b) (parts_last part both.1)

  pub parts_next : (part text : Text) → Lacks separator part
      → parts separator (part ++ (separator ∷ text)) ≡ part ∷ parts separator text
  unfolding member begins
  parts_next [] text lacks = parts_ended separator text refl
  parts_next (b ∷ part) text lacks =
      let both = or_neither (eqb separator b) (member separator part) lacks in
      parts_begun b (part ++ (separator ∷ text)) (other_byte separator b both.0)
      ∙ ap (begins b) (parts_next part text both.1)

  -- ---- all parts

  -- parts that lack the separator are the parts of what they are joined to
  rejoined_parts : (part : Text) (others : List Text) → Every (Lacks separator) (part ∷ others)
      → parts separator (rejoined separator (part ∷ others)) ≡ part ∷ others
  unfolding rejoined
  rejoined_parts part [] lack = parts_last part lack.0
  rejoined_parts part (next ∷ others) lack =
      parts_next part (rejoined separator (next ∷ others)) lack.0
      ∙ ap (λ (ps : List Text). part ∷ ps) (rejoined_parts next others lack.1)

  begins_rejoined : (b : ℕ) (ps : List Text) → rejoined separator (begins b ps) ≡ b ∷ rejoined separator ps
  unfolding rejoined begins
  begins_rejoined b [] = refl
  begins_rejoined b (part ∷ []) = refl
  begins_rejoined b (part ∷ next ∷ others) = refl

  empty_rejoined : (text : Text)
      → rejoined separator ([] ∷ parts separator text) ≡ separator ∷ rejoined separator (parts separator text)
  unfolding rejoined
  empty_rejoined text =
      let some = parts_some text in
      ap (λ (ps : List Text). rejoined separator ([] ∷ ps)) some.2
      ∙ ap (λ (ps : List Text). separator ∷ rejoined separator ps) (sym some.2)

  -- the parts of a text joined are the text
  pub parts_rejoined : (text : Text) → rejoined separator (parts separator text) ≡ text
  unfolding parts rejoined
  parts_rejoined [] = refl
  parts_rejoined (b ∷ text) = go (eqb b separator) refl (parts_rejoined text)
    where
      go : (isOne : Bool) → eqb b separator ≡ isOne → rejoined separator (parts separator text) ≡ text
          → rejoined separator (if isOne then [] ∷ parts separator text else begins b (parts separator text)) ≡ b ∷ text
      go true e back = empty_rejoined text ∙ (λ j. sym (eqb-true b separator e) j ∷ back j)
      go false e back = begins_rejoined b (parts separator text) ∙ ap (λ (l : Text). b ∷ l) back

  -- and no part has the separator
  begins_lack : (b : ℕ) (ps : List Text) → eqb separator b ≡ false → Every (Lacks separator) ps
      → Every (Lacks separator) (begins b ps)
  unfolding begins member
  begins_lack b [] other lack = (rw other refl, tt)
  begins_lack b (part ∷ others) other lack = (rw other lack.0, lack.1)

  pub parts_lack : (text : Text) → Every (Lacks separator) (parts separator text)
  unfolding parts member
  parts_lack [] = (refl, tt)
  parts_lack (b ∷ text) = go (eqb b separator) refl (parts_lack text)
    where
      go : (isOne : Bool) → eqb b separator ≡ isOne → Every (Lacks separator) (parts separator text)
          → Every (Lacks separator) (if isOne then [] ∷ parts separator text else begins b (parts separator text))
      go true e lack = (refl, lack)
      go false e lack = begins_lack b (parts separator text) (ne_eqb separator b (other_byte b separator e)) lack

-- ---- words

-- words with one space between two of them are joined by spaces
spaced_rejoined : (word : Text) (words : List Text) → spaced word words ≡ rejoined 32 (word ∷ words)
unfolding spaced rejoined
spaced_rejoined word [] = refl
spaced_rejoined word (next ∷ words) = ap (λ (l : Text). word ++ (32 ∷ l)) (spaced_rejoined next words)

-- words without a space are the words of the line that they make
pub spaced_parts : (word : Text) (words : List Text) → Every (Lacks 32) (word ∷ words)
    → parts 32 (spaced word words) ≡ word ∷ words
spaced_parts word words lack = ap (parts 32) (spaced_rejoined word words) ∙ rejoined_parts 32 word words lack

-- the words of a line make it
pub parts_spaced : (word : Text) (words : List Text) (line : Text) → parts 32 line ≡ word ∷ words
    → spaced word words ≡ line
parts_spaced word words line e =
    spaced_rejoined word words ∙ ap (rejoined 32) (sym e) ∙ parts_rejoined 32 line

-- what no word has, and is no space, no line of these words has
pub spaced_lacks : (separator : ℕ) → (separator ≡ 32 → ⊥) → (word : Text) (words : List Text)
    → Every (Lacks separator) (word ∷ words) → Lacks separator (spaced word words)
unfolding spaced
spaced_lacks separator other word [] lack = lack.0
spaced_lacks separator other word (next ∷ words) lack =
    member_append separator word (32 ∷ spaced next words)
    ∙ (λ j. lack.0 j || member_later separator 32 (spaced next words) other j)
    ∙ spaced_lacks separator other next words lack.1

-- a word of bytes above the space has neither a space nor a newline
pub printed_lacks : (separator : ℕ) → separator ≤ 32 → (word : Text) → all (λ b. ltb 32 b) word ≡ true
    → Lacks separator word
unfolding all member
printed_lacks separator low [] above = refl
printed_lacks separator low (b ∷ word) above =
    let both = and_both (ltb 32 b) (all (λ b. ltb 32 b) word) above in
    let other : separator ≡ b → ⊥ = λ same. omega (arith, ltb-true 32 b both.0) in
    member_later separator b word other ∙ printed_lacks separator low word both.1
