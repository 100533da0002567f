-- Which line of a text is at fault, and by which number: a reading is refused exactly at the first line that is not one
-- of the grammar where it stands, or is missing (60), or that is one but for a number above its limit (61).
-- Assumes nothing.
use Rattle.std.specs.Prelude.{◌≡◌, refl, ◌⊎◌, ◌↔◌, ℕ, suc, ◌+◌, ◌≤◌, Bool, true, false, ◌&&◌, List, [], ◌∷◌, ◌++◌, map, length, leb}
use Rattle.std.proofs.Common.{sym, ap, ◌∙◌, subst, inl, inr, arith, append_assoc}
use Rattle.notation.specs.Checked.{Checked, refused, passed, require, ◌>>=◌, ◌>>◌}
use Rattle.notation.specs.Lists.{each}
use Rattle.notation.specs.Ordered.{Every}
use Rattle.notation.specs.Laws.CheckedLaws.{refused_passed, require_fails, bind_refused, bind_goes, bind_passes}
use Rattle.notation.specs.Laws.NumberedLaws.{Numbered, by_number, none_asked}
use Rattle.notation.specs.Texts.{Text}
use Rattle.texts.specs.Grammar.{Line, IsLine, row_of, fits, joined, may_come, at_tasks, at_window}
use Rattle.texts.specs.Reading.{is_empty, value_of, parts, line_read, lines_read, text_read}
use Rattle.texts.proofs.Laws.GrammarLaws.{joined_more, lines_more}
use Rattle.texts.proofs.Laws.LineReadLaws.{Formed, formed_line, formed_read, read_formed}
use Rattle.texts.proofs.Laws.LineReadLaws.{ReadAs, line_bytes, line_lacks, line_read_lem, read_line}
use Rattle.texts.proofs.Laws.SeparatorLaws.{Lacks, rejoined, parts_some, parts_last, parts_next}
use Rattle.texts.proofs.Laws.SeparatorLaws.{parts_lack, parts_rejoined}

-- What is wrong with a line's bytes at a stage, by number: they are not formed as one that may come, or a number is
-- above its limit.
pub data LineFault (stage : ℕ) (bytes : Text) : ℕ → Type 0 where
  not_formed : (Formed stage bytes → ⊥) → LineFault stage bytes 60
  too_large : (f : Formed stage bytes) → fits (row_of f.form).fields (map value_of f.words) ≡ false
      → LineFault stage bytes 61

-- What is wrong where a text goes on at a stage: a line that a newline ends is at fault; or no newline follows, and a
-- last line is not ended, or one is missing.
pub data RestFault (stage : ℕ) : Text → ℕ → Type 0 where
  in_line : {number : ℕ} (bytes others : Text) → Lacks 10 bytes → LineFault stage bytes number
      → RestFault stage (bytes ++ (10 ∷ others)) number
  at_end_lem : (last : Text) → Lacks 10 last → (is_empty last && leb at_tasks stage) ≡ false → RestFault stage last 60

-- Lines of the grammar that lead from one stage to another, each where it may come.
pub data Leads : ℕ → List Line → ℕ → Type 0 where
  leads_none : {stage : ℕ} → Leads stage [] stage
  leads_more : {stage last : ℕ} {l : Line} {lines : List Line} → IsLine l → may_come stage (row_of l.form) ≡ true
      → Leads (row_of l.form).stage lines last → Leads stage (l ∷ lines) last

-- The fault of a text that begins at a stage: the lines before it, and what is wrong behind them. Its place is their
-- count.
pub record FaultBehind (first : ℕ) (text : Text) (number place : ℕ) : Type 0 where
  pub stage : ℕ
  pub before : List Line
  pub rest : Text
  pub leads : Leads first before stage
  pub bytes : joined before ++ rest ≡ text
  pub fault : RestFault stage rest number
  pub counted : length before ≡ place

abbrev pub TextFault : Text → ℕ → ℕ → Type 0
TextFault text number place = FaultBehind at_window text number place

-- ---- one line

-- a requirement that refused does not hold, and gave its number and place
required_refused : {A : Type 0} (test : Bool) (n k : ℕ) (value : A) {number place : ℕ}
    → ◌>>◌ (require test n k) (passed value) ≡ refused number place
    → (test ≡ false) × (n ≡ number) × (place ≡ k)
unfolding require ◌>>◌
required_refused true n k value e = refused_passed (sym e)
required_refused false n k value {number} {place} e =
    let same : n ≡ number = cc in
    let here : place ≡ k = cc in
    (refl, same, here)

-- formed bytes that are refused have a number that does not fit
formed_refused : (k : ℕ) {stage : ℕ} {bytes : Text} (f : Formed stage bytes) {number place : ℕ}
    → line_read k stage bytes ≡ refused number place
    → (fits (row_of f.form).fields (map value_of f.words) ≡ false) × (61 ≡ number) × (place ≡ k)
formed_refused k f e = required_refused _ 61 k (formed_line f) (sym (formed_read k f) ∙ e)

-- a line that is refused is at fault, by its number and at its place
pub refused_line_lem : (k stage : ℕ) (bytes : Text) {number place : ℕ} → line_read k stage bytes ≡ refused number place
    → LineFault stage bytes number × (place ≡ k)
refused_line_lem k stage bytes {number} {place} e =
    elim (read_formed k stage bytes) [
      | inl f ↦
          (let is = formed_refused k f e in
          (subst (LineFault stage bytes) is.1 (too_large f is.0), is.2))
      | inr fails ↦
          (let both : refused 60 k ≡ refused number place = sym fails ∙ e in
          let same : 60 ≡ number = cc in
          let here : place ≡ k = cc in
          let none : Formed stage bytes → ⊥ = λ f. omega (arith, (formed_refused k f fails).1) in
          (subst (LineFault stage bytes) same (not_formed none), here))
    ]

pub line_refused : (k stage : ℕ) (bytes : Text) {number : ℕ} → LineFault stage bytes number
    → line_read k stage bytes ≡ refused number k
line_refused k stage bytes (not_formed no_line) =
    elim (read_formed k stage bytes) [ inl f ↦ absurd (no_line f) | inr fails ↦ fails ]
line_refused k stage bytes (too_large f large) = formed_read k f ∙ require_fails _ 61 k _ large

-- no line of the grammar that may come has the bytes of one at fault
pub fault_unread : (stage : ℕ) (bytes : Text) {number : ℕ} (l : Line) → LineFault stage bytes number
    → ReadAs stage bytes l → ⊥
fault_unread stage bytes l fault read =
    let passes = line_read_lem 0 stage l read.good read.placed in
    refused_passed (sym (line_refused 0 stage bytes fault) ∙ ap (line_read 0 stage) (sym read.spelled) ∙ passes)

-- ---- a whole text

-- a line's bytes stand before those of the lines after it and what stands behind these
joined_behind : (l : Line) (lines : List Line) (rest : Text)
    → joined (l ∷ lines) ++ rest ≡ line_bytes l ++ (10 ∷ (joined lines ++ rest))
joined_behind l lines rest =
    ap (λ (text : Text). text ++ rest) (joined_more l lines) ∙ append_assoc (line_bytes l) (10 ∷ joined lines) rest

-- the fault stands right here, or behind one line more
behind_none : (stage : ℕ) (text : Text) {number : ℕ} → RestFault stage text number → FaultBehind stage text number 0
unfolding joined each
behind_none stage text fault =
    record {
      stage = stage;
      before = [];
      rest = text;
      leads = leads_none;
      bytes = refl;
      fault = fault;
      counted = refl;
    }

behind_line : (stage : ℕ) (bytes text : Text) (l : Line) {number place : ℕ} → ReadAs stage bytes l
    → FaultBehind (row_of l.form).stage text number place
    → FaultBehind stage (bytes ++ (10 ∷ text)) number (suc place)
behind_line stage bytes text l read later =
    record {
      stage = later.stage;
      before = l ∷ later.before;
      rest = later.rest;
      leads = leads_more read.good read.placed later.leads;
      bytes =
          joined_behind l later.before later.rest ∙ (λ j. read.spelled j ++ (10 ∷ later.bytes j));
      fault = later.fault;
      counted = ap suc later.counted;
    }

-- the same of the lines from line k on
abbrev FoundFault : ℕ → ℕ → Text → ℕ → ℕ → Type 0
FoundFault k stage text number place = (count : ℕ) × FaultBehind stage text number count × (place ≡ k + count)

found_end : (k stage : ℕ) (last : Text) {number place : ℕ} → Lacks 10 last
    → lines_read k stage (last ∷ []) ≡ refused number place → FoundFault k stage last number place
unfolding lines_read
found_end k stage last lacks e =
    let is = required_refused (is_empty last && leb at_tasks stage) 60 k [] e in
    let fault = subst (RestFault stage last) is.1 (at_end_lem last lacks is.0) in
    (0, behind_none stage last fault, omega (arith, is.2))

found_first : (k stage : ℕ) (bytes text : Text) {number place : ℕ} → Lacks 10 bytes
    → line_read k stage bytes ≡ refused number place → FoundFault k stage (bytes ++ (10 ∷ text)) number place
found_first k stage bytes text lacks e =
    let is = refused_line_lem k stage bytes e in
    (0, behind_none stage (bytes ++ (10 ∷ text)) (in_line bytes text lacks is.0), omega (arith, is.1))

found_later : (k stage : ℕ) (bytes text : Text) (l : Line) {number place : ℕ} → line_read k stage bytes ≡ passed l
    → FoundFault (suc k) (row_of l.form).stage text number place
    → FoundFault k stage (bytes ++ (10 ∷ text)) number place
found_later k stage bytes text l e found =
    let whole = behind_line stage bytes text l (read_line k stage bytes l e) found.1 in
    (suc found.0, whole, omega (arith, found.2))

-- a check of two parts that is refused was refused by the first, or passed it and was refused by the second
bind_decided : {P A B : Type 0} (c : Checked P A) (k : A → Checked P B) {n : ℕ} {p : P} → ◌>>=◌ c k ≡ refused n p
    → (c ≡ refused n p) ⊎ ((x : A) × (c ≡ passed x) × (k x ≡ refused n p))
unfolding ◌>>=◌
bind_decided (refused number place) k e = inl cc
bind_decided (passed x) k e = inr (x, refl, e)

found_lines : (k stage : ℕ) (part : Text) (others : List Text) {number place : ℕ} → Every (Lacks 10) (part ∷ others)
    → lines_read k stage (part ∷ others) ≡ refused number place
    → FoundFault k stage (rejoined 10 (part ∷ others)) number place
unfolding lines_read rejoined
found_lines k stage part [] lack e = found_end k stage part lack.0 e
found_lines k stage part (next ∷ others) lack e =
    elim (bind_decided (line_read k stage part) _ e) [
      | inl fails ↦ found_first k stage part (rejoined 10 (next ∷ others)) lack.0 fails
      | inr read ↦
          found_later k stage part (rejoined 10 (next ∷ others)) read.0 read.1
          (found_lines (suc k) (row_of read.0.form).stage next others lack.1
          (bind_passes _ (λ lines. read.0 ∷ lines) read.2))
    ]

refused_text : (text : Text) {number place : ℕ} → text_read text ≡ refused number place → TextFault text number place
unfolding text_read
refused_text text {number} {place} e =
    let some = parts_some 10 text in
    let lack = subst (Every (Lacks 10)) some.2 (parts_lack 10 text) in
    let found = found_lines 0 at_window some.0 some.1 lack (ap (lines_read 0 at_window) (sym some.2) ∙ e) in
    let whole : rejoined 10 (some.0 ∷ some.1) ≡ text = ap (rejoined 10) (sym some.2) ∙ parts_rejoined 10 text in
    let here : found.0 ≡ place = omega (arith, found.2) in
    subst (λ (t : Text). TextFault t number place) whole (subst (FaultBehind at_window _ number) here found.1)

-- ---- a text with a fault is refused by it

rest_refused : (k stage : ℕ) (rest : Text) {number : ℕ} → RestFault stage rest number
    → lines_read k stage (parts 10 rest) ≡ refused number k
unfolding lines_read
rest_refused k stage _ (in_line bytes others lacks fault) =
    ap (lines_read k stage) (parts_next 10 bytes others lacks)
    ∙ lines_more k stage bytes others
    ∙ bind_refused _ (line_refused k stage bytes fault)
rest_refused k stage _ (at_end_lem last lacks over) =
    ap (lines_read k stage) (parts_last 10 last lacks)
    ∙ require_fails (is_empty last && leb at_tasks stage) 60 k (passed []) over

leads_refused : (k first : ℕ) (before : List Line) (stage : ℕ) (rest : Text) (number : ℕ) → Leads first before stage
    → RestFault stage rest number
    → lines_read k first (parts 10 (joined before ++ rest)) ≡ refused number (k + length before)
unfolding joined each
leads_refused k first _ stage rest number leads_none fault =
    let here : k ≡ k + 0 = omega arith in
    rest_refused k first rest fault ∙ ap (λ (place : ℕ). refused number place) here
leads_refused k first _ stage rest number (leads_more {l} {lines} good placed later) fault =
    let there : suc k + length lines ≡ k + suc (length lines) = omega arith in
    ap (λ (text : Text). lines_read k first (parts 10 text)) (joined_behind l lines rest)
    ∙ ap (lines_read k first) (parts_next 10 (line_bytes l) (joined lines ++ rest) (line_lacks l good))
    ∙ lines_more k first (line_bytes l) (joined lines ++ rest)
    ∙ bind_goes _ (line_read_lem k first l good placed)
    ∙ bind_refused _ (leads_refused (suc k) (row_of l.form).stage lines stage rest number later fault)
    ∙ ap (λ (place : ℕ). refused number place) there

text_refused : (text : Text) {number place : ℕ} → TextFault text number place → text_read text ≡ refused number place
unfolding text_read
text_refused text {number} {place} f =
    let here : 0 + length f.before ≡ place = omega (arith, f.counted) in
    ap (λ (t : Text). lines_read 0 at_window (parts 10 t)) (sym f.bytes)
    ∙ leads_refused 0 at_window f.before f.stage f.rest number f.leads f.fault
    ∙ ap (λ (place : ℕ). refused number place) here

-- a reading is refused exactly by the text's fault
pub text_faulty : (text : Text) (number place : ℕ)
    → (text_read text ≡ refused number place) ↔ TextFault text number place
text_faulty text number place = (λ e. refused_text text e, λ f. text_refused text f)

-- there are two numbers
line_number : {stage : ℕ} {bytes : Text} {number : ℕ} → LineFault stage bytes number → (number ≡ 60) ⊎ (number ≡ 61)
line_number (not_formed none) = inl refl
line_number (too_large f large) = inr refl

rest_number : {stage : ℕ} {rest : Text} {number : ℕ} → RestFault stage rest number → (number ≡ 60) ⊎ (number ≡ 61)
rest_number (in_line bytes others lacks fault) = line_number fault
rest_number (at_end_lem last lacks over) = inl refl

pub refusal_number : (text : Text) {number place : ℕ} → text_read text ≡ refused number place
    → (number ≡ 60) ⊎ (number ≡ 61)
refusal_number text e = rest_number (refused_text text e).fault

-- each number is at least 1, so number 0 says that the lines were read
pub read_numbered : (text : Text) → Numbered (text_read text)
read_numbered text = go (text_read text) refl
  where
    some : {number : ℕ} → (number ≡ 60) ⊎ (number ≡ 61) → 1 ≤ number
    some (inl is) = omega (arith, is)
    some (inr is) = omega (arith, is)

    go : (c : Checked ℕ (List Line)) → text_read text ≡ c → Numbered c
    go (refused number place) e = by_number (some (refusal_number text e))
    go (passed lines) e = none_asked
