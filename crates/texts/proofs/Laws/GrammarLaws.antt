-- Reading a text passes exactly the grammar's texts, with the lines that spell them; so each has one list of lines.
-- Assumes nothing.
use Rattle.std.specs.Prelude.{◌≡◌, refl, ◌↔◌, ℕ, suc, true, ◌&&◌, List, [], ◌∷◌, ◌++◌, leb}
use Rattle.std.proofs.Common.{sym, ap, ◌∙◌, subst, append_assoc}
use Rattle.std.proofs.lemmas.Bool.{false≢true}
use Rattle.notation.specs.Checked.{passed, require, ◌>>=◌}
use Rattle.notation.specs.Lists.{each}
use Rattle.notation.specs.Ordered.{Every}
use Rattle.notation.specs.Laws.CheckedLaws.{passed_same, require_passed, require_holds}
use Rattle.notation.specs.Laws.CheckedLaws.{then_passed, bind_passed, bind_goes}
use Rattle.notation.specs.Laws.TestLaws.{and_both, and_holds, test_holds}
use Rattle.notation.specs.Texts.{Text}
use Rattle.texts.specs.Grammar.{Line, IsLine, IsText, Spells, row_of, in_order, joined, may_come}
use Rattle.texts.specs.Grammar.{at_tasks, at_window}
use Rattle.texts.specs.Reading.{is_empty, parts, line_read, lines_read, text_read}
use Rattle.texts.proofs.Laws.LineReadLaws.{ReadAs, line_bytes, line_bytes_lem, line_lacks, line_read_lem, read_line}
use Rattle.texts.proofs.Laws.SeparatorLaws.{rejoined, parts_some, parts_next, parts_rejoined}

-- these lines make up a text that begins at a stage
pub record SpellsFrom (stage : ℕ) (lines : List Line) (text : Text) : Type 0 where
  pub good : Every IsLine lines
  pub placed : in_order stage lines ≡ true
  pub bytes : joined lines ≡ text

-- ---- from lines to their reading

-- a line's bytes stand before those of the lines after it
pub joined_more : (l : Line) (lines : List Line) → joined (l ∷ lines) ≡ line_bytes l ++ (10 ∷ joined lines)
unfolding joined each
joined_more l lines =
    ap (λ (bytes : Text). bytes ++ joined lines) (line_bytes_lem l) ∙ append_assoc (line_bytes l) (10 ∷ []) (joined lines)

-- a line that a newline ends is read, and then those after it
pub lines_more : (k stage : ℕ) (bytes text : Text)
    → lines_read k stage (bytes ∷ parts 10 text)
    ≡ ◌>>=◌ (line_read k stage bytes)
    (λ l. ◌>>=◌ (lines_read (suc k) (row_of l.form).stage (parts 10 text)) (λ lines. passed (l ∷ lines)))
unfolding lines_read
lines_more k stage bytes text = rw (parts_some 10 text).2

lines_read_lem : (k stage : ℕ) (lines : List Line) → Every IsLine lines → in_order stage lines ≡ true
    → lines_read k stage (parts 10 (joined lines)) ≡ passed lines
unfolding in_order joined each parts lines_read is_empty
lines_read_lem k stage [] good placed = require_holds (leb at_tasks stage) 60 k (passed []) placed
lines_read_lem k stage (l ∷ lines) good placed =
    let both = and_both (may_come stage (row_of l.form)) (in_order (row_of l.form).stage lines) placed in
    ap (λ (text : Text). lines_read k stage (parts 10 text)) (joined_more l lines)
    ∙ ap (lines_read k stage) (parts_next 10 (line_bytes l) (joined lines) (line_lacks l good.0))
    ∙ lines_more k stage (line_bytes l) (joined lines)
    ∙ bind_goes _ (line_read_lem k stage l good.0 both.0)
    ∙ bind_goes _ (lines_read_lem (suc k) (row_of l.form).stage lines good.1 both.1)

pub spelled_read : (text : Text) (lines : List Line) → Spells lines text → text_read text ≡ passed lines
unfolding text_read
spelled_read text lines spells =
    ap (λ (t : Text). lines_read 0 at_window (parts 10 t)) (sym spells.bytes)
    ∙ lines_read_lem 0 at_window lines spells.good spells.placed

-- ---- from a reading to its lines

empty_is : (text : Text) → is_empty text ≡ true → [] ≡ text
unfolding is_empty
empty_is [] e = refl
empty_is (b ∷ text) e = absurd (false≢true e)

-- nothing is left, and the text may end
spells_none : (k stage : ℕ) (last : Text) (lines : List Line) → lines_read k stage (last ∷ []) ≡ passed lines
    → SpellsFrom stage lines last
unfolding lines_read in_order joined each
spells_none k stage last lines e =
    let over = is_empty last && leb at_tasks stage in
    let passes = then_passed (require over 60 k) (passed []) e in
    let both = and_both (is_empty last) (leb at_tasks stage) (test_holds over (require_passed over 60 k passes.1)) in
    subst (λ (lines : List Line). SpellsFrom stage lines last) (passed_same passes.2)
    (record { good = tt; placed = both.1; bytes = empty_is last both.0 })

-- one line more in front
spells_more : (stage : ℕ) (bytes text : Text) (l : Line) (lines : List Line) → ReadAs stage bytes l
    → SpellsFrom (row_of l.form).stage lines text → SpellsFrom stage (l ∷ lines) (bytes ++ (10 ∷ text))
unfolding in_order
spells_more stage bytes text l lines read spells =
    record {
      good = (read.good, spells.good);
      placed = and_holds (may_come stage (row_of l.form)) _ read.placed spells.placed;
      bytes = joined_more l lines ∙ (λ j. read.spelled j ++ (10 ∷ spells.bytes j));
    }

lines_spelled : (k stage : ℕ) (part : Text) (others : List Text) (lines : List Line)
    → lines_read k stage (part ∷ others) ≡ passed lines → SpellsFrom stage lines (rejoined 10 (part ∷ others))
unfolding lines_read rejoined
lines_spelled k stage part [] lines e = spells_none k stage part lines e
lines_spelled k stage part (next ∷ others) lines e =
    let here = bind_passed (line_read k stage part) _ e in
    let l = here.0 in
    let later = bind_passed (lines_read (suc k) (row_of l.form).stage (next ∷ others)) _ here.2 in
    subst (λ (lines : List Line). SpellsFrom stage lines (rejoined 10 (part ∷ next ∷ others))) (passed_same later.2)
    (spells_more stage part (rejoined 10 (next ∷ others)) l later.0 (read_line k stage part l here.1)
    (lines_spelled (suc k) (row_of l.form).stage next others later.0 later.1))

pub text_spelled : (text : Text) (lines : List Line) → text_read text ≡ passed lines → Spells lines text
unfolding text_read
text_spelled text lines e =
    let some = parts_some 10 text in
    let spells = lines_spelled 0 at_window some.0 some.1 lines (ap (lines_read 0 at_window) (sym some.2) ∙ e) in
    record {
      good = spells.good;
      placed = spells.placed;
      bytes = spells.bytes ∙ ap (rejoined 10) (sym some.2) ∙ parts_rejoined 10 text;
    }

-- ---- the grammar's texts

-- the lines of a text are one list
pub lines_unique : (text : Text) (lines others : List Line) → Spells lines text → Spells others text → lines ≡ others
lines_unique text lines others this that =
    passed_same (sym (spelled_read text lines this) ∙ spelled_read text others that)

-- a text is one of the grammar exactly if it is read
pub text_read_lem : (text : Text) → IsText text ↔ ((lines : List Line) × (text_read text ≡ passed lines))
text_read_lem text = (
  λ isText. (isText.0, spelled_read text isText.0 isText.1),
  λ read. (read.0, text_spelled text read.0 read.1),
)
