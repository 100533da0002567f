-- Laws of the grammar's rows as the code has them: an operation's by its number, when a line may come, and its fields'
-- limits.
-- Assumes nothing.
use Rattle.std.specs.Prelude.{◌≡◌, ℕ, ◌≤◌, ◌<◌, true, false, List, [], ◌∷◌, map, leb, eqb, length}
use Rattle.std.proofs.Math.Path.{refl, ap}
use Rattle.std.proofs.Common.{sym, ◌∙◌, eqb-true, le-leb}
use native.Mathlib.Omega.{arith}
use Rattle.std.proofs.Math.ListN.{get_or, get_or-eq_default, get_or-map}
use Rattle.std.proofs.lemmas.Bool.{lt-leb}
use Rattle.notation.specs.Lists.{all}
use Rattle.notation.specs.Laws.QuantifierLaws.{all_at}
use Rattle.notation.specs.Laws.TestLaws.{and_first, and_second}
use Rattle.texts.specs.declared.Form.{Form}
use Rattle.texts.specs.declared.Form.TheVariants.{WindowLine, StartLine, TaskLine, InstructionLine, LockLine}
use Rattle.texts.specs.Grammar.{Row, row_of, may_come, operation_rows, byte_field, wide_field, in_body}
use Rattle.texts.proofs.Laws.RowLaws.{used_of, used_bytes, used_few}
use Rattle.texts_reading.specs.Code.FormParts.{form_number}

-- ---- the operations

-- End's row past the operations
pub operation_past : (o : ℕ) → 12 ≤ o → row_of (InstructionLine o) ≡ row_of (InstructionLine 0)
unfolding row_of operation_rows
operation_past o past = get_or-eq_default operation_rows _ past

-- how many fields each has, as an array
pub operation_counts : (o operation : ℕ)
    → (o < 12) × (row_of (InstructionLine o) ≡ row_of (InstructionLine operation))
    → get_or (map (λ r. length r.fields) operation_rows) o 0 ≡ length (row_of (InstructionLine operation)).fields
unfolding row_of
operation_counts o operation found =
    get_or-map (λ (r : Row). length r.fields) operation_rows o _ ∙ ap (λ (r : Row). length r.fields) found.1

-- ---- the forms

-- a part of each form's row that all instructions share, as an array
abbrev part_of_each : (Row → ℕ) → List ℕ
part_of_each part = map (λ f. part (row_of f)) (WindowLine ∷ StartLine ∷ TaskLine ∷ InstructionLine 0 ∷ LockLine ∷ [])

pub part_at : (part : Row → ℕ) → ((o : ℕ) → part (row_of (InstructionLine o)) ≡ in_body) → (form : Form) {n : ℕ}
    → (n < 5) × (n ≡ form_number form) → get_or (part_of_each part) n 0 ≡ part (row_of form)
unfolding form_number
part_at part shared form found = ap (λ (k : ℕ). get_or (part_of_each part) k 0) found.1 ∙ of form
  where
    of : (f : Form) → get_or (part_of_each part) (form_number f) 0 ≡ part (row_of f)
    of WindowLine = refl
    of StartLine = refl
    of TaskLine = refl
    of (InstructionLine o) = shared 0 ∙ sym (shared o)
    of LockLine = refl

-- a line comes before its first stage, or is held against its last
pub come_early : (stage : ℕ) (form : Form) {first : ℕ} → first ≡ (row_of form).earliest → stage < first
    → false ≡ may_come stage (row_of form)
unfolding may_come
come_early stage form is lt =
    sym (and_first _ (leb stage (row_of form).latest) (lt-leb (row_of form).earliest stage (omega (arith, is))))

pub come_late : (stage : ℕ) (form : Form) {first last : ℕ} → first ≡ (row_of form).earliest → first ≤ stage
    → last ≡ (row_of form).latest → leb stage last ≡ may_come stage (row_of form)
unfolding may_come
come_late stage form is le is_last =
    ap (leb stage) is_last
    ∙ sym (and_second _ (leb stage (row_of form).latest) (le-leb (row_of form).earliest stage (omega (arith, is))))

-- the limit of a form's field: where all limits are one, and a lock's
abbrev pub Limit : ℕ → ℕ → Form → Type 0
Limit limit k form = k < length (row_of form).fields → limit ≡ get_or (row_of form).fields k 0

module _ (k : ℕ) where
  limit_shared : (form : Form) (limit : ℕ) → all (λ other. eqb other limit) (row_of form).fields ≡ true
      → Limit limit k form
  limit_shared form limit holds lt =
      sym (eqb-true _ _ (all_at (λ other. eqb other limit) (row_of form).fields k 0 holds lt))

  pub limit_window : Limit wide_field k WindowLine
  unfolding row_of all
  limit_window = limit_shared WindowLine wide_field refl

  pub limit_start : Limit byte_field k StartLine
  unfolding row_of all
  limit_start = limit_shared StartLine byte_field refl

  pub limit_task : Limit wide_field k TaskLine
  unfolding row_of all
  limit_task = limit_shared TaskLine wide_field refl

  pub limit_operation : (o : ℕ) → Limit byte_field k (InstructionLine o)
  limit_operation o = limit_shared (InstructionLine o) byte_field (used_bytes o)

  pub limit_ceiling : k ≡ 0 → Limit byte_field k LockLine
  unfolding row_of
  limit_ceiling e lt = ap (λ (i : ℕ). get_or (row_of LockLine).fields i 0) (sym e)

  pub limit_holding : (k ≡ 0 → ⊥) → Limit wide_field k LockLine
  unfolding row_of
  limit_holding other lt = let one : 1 ≡ k = omega arith in ap (λ (i : ℕ). get_or (row_of LockLine).fields i 0) one

-- no line has more than eight fields
pub fields_few : (form : Form) → length (row_of form).fields ≤ 8
unfolding row_of used_of
fields_few WindowLine = omega arith
fields_few StartLine = omega arith
fields_few TaskLine = omega arith
fields_few (InstructionLine o) = omega (arith, used_few o)
fields_few LockLine = omega arith
