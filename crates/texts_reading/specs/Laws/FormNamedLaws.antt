-- Laws of the search for the form that a word names.
-- Assumes nothing.
use Rattle.std.specs.Prelude.{◌≡◌, ℕ, suc, ◌+◌, ◌≤◌, ◌<◌, Bool, cond, eqb, length, get_or, position, option_map}
use Rattle.std.specs.List.{position_from}
use Rattle.std.specs.Cmp.Lexicographic.{pointwise}
use Rattle.std.proofs.lemmas.Iterator.Adapters.{position_from-zero}
use Rattle.std.proofs.lemmas.List.{get_or-map}
use Rattle.std.proofs.Math.Path.{refl, sym}
use Rattle.std.proofs.Common.{ap, ◌∙◌, arith, add-one, add-zero, zero-add}
use Rattle.std.proofs.Math.Bool.{true, false}
use mathlib.Core.List.{List, [], ◌∷◌, map}
use Rattle.std.proofs.Math.Option.{Option, none, some}
use Rattle.std.specs.Prelude.{if◌then◌else◌, Some, None}
use Rattle.std.specs.Prelude as answers
use Rattle.notation.specs.Lists.{from, up_to, first_with, same}
use Rattle.notation.specs.Laws.SearchLaws.{Searched, search_starts, search_goes_on, search_finds, search_ends}
use Rattle.notation.specs.Texts.{Text}
use Rattle.texts.specs.declared.Form.{Form}
use Rattle.texts.specs.declared.Form.TheVariants.{WindowLine, StartLine, TaskLine, InstructionLine, LockLine}
use Rattle.texts.specs.Grammar.{Row, row_of, operation_rows, operation_row}
use Rattle.texts.specs.Words.{end_word}
use Rattle.texts.specs.Reading.{forms, form_named}
use Rattle.texts.specs.Code.LineParts.{named_of}
use Rattle.texts_reading.specs.Code.FormParts.{operation_named}
use Rattle.texts_reading.specs.declared.line_forms.OperationLine.{OperationLine}
use Rattle.texts_reading.specs.Laws.OperationNameLaws.{names_of, row_names}
use Rattle.texts_reading.specs.Laws.WordLaws.{same_compared}

-- ---- the first of a list

module _ {A : Type 0} (test : A → Bool) (x : A) (xs : List A) where
  first_named : true ≡ test x → first_with test (x ∷ xs) ≡ some x
  unfolding first_with
  first_named e = rw (sym e) refl

  first_passed_over : false ≡ test x → first_with test (x ∷ xs) ≡ first_with test xs
  unfolding first_with
  first_passed_over e = rw (sym e) refl

-- ---- an instruction by its name

-- the form of an operation that was looked for
unfoldable operation_form : Option ℕ → answers.Option Form
operation_form none = None
operation_form (some o) = Some (InstructionLine o)

module _ (word : Text) where
  -- does the word name this form, and this operation?
  abbrev pub Names : Form → Bool
  Names form = same (row_of form).word word

  abbrev pub NamesOperation : ℕ → Bool
  NamesOperation o = Names (InstructionLine o)

  -- the names from operation i on are looked through for the word
  names_searched : (names : List Text) (i : ℕ)
      → ((k : ℕ) → k < length names → pointwise eqb (get_or names k []) word ≡ NamesOperation (i + k))
      → option_map (λ o. InstructionLine o) (position_from (λ name. pointwise eqb name word) i names)
      ≡ named_of (first_with Names (map (λ o. InstructionLine o) (from i (length names))))
  unfolding named_of first_with from
  names_searched [] i agree = refl
  names_searched (name ∷ names) i agree =
      rw (agree 0 (omega arith), add-zero i, ← add-one i)
      (go (NamesOperation i) (names_searched names (i + 1)
      (λ k lt. let next : i + 1 + k ≡ i + suc k = omega arith in rw next (agree (suc k) (omega arith)))))
    where
      go : (b : Bool)
          → option_map (λ o. InstructionLine o) (position_from (λ n. pointwise eqb n word) (i + 1) names)
          ≡ named_of (first_with Names (map (λ o. InstructionLine o) (from (i + 1) (length names))))
          → option_map (λ o. InstructionLine o)
          (cond b (answers.Some i) (position_from (λ n. pointwise eqb n word) (i + 1) names))
          ≡ named_of (if b then some (InstructionLine i)
          else first_with Names (map (λ o. InstructionLine o) (from (i + 1) (length names))))
      go true later = refl
      go false later = later

  -- and so is a table that has them
  lines_searched : (lines : List OperationLine) (i : ℕ)
      → position_from (λ line. pointwise eqb line.name.now word) i lines
      ≡ position_from (λ name. pointwise eqb name word) i (names_of lines)
  lines_searched [] i = refl
  lines_searched (line ∷ lines) i =
      ap (cond (pointwise eqb line.name.now word) (Some i)) (lines_searched lines (i + 1))

  pub operation_placed : (lines : List OperationLine) → names_of lines ≡ row_names
      → option_map (λ o. InstructionLine o) (position (λ line. pointwise eqb line.name.now word) lines)
      ≡ named_of (operation_named word)
  unfolding operation_named operation_rows up_to row_of
  operation_placed lines is =
      ap (option_map (λ o. InstructionLine o))
      (position_from-zero (λ line. pointwise eqb line.name.now word) lines ∙ lines_searched lines 0
      ∙ ap (position_from (λ name. pointwise eqb name word) 0) is)
      ∙ names_searched row_names 0 (λ k lt.
      same_compared (get_or row_names k []) word
      ∙ ap (λ (n : Text). same n word)
      (get_or-map (λ (r : Row). r.word) operation_rows k (operation_row end_word 0) [] lt)
      ∙ ap NamesOperation (sym (zero-add k)))

  -- one operation after the other
  operation_first : (os : List ℕ)
      → operation_form (first_with NamesOperation os) ≡ named_of (first_with Names (map (λ o. InstructionLine o) os))
  unfolding operation_form named_of first_with
  operation_first [] = refl
  operation_first (o ∷ os) = go (NamesOperation o) (operation_first os)
    where
      go : (b : Bool)
          → operation_form (first_with NamesOperation os) ≡ named_of (first_with Names (map (λ o. InstructionLine o) os))
          → operation_form (if b then some o else first_with NamesOperation os)
          ≡ named_of (if b then some (InstructionLine o) else first_with Names (map (λ o. InstructionLine o) os))
      go true later = refl
      go false later = later

  operation_searched : operation_form (first_with NamesOperation (up_to 12)) ≡ named_of (operation_named word)
  unfolding operation_named operation_rows
  operation_searched = operation_first (up_to 12)

  -- the operations below o are not named so
  abbrev pub OperationsTo : ℕ → Type 0
  OperationsTo o = Searched NamesOperation 12 o

  pub operations_none : OperationsTo 0
  operations_none = search_starts NamesOperation 12

  module _ (o : ℕ) (so_far : OperationsTo o) where
    pub operations_more : o < 12 → false ≡ NamesOperation o → OperationsTo (o + 1)
    operations_more lt fails = search_goes_on NamesOperation 12 o so_far lt (sym fails)

    pub operation_found : o < 12 → true ≡ NamesOperation o → Some (InstructionLine o) ≡ named_of (operation_named word)
    unfolding operation_form
    operation_found lt holds =
        sym (ap operation_form (search_finds NamesOperation 12 o so_far lt (sym holds))) ∙ operation_searched

    pub operation_missing : 12 ≤ o → None ≡ named_of (operation_named word)
    unfolding operation_form
    operation_missing all = sym (ap operation_form (search_ends NamesOperation 12 o so_far all)) ∙ operation_searched

  -- ---- a form by its word

  abbrev operation_forms : List Form
  operation_forms = map (λ o. InstructionLine o) (up_to 12)

  pub named_window : true ≡ Names WindowLine → Some WindowLine ≡ named_of (form_named word)
  unfolding form_named forms named_of
  named_window e = sym (ap named_of (first_named Names WindowLine _ e))

  module _ (noWindow : false ≡ Names WindowLine) where
    past_window : form_named word ≡ first_with Names (StartLine ∷ TaskLine ∷ LockLine ∷ operation_forms)
    unfolding form_named forms operation_rows
    past_window = first_passed_over Names WindowLine _ noWindow

    pub named_start : true ≡ Names StartLine → Some StartLine ≡ named_of (form_named word)
    unfolding named_of
    named_start e = sym (ap named_of (past_window ∙ first_named Names StartLine _ e))

    module _ (noStart : false ≡ Names StartLine) where
      past_start : form_named word ≡ first_with Names (TaskLine ∷ LockLine ∷ operation_forms)
      past_start = past_window ∙ first_passed_over Names StartLine _ noStart

      pub named_task : true ≡ Names TaskLine → Some TaskLine ≡ named_of (form_named word)
      unfolding named_of
      named_task e = sym (ap named_of (past_start ∙ first_named Names TaskLine _ e))

      module _ (no_task : false ≡ Names TaskLine) where
        past_task : form_named word ≡ first_with Names (LockLine ∷ operation_forms)
        past_task = past_start ∙ first_passed_over Names TaskLine _ no_task

        pub named_lock : true ≡ Names LockLine → Some LockLine ≡ named_of (form_named word)
        unfolding named_of
        named_lock e = sym (ap named_of (past_task ∙ first_named Names LockLine _ e))

        -- the instructions come last
        pub named_operation : false ≡ Names LockLine → named_of (operation_named word) ≡ named_of (form_named word)
        unfolding operation_named operation_rows
        named_operation no_lock = sym (ap named_of (past_task ∙ first_passed_over Names LockLine _ no_lock))
