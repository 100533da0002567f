-- `texts_reading::line_reading::read_line` meets its contract: a line by the form that its first word names.
-- Assumes nothing.
use Rattle.std.proofs.Common.{◌≡◌, sym, ap, subst, ◌∙◌, ℕ, arith, rules, length-take-le}
use Rattle.std.specs.Prelude.{None}
use Rattle.notation.specs.Checked.{Checked, refused, mapped}
use Rattle.taskfile.specs.declared.refusals.Refusal.{Refusal}
use Rattle.taskfile.specs.declared.refusals.Refused.{Refused}
use Rattle.taskfile.specs.Code.Refusals.{number_of}
use Rattle.texts.specs.Grammar.{Line}
use Rattle.texts.specs.Code.LineParts.{held}
use Rattle.texts_reading.specs.Code.NumeralParts.{PartEnds}
use Rattle.texts_reading.specs.Laws.FormReadLaws.{form_unspelt, form_misshapen, form_overfull, form_passes}
use Rattle.texts_reading.specs.Laws.PartEndLaws.{part_end_ends}
use Rattle.texts_reading.specs.Laws.NamedLineLaws.{line_unnamed, line_named}
use Rattle.texts_reading.proofs.line_reading.read_line.Goals as goal

-- a refusal at a place is what a check that refuses comes to
refusal_told : (e : Refused ℕ) {why : Refusal} {place : ℕ} → e ≡ record { why = why; place = place }
    → (check : Checked ℕ Line) → check ≡ refused (number_of why) place
    → refused (number_of e.why) e.place ≡ mapped held check
unfolding mapped
refusal_told e is check refuses =
    ap (λ (x : Refused ℕ). refused (number_of x.why) x.place) is ∙ sym (ap (mapped held) refuses)

pub slice_bounds-form_named-end : goal.slice_bounds-form_named-end
slice_bounds-form_named-end c = sym (length-take-le _ _ c.part_end-end.ensures.within.1)

pub returns-in_default : goal.returns-in_default
returns-in_default c =
    refusal_told _ c.at.ensures _
    (line_unnamed _ _ _ _ c.part_end-end.ensures.end (let h : None ≡ c.form_named.result = search rules in h ∙ c.form_named.ensures))

pub numerals_past-requires : goal.numerals_past-requires
numerals_past-requires c =
    subst (PartEnds 32 _) (sym c.part_end-end.ensures.end) (part_end_ends 32 _ 0 (omega arith))

pub returns-in_default-numerals_past : goal.returns-in_default-numerals_past
returns-in_default-numerals_past c =
    refusal_told _ c.at-in_default-numerals_past.ensures _
    (line_named _ _ _ _ c.part_end-end.ensures.end _ (sym c.in-Some.is ∙ c.form_named.ensures)
    ∙ form_unspelt _ _ _ _ _ (sym c.in_default-numerals_past.is ∙ c.numerals_past.ensures))

pub returns-then-not-is_shaped : goal.returns-then-not-is_shaped
returns-then-not-is_shaped c =
    refusal_told _ c.at-then-not-is_shaped.ensures _
    (line_named _ _ _ _ c.part_end-end.ensures.end _ (sym c.in-Some.is ∙ c.form_named.ensures)
    ∙ form_misshapen _ _ _ _ _ (sym c.in-Ok.is ∙ c.numerals_past.ensures) c.is_shaped.ensures
    c.if-not-is_shaped.true)

pub returns-then-not-numbers_fit : goal.returns-then-not-numbers_fit
returns-then-not-numbers_fit c =
    refusal_told _ c.at-then-not-numbers_fit.ensures _
    (line_named _ _ _ _ c.part_end-end.ensures.end _ (sym c.in-Some.is ∙ c.form_named.ensures)
    ∙ form_overfull _ _ _ _ _ (sym c.in-Ok.is ∙ c.numerals_past.ensures) c.is_shaped.ensures
    c.if-not-is_shaped.false c.numbers_fit.ensures c.if-not-numbers_fit.true)

pub returns : goal.returns
returns c =
    form_passes _ _ _ _ _ (sym c.in-Ok.is ∙ c.numerals_past.ensures) c.is_shaped.ensures
    c.if-not-is_shaped.false c.numbers_fit.ensures c.if-not-numbers_fit.false
    ∙ sym (ap (mapped held) (line_named _ _ _ _ c.part_end-end.ensures.end _ (sym c.in-Some.is ∙ c.form_named.ensures)))
