-- `texts_reading::line_forms::numbers_fit` meets its contract: each number is held against its field's limit.
-- Assumes nothing.
use Rattle.std.proofs.Common.{◌<◌, ◌≤◌, ◌∙◌, refl, length, arith, rules, tests}
use Rattle.std.proofs.lemmas.Iterator.{YieldsList-from_range, serves_from_Range}
use Rattle.std.proofs.lemmas.Iterator.Search.{all_from_yields_List}
use Rattle.texts.specs.Grammar.{row_of}
use Rattle.texts_reading.specs.Laws.RowOfLaws.{fields_few}
use Rattle.texts_reading.specs.Laws.FieldFitLaws.{fits_at, fits_listed}
use Rattle.texts_reading.proofs.line_forms.numbers_fit.Goals as goal

pub all-requires-clause-callable : goal.all-requires-clause-callable
all-requires-clause-callable c =
    serves_from_Range (λ x q k. search rules)
    (λ x low high.
    let inside : x < length (row_of c.args.form).fields = omega (arith, c.field_count.ensures) in
    let small : x < 8 = omega (arith, fields_few c.args.form) in
    (λ κs p g e r. record { fits = omega arith }, λ κs p g e r full. small, λ κs p g e r full u v w z. inside))

pub returns : goal.returns
returns c =
    let limits = (row_of c.args.form).fields in
    let enough : length limits ≤ length c.args.values = omega (arith, fields_few c.args.form, c.well_formed) in
    all_from_yields_List (fits_at limits c.args.values enough) _ _ _ c.all.ensures.ran
    (YieldsList-from_range 0 c.field_count.result (length limits) refl (omega (arith, c.field_count.ensures))) (λ x b q k. search (rules, tests))
    ∙ fits_listed limits c.args.values enough
