-- `texts_reading::line_forms::operation_named` meets its contract: the table's names are those of the rows, in their order.
-- Assumes nothing.
use Rattle.std.proofs.Common.{◌≡◌, sym, ap, ◌∙◌, refl, Bool, rules, tests, eqb}
use Rattle.std.specs.Prelude.{option_map}
use Rattle.std.specs.Cmp.Lexicographic.{pointwise}
use Rattle.std.proofs.lemmas.Iterator.{YieldsList-from_slice}
use Rattle.std.proofs.lemmas.Iterator.Search.{position_from_yields_List}
use Rattle.texts.specs.declared.Form.TheVariants.{InstructionLine}
use Rattle.texts_reading.specs.declared.line_forms.OperationLine.{OperationLine}
use Rattle.texts_reading.specs.Laws.FormNamedLaws.{operation_placed}
use Rattle.texts_reading.specs.Laws.OperationNameLaws.{names_opened, names_of, row_names}
use Rattle.texts_reading.proofs.line_forms.operation_named.Goals as goal

pub returns-in-Some : goal.returns-in-Some
unfolding names_opened
returns-in-Some c =
    let named : OperationLine → Bool = λ line. pointwise eqb line.name.now c.args.word.now in
    let lines = c.iter.result.rest.now in
    let is : names_of lines ≡ row_names = ap names_of c.iter.ensures.rest in
    ap (option_map (λ o. InstructionLine o))
    (sym c.in-Some.is
    ∙ position_from_yields_List named _ _ _ c.position.ensures.ran
    (YieldsList-from_slice lines refl) (λ x b q k. search (rules, tests)))
    ∙ operation_placed c.args.word.now lines is

pub returns-in-None : goal.returns-in-None
unfolding names_opened
returns-in-None c =
    let named : OperationLine → Bool = λ line. pointwise eqb line.name.now c.args.word.now in
    let lines = c.iter.result.rest.now in
    let is : names_of lines ≡ row_names = ap names_of c.iter.ensures.rest in
    ap (option_map (λ o. InstructionLine o))
    (sym c.in-None.is
    ∙ position_from_yields_List named _ _ _ c.position.ensures.ran
    (YieldsList-from_slice lines refl) (λ x b q k. search (rules, tests)))
    ∙ operation_placed c.args.word.now lines is
