-- `texts_program::begins_text` meets its contract.
-- Assumes nothing.
use Rattle.std.proofs.Common.{◌≡◌, ◌≢◌, ◌∙◌, false, not, length, arith}
use Rattle.std.proofs.lemmas.Grind.{common_steps}
use Rattle.texts_program.specs.Laws.TurnLaws.{begins_text_none, begins_text_first}
use Rattle.texts_program.proofs.begins_text.Goals as goal

pub returns-then-not-is_empty : goal.returns-then-not-is_empty
returns-then-not-is_empty c =
    let some : length c.args.bytes.now ≢ 0 = grind (arith, common_steps) in begins_text_first _ some

pub returns-else-not-is_empty : goal.returns-else-not-is_empty
returns-else-not-is_empty c =
    let none : length c.args.bytes.now ≡ 0 = grind (arith, common_steps) in
    let false_is : not c.is_empty.result ≡ false = grind (arith, common_steps) in
    false_is ∙ begins_text_none _ none
