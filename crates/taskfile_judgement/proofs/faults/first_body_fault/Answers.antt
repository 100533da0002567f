-- `taskfile_judgement::faults::first_body_fault` meets its contract: a range yields the positions of the body.
-- Assumes nothing.
use mathlib.Core.Path.{◌≡◌, refl, sym, ap, ◌∙◌}
use borrow.Author.Tests.{tests}
use Rattle.std.proofs.Common.{rules, arith}
use Rattle.std.proofs.lemmas.Iterator.{YieldsList-from_range}
use Rattle.std.proofs.lemmas.Iterator.Adapters.{option_map_id}
use Rattle.std.proofs.lemmas.Iterator.Search.{find_from_yields_List}
use Rattle.std.specs.List.{find, range_with_len}
use Rattle.std.specs.Option.{option_map}
use Rattle.taskfile.proofs.Laws.JudgingLaws.{range_up_to}
use Rattle.taskfile.specs.Code.JudgingParts.{body_fault_in}
use Rattle.taskfile_judgement.proofs.faults.first_body_fault.Goals as goal

pub returns : goal.returns
returns c =
    let e = c.args.e.now in
    let found : option_map (λ x. x) c.find.result ≡ find (body_fault_in e) (range_with_len 0 e.length) =
    find_from_yields_List (body_fault_in e) _ _ c.find.result c.find.ensures.ran
    (YieldsList-from_range 0 e.length e.length refl (omega arith)) (λ x b q k. search (rules, tests)) in
    sym (option_map_id c.find.result) ∙ found ∙ ap (find (body_fault_in e)) (range_up_to e.length)
