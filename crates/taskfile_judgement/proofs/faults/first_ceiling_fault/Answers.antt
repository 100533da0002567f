-- `taskfile_judgement::faults::first_ceiling_fault` meets its contract: a range yields the positions of the body, whose
-- instructions are the first of its array.
-- Assumes nothing.
use Prim.Native.Nat.{ℕ}
use mathlib.Core.Bool.{Bool}
use mathlib.Core.Path.{◌≡◌, refl, sym, ap, ◌∙◌}
use borrow.Author.Tests.{tests}
use Rattle.std.proofs.Common.{rules, arith}
use Rattle.std.proofs.lemmas.Iterator.{YieldsList-from_range}
use Rattle.std.proofs.lemmas.Iterator.Adapters.{option_map_id}
use Rattle.std.proofs.lemmas.Iterator.Search.{find_from_yields_List}
use Rattle.std.specs.List.{find, range_with_len}
use Rattle.std.specs.Option.{option_map}
use Rattle.taskfile.proofs.Laws.JudgingLaws.{here_in, body_at_lem, range_up_to, find_agree}
use Rattle.taskfile.specs.Code.JudgingParts.{ceiling_fault_in}
use Rattle.taskfile_judgement.proofs.faults.first_ceiling_fault.Goals as goal

pub returns : goal.returns
returns c =
    let e = c.args.e.now in
    let fault = ceiling_fault_in c.args.ceilings.now c.args.i.0 in
    let test : ℕ → Bool = λ p. fault (here_in e p) in
    let found : option_map (λ x. x) c.find.result ≡ find test (range_with_len 0 e.length) =
    find_from_yields_List test _ _ c.find.result c.find.ensures.ran
    (YieldsList-from_range 0 e.length e.length refl (omega arith)) (λ x b q k. search (rules, tests)) in
    sym (option_map_id c.find.result) ∙ found ∙ ap (find test) (range_up_to e.length)
    ∙ find_agree _ _ e.length (λ p below. ap fault (sym (body_at_lem e p below)))
