-- What `plan_pairs::pair_rules::Marked::none_within` owes and the search does not find.
use Rattle.std.proofs.Common.{◌≡◌, ℕ, Bool, ◌&&◌, ◌∙◌, refl, arith, rules}
use Rattle.std.proofs.Math.Bool.{not}
use borrow.Author.Tests.{tests}
use Rattle.std.proofs.lemmas.Iterator.{YieldsList-from_range}
use Rattle.std.proofs.lemmas.Iterator.Search.{all_from_yields_List}
use Rattle.plan.specs.Runs.{earlier, not_later}
use Rattle.plan_marks.specs.Code.Marks.{step_marked}
use Rattle.plan_pairs.specs.Laws.StepLaws.{none_listed}
use Rattle.plan_pairs.proofs.pair_rules.Marked.none_within.Goals as goal

pub returns : goal.returns
returns c =
    let marks = c.args.self.now.marks.now in
    let outside : ℕ → Bool = λ n. not (earlier c.args.r (step_marked marks c.args.x.number n).round
    && not_later (step_marked marks c.args.x.number n).round c.args.q) in
    all_from_yields_List outside _ _ c.all.result c.all.ensures.ran
    (YieldsList-from_range 0 c.count.result c.count.result refl (omega arith)) (λ n b q called. search (rules, tests))
    ∙ none_listed marks c.args.x.number c.args.r c.args.q c.count.ensures.counts
