-- `order_replay::ends::some_unended` meets its contract: the eight tasks are asked for their first job not yet ended.
-- Assumes nothing.
use Rattle.std.proofs.Common.{ℕ, ◌+◌, Bool, get_or, refl, ◌∙◌, rules, tests}
use Rattle.std.proofs.lemmas.Iterator.{YieldsList-from_range}
use Rattle.std.proofs.lemmas.Iterator.Search.{any_from_yields_List}
use Rattle.order_states.specs.Code.SnapshotSteps.{owned_by}
use Rattle.order_replay.specs.Laws.ReadLaws.{unended_read}
use Rattle.order_replay.proofs.ends.some_unended.Goals as goal

pub returns : goal.returns
returns c =
    let owns : ℕ → Bool = λ k. owned_by c.args.program.now k (get_or c.args.s.now (8 + k) 0) in
    any_from_yields_List owns _ _ _ c.any.ensures.ran (YieldsList-from_range 0 8 8 (cc) refl)
    (λ x b q k. search (rules, tests))
    ∙ unended_read _ _
