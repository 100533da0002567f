-- `order_replay::ends::some_failed` meets its contract: the flags that it asks are the snapshot's.
-- Assumes nothing.
use Rattle.std.proofs.Common.{ℕ, Bool, take, drop, not, eqb, ◌∙◌, arith, rules, tests}
use Rattle.std.proofs.lemmas.Iterator.{YieldsList-from_slice}
use Rattle.std.proofs.lemmas.Iterator.Search.{any_from_yields_List}
use Rattle.order_replay.specs.Laws.FlagLaws.{some_raised}
use Rattle.order_replay.proofs.ends.some_failed.Goals as goal

pub returns : goal.returns
returns c =
    let raised : ℕ → Bool = λ flag. not (eqb flag 0) in
    any_from_yields_List raised _ _ _ c.any.ensures.ran
    (YieldsList-from_slice (take 32 (drop 16 c.args.s.now)) c.iter.ensures.rest)
    (λ x b q k. search (rules, tests))
    ∙ some_raised _ (omega arith)
