-- `plan_check::legality::refuse_illegal` meets its contract: the first of the three rules that refuses decides.
-- Assumes nothing.
use Rattle.std.proofs.Common.{rules}
use Rattle.std.proofs.lemmas.Result.{err_from_is_err_and}
use Rattle.plan_marks.specs.Code.PairParts.{order_faulty, lock_faulty}
use Rattle.plan_check.specs.Laws.LegalityLaws.{order_first_lem, lock_next, guess_last_lem}
use Rattle.plan_check.proofs.legality.refuse_illegal.Goals as goal

pub returns-in_err-pair_fault : goal.returns-in_err-pair_fault
returns-in_err-pair_fault c =
    let p = err_from_is_err_and c.from_residual.result c.from_residual.ensures.1 in
    rw (p.1, p.2) (order_first_lem _ _ _ _ _ _ _ _ (c.in_err-pair_fault.ensures (order_faulty _ _ _)
    (record { judges = λ x y lt isY b is. search rules })))

pub returns-in_err-pair_fault-2 : goal.returns-in_err-pair_fault-2
returns-in_err-pair_fault-2 c =
    let p = err_from_is_err_and c.from_residual-in_err-pair_fault-2.result c.from_residual-in_err-pair_fault-2.ensures.1 in
    rw (p.1, p.2) (lock_next _ _ _ _ _ _ _ (c.in_ok-pair_fault.ensures (order_faulty _ _ _)
    (record { judges = λ x y lt isY b is. search rules })) _
    (c.in_err-pair_fault-2.ensures (lock_faulty _ _ _) (record { judges = λ x y lt isY b is. search rules })))

pub returns : goal.returns
returns c =
    guess_last_lem _ _ _ _ _ _ _ (c.in_ok-pair_fault.ensures (order_faulty _ _ _)
    (record { judges = λ x y lt isY b is. search rules }))
    (c.in_ok-pair_fault-2.ensures (lock_faulty _ _ _) (record { judges = λ x y lt isY b is. search rules }))
    _ c.guess_fault.ensures
