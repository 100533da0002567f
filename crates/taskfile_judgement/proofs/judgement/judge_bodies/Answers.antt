-- What `taskfile_judgement::judgement::judge_bodies` owes and the search does not find.
use mathlib.Core.Path.{sym}
use Rattle.taskfile.proofs.Laws.JudgingLaws.{instruction_sites_by, entry_shaped, body_fault_in_lem, body_faulty, body_sound}
use Rattle.notation.specs.Laws.SearchLaws.{check_starts, check_goes_on, check_refuses, check_ends}
use Rattle.taskfile_judgement.proofs.judgement.judge_bodies.Goals as goal

pub loop-i-init : goal.loop-i-init
loop-i-init c = check_starts _ _ _ _ _ (instruction_sites_by _ c.requires)

pub first_body_fault-requires : goal.first_body_fault-requires
first_body_fault-requires c = entry_shaped _ c.requires _ c.loop-i-test.true _

pub returns-in-Some : goal.returns-in-Some
returns-in-Some c =
    let shaped = c.requires in
    let below = c.loop-i-test.true in
    rw c.at.ensures
    (sym (check_refuses _ _ _ _ _ _ c.loop-i.invariant _ below
    (body_faulty _ shaped _ below _ _ _ _ (body_fault_in_lem _ shaped _ below _) _ c.in-Some.ensures)))

pub loop-i-preserved : goal.loop-i-preserved
loop-i-preserved c =
    let shaped = c.requires in
    let below = c.loop-i-test.true in
    check_goes_on _ _ _ _ _ _ c.loop-i.invariant below
    (body_sound _ shaped _ below _ _ _ _ (body_fault_in_lem _ shaped _ below _) c.in_default.ensures)

pub returns : goal.returns
returns c = sym (check_ends _ _ _ _ _ _ c.loop-i.invariant c.loop-i-test.false)
