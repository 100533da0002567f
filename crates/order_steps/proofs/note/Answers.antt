-- `order_steps::note` meets its contract: the flag is raised or not, and then the job leaves the active ones or stays one.
-- Assumes nothing.
use Rattle.std.proofs.Common.{rules}
use mathlib.Core.Path.{◌≡◌, ◌∙◌}
use Rattle.order_steps.specs.Laws.EffectWrites.{flagged_bytes, flag_raised, flag_left, noted_on, noted_ended}
use Rattle.order_steps.proofs.note.Goals as goal
use Rattle.order_steps.proofs.note.Goals.{then-failed, else-failed}

pub returns-then-ended : goal.returns-then-ended
returns-then-ended c =
    let flags : c.if-failed.s ≡ flagged_bytes c.args.s.now c.args.x.number c.args.failed =
    elim c.if-failed.branch [
      | then-failed w ↦ w.s-is ∙ flag_raised c.args.s.now c.args.x.number w.if-failed.true
      | else-failed w ↦ w.s-is ∙ flag_left c.args.s.now c.args.x.number w.if-failed.false
    ] in
    noted_ended _ _ (search rules) c.args.x.below _ _ flags _ _ c.requires.1 c.if-ended.true

pub returns-else-ended : goal.returns-else-ended
returns-else-ended c =
    let flags : c.if-failed.s ≡ flagged_bytes c.args.s.now c.args.x.number c.args.failed =
    elim c.if-failed.branch [
      | then-failed w ↦ w.s-is ∙ flag_raised c.args.s.now c.args.x.number w.if-failed.true
      | else-failed w ↦ w.s-is ∙ flag_left c.args.s.now c.args.x.number w.if-failed.false
    ] in
    noted_on _ _ (search rules) c.args.x.below _ _ flags _ _ c.requires.1 c.if-ended.false
