-- `walk_trials::outcome_of` meets its contract: the end is as is read from the state's bytes.
-- Assumes nothing.
use Rattle.std.proofs.Common.{◌∙◌, ap, sym, ℕ}
use Rattle.machine.specs.declared.End.{End}
use Rattle.order_states.specs.Code.StateBytes.{snapshot_in}
use Rattle.walk_trials.specs.declared.Outcome.{Outcome}
use Rattle.walk_trials.specs.declared.Outcome.TheVariants.{Stopped, Held, Found}
use Rattle.walk_trials.specs.declared.Reached.{Reached}
use Rattle.walk_trials.specs.declared.Trial.{Trial}
use Rattle.walk_trials.specs.Code.Outcomes.{reached}
use Rattle.walk_trials.specs.Laws.OutcomeLaws.{end_read}
use Rattle.walk_trials.proofs.outcome_of.Goals as goal

came : Outcome → ℕ → End → Reached
came r count end = record { outcome = r; count = count; end = end }

pub returns-in-Held : goal.returns-in-Held
unfolding came
returns-in-Held c =
    ap (λ (e : End). came (Held c.args.count) c.args.count e) (end_read _ c.bytes_at-store.ensures c.failed_in-failed.ensures)
    ∙ ap (λ (r : Trial). reached r c.args.count (snapshot_in c.args.s.now)) (sym c.in-Held.is)

pub returns-in-Stopped : goal.returns-in-Stopped
unfolding came
returns-in-Stopped c =
    ap (λ (e : End). came Stopped c.args.count e) (end_read _ c.bytes_at-store.ensures c.failed_in-failed.ensures)
    ∙ ap (λ (r : Trial). reached r c.args.count (snapshot_in c.args.s.now)) (sym c.in-Stopped.is)

pub returns-in-Found : goal.returns-in-Found
unfolding came
returns-in-Found c =
    ap (λ (e : End). came (Found c.args.count c.in-Found.length e) c.args.count e)
    (end_read _ c.bytes_at-store.ensures c.failed_in-failed.ensures)
    ∙ ap (λ (r : Trial). reached r c.args.count (snapshot_in c.args.s.now)) (sym c.in-Found.is)
