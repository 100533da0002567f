-- `walk_trials::entries::walk_table` meets its contract: what is lent holds the table, so the walk on snapshots is that of
-- the definition. Where all jobs have ended at once nothing is tried.
-- Assumes nothing.
use mathlib.Core.Path.{sym, ◌∙◌}
use native.Mathlib.Omega.{arith}
use Rattle.walk_trials.specs.Laws.AnswerLaws.{ended_answer, tried_answer}
use Rattle.walk_trials.specs.Laws.WalkEntryLaws.{walk_lent}
use Rattle.walk_trials.proofs.entries.walk_table.Goals as goal
use Rattle.walk_trials.proofs.entries.walk_table.Goals.{then-finished, else-finished}

pub trial-r-requires : goal.trial-r-requires
trial-r-requires c =
    (omega arith, omega arith)

pub returns : goal.returns
returns c =
    rw c.outcome_of.ensures (elim c.if-finished.branch [
      | then-finished w ↦
          let finished = sym c.finished.ensures ∙ w.if-finished.true in
          let walked = ended_answer 512 {count = 0} {allowance = c.args.allowance} _ (omega arith) finished w.ended-r.ensures in
          rw (w.r-is, w.count-is, w.start-is, w.path-is) (walk_lent c.lend-lent.ensures walked.1)
      | else-finished w ↦
          let going = sym c.finished.ensures ∙ w.if-finished.false in
          let walked = tried_answer {left = 512} going (λ none. omega arith) (omega arith) (w.trial-r.ensures.room, w.trial-r.ensures.came) in
          rw (w.r-is, w.count-is, w.start-is, w.path-is) (walk_lent c.lend-lent.ensures walked.1)
    ])
