-- What `order_lending::waits::fill_row` owes and the search does not find.
use Rattle.std.proofs.Common.{rules}
use mathlib.Core.Path.{sym, subst, ◌∙◌}
use Prim.Native.Nat.{◌+◌}
use Rattle.order_states.specs.Code.Lent.{RowFilled}
use Rattle.order_states.specs.Code.SnapshotSteps.{owner_in}
use Rattle.order_states.proofs.Laws.WaitLaws.{row_starts, row_noted, row_later, row_unowned}
use Rattle.order_lending.proofs.waits.fill_row.Goals as goal
use Rattle.order_lending.proofs.waits.fill_row.Goals.{then-k-lt-MOST_TASKS+then-goes_first, else-k-lt-MOST_TASKS}
use Rattle.order_lending.proofs.waits.fill_row.Goals.{else-k-lt-MOST_TASKS-via-then-k-lt-MOST_TASKS+else-goes_first}
use Rattle.order_lending.proofs.waits.fill_row.Goals.{else-k-lt-MOST_TASKS-via-else-k-lt-MOST_TASKS}

pub loop-x-init : goal.loop-x-init
loop-x-init c = row_starts c.requires.1

pub loop-x-preserved : goal.loop-x-preserved
unfolding owner_in
loop-x-preserved c =
    let filled = c.loop-x.invariant in
    elim c.if-k-lt-MOST_TASKS.branch [
      | then-k-lt-MOST_TASKS+then-goes_first w ↦
          subst (RowFilled _ _ _ (c.loop-x.x + 1) _) (sym w.waits-is)
          (row_noted filled w.if-k-lt-MOST_TASKS.true (sym w.goes_first.ensures ∙ w.if-goes_first.true) c.args.y.below (search rules))
      | else-k-lt-MOST_TASKS w ↦
          subst (RowFilled _ _ _ (c.loop-x.x + 1) _) (sym w.waits-is)
          (elim w.else-k-lt-MOST_TASKS.branch [
            | else-k-lt-MOST_TASKS-via-then-k-lt-MOST_TASKS+else-goes_first v ↦
                row_later filled (sym v.goes_first.ensures ∙ v.if-goes_first.false)
            | else-k-lt-MOST_TASKS-via-else-k-lt-MOST_TASKS v ↦ row_unowned filled v.if-k-lt-MOST_TASKS.false
          ])
    ]
