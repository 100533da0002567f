-- `order_turns::starts::may_start` meets its contract: each return is one case of the definition's test.
-- Assumes nothing.
use Rattle.std.proofs.Common.{ap}
use mathlib.Core.Bool.{not}
use mathlib.Core.Path.{sym, ◌∙◌}
use Rattle.order_states.proofs.Laws.StartLaws.{starts_no_task, starts_low}
use Rattle.order_states.proofs.Laws.StateReads.{owned_read, starts_full_read, starts_unowned_read, starts_free_read}
use Rattle.order_turns.proofs.starts.may_start.Goals as goal
use Rattle.order_turns.proofs.starts.may_start.Goals.{then-i-ge-MOST_TASKS-via-then-i-ge-MOST_TASKS}
use Rattle.order_turns.proofs.starts.may_start.Goals.{then-i-ge-MOST_TASKS-via-else-i-ge-MOST_TASKS+then-i-low}
use Rattle.order_turns.proofs.starts.may_start.Goals.{then-i-ge-MOST_TASKS-via-else-i-ge-MOST_TASKS+else-i-low+then-s-ge-MOST_TASKS}

pub returns-then-i-ge-MOST_TASKS : goal.returns-then-i-ge-MOST_TASKS
returns-then-i-ge-MOST_TASKS c = elim c.then-i-ge-MOST_TASKS.branch [
  | then-i-ge-MOST_TASKS-via-then-i-ge-MOST_TASKS w ↦ sym (starts_no_task _ _ _ _ _ w.if-i-ge-MOST_TASKS.true)
  | then-i-ge-MOST_TASKS-via-else-i-ge-MOST_TASKS+then-i-low w ↦ sym (starts_low _ _ _ _ _ w.if-i-low.true)
  | then-i-ge-MOST_TASKS-via-else-i-ge-MOST_TASKS+else-i-low+then-s-ge-MOST_TASKS w ↦
      starts_full_read _ _ _ _ _ w.if-s-ge-MOST_TASKS.true
]

pub invariant_of-must_wait : goal.invariant_of-must_wait
invariant_of-must_wait c = record { below = owned_read _ _ _ c.owned_by.ensures (ap not c.if-owned_by.true) }

pub returns-then-owned_by : goal.returns-then-owned_by
returns-then-owned_by c =
    starts_free_read _ _ _ _ _ c.if-i-ge-MOST_TASKS.false c.if-i-low.false c.if-s-ge-MOST_TASKS.false c.owned_by.ensures (ap not c.if-owned_by.true)
    c.must_wait.ensures

pub returns-else-owned_by : goal.returns-else-owned_by
returns-else-owned_by c =
    c.if-owned_by.false
    ∙ starts_unowned_read _ _ _ _ _ c.if-i-ge-MOST_TASKS.false c.owned_by.ensures (ap not c.if-owned_by.false)
