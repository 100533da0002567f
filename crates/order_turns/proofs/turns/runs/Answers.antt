-- `order_turns::turns::runs` meets its contract: each return is one case of the test, and the last reads the top of the stack.
-- Assumes nothing.
use Rattle.order_states.proofs.Laws.TurnLaws.{runs_high}
use Rattle.order_states.proofs.Laws.StateReads.{runs_flat_read, runs_top_read}
use Rattle.order_turns.proofs.turns.runs.Goals as goal
use Rattle.order_turns.proofs.turns.runs.Goals.{then-i-ge-MOST_TASKS-via-then-i-ge-MOST_TASKS, then-i-ge-MOST_TASKS-via-else-i-ge-MOST_TASKS+then-depth-eq0}

pub returns-then-i-ge-MOST_TASKS : goal.returns-then-i-ge-MOST_TASKS
returns-then-i-ge-MOST_TASKS c = elim c.then-i-ge-MOST_TASKS.branch [
  | then-i-ge-MOST_TASKS-via-then-i-ge-MOST_TASKS w ↦ runs_high _ _ _ w.if-i-ge-MOST_TASKS.true
  | then-i-ge-MOST_TASKS-via-else-i-ge-MOST_TASKS+then-depth-eq0 w ↦ runs_flat_read _ _ _ w.if-depth-eq0.true
]

pub returns : goal.returns
returns c =
    runs_top_read _ _ _ c.args.s.now.whole c.if-i-ge-MOST_TASKS.false c.if-depth-eq0.false c.owned_by.ensures
