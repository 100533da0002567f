-- `matching_plans::Trace::note_step` meets its contract: the job has a step more, or has no room for one.
-- Assumes nothing.
use Rattle.matching_plans.proofs.Laws.NotingLaws.{note_room, note_full}
use Rattle.matching_plans.proofs.Trace.note_step.Goals as goal

pub returns-then-n-lt-MOST_INSTRUCTIONS : goal.returns-then-n-lt-MOST_INSTRUCTIONS
returns-then-n-lt-MOST_INSTRUCTIONS c =
    note_room c.args.self.now _ _ c.count-n.ensures.counts c.if-n-lt-MOST_INSTRUCTIONS.true c.put.ensures

pub returns-else-n-lt-MOST_INSTRUCTIONS : goal.returns-else-n-lt-MOST_INSTRUCTIONS
returns-else-n-lt-MOST_INSTRUCTIONS c =
    note_full c.args.self.now _ _ c.count-n.ensures.counts c.if-n-lt-MOST_INSTRUCTIONS.false
