-- `order_turns::turns::turn_of` meets its contract: the two returns are the two cases of the turn, whose numbers are bounded by a
-- law of it.
-- Assumes nothing.
use Rattle.order_states.specs.Code.StateBytes.{snapshot_in}
use Rattle.order_states.proofs.Laws.StateReads.{runs_deep_read, turn_runs_read, turn_starts_read}
use Rattle.order_turns.proofs.turns.turn_of.Goals as goal

pub top_turn-requires : goal.top_turn-requires
unfolding snapshot_in
top_turn-requires c =
    runs_deep_read _ _ _ c.runs.ensures c.if-runs.true

pub returns-then-runs : goal.returns-then-runs
returns-then-runs c =
    let h = turn_runs_read c.args.lent.now.program c.args.lent.now.waits c.args.lent.now.locks c.args.s.now.bytes c.args.i.0 c.args.s.now.whole
    c.runs.ensures c.if-runs.true c.top_turn.ensures in
    record { turn = h.0; bounds = h.1 }

pub returns-else-runs : goal.returns-else-runs
returns-else-runs c =
    let h = turn_starts_read c.args.lent.now.program c.args.lent.now.waits c.args.lent.now.locks c.args.s.now.bytes c.args.i.0 c.args.s.now.whole
    c.runs.ensures c.if-runs.false c.start_of.ensures in
    record { turn = h.0; bounds = h.1 }
