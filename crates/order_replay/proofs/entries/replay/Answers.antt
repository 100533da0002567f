-- `order_replay::entries::replay` meets its contract: its answer is that of what the order comes to.
-- Assumes nothing.
use Rattle.std.proofs.Common.{ap, ◌∙◌}
use Rattle.notation.specs.Checked.{Checked}
use Rattle.machine.specs.declared.End.{End}
use Rattle.machine.specs.Buffers.{run_answer, unwritten}
use Rattle.order.specs.Replay.{replay_answer}
use Rattle.order_replay.proofs.entries.replay.Goals as goal
use Prim.Native.Nat.{ℕ}

pub returns : goal.returns
unfolding replay_answer
returns c = c.ended_answer.ensures ∙ ap (λ (k : Checked ℕ End). run_answer (unwritten k)) c.replay_file.ensures
