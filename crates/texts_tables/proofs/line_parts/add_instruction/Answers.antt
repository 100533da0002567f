-- `texts_tables::line_parts::add_instruction` meets its contract: the task that came last gets one instruction more.
-- Assumes nothing.
use Rattle.std.proofs.Common.{ap, ◌∙◌}
use Prim.Native.Nat.{ℕ}
use lib.ListN.{get_or, set}
use Rattle.taskfile.specs.Tables.{no_task}
use Rattle.texts.specs.Code.AddedLines.{add_instruction, with_tasks, longer_task}
use Rattle.texts_tables.proofs.line_parts.add_instruction.Goals as goal

pub returns : goal.returns
unfolding add_instruction with_tasks
returns c =
    let t = c.args.t.now in
    ap (with_tasks t t.tasks)
    (c.longer_at.ensures
    ∙ ap (λ (k : ℕ). set t.entries k (longer_task (get_or t.entries k no_task) c.args.i)) c.last_task-last.ensures)
