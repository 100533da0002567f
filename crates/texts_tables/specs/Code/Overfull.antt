-- When a line adds nothing to a table, whatever its numbers: an instruction of a body that counts one too many already,
-- or of a task that was not kept.
-- Assumes nothing.
use Rattle.std.specs.Prelude.{suc, ◌-◌, Bool, false, ◌||◌, get_or, leb, eqb}
use Rattle.taskfile.specs.declared.Table.{Table}
use Rattle.taskfile.specs.Chains.{most_tasks, most_instructions}
use Rattle.taskfile.specs.Tables.{no_task}
use Rattle.texts.specs.declared.Form.{Form}
use Rattle.texts.specs.declared.Form.TheVariants.{WindowLine, StartLine, TaskLine, InstructionLine, LockLine}

-- the task that came last was not kept, or its body counts one instruction too many
unfoldable pub body_over : Table → Bool
body_over t =
    let last = t.tasks - 1 in
    leb most_tasks last || eqb (get_or t.entries last no_task).length (suc most_instructions)

unfoldable pub adds_nothing : Table → Form → Bool
adds_nothing t WindowLine = false
adds_nothing t StartLine = false
adds_nothing t TaskLine = false
adds_nothing t (InstructionLine operation) = body_over t
adds_nothing t LockLine = false
