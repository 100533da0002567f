-- `texts_tables::line_parts::longer_at` meets its contract: past the array nothing is stored.
-- Assumes nothing.
use Rattle.std.proofs.Common.{sym, ap, ◌∙◌}
use lib.ListN.{set}
use lib.Seq.{set_out}
use Rattle.notation.specs.Laws.ListLaws.{get_or_any}
use Rattle.taskfile.specs.declared.TaskEntry.{TaskEntry}
use Rattle.taskfile.specs.Tables.{no_task}
use Rattle.texts.specs.Code.AddedLines.{longer_task}
use Rattle.texts_tables.proofs.line_parts.longer_at.Goals as goal

pub returns-then-at-entries : goal.returns-then-at-entries
returns-then-at-entries c =
    let entries = c.args.entries.now in
    ap (set entries c.args.at)
    (c.longer_task.ensures
    ∙ ap (λ (e : TaskEntry). longer_task e c.args.i) (get_or_any entries c.args.at _ no_task c.if-at-entries.true))

pub returns-else-at-entries : goal.returns-else-at-entries
returns-else-at-entries c = sym (set_out c.args.entries.now c.args.at _ c.if-at-entries.false)
