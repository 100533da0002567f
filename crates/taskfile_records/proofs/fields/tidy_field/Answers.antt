-- `tidy_field` meets its contract: a field whose largest value is 0 is one that the operation does not use.
-- Assumes nothing.
use mathlib.Core.Path.{sym, ◌∙◌}
use borrow.Author.Tests.{ne_eqb}
use Rattle.taskfile.proofs.Laws.RecordLaws.{limit_unused, tidy_field_used}
use Rattle.taskfile.specs.Records.{tidy_field}
use Rattle.taskfile_records.proofs.fields.tidy_field.Goals as goal

pub returns-then-limit-ne-UNUSED : goal.returns-then-limit-ne-UNUSED
returns-then-limit-ne-UNUSED c =
    let used = c.if-limit-ne-UNUSED.true in
    rw (ne_eqb _ _ used) (sym (tidy_field_used _ _ (λ e. used (c.limit.ensures ∙ e))))

pub returns-else-limit-ne-UNUSED : goal.returns-else-limit-ne-UNUSED
unfolding tidy_field
returns-else-limit-ne-UNUSED c = rw (limit_unused _ _ (sym c.limit.ensures ∙ c.if-limit-ne-UNUSED.false))
