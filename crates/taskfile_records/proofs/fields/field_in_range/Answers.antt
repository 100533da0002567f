-- `field_in_range` meets its contract: an unused field is in range, and any other up to its largest value.
-- Assumes nothing.
use mathlib.Core.Path.{sym, ◌∙◌}
use Rattle.taskfile.proofs.Laws.RecordLaws.{limit_unused, field_in_range_used}
use Rattle.taskfile.specs.Records.{field_in_range}
use Rattle.taskfile_records.proofs.fields.field_in_range.Goals as goal

pub returns-then-most-eq-UNUSED : goal.returns-then-most-eq-UNUSED
unfolding field_in_range
returns-then-most-eq-UNUSED c =
    let none = c.if-most-eq-UNUSED.true in
    rw (limit_unused _ _ (sym c.limit-most.ensures ∙ none), none)

pub returns-else-most-eq-UNUSED : goal.returns-else-most-eq-UNUSED
returns-else-most-eq-UNUSED c =
    rw c.limit-most.ensures
    (sym (field_in_range_used _ _ c.ranges.x.fits (λ e. c.if-most-eq-UNUSED.false (c.limit-most.ensures ∙ e))))
