-- `taskfile_chains::links::record_of` meets its contract. Each of its tests decides one of the two requirements of `record_of`.
-- Assumes nothing.
use mathlib.Core.Path.{sym, ◌∙◌}
use Rattle.std.proofs.Common.{rules}
use Rattle.taskfile.proofs.Laws.ChainCases.{wrong_kind, record_untidy, out_of_range, record_passes}
use Rattle.taskfile.specs.Records.{kind_number}
use Rattle.taskfile_chains.proofs.links.record_of.Goals as goal
use Rattle.taskfile_chains.proofs.links.record_of.Goals.{else-tidy_record-via-then-tidy_record+else-record_in_range, else-tidy_record-via-else-tidy_record}

pub returns-then-byte_at-kind : goal.returns-then-byte_at-kind
unfolding kind_number
returns-then-byte_at-kind c =
    rw c.at.ensures
    (sym (wrong_kind _ _ _ (λ same. c.if-byte_at-kind.true (c.byte_at.ensures ∙ same ∙ search rules))))

pub returns-then-record_in_range : goal.returns-then-record_in_range
unfolding kind_number
returns-then-record_in_range c =
    sym (record_passes _ _ _ (sym c.byte_at.ensures ∙ c.if-byte_at-kind.false ∙ search rules)
    (sym c.tidy_record.ensures ∙ c.if-tidy_record.true) (sym c.record_in_range.ensures ∙ c.if-record_in_range.true))

pub returns-else-tidy_record : goal.returns-else-tidy_record
unfolding kind_number
returns-else-tidy_record c =
    rw c.at-else-tidy_record.ensures
    (elim c.else-tidy_record.branch [
      | else-tidy_record-via-then-tidy_record+else-record_in_range w ↦
          sym (out_of_range _ _ _ (sym c.byte_at.ensures ∙ c.if-byte_at-kind.false ∙ search rules)
          (sym w.record_in_range.ensures ∙ w.if-record_in_range.false))
      | else-tidy_record-via-else-tidy_record w ↦
          sym (record_untidy _ _ _ (sym c.byte_at.ensures ∙ c.if-byte_at-kind.false ∙ search rules)
          (sym c.tidy_record.ensures ∙ w.if-tidy_record.false))
    ])
