-- `taskfile_chains::links::follow_index` meets its contract. Each of its tests decides one of the requirements of `follow`.
-- Assumes nothing.
use mathlib.Core.Path.{sym, ◌∙◌}
use native.Mathlib.Omega.{arith}
use Rattle.taskfile.proofs.Laws.ChainCases.{follow_outside, follow_again, follow_many, follow_record}
use Rattle.taskfile.specs.Records.{records}
use Rattle.taskfile_chains.proofs.links.follow_index.Goals as goal
use Rattle.taskfile_chains.proofs.links.follow_index.Goals.{then-file-index-via-then-file-index, then-file-index-via-else-file-index+then-again}

pub returns-then-file-index : goal.returns-then-file-index
unfolding records
returns-then-file-index c =
    rw c.at.ensures
    (elim c.then-file-index.branch [
      | then-file-index-via-then-file-index w ↦ sym (follow_outside _ _ _ _ _ _ (omega arith))
      | then-file-index-via-else-file-index+then-again w ↦ sym (follow_again _ _ _ _ _ _ (omega arith) w.if-again.true)
    ])

pub returns-then-allowed-eq0 : goal.returns-then-allowed-eq0
unfolding records
returns-then-allowed-eq0 c =
    rw c.at-then-allowed-eq0.ensures
    (sym (follow_many _ _ _ _ _ _ (omega arith) c.if-again.false c.if-allowed-eq0.true))

pub returns : goal.returns
unfolding records
returns c =
    c.record_of.ensures ∙ sym (follow_record _ _ _ _ _ _ (omega arith) c.if-again.false c.if-allowed-eq0.false)
