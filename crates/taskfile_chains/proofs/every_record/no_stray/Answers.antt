-- What `taskfile_chains::every_record::no_stray` owes and the search does not find.
use native.Mathlib.Omega.{arith}
use Rattle.std.proofs.Common.{sym}
use Rattle.taskfile.proofs.Laws.ChainCases.{record_stray, stray_none}
use Rattle.taskfile.specs.Records.{records}
use Rattle.taskfile_chains.proofs.every_record.no_stray.Goals as goal

pub returns-then-not-seen-r : goal.returns-then-not-seen-r
unfolding records
returns-then-not-seen-r c reached marked =
    rw c.at.ensures
    (sym (record_stray _ reached marked _ (omega arith) _ (omega arith) c.loop-r.invariant c.if-not-seen-r.true))

pub returns : goal.returns
unfolding records
returns c reached marked = sym (stray_none _ reached marked _ (omega arith) (λ k below. c.loop-r.invariant k (omega arith)))
