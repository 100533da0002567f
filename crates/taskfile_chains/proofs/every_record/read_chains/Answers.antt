-- `taskfile_chains::every_record::read_chains` meets its contract. Each return is one check of `chains_of`: the header, a first task,
-- the tasks, the locks, and no record left over. At first the header's mark alone is set.
-- Assumes nothing.
use mathlib.Core.Path.{◌≡◌, refl, ◌∙◌}
use Rattle.std.proofs.Common.{rules}
use Rattle.notation.specs.Checked.{refused}
use Rattle.taskfile.specs.Code.Refusals.{outcome, number_of}
use Rattle.taskfile.proofs.Laws.ChainReading.{header_fails, no_tasks, tasks_fail, locks_fail, chains_read}
use Rattle.taskfile_chains.proofs.every_record.read_chains.Goals as goal

pub returns-in_err-record_of : goal.returns-in_err-record_of
returns-in_err-record_of c =
    let e = c.in_err-record_of.field-0.0 in
    let refuses : outcome c.from_residual.result ≡ refused (number_of e.why) e.place = search rules in
    refuses ∙ header_fails _ c.in_err-record_of.ensures

pub returns-then-first-eq0 : goal.returns-then-first-eq0
returns-then-first-eq0 c =
    rw c.at.ensures (no_tasks _ c.in_ok-record_of.ensures _ c.index_at-first.ensures c.if-first-eq0.true)

pub returns-in_err-read_tasks : goal.returns-in_err-read_tasks
returns-in_err-read_tasks c =
    let e = c.in_err-read_tasks.field-0.0 in
    let refuses : outcome c.from_residual-in_err-read_tasks.result ≡ refused (number_of e.why) e.place = search rules in
    refuses ∙ tasks_fail _ c.in_ok-record_of.ensures _ c.index_at-first.ensures
    c.if-first-eq0.false _ _ c.in_err-read_tasks.ensures refl

pub returns-in_err-read_chain : goal.returns-in_err-read_chain
returns-in_err-read_chain c =
    let e = c.in_err-read_chain.field-0.0 in
    let refuses : outcome c.from_residual-in_err-read_chain.result ≡ refused (number_of e.why) e.place = search rules in
    refuses ∙ locks_fail _ c.in_ok-record_of.ensures _ c.index_at-first.ensures
    c.if-first-eq0.false _ _ c.in_ok-read_tasks.ensures refl _ c.index_at.ensures _ _ c.in_err-read_chain.ensures refl

pub returns : goal.returns
returns c =
    chains_read _ c.in_ok-record_of.ensures _ c.index_at-first.ensures
    c.if-first-eq0.false _ _ c.in_ok-read_tasks.ensures refl _ c.index_at.ensures _ _ c.in_ok-read_chain.ensures refl
    _ c.no_stray.ensures
