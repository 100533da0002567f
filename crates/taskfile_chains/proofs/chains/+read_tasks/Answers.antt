-- `taskfile_chains::chains::read_tasks` meets its contract. Each return is one case of `task_chains`: the end of the
-- chain, an index refused, the body refused, and one task before the rest.
-- Assumes nothing.
use mathlib.Core.Path.{◌≡◌, refl}
use native.Mathlib.Omega.{arith}
use Rattle.std.proofs.Common.{rules}
use Rattle.notation.specs.Checked.{refused}
use Rattle.taskfile.specs.Code.Refusals.{outcome, number_of}
use Rattle.taskfile.proofs.Laws.ChainReading.{step_allowed, tasks_empty, tasks_stop, body_breaks, tasks_go_on}
use Rattle.taskfile_chains.proofs.chains.+read_tasks.Goals as goal

pub returns-then-index-eq0 : goal.returns-then-index-eq0
returns-then-index-eq0 t c reached marked = tasks_empty _ _ _ _ _ c.if-index-eq0.true reached marked

pub overflow_sub-allowed : goal.overflow_sub-allowed
overflow_sub-allowed t c = step_allowed _ _ _ _ _ _ c.in_ok-follow_index.ensures

pub read_tasks-requires : goal.read_tasks-requires
read_tasks-requires t c = (omega (arith, step_allowed _ _ _ _ _ _ c.in_ok-follow_index.ensures), tt)

pub returns-in_err-follow_index : goal.returns-in_err-follow_index
returns-in_err-follow_index t c reached marked =
    let e = c.in_err-follow_index.field-0.0 in
    let refuses : outcome c.from_residual.result ≡ refused (number_of e.why) e.place = search rules in
    rw refuses (tasks_stop _ _ _ _ _ c.if-index-eq0.false (omega arith) c.in_err-follow_index.ensures _ reached marked)

pub returns-in_err-read_body : goal.returns-in_err-read_body
returns-in_err-read_body t c reached marked =
    let e = c.in_err-read_body.field-0.0 in
    let refuses : outcome c.from_residual-in_err-read_body.result ≡ refused (number_of e.why) e.place = search rules in
    rw refuses
    (body_breaks _ _ _ _ _ c.if-index-eq0.false (omega arith) c.in_ok-follow_index.ensures _ _ c.in_err-read_body.ensures refl _
    reached marked)

pub returns : goal.returns
returns t c =
    tasks_go_on _ _ _ _ _ c.if-index-eq0.false (omega arith) c.in_ok-follow_index.ensures _ _
    c.in_ok-read_body.ensures refl _ c.next_at.ensures _ _ c.read_tasks.ensures
