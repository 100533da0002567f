-- `taskfile_chains::chains::read_chain` meets its contract. Each return is one case of `chain`: the end of the chain, an
-- index refused, and one record before the rest.
-- Assumes nothing.
use mathlib.Core.Path.{◌≡◌}
use native.Mathlib.Omega.{arith}
use Rattle.std.proofs.Common.{rules}
use Rattle.notation.specs.Checked.{refused}
use Rattle.taskfile.specs.Code.Refusals.{outcome, number_of}
use Rattle.taskfile.proofs.Laws.ChainReading.{step_allowed, chain_empty, chain_stops, chain_goes_on}
use Rattle.taskfile_chains.proofs.chains.+read_chain.Goals as goal

pub returns-then-index-eq0 : goal.returns-then-index-eq0
returns-then-index-eq0 t c reached marked = chain_empty _ _ _ _ _ _ c.if-index-eq0.true reached marked

pub returns-in_err-follow_index : goal.returns-in_err-follow_index
returns-in_err-follow_index t c reached marked =
    let e = c.in_err-follow_index.field-0.0 in
    let refuses : outcome c.from_residual.result ≡ refused (number_of e.why) e.place = search rules in
    rw refuses (chain_stops _ _ _ _ _ _ c.if-index-eq0.false (omega arith) c.in_err-follow_index.ensures _ reached marked)

pub overflow_sub-allowed : goal.overflow_sub-allowed
overflow_sub-allowed t c = step_allowed _ _ _ _ _ _ c.in_ok-follow_index.ensures

pub read_chain-requires : goal.read_chain-requires
read_chain-requires t c = (omega (arith, step_allowed _ _ _ _ _ _ c.in_ok-follow_index.ensures), tt)

pub returns : goal.returns
returns t c =
    chain_goes_on _ _ _ _ _ _ c.if-index-eq0.false (omega arith) c.in_ok-follow_index.ensures _
    c.next_at.ensures _ _ c.read_chain.ensures
