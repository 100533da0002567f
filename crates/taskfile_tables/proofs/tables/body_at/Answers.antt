-- What `taskfile_tables::tables::body_at` owes and the search does not find.
use native.Mathlib.Omega.{arith}
use Rattle.taskfile.proofs.Laws.LinkedLaws.{filled_none, filled_more, filled_end, chain_count, chain_few}
use Rattle.taskfile.specs.Code.ReadingParts.{body_at}
use Rattle.taskfile_tables.proofs.tables.body_at.Goals as goal

pub loop-n-init : goal.loop-n-init
loop-n-init c = rw c.end_instruction-items.ensures (filled_none _ _ 16 _ _)

pub bounds-chain-n : goal.bounds-chain-n
bounds-chain-n c = omega (arith, chain_few _ _ _ c.chain_at-chain.ensures)

pub offset_bounds-items-n : goal.offset_bounds-items-n
offset_bounds-items-n c = omega (arith, chain_few _ _ _ c.chain_at-chain.ensures)

pub bounds-items-n : goal.bounds-items-n
bounds-items-n c = omega (arith, chain_few _ _ _ c.chain_at-chain.ensures)

pub loop-n-preserved : goal.loop-n-preserved
loop-n-preserved c =
    filled_more _ _ 16 _ _ _ _ c.chain_at-chain.ensures c.loop-n.invariant (omega arith) c.loop-n-test.true
    c.instruction_at.ensures

pub returns : goal.returns
unfolding body_at
returns c =
    let read = c.chain_at-chain.ensures in
    let counted = chain_count _ _ _ read in
    let stored = filled_end _ _ _ _ _ _ _ read c.loop-n.invariant c.loop-n-test.false in
    λ i. record { count = counted i; items = stored i }
