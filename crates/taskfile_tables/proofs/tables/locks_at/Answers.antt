-- What `taskfile_tables::tables::locks_at` owes and the search does not find.
use native.Mathlib.Omega.{arith}
use Rattle.taskfile.proofs.Laws.LinkedLaws.{filled_none, filled_more, filled_end, chain_count, chain_few}
use Rattle.taskfile.specs.Code.ReadingParts.{locks_read}
use Rattle.taskfile_tables.proofs.tables.locks_at.Goals as goal

pub loop-n-init : goal.loop-n-init
loop-n-init c = (filled_none _ _ 8 _ _, filled_none _ _ 8 _ _)

pub bounds-chain-n : goal.bounds-chain-n
bounds-chain-n c = omega (arith, chain_few _ _ _ c.chain_at-chain.ensures)

pub bounds-ceilings-n : goal.bounds-ceilings-n
bounds-ceilings-n c = omega (arith, chain_few _ _ _ c.chain_at-chain.ensures)

pub bounds-chain-n-in-loop-n : goal.bounds-chain-n-in-loop-n
bounds-chain-n-in-loop-n c = omega (arith, chain_few _ _ _ c.chain_at-chain.ensures)

pub offset_bounds-holdings-n : goal.offset_bounds-holdings-n
offset_bounds-holdings-n c = omega (arith, chain_few _ _ _ c.chain_at-chain.ensures)

pub bounds-holdings-n : goal.bounds-holdings-n
bounds-holdings-n c = omega (arith, chain_few _ _ _ c.chain_at-chain.ensures)

pub loop-n-preserved : goal.loop-n-preserved
loop-n-preserved c =
    let read = c.chain_at-chain.ensures in
    let below = c.loop-n-test.true in (
      filled_more _ _ 8 _ _ _ _ read c.loop-n.invariant.0 (omega arith) below c.byte_at.ensures,
      filled_more _ _ 8 _ _ _ _ read c.loop-n.invariant.1 (omega arith) below c.wide_at.ensures,
    )

pub returns : goal.returns
unfolding locks_read
returns c =
    let read = c.chain_at-chain.ensures in
    let counted = chain_count _ _ _ read in
    let ceilings = filled_end _ _ _ _ _ _ _ read c.loop-n.invariant.0 c.loop-n-test.false in
    let holdings = filled_end _ _ _ _ _ _ _ read c.loop-n.invariant.1 c.loop-n-test.false in
    λ i. record { count = counted i; ceilings = ceilings i; holdings = holdings i }
