-- What `taskfile_tables::tables::chain_at` owes and the search does not find.
use native.Mathlib.Omega.{arith}
use mathlib.Core.Logic.{inl, inr}
use Rattle.taskfile.proofs.Laws.LinkedLaws.{followed_none, followed_more, followed_end}
use Rattle.taskfile_tables.proofs.tables.chain_at.Goals as goal

pub loop-index-init : goal.loop-index-init
loop-index-init c = followed_none _ _ _

pub bounds-items-count : goal.bounds-items-count
bounds-items-count c = omega arith

pub overflow_add-count : goal.overflow_add-count
overflow_add-count c = omega arith

pub loop-index-smaller : goal.loop-index-smaller
loop-index-smaller c = omega arith

pub loop-index-preserved : goal.loop-index-preserved
loop-index-preserved c =
    followed_more _ _ _ _ _ _ _ c.loop-index.invariant c.requires c.loop-index-test.true
    c.if-count-most.true c.next_at-index.ensures

pub returns-else-count-most : goal.returns-else-count-most
returns-else-count-most c = followed_end _ _ _ _ _ _ c.loop-index.invariant (inr c.if-count-most.false)

pub returns-after-loop-index : goal.returns-after-loop-index
returns-after-loop-index c = followed_end _ _ _ _ _ _ c.loop-index.invariant (inl c.loop-index-test.false)
