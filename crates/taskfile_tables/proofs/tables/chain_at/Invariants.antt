-- `taskfile_tables::tables::chain_at` meets its contract. The loop's invariant is `Followed`: the array holds the records passed. The
-- measure is how many more may come.
-- Assumes nothing.
use Prim.Native.Nat.{◌-◌}
use Rattle.taskfile.proofs.Laws.LinkedLaws.{Followed}
use Rattle.taskfile_tables.proofs.tables.chain_at.Given as goal

abbrev pub invariant-loop-index : goal.invariant-loop-index
invariant-loop-index l = Followed l.file l.most l.first l.items l.count l.index

abbrev pub decreases-loop-index : goal.decreases-loop-index
decreases-loop-index l = l.most - l.count
