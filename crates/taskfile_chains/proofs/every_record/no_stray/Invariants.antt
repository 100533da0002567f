-- The loop of `taskfile_chains::every_record::no_stray` keeps that each record below `r` is marked.
-- Assumes nothing.
use mathlib.Core.Path.{◌≡◌}
use Prim.Native.Nat.{ℕ, ◌<◌}
use mathlib.Core.Bool.{true, false}
use lib.ListN.{get_or}
use Rattle.taskfile_chains.proofs.every_record.no_stray.Given as goal

abbrev pub invariant-loop-r : goal.invariant-loop-r
invariant-loop-r l = (k : ℕ) → k < l.r → get_or l.seen k false ≡ true
