-- `timing_demands::blocking::acquires` meets its contract. The loop keeps that no instruction before the one it looks at is an Acquire of
-- the lock. Assumes nothing.
use Rattle.notation.specs.Laws.SearchLaws.{Unfound}
use Rattle.taskfile.specs.Tables.{end_instruction}
use Rattle.timing.specs.Blocking.{is_acquire_of}
use Rattle.timing_demands.proofs.blocking.acquires.Given as goal

abbrev pub invariant-loop-here : goal.invariant-loop-here
invariant-loop-here l = Unfound (is_acquire_of l.lock) l.here-items end_instruction l.here-index
