-- `timing_demands::blocking::acquired_below` meets its contract. The loop keeps that no task before the one it looks at acquires the
-- lock. Assumes nothing.
use Rattle.notation.specs.Laws.SearchLaws.{Unfound}
use Rattle.taskfile.specs.Tables.{no_task}
use Rattle.timing.specs.Blocking.{acquires}
use Rattle.timing_demands.proofs.blocking.acquired_below.Given as goal

abbrev pub invariant-loop-e : goal.invariant-loop-e
invariant-loop-e l = Unfound (acquires l.lock) l.e-items no_task l.e-index
