-- What `timing_demands::blocking::acquires` owes and the search does not find.
use mathlib.Core.Path.{sym, ◌∙◌}
use Rattle.notation.specs.Laws.QuantifierLaws.{at_any}
use Rattle.notation.specs.Laws.SearchLaws.{unfound_ends}
use Rattle.taskfile.specs.Tables.{body_of, end_instruction}
use Rattle.timing.specs.Blocking.{is_acquire_of, acquires}
use Rattle.timing_demands.proofs.blocking.acquires.Goals as goal

pub returns-then-is_acquire_of : goal.returns-then-is_acquire_of
unfolding acquires body_of
returns-then-is_acquire_of c =
    sym (at_any (is_acquire_of c.args.lock) _ c.loop-here.here-index end_instruction c.loop-here-test.true
    (sym c.is_acquire_of.ensures ∙ c.if-is_acquire_of.true))

pub returns : goal.returns
unfolding acquires body_of
returns c = sym (unfound_ends _ _ _ _ c.loop-here.invariant c.loop-here-test.false)
