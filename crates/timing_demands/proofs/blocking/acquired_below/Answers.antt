-- What `timing_demands::blocking::acquired_below` owes and the search does not find.
use native.Mathlib.Omega.{arith}
use mathlib.Core.Path.{sym, ap, ◌∙◌}
use Rattle.notation.specs.Laws.ListLaws.{get_or_any}
use Rattle.notation.specs.Laws.QuantifierLaws.{at_any}
use Rattle.notation.specs.Laws.SearchLaws.{unfound_ends}
use Rattle.taskfile.specs.Tables.{no_task}
use Rattle.timing.proofs.Laws.BlockingLaws.{below_stored}
use Rattle.timing.specs.Blocking.{acquires}
use Rattle.timing_demands.proofs.blocking.acquired_below.Goals as goal

pub returns-then-acquires : goal.returns-then-acquires
returns-then-acquires c =
    rw (← below_stored c.requires.0 c.args.i (omega arith)) (sym (at_any (acquires c.args.lock) _ c.loop-e.e-index no_task c.loop-e-test.true
    (ap (acquires c.args.lock) (get_or_any _ c.loop-e.e-index no_task _ c.loop-e-test.true) ∙ sym c.acquires.ensures ∙ c.if-acquires.true)))

pub returns : goal.returns
returns c =
    rw (← below_stored c.requires.0 c.args.i (omega arith)) (sym (unfound_ends _ _ _ _ c.loop-e.invariant c.loop-e-test.false))
