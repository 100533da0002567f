-- `walk_moves::first_move` meets its contract: the running job's first step, or else the first start.
-- Assumes nothing.
use mathlib.Core.Path.{refl}
use native.Mathlib.Omega.{arith}
use Rattle.walk_moves.specs.Laws.NextLaws.{found_mapped}
use Rattle.walk_moves.specs.Laws.DueLaws.{top_deep}
use Rattle.walk_moves.specs.Laws.MoveLaws.{next_start, first_found, first_refused}
use Rattle.walk_moves.proofs.first_move.Goals as goal

pub returns-then-top-ge-MOST_TASKS : goal.returns-then-top-ge-MOST_TASKS
returns-then-top-ge-MOST_TASKS c waits locks first =
    found_mapped 128 (λ m start. next_start _ waits locks _ c.requires {start = m} start c.if-top-ge-MOST_TASKS.true) _ first

pub position_of-requires : goal.position_of-requires
position_of-requires c =
    λ _. top_deep _ _ _ c.if-top-ge-MOST_TASKS.false c.requires refl

pub returns-in-Some : goal.returns-in-Some
returns-in-Some c waits locks first =
    let found = c.in-Some.ensures in (
      found.0,
      first_found _ waits locks _ c.requires c.if-top-ge-MOST_TASKS.false c.position_of.ensures found.1 found.0,
    )

pub returns : goal.returns
returns c waits locks first =
    found_mapped 128 (λ m start. first_refused _ waits locks _ c.requires c.if-top-ge-MOST_TASKS.false c.position_of.ensures
    c.in_default.ensures (omega arith) {start = m} start) _ first
