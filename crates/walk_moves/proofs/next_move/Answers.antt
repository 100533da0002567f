-- `walk_moves::next_move` meets its contract: the task's next step, or after the running job's last the first start, and
-- after a start's last the next start.
-- Assumes nothing.
use native.Mathlib.Omega.{arith}
use Rattle.walk_moves.specs.Laws.AllowedLaws.{allowed_above}
use Rattle.walk_moves.specs.Laws.NextLaws.{found_mapped}
use Rattle.walk_moves.specs.Laws.DueLaws.{top_deep}
use Rattle.walk_moves.specs.Laws.MoveLaws.{after_found, after_top, after_start}
use Rattle.walk_moves.proofs.next_move.Goals as goal

pub position_of-requires : goal.position_of-requires
position_of-requires c = top_deep _ _ _ (omega (arith, c.requires.0)) c.requires.1

pub byte_from-requires : goal.byte_from-requires
byte_from-requires c = omega (arith, c.requires.0)

pub returns-in-Some : goal.returns-in-Some
returns-in-Some c locks level first allowed =
    let given = c.requires in
    let found = c.in-Some.ensures in
    (found.0, after_found _ _ locks _ given.1 _ given.0 allowed c.position_of.ensures found.1 found.0)

pub returns-then-i-top : goal.returns-then-i-top
returns-then-i-top c locks level first allowed =
    let given = c.requires in
    found_mapped 128 (λ m start. after_top _ _ locks _ given.1 _ given.0 allowed c.position_of.ensures c.in_default.ensures
    (omega arith) c.if-i-top.true {start = m} start) _ first

pub start_from-requires : goal.start_from-requires
start_from-requires c =
    omega (arith, c.requires.0)

pub returns : goal.returns
returns c locks level first allowed =
    let given = c.requires in
    let high = allowed_above _ _ locks _ _ allowed given.0 given.1 c.if-i-top.false in
    found_mapped 128 (λ m later. after_start _ _ locks _ given.1 _ given.0 allowed c.position_of.ensures c.in_default.ensures
    (omega arith) {r = m} later) _ (c.start_from.ensures locks level (omega (arith, level, high)))
