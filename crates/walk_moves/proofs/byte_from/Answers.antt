-- `walk_moves::byte_from` meets its contract: no step of the task is left past its body or past the last value on offer,
-- and else the first value on offer makes it.
-- Assumes nothing.
use native.Mathlib.Omega.{arith}
use Rattle.walk_moves.specs.Laws.NextLaws.{of_past, of_refused, of_found}
use Rattle.walk_moves.proofs.byte_from.Goals as goal

pub returns-then-position-ge-POSITIONS : goal.returns-then-position-ge-POSITIONS
returns-then-position-ge-POSITIONS c = of_past _ _ _ _ c.if-position-ge-POSITIONS.true

pub returns-in_err-first : goal.returns-in_err-first
returns-in_err-first c =
    rw c.from_residual.ensures
    (of_refused _ _ _ _ c.if-position-ge-POSITIONS.false c.instruction_at.ensures c.in_err-first.ensures (omega arith))

pub returns : goal.returns
returns c =
    let first = c.in_ok-first.ensures in (
      omega (arith, c.requires, first.0),
      of_found _ _ _ _ c.if-position-ge-POSITIONS.false c.instruction_at.ensures first.1 c.requires first.0,
    )
