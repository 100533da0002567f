-- The lowest and the highest value on offer at an instruction, as the code asks for them. Which values are on offer is
-- said by `values` of crate `machine`.
-- Assumes nothing.
use Rattle.std.specs.Prelude.{ℕ, ◌≤◌}
use Rattle.std.specs.Prelude.{if◌then◌else◌}
use Rattle.taskfile.specs.declared.Instruction.{Instruction}
use Rattle.taskfile.specs.Records.{is_pick}

-- c of a Pick, and 0 of any other
unfoldable pub lowest : Instruction → ℕ
lowest i = if is_pick i then i.c else 0

-- b of a Pick, and 0 of any other
unfoldable pub highest : Instruction → ℕ
highest i = if is_pick i then i.b else 0

-- some value is on offer, and none above 15
pub record Chooses (i : Instruction) : Type 0 where
  pub some : lowest i ≤ highest i
  pub few : highest i ≤ 15
