-- `texts_tables::line_parts::instruction_with` meets its contract: three numbers are bytes.
-- Assumes nothing.
use mathlib.Core.Path.{refl}
use Prim.Native.Nat.{ℕ, ◌<◌}
use native.Mathlib.Omega.{arith}
use lib.Dec.{lit<}
use mathlib.Core.List.{List}
use lib.ListN.{get_or}
use Rattle.texts.specs.declared.Form.TheVariants.{InstructionLine}
use Rattle.texts.specs.TextTables.{instruction_with}
use Rattle.texts_tables.specs.Code.PartFields.{part_fields, PartFits}
use Rattle.texts_tables.proofs.Laws.PartFieldLaws.{field_holds}
use Rattle.texts_tables.proofs.line_parts.instruction_with.Goals as goal

-- the three numbers are bytes
below : (operation : ℕ) (numbers : List ℕ) → PartFits (InstructionLine operation) numbers
    → (get_or numbers 0 0 < 256) × (get_or numbers 1 0 < 256) × (get_or numbers 2 0 < 256)
unfolding part_fields
below operation numbers fits =
    let holds = field_holds (part_fields (InstructionLine operation)) numbers fits in
    (holds 0 (lit< tt), holds 1 (lit< tt), holds 2 (lit< tt))

pub overflow_cast-result : goal.overflow_cast-result
overflow_cast-result c = omega (arith, below c.args.operation c.args.numbers c.requires)

pub overflow_cast-result-2 : goal.overflow_cast-result-2
overflow_cast-result-2 c = omega (arith, below c.args.operation c.args.numbers c.requires)

pub overflow_cast-result-3 : goal.overflow_cast-result-3
overflow_cast-result-3 c = omega (arith, below c.args.operation c.args.numbers c.requires)

pub returns : goal.returns
unfolding instruction_with
returns c = refl
