-- `texts_tables::line_parts::task_with` meets its contract: three wide numbers, and the body of a task with no instruction.
-- Assumes nothing.
use Prim.Native.Nat.{ℕ, ◌<◌, ◌^◌}
use native.Mathlib.Omega.{arith}
use lib.Dec.{lit<}
use mathlib.Core.List.{List}
use lib.ListN.{get_or}
use Rattle.taskfile.specs.Tables.{no_task}
use Rattle.texts.specs.declared.Form.TheVariants.{TaskLine}
use Rattle.texts.specs.Grammar.{row_of}
use Rattle.texts.specs.TextTables.{task_with}
use Rattle.texts_tables.specs.Code.PartFields.{part_fields, PartFits}
use Rattle.texts_tables.proofs.Laws.PartFieldLaws.{field_holds}
use Rattle.texts_tables.proofs.line_parts.task_with.Goals as goal

-- the three numbers are wide
below : (numbers : List ℕ) → PartFits TaskLine numbers
    → (get_or numbers 0 0 < 2 ^ 32) × (get_or numbers 1 0 < 2 ^ 32) × (get_or numbers 2 0 < 2 ^ 32)
unfolding part_fields row_of
below numbers fits =
    let holds = field_holds (part_fields TaskLine) numbers fits in
    (holds 0 (lit< tt), holds 1 (lit< tt), holds 2 (lit< tt))

pub overflow_cast-result : goal.overflow_cast-result
overflow_cast-result c = omega (arith, below c.args.numbers c.requires)

pub overflow_cast-result-2 : goal.overflow_cast-result-2
overflow_cast-result-2 c = omega (arith, below c.args.numbers c.requires)

pub overflow_cast-result-3 : goal.overflow_cast-result-3
overflow_cast-result-3 c = omega (arith, below c.args.numbers c.requires)

pub returns : goal.returns
unfolding task_with no_task
returns c =
    let numbers = c.args.numbers in
    λ i. record {
      execution = get_or numbers 0 0;
      period = get_or numbers 1 0;
      arrival = get_or numbers 2 0;
      length = 0;
      body = (c.empty_task.ensures i).body;
    }
