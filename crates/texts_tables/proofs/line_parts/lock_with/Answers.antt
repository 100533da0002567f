-- `texts_tables::line_parts::lock_with` meets its contract: a byte and a wide number.
-- Assumes nothing.
use Prim.Native.Nat.{ℕ, ◌<◌, ◌^◌}
use native.Mathlib.Omega.{arith}
use borrow.Author.Rules.{rules}
use lib.Dec.{lit<}
use mathlib.Core.List.{List}
use lib.ListN.{get_or}
use Rattle.texts.specs.declared.Form.TheVariants.{LockLine}
use Rattle.texts.specs.Grammar.{row_of}
use Rattle.texts.specs.TextTables.{lock_with}
use Rattle.texts_tables.specs.Code.PartFields.{part_fields, PartFits}
use Rattle.texts_tables.proofs.Laws.PartFieldLaws.{field_holds}
use Rattle.texts_tables.proofs.line_parts.lock_with.Goals as goal

-- the first number is a byte, the second wide
below : (numbers : List ℕ) → PartFits LockLine numbers → (get_or numbers 0 0 < 256) × (get_or numbers 1 0 < 2 ^ 32)
unfolding part_fields row_of
below numbers fits =
    let holds = field_holds (part_fields LockLine) numbers fits in (holds 0 (lit< tt), holds 1 (lit< tt))

pub overflow_cast-result : goal.overflow_cast-result
overflow_cast-result c = omega (arith, below c.args.numbers c.requires)

pub overflow_cast-result-2 : goal.overflow_cast-result-2
overflow_cast-result-2 c = omega (arith, below c.args.numbers c.requires)

pub returns : goal.returns
unfolding lock_with
returns c = search rules
