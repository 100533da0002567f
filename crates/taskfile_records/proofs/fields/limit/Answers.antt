-- `limit` meets its contract: its table is the list of the fields' largest values, which computes, and past it
-- nothing is used.
-- Assumes nothing.
use Prim.Native.Nat.{◌*◌}
use mathlib.Core.Path.{◌≡◌, refl, sym}
use denote.Enum.Declared.{tag_of}
use Rattle.taskfile.specs.contracts.Field.{the_type}
use Rattle.taskfile.specs.declared.Field.{Field}
use Rattle.taskfile.specs.declared.Field.TheVariants.{A, B, C}
use Rattle.taskfile.specs.Code.RecordFields.{limit_of}
use Rattle.taskfile.proofs.Laws.RecordLaws.{limits, start_of, limits_at, limit_past}
use Rattle.taskfile.specs.Records.{operation_uses, uses_of}
use Rattle.taskfile_records.proofs.fields.limit.Goals as goal

field_start : (field : Field) → 12 * tag_of the_type field ≡ start_of field
field_start A = refl
field_start B = refl
field_start C = refl

pub returns-then-o-lt-OPERATIONS : goal.returns-then-o-lt-OPERATIONS
unfolding limits operation_uses limit_of uses_of
returns-then-o-lt-OPERATIONS c = rw (field_start c.args.field) (limits_at _ c.args.field c.if-o-lt-OPERATIONS.true)

pub returns-else-o-lt-OPERATIONS : goal.returns-else-o-lt-OPERATIONS
unfolding operation_uses
returns-else-o-lt-OPERATIONS c = sym (limit_past _ _ c.if-o-lt-OPERATIONS.false)
