-- Every table handed over by value fits: what a value of a declared type is like stands in what its type owns, for an
-- array element by element.
-- Assumes nothing.
use Rattle.std.specs.Prelude.{ℕ, ◌<◌, ◌^◌, List, [], ◌∷◌}
use mir.Val.{Val}
use denote.Array.{each}
use denote.Laws.{Is}
use denote.Shadow.{shadow}
use denote.Builtin.{u8, u32}
use denote.RattleType.{RattleType}
use Rattle.notation.specs.Ordered.{Every}
use Rattle.taskfile.specs.contracts.Instruction as instruction
use Rattle.taskfile.specs.contracts.Table as table
use Rattle.taskfile.specs.contracts.TaskEntry as entry
use Rattle.taskfile.specs.declared.Instruction.{Instruction}
use Rattle.taskfile.specs.declared.Table.{Table}
use Rattle.taskfile.specs.declared.TaskEntry.{TaskEntry}
use Rattle.writer.specs.Values.{Fits, FitsEntry, ByteFields}

-- an array's elements have what any value of their type has
pub elements_fit : (R : RattleType) (P : R.Denot → Type 0)
    → ((x : R.Denot) (vs : List Val) → Is R x vs → P x) → (xs : List R.Denot) (us : List Val)
    → shadow (each R.Denot R.own_val xs us) → Every P xs
elements_fit R P one [] us all = tt
elements_fit R P one (x ∷ xs) [] all = absurd all
elements_fit R P one (x ∷ xs) (u ∷ us) all = (one x (u ∷ []) all.0, elements_fit R P one xs us all.1)

-- an instruction, an entry and a table, from what their types own
fields_owned : (i : Instruction) (vs : List Val) → Is instruction.the_row i vs → ByteFields i
fields_owned i vs is =
    let parts = is.1.1 in
    (parts.1.0.1, parts.1.1.0.1, parts.1.1.1.0.1)

pub entry_fits : (e : TaskEntry) (vs : List Val) → Is entry.the_row e vs → FitsEntry e
entry_fits e vs is =
    let parts = is.1.1 in
    record {
      execution = parts.0.1;
      period = parts.1.0.1;
      arrival = parts.1.1.0.1;
      body = parts.1.1.1.1.0.1.0.1;
      instructions = elements_fit instruction.the_row ByteFields fields_owned e.body _ parts.1.1.1.1.0.1.1;
    }

pub table_fits : (t : Table) (vs : List Val) → Is table.the_row t vs → Fits t
table_fits t vs is =
    let parts = is.1.1 in
    record {
      window = parts.0.1;
      store = parts.1.0.1.0.1;
      values = elements_fit u8 (λ (b : ℕ). b < 256) (λ b vs is. is.1) t.store _ parts.1.0.1.1;
      entries_full = parts.1.1.1.0.1.0.1;
      entries = elements_fit entry.the_row FitsEntry entry_fits t.entries _ parts.1.1.1.0.1.1;
      ceilings = parts.1.1.1.1.1.0.1.0.1;
      holdings_full = parts.1.1.1.1.1.1.0.1.0.1;
      holdings =
          elements_fit u32 (λ (h : ℕ). h < 2 ^ 32) (λ h vs is. is.1) t.holdings _
          parts.1.1.1.1.1.1.0.1.1;
    }
