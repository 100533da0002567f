-- Computed examples: how a small table is laid out, and where it is refused.
-- Assumes nothing.
use Rattle.std.specs.Prelude.{◌≡◌, refl, ℕ, [], ◌∷◌, replicate}
use Rattle.notation.specs.Checked.{refused, placed_by, require, ◌>>◌}
use Rattle.std.specs.Prelude.{if◌then◌else◌}
use Rattle.notation.specs.Lists.{from, up_to, same, padded}
use Rattle.taskfile.specs.declared.Instruction.{Instruction}
use Rattle.taskfile.specs.declared.Table.{Table}
use Rattle.taskfile.specs.declared.TaskEntry.{TaskEntry}
use Rattle.taskfile.specs.Records.{tidy_instruction, fields_in_range, choice_in_range, instruction_in_range, uses_of, operation_uses}
use Rattle.taskfile.specs.Records.{kind_number, tidy_field, field_in_range}
use Rattle.taskfile.specs.Tables.{end_instruction, no_task}
use Rattle.writer.specs.Claims.{claimed, claimed_tasks, claimed_body, lock_by_lock, claimed_locks}
use Rattle.writer.specs.Sites.{body_sites, task_sites, sites, site_numbers, same_site, index_of, locks_at}
use Rattle.writer.specs.Positions.{position_where}
use Rattle.writer.specs.Fields.{body_fields, task_fields, fields}
use Rattle.writer.specs.Layout.{wide_bytes, link_to, instruction_record, body_records, task_record, after_task, task_records}
use Rattle.writer.specs.Layout.{lock_record, lock_records, header_record, layout}

-- Set register 0 to 1
abbrev pub set_instruction : Instruction
set_instruction = record { operation = 3; a = 0; b = 1; c = 0 }

-- a task with two instructions
abbrev pub slow : TaskEntry
slow =
    record {
      execution = 2;
      period = 260;
      arrival = 0;
      length = 2;
      body = set_instruction ∷ end_instruction ∷ replicate 14 end_instruction;
    }

-- a task with one instruction and execution time C
abbrev pub quick : ℕ → TaskEntry
quick C = record { execution = C; period = 4; arrival = 1; length = 1; body = replicate 16 end_instruction }

-- W, how many of the two tasks, the second one's C, and one lock
unfoldable pub small : ℕ → ℕ → ℕ → Table
small W tasks C =
    record {
      window = W;
      store = 9 ∷ replicate 7 0;
      tasks = tasks;
      entries = slow ∷ quick C ∷ replicate 6 no_task;
      locks = 1;
      ceilings = 1 ∷ replicate 7 5;
      holdings = 66051 ∷ replicate 7 0;
    }

-- all that an index rests on
unfoldable indexing : Unit {0}
unfolding locks_at index_of sites task_sites body_sites same_site site_numbers kind_number same position_where up_to from
indexing = tt

-- header, each task followed by its body, the lock
pub small_laid :
    layout (small 5 2 1)
    ≡ (1 ∷ 0 ∷ 1 ∷ 6 ∷ 5 ∷ 0 ∷ 0 ∷ 0 ∷ 9 ∷ 0 ∷ 0 ∷ 0 ∷ 0 ∷ 0 ∷ 0 ∷ 0
    ∷ 2 ∷ 4 ∷ 2 ∷ 0 ∷ 2 ∷ 0 ∷ 0 ∷ 0 ∷ 4 ∷ 1 ∷ 0 ∷ 0 ∷ 0 ∷ 0 ∷ 0 ∷ 0
    ∷ 4 ∷ 3 ∷ 3 ∷ 0 ∷ 1 ∷ 0 ∷ 0 ∷ 0 ∷ 0 ∷ 0 ∷ 0 ∷ 0 ∷ 0 ∷ 0 ∷ 0 ∷ 0
    ∷ 4 ∷ 0 ∷ 0 ∷ 0 ∷ 0 ∷ 0 ∷ 0 ∷ 0 ∷ 0 ∷ 0 ∷ 0 ∷ 0 ∷ 0 ∷ 0 ∷ 0 ∷ 0
    ∷ 2 ∷ 0 ∷ 5 ∷ 0 ∷ 1 ∷ 0 ∷ 0 ∷ 0 ∷ 4 ∷ 0 ∷ 0 ∷ 0 ∷ 1 ∷ 0 ∷ 0 ∷ 0
    ∷ 4 ∷ 0 ∷ 0 ∷ 0 ∷ 0 ∷ 0 ∷ 0 ∷ 0 ∷ 0 ∷ 0 ∷ 0 ∷ 0 ∷ 0 ∷ 0 ∷ 0 ∷ 0
    ∷ 3 ∷ 0 ∷ 1 ∷ 0 ∷ 3 ∷ 2 ∷ 1 ∷ 0 ∷ 0 ∷ 0 ∷ 0 ∷ 0 ∷ 0 ∷ 0 ∷ 0 ∷ 0 ∷ [])
unfolding layout header_record indexing claimed_tasks claimed_body claimed_locks lock_by_lock claimed task_records task_record after_task
    body_records instruction_record lock_records lock_record link_to wide_bytes small no_task padded
small_laid = refl

-- the place of the second task's fault is its index, with the first one's body before it
pub small_placed : placed_by (index_of (small 5 2 0)) (fields (small 5 2 0)) ≡ refused 4 4
unfolding placed_by indexing fields task_fields body_fields claimed_tasks claimed_body claimed_locks lock_by_lock claimed small
    no_task padded require ◌>>◌ tidy_instruction fields_in_range choice_in_range instruction_in_range uses_of operation_uses
    tidy_field field_in_range
small_placed = refl

-- a window of 0 is named before the tasks that are missing
pub small_ordered : placed_by (index_of (small 0 0 1)) (fields (small 0 0 1)) ≡ refused 4 0
unfolding placed_by indexing fields small require ◌>>◌
small_ordered = refl
