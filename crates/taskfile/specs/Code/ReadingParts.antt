-- The parts of a table by following indices, as the functions of the reader yield them.
-- Assumes nothing.
use Rattle.std.specs.Prelude.{ℕ, zero, suc, map, length}
use Rattle.taskfile.specs.declared.Filled.{Filled}
use Rattle.taskfile.specs.declared.Instruction.{Instruction}
use Rattle.taskfile.specs.declared.Locks.{Locks}
use Rattle.taskfile.specs.declared.Site.{Site}
use Rattle.taskfile.specs.declared.Site.TheVariants.{AtHeader, AtTask, AtInstruction, AtLock}
use Rattle.taskfile.specs.declared.TaskEntry.{TaskEntry}
use Rattle.taskfile.specs.Chains.{most_instructions, most_tasks, most_locks}
use Rattle.notation.specs.Lists.{padded}
use Rattle.taskfile.specs.Code.Reading.{linked, linked_task}
use Rattle.taskfile.specs.Records.{File, byte_at, wide_at, next, instruction_at}
use Rattle.taskfile.specs.Tables.{end_instruction, no_task, entry_at}

-- a chain of at most n records, in an array with room for the longest
unfoldable pub chain_at : File → ℕ → ℕ → Filled ℕ most_instructions
chain_at f first n =
    let records = linked f n first in
    record { count = length records; items = padded most_instructions 0 records }

unfoldable pub body_at : File → ℕ → Filled Instruction most_instructions
body_at f first =
    let body = linked f most_instructions first in
    record { count = length body; items = padded most_instructions end_instruction (map (instruction_at f) body) }

unfoldable pub entries_at : File → ℕ → Filled TaskEntry most_tasks
entries_at f first =
    let tasks = linked f most_tasks first in
    record { count = length tasks; items = padded most_tasks no_task (map (λ r. entry_at f (linked_task f r)) tasks) }

unfoldable pub locks_read : File → ℕ → Locks
locks_read f first =
    let locks = linked f most_locks first in
    record {
      count = length locks;
      ceilings = padded most_locks 0 (map (λ r. byte_at f r 2) locks);
      holdings = padded most_locks 0 (map (λ r. wide_at f r 4) locks);
    }

-- the record that n links lead to
unfoldable pub link_after : File → ℕ → ℕ → ℕ
link_after f index zero = index
link_after f index (suc n) = link_after f (next f index) n

-- the record at a site of the file's table, by following indices
unfoldable pub site_record : File → Site → ℕ
site_record f AtHeader = 0
site_record f (AtTask i) = link_after f (byte_at f 0 2) i.0
site_record f (AtInstruction i p) = link_after f (byte_at f (link_after f (byte_at f 0 2) i.0) 2) p
site_record f (AtLock l) = link_after f (byte_at f 0 3) l
