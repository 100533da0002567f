-- A table in memory, as a caller of C lends it: 696 bytes, wide fields low byte first. Bytes 0 to 3 are the window,
-- 4 to 11 the store, 12 the number of tasks, 13 the number of locks, 16 to 23 the ceilings; from byte 24 on stand eight
-- entries of 80 bytes: execution time, period and first arrival, 4 bytes each, byte 12 the number of instructions, and
-- from byte 16 on sixteen instructions of 4 bytes: operation, a, b, c. From byte 664 on stand eight holding times, 4
-- bytes each (document 02, E4). The other bytes are unused. Any bytes are a table.
-- Assumes nothing.
use Rattle.std.specs.Prelude.{ℕ, ◌+◌, ◌*◌, List, [], ◌∷◌, ◌++◌, map, get_or}
use Rattle.notation.specs.Lists.{up_to, bytes_at, each}
use Rattle.taskfile.specs.declared.Instruction.{Instruction}
use Rattle.taskfile.specs.declared.Table.{Table}
use Rattle.taskfile.specs.declared.TaskEntry.{TaskEntry}
use Rattle.taskfile.specs.Chains.{most_tasks, most_locks, most_instructions}
use Rattle.writer.specs.Layout.{wide_bytes}

abbrev pub table_bytes : ℕ
table_bytes = 696

-- where the table's parts stand
abbrev pub window_at : ℕ
window_at = 0

abbrev pub store_at : ℕ
store_at = 4

abbrev pub task_count_at : ℕ
task_count_at = 12

abbrev pub lock_count_at : ℕ
lock_count_at = 13

abbrev pub ceilings_at : ℕ
ceilings_at = 16

abbrev pub entries_at : ℕ
entries_at = 24

abbrev pub holdings_at : ℕ
holdings_at = 664

-- how many bytes an entry has, and where its parts stand in it, after its execution time
abbrev pub entry_size : ℕ
entry_size = 80

abbrev pub period_at : ℕ
period_at = 4

abbrev pub arrival_at : ℕ
arrival_at = 8

abbrev pub length_at : ℕ
length_at = 12

abbrev pub body_at : ℕ
body_at = 16

-- how many bytes a wide field has, and an instruction
abbrev pub wide_size : ℕ
wide_size = 4

abbrev pub instruction_size : ℕ
instruction_size = 4

unfoldable pub byte_in : List ℕ → ℕ → ℕ
byte_in memory at = get_or memory at 0

unfoldable pub wide_in : List ℕ → ℕ → ℕ
wide_in memory at =
    byte_in memory at + 256 * byte_in memory (at + 1) + 65536 * byte_in memory (at + 2) + 16777216 * byte_in memory (at + 3)

-- what stands at a byte of the memory: an instruction, an entry; the holding times; and the whole table
unfoldable pub instruction_in : List ℕ → ℕ → Instruction
instruction_in memory at =
    record {
      operation = byte_in memory at;
      a = byte_in memory (at + 1);
      b = byte_in memory (at + 2);
      c = byte_in memory (at + 3);
    }

unfoldable pub entry_in : List ℕ → ℕ → TaskEntry
entry_in memory at =
    record {
      execution = wide_in memory at;
      period = wide_in memory (at + period_at);
      arrival = wide_in memory (at + arrival_at);
      length = byte_in memory (at + length_at);
      body = map (λ p. instruction_in memory (at + body_at + instruction_size * p)) (up_to most_instructions);
    }

unfoldable pub holdings_in : List ℕ → List ℕ
holdings_in memory = map (λ l. wide_in memory (holdings_at + wide_size * l)) (up_to most_locks)

unfoldable pub table_in : List ℕ → Table
table_in memory =
    record {
      window = wide_in memory window_at;
      store = bytes_at memory store_at 8;
      tasks = byte_in memory task_count_at;
      entries = map (λ i. entry_in memory (entries_at + entry_size * i)) (up_to most_tasks);
      locks = byte_in memory lock_count_at;
      ceilings = bytes_at memory ceilings_at most_locks;
      holdings = holdings_in memory;
    }

-- the bytes of an instruction, of an entry, and of the whole table; unused bytes are zero
unfoldable pub instruction_bytes : Instruction → List ℕ
instruction_bytes i = i.operation ∷ i.a ∷ i.b ∷ i.c ∷ []

unfoldable pub entry_bytes : TaskEntry → List ℕ
entry_bytes e =
    wide_bytes e.execution
    ++ wide_bytes e.period
    ++ wide_bytes e.arrival
    ++ (e.length ∷ 0 ∷ 0 ∷ 0 ∷ [])
    ++ each e.body instruction_bytes

unfoldable pub memory_of : Table → List ℕ
memory_of t =
    wide_bytes t.window
    ++ t.store
    ++ (t.tasks ∷ t.locks ∷ 0 ∷ 0 ∷ [])
    ++ t.ceilings
    ++ each t.entries entry_bytes
    ++ each t.holdings wide_bytes
