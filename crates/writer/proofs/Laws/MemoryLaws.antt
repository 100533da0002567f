-- Laws of a table in memory: how long its bytes are, that a table is read back from them, and that what any bytes hold
-- is a table that fits.
-- Assumes nothing.
use Rattle.std.specs.Prelude.{◌≡◌, refl, ℕ, zero, suc, ◌+◌, ◌*◌, ◌<◌, ◌^◌, List, [], ◌∷◌, ◌++◌, map, length}
use Rattle.std.proofs.Common.{sym, ap, ◌∙◌, arith, append_assoc, length-append}
use Rattle.notation.specs.Laws.PairLaws.{every_of, every_map}
use Rattle.notation.specs.Laws.TabulateLaws.{values_length, bytes_at_length}
use Rattle.notation.specs.Lists.{up_to, bytes_at, each}
use Rattle.notation.specs.Ordered.{Every}
use Rattle.taskfile.specs.declared.Instruction.{Instruction}
use Rattle.taskfile.specs.declared.Table.{Table}
use Rattle.taskfile.specs.declared.TaskEntry.{TaskEntry}
use Rattle.taskfile.specs.Chains.{most_tasks, most_locks, most_instructions}
use Rattle.writer.specs.Values.{Fits, FitsEntry, ByteFields}
use Rattle.writer.proofs.Laws.MemoryReading.{byte_behind, wide_behind, wide_skipped, bytes_behind, parts_long, parts_back}
use Rattle.writer.proofs.Laws.WideBytesLaws.{Wide}
use Rattle.writer.specs.Layout.{wide_bytes}
use Rattle.writer.specs.Memory.{table_bytes, store_at, task_count_at, lock_count_at, ceilings_at, entries_at, holdings_at}
use Rattle.writer.specs.Memory.{entry_size, period_at, arrival_at, length_at, body_at, wide_size, instruction_size}
use Rattle.writer.specs.Memory.{byte_in, wide_in, instruction_in, entry_in, holdings_in, table_in}
use Rattle.writer.specs.Memory.{instruction_bytes, entry_bytes, memory_of}

-- ---- an instruction

-- any instruction
abbrev Any : Instruction → Type 0
Any i = Unit {0}

instruction_length : (i : Instruction) → Any i → length (instruction_bytes i) ≡ instruction_size
unfolding instruction_bytes
instruction_length i any = refl

instruction_back : (front : List ℕ) (i : Instruction) (rest : List ℕ) (place : ℕ) → Any i → length front ≡ place
    → instruction_in (front ++ (instruction_bytes i ++ rest)) place ≡ i
unfolding instruction_in instruction_bytes
instruction_back front i rest place any is =
    let bytes = instruction_bytes i ++ rest in
    let first = byte_behind front bytes 0 place (omega arith) in
    let second = byte_behind front bytes 1 (place + 1) (omega arith) in
    let third = byte_behind front bytes 2 (place + 2) (omega arith) in
    let fourth = byte_behind front bytes 3 (place + 3) (omega arith) in
    λ j. record { operation = first j; a = second j; b = third j; c = fourth j }

-- ---- an entry

-- the bytes of a body
body_length : (e : TaskEntry) → FitsEntry e → length (each e.body instruction_bytes) ≡ 64
body_length e fits =
    parts_long instruction_in instruction_bytes instruction_size Any instruction_length instruction_back e.body
    (every_of Any (λ i. tt) e.body)
    ∙ ap (λ (n : ℕ). 4 * n) fits.body

entry_length : (e : TaskEntry) → FitsEntry e → length (entry_bytes e) ≡ entry_size
unfolding entry_bytes wide_bytes
entry_length e fits = omega (arith, body_length e fits)

-- what stands before its body
entry_front : TaskEntry → List ℕ
entry_front e =
    wide_bytes e.execution ++ wide_bytes e.period ++ wide_bytes e.arrival ++ (e.length ∷ 0 ∷ 0 ∷ 0 ∷ [])

entry_back : (front : List ℕ) (e : TaskEntry) (rest : List ℕ) (place : ℕ) → FitsEntry e → length front ≡ place
    → entry_in (front ++ (entry_bytes e ++ rest)) place ≡ e
unfolding entry_in entry_bytes wide_bytes entry_front
entry_back front e rest place fits is =
    let bodies = each e.body instruction_bytes in
    let first : wide_in (front ++ (entry_bytes e ++ rest)) place ≡ e.execution =
    wide_behind front _ e.execution place is fits.execution in
    let second : wide_in (front ++ (entry_bytes e ++ rest)) (place + period_at) ≡ e.period =
    wide_skipped front (wide_bytes e.execution) _ e.period (place + period_at) (omega arith) fits.period in
    let third : wide_in (front ++ (entry_bytes e ++ rest)) (place + arrival_at) ≡ e.arrival =
    wide_skipped front (wide_bytes e.execution ++ wide_bytes e.period) _ e.arrival (place + arrival_at) (omega arith)
    fits.arrival in
    let fourth = byte_behind front (entry_bytes e ++ rest) length_at (place + length_at) (omega arith) in
    let before : front ++ (entry_bytes e ++ rest) ≡ (front ++ entry_front e) ++ (bodies ++ rest) =
    sym (append_assoc front (entry_front e) (bodies ++ rest)) in
    let body : List ℕ → List Instruction = λ l.
    map (λ p. instruction_in l (place + body_at + instruction_size * p)) (up_to most_instructions) in
    let fifth : body (front ++ (entry_bytes e ++ rest)) ≡ e.body =
    ap body before
    ∙ parts_back instruction_in instruction_bytes instruction_size Any instruction_length instruction_back (front ++ entry_front e)
    e.body rest (place + body_at) most_instructions (every_of Any (λ i. tt) e.body)
    (length-append front (entry_front e) ∙ omega arith) fits.body in
    λ j. record { execution = first j; period = second j; arrival = third j; length = fourth j; body = fifth j }

-- ---- a holding time

wide_length : (x : ℕ) → Wide x → length (wide_bytes x) ≡ wide_size
unfolding wide_bytes
wide_length x fits = refl

wide_back_at : (front : List ℕ) (x : ℕ) (rest : List ℕ) (place : ℕ) → Wide x → length front ≡ place
    → wide_in (front ++ (wide_bytes x ++ rest)) place ≡ x
wide_back_at front x rest place fits is = wide_behind front rest x place is fits

-- ---- a table

entries_size : (t : Table) → Fits t → length (each t.entries entry_bytes) ≡ 640
entries_size t fits =
    parts_long entry_in entry_bytes entry_size FitsEntry entry_length entry_back t.entries fits.entries
    ∙ ap (λ (n : ℕ). entry_size * n) fits.entries_full

-- how many bytes a table that fits takes
pub memory_length : (t : Table) → Fits t → length (memory_of t) ≡ table_bytes
unfolding memory_of wide_bytes
memory_length t fits =
    let entries = each t.entries entry_bytes in
    let holdings = each t.holdings wide_bytes in
    let wide = parts_long wide_in wide_bytes wide_size Wide wide_length wide_back_at t.holdings fits.holdings in
    let store = wide_bytes t.window ++ t.store in
    let counts = t.tasks ∷ t.locks ∷ 0 ∷ 0 ∷ [] in
    length-append (store ++ counts ++ t.ceilings ++ entries) holdings
    ∙ omega (
      arith,
      entries_size t fits,
      wide ∙ ap (λ (n : ℕ). 4 * n) fits.holdings_full,
      length-append (store ++ counts ++ t.ceilings) entries,
      length-append (store ++ counts) t.ceilings,
      length-append store counts,
      length-append (wide_bytes t.window) t.store,
      fits.store,
      fits.ceilings,
    )

-- and is read back from them, whatever stands behind
pub memory_table : (t : Table) (rest : List ℕ) → Fits t → table_in (memory_of t ++ rest) ≡ t
unfolding table_in holdings_in memory_of wide_bytes
memory_table t rest fits =
    let window = wide_bytes t.window in
    let counts = t.tasks ∷ t.locks ∷ 0 ∷ 0 ∷ [] in
    let entries = each t.entries entry_bytes in
    let holdings = each t.holdings wide_bytes in
    let toStore = window ++ t.store in
    let toCounts = toStore ++ counts in
    let toCeilings = toCounts ++ t.ceilings in
    let storeLong = length-append window t.store in
    let countsLong = length-append toStore counts in
    let ceilingsLong = length-append toCounts t.ceilings in
    let entriesLong = length-append toCeilings entries in
    let many = entries_size t fits in
    let later = holdings ++ rest in
    let fifth : memory_of t ++ rest ≡ (toCeilings ++ entries) ++ later = append_assoc (toCeilings ++ entries) holdings rest in
    let fourth : memory_of t ++ rest ≡ toCeilings ++ (entries ++ later) =
    fifth ∙ append_assoc toCeilings entries later in
    let third : memory_of t ++ rest ≡ toCounts ++ (t.ceilings ++ (entries ++ later)) =
    fourth ∙ append_assoc toCounts t.ceilings (entries ++ later) in
    let second : memory_of t ++ rest ≡ toStore ++ (counts ++ (t.ceilings ++ (entries ++ later))) =
    third ∙ append_assoc toStore counts (t.ceilings ++ (entries ++ later)) in
    let first : memory_of t ++ rest ≡ window ++ (t.store ++ (counts ++ (t.ceilings ++ (entries ++ later)))) =
    second ∙ append_assoc window t.store (counts ++ (t.ceilings ++ (entries ++ later))) in
    let isWindow : wide_in (memory_of t ++ rest) 0 ≡ t.window =
    ap (λ (l : List ℕ). wide_in l 0) first ∙ wide_behind [] _ t.window 0 refl fits.window in
    let is_store : bytes_at (memory_of t ++ rest) store_at 8 ≡ t.store =
    ap (λ (l : List ℕ). bytes_at l store_at 8) first ∙ bytes_behind window t.store _ 8 store_at refl fits.store in
    let isTasks : byte_in (memory_of t ++ rest) task_count_at ≡ t.tasks =
    ap (λ (l : List ℕ). byte_in l task_count_at) second
    ∙ byte_behind toStore _ 0 task_count_at (omega (arith, storeLong, fits.store)) in
    let isLocks : byte_in (memory_of t ++ rest) lock_count_at ≡ t.locks =
    ap (λ (l : List ℕ). byte_in l lock_count_at) second
    ∙ byte_behind toStore _ 1 lock_count_at (omega (arith, storeLong, fits.store)) in
    let isCeilings : bytes_at (memory_of t ++ rest) ceilings_at most_locks ≡ t.ceilings =
    ap (λ (l : List ℕ). bytes_at l ceilings_at most_locks) third
    ∙ bytes_behind toCounts t.ceilings _ most_locks ceilings_at
    (omega (arith, storeLong, countsLong, fits.store)) fits.ceilings in
    let isEntries : map (λ i. entry_in (memory_of t ++ rest) (entries_at + entry_size * i)) (up_to most_tasks) ≡ t.entries =
    ap (λ (l : List ℕ). map (λ i. entry_in l (entries_at + entry_size * i)) (up_to most_tasks)) fourth
    ∙ parts_back entry_in entry_bytes entry_size FitsEntry entry_length entry_back toCeilings t.entries later
    entries_at most_tasks
    fits.entries (omega (arith, storeLong, countsLong, ceilingsLong, fits.store, fits.ceilings))
    fits.entries_full in
    let isHoldings : holdings_in (memory_of t ++ rest) ≡ t.holdings =
    ap holdings_in fifth
    ∙ parts_back wide_in wide_bytes wide_size Wide wide_length wide_back_at (toCeilings ++ entries) t.holdings rest
    holdings_at most_locks
    fits.holdings
    (omega (arith, storeLong, countsLong, ceilingsLong, entriesLong, many, fits.store, fits.ceilings))
    fits.holdings_full in
    λ j. record {
      window = isWindow j;
      store = is_store j;
      tasks = isTasks j;
      entries = isEntries j;
      locks = isLocks j;
      ceilings = isCeilings j;
      holdings = isHoldings j;
    }

-- ---- any bytes

-- a byte of the memory, or 0 past its end
byte_small : (memory : List ℕ) (at : ℕ) → Every (λ (b : ℕ). b < 256) memory → byte_in memory at < 256
unfolding byte_in
byte_small [] at small = omega arith
byte_small (b ∷ memory) zero small = small.0
byte_small (b ∷ memory) (suc at) small = byte_small memory at small.1

wide_small : (memory : List ℕ) (at : ℕ) → Every (λ (b : ℕ). b < 256) memory → wide_in memory at < 2 ^ 32
unfolding wide_in
wide_small memory at small =
    omega (
      arith,
      byte_small memory at small,
      byte_small memory (at + 1) small,
      byte_small memory (at + 2) small,
      byte_small memory (at + 3) small,
    )

instruction_in_small : (memory : List ℕ) (at : ℕ) → Every (λ (b : ℕ). b < 256) memory → ByteFields (instruction_in memory at)
unfolding instruction_in
instruction_in_small memory at small =
    (byte_small memory (at + 1) small, byte_small memory (at + 2) small, byte_small memory (at + 3) small)

entry_small : (memory : List ℕ) (at : ℕ) → Every (λ (b : ℕ). b < 256) memory → FitsEntry (entry_in memory at)
unfolding entry_in
entry_small memory at small =
    record {
      execution = wide_small memory at small;
      period = wide_small memory (at + period_at) small;
      arrival = wide_small memory (at + arrival_at) small;
      body = values_length (λ p. instruction_in memory (at + body_at + instruction_size * p)) most_instructions;
      instructions =
          every_map ByteFields (λ p. instruction_in memory (at + body_at + instruction_size * p)) (up_to most_instructions)
          (every_of (λ p. ByteFields (instruction_in memory (at + body_at + instruction_size * p)))
          (λ p. instruction_in_small memory (at + body_at + instruction_size * p) small) (up_to most_instructions));
    }

-- whatever bytes hold is a table that fits
pub memory_fits : (memory : List ℕ) → Every (λ (b : ℕ). b < 256) memory → Fits (table_in memory)
unfolding table_in holdings_in bytes_at byte_in
memory_fits memory small =
    let at : ℕ → TaskEntry = λ i. entry_in memory (entries_at + entry_size * i) in
    let holding : ℕ → ℕ = λ l. wide_in memory (holdings_at + wide_size * l) in
    record {
      window = wide_small memory 0 small;
      store = bytes_at_length memory store_at 8;
      values =
          every_map (λ (b : ℕ). b < 256) (λ k. byte_in memory (store_at + k)) (up_to 8)
          (every_of (λ k. byte_in memory (store_at + k) < 256) (λ k. byte_small memory (store_at + k) small) (up_to 8));
      entries_full = values_length at most_tasks;
      entries =
          every_map FitsEntry at (up_to most_tasks)
          (every_of (λ i. FitsEntry (at i)) (λ i. entry_small memory (entries_at + entry_size * i) small) (up_to most_tasks));
      ceilings = bytes_at_length memory ceilings_at most_locks;
      holdings_full = values_length holding most_locks;
      holdings =
          every_map Wide holding (up_to most_locks)
          (every_of (λ l. Wide (holding l)) (λ l. wide_small memory (holdings_at + wide_size * l) small) (up_to most_locks));
    }
