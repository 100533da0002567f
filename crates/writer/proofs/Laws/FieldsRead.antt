-- The table of a file whose walk of records passed earns neither 4 nor 5, and has nothing past its counts.
-- Assumes nothing.
use Rattle.std.specs.Prelude.{◌≡◌, refl, ◌≢◌, ℕ, zero, suc, ◌+◌, ◌*◌, ◌^◌, ◌≤◌, ◌<◌, true, not, ◌&&◌, List, [], ◌∷◌, map, length, get_or, take, drop, ltb, eqb}
use Rattle.std.proofs.Common.{ap, ◌∙◌, arith, length-drop, length-take-le, lt-ltb, ne_eqb}
use Rattle.notation.specs.Checked.{passed}
use Rattle.notation.specs.Lists.{padded}
use Rattle.notation.specs.Ordered.{Every}
use Rattle.notation.specs.Laws.CheckedLaws.{then_goes, require_holds}
use Rattle.notation.specs.Laws.PaddedLaws.{padded_length, every_take, every_padded}
use Rattle.notation.specs.Laws.PairLaws.{every_of, every_map}
use Rattle.notation.specs.Laws.TestLaws.{and_both}
use Rattle.taskfile.specs.declared.Instruction.{Instruction}
use Rattle.taskfile.specs.declared.Kind.{Kind}
use Rattle.taskfile.specs.declared.Kind.TheVariants.{Header, LockRecord, InstructionRecord}
use Rattle.taskfile.specs.Chains.{Chains, TaskChain, most_tasks, most_locks, most_instructions, chains_of}
use Rattle.taskfile.proofs.Laws.ChainLaws.{tasks_held, ceilings_held, holdings_held, body_held}
use Rattle.taskfile.specs.Records.{File, byte_at, wide_at, next, tidy, in_range, zero_from, instruction_at}
use Rattle.taskfile.specs.Records.{tidy_instruction, instruction_in_range, window_in_range}
use Rattle.taskfile.specs.Tables.{end_instruction, no_task, entry_at, table_at}
use Rattle.writer.specs.Claims.{claimed_tasks, claimed_body, claimed_locks}
use Rattle.writer.specs.Covered.{covered, covered_entry}
use Rattle.writer.specs.Values.{Bytes, Fits, FitsEntry, ByteFields}
use Rattle.writer.specs.Fields.{body_fields, task_fields, lock_fields, fields}
use Rattle.writer.proofs.Laws.ChainRecords.{GoodRecord, LedChain, LedTasks, chains_led}
use Rattle.writer.proofs.Laws.LaidChainLaws.{no_task_fits}
use Rattle.writer.proofs.Laws.ClaimLaws.{body_spelled, tasks_spelled, locks_spelled}
use Rattle.writer.proofs.Laws.LockLaws.{lock_at}
use Rattle.writer.proofs.Laws.WideBytesLaws.{Wide}

-- ---- chains that passed

-- the test of an instruction's fields
instruction_tests : (f : File) (r : ℕ) → GoodRecord InstructionRecord f r
    → (tidy_instruction (instruction_at f r) && instruction_in_range (instruction_at f r)) ≡ true
unfolding tidy in_range
instruction_tests f r good =
    let clean = (and_both (tidy_instruction (instruction_at f r)) (zero_from f r 6 10) good.unused_zero).0 in
    rw (clean, good.values_in_range) refl

-- each chain within its limit earns neither 4 nor 5: a body, the locks, the tasks with their bodies
body_passes : (i p : ℕ) (f : File) (index : ℕ) (l : List ℕ) → LedChain InstructionRecord f index l → p + length l ≤ 16
    → body_fields i p (map (instruction_at f) l) ≡ passed tt
unfolding body_fields
body_passes i p f index [] led room = refl
body_passes i p f index (r ∷ others) led room =
    require_holds (ltb p 16) 5 _ _ (lt-ltb p 16 (omega arith))
    ∙ require_holds _ 4 _ _ (instruction_tests f r led.1)
    ∙ body_passes i (suc p) f (next f r) others led.2 (omega arith)

locks_pass : (n : ℕ) (f : File) (index : ℕ) (l : List ℕ) → LedChain LockRecord f index l → n + length l ≤ 8
    → lock_fields n (map (lock_at f) l) ≡ passed tt
unfolding lock_fields in_range lock_at
locks_pass n f index [] led room = refl
locks_pass n f index (r ∷ others) led room =
    require_holds (ltb n 8) 5 _ _ (lt-ltb n 8 (omega arith))
    ∙ require_holds _ 4 _ _ led.1.values_in_range
    ∙ locks_pass (suc n) f (next f r) others led.2 (omega arith)

-- a chain that some index leads to is not empty
led_some : (kind : Kind) (f : File) (index : ℕ) (l : List ℕ) → LedChain kind f index l → (index ≡ 0 → ⊥) → length l ≢ 0
led_some kind f index [] led some e = some led
led_some kind f index (r ∷ others) led some e = absurd (omega arith)

tasks_pass : (i : ℕ) (f : File) (index : ℕ) (ts : List TaskChain) → LedTasks f index ts → i + length ts ≤ 8
    → task_fields i (map (entry_at f) ts) ≡ passed tt
unfolding task_fields in_range entry_at
tasks_pass i f index [] led room = refl
tasks_pass i f index (t ∷ others) led room =
    let some = led_some InstructionRecord f (byte_at f t.task_record 2) t.body led.2 led.5 in
    let body : body_fields i 0 (claimed_body (entry_at f t)) ≡ passed tt =
    rw (body_spelled f t led.3) (body_passes i 0 f (byte_at f t.task_record 2) t.body led.2 (omega (arith, led.3))) in
    require_holds (ltb i 8) 5 _ _ (lt-ltb i 8 (omega arith))
    ∙ require_holds _ 4 _ _ led.1.values_in_range
    ∙ require_holds _ 5 _ _ (ap not (ne_eqb (length t.body) 0 some))
    ∙ then_goes _ body
    ∙ tasks_pass (suc i) f (next f t.task_record) others led.4 (omega arith)

-- ---- the table of a file

tasks_some : (f : File) (index : ℕ) (ts : List TaskChain) → LedTasks f index ts → (index ≡ 0 → ⊥) → length ts ≢ 0
tasks_some f index [] led some e = some led
tasks_some f index (t ∷ others) led some e = absurd (omega arith)

window_read : (f : File) (c : Chains) → in_range f 0 Header ≡ true → window_in_range (table_at f c).window ≡ true
unfolding in_range table_at
window_read f c h = h

count_read : (f : File) (c : Chains) → length c.tasks ≢ 0 → (table_at f c).tasks ≢ 0
unfolding table_at
count_read f c h = h

-- such a table earns neither 4 nor 5
pub fields_read : (f : File) {c : Chains} → chains_of f ≡ passed c → fields (table_at f c) ≡ passed tt
unfolding fields
fields_read f {c} e =
    let led = chains_led f e in
    let t = table_at f c in
    let some = tasks_some f (byte_at f 0 2) c.tasks led.tasks led.some_tasks in
    let tasks : task_fields 0 (claimed_tasks t) ≡ passed tt =
    rw (tasks_spelled f c led.few_tasks) (tasks_pass 0 f (byte_at f 0 2) c.tasks led.tasks (omega (arith, led.few_tasks))) in
    let locks : lock_fields 0 (claimed_locks t) ≡ passed tt =
    rw (locks_spelled f c led.few_locks) (locks_pass 0 f (byte_at f 0 3) c.locks led.locks (omega (arith, led.few_locks))) in
    require_holds (window_in_range t.window) 4 _ _ (window_read f c led.header.values_in_range)
    ∙ require_holds (not (eqb t.tasks 0)) 5 _ _ (ap not (ne_eqb t.tasks 0 (count_read f c some)))
    ∙ then_goes _ tasks
    ∙ locks

-- and what stands past its counts is blank already
entry_covered : (f : File) (t : TaskChain) → length t.body ≤ most_instructions → covered_entry (entry_at f t) ≡ entry_at f t
unfolding covered_entry entry_at
entry_covered f t few =
    ap (λ (body : List Instruction). record {
      execution = wide_at f t.task_record 4;
      period = wide_at f t.task_record 8;
      arrival = wide_at f t.task_record 12;
      length = length t.body;
      body = padded most_instructions end_instruction body;
    }) (body_held f t few)

entries_covered : (f : File) (index : ℕ) (ts : List TaskChain) → LedTasks f index ts
    → map covered_entry (map (entry_at f) ts) ≡ map (entry_at f) ts
entries_covered f index [] led = refl
entries_covered f index (t ∷ others) led =
    let rest = entries_covered f (next f t.task_record) others led.4 in
    λ j. entry_covered f t led.3 j ∷ rest j

pub covered_read : (f : File) {c : Chains} → chains_of f ≡ passed c → covered (table_at f c) ≡ table_at f c
unfolding covered table_at
covered_read f {c} e =
    let led = chains_led f e in
    let tasks = ap (map covered_entry) (tasks_held f c led.few_tasks) ∙ entries_covered f (byte_at f 0 2) c.tasks led.tasks in
    let ceilings = ceilings_held f c led.few_locks in
    let holdings = holdings_held f c led.few_locks in
    λ j. record {
      window = wide_at f 0 4;
      store = take 8 (drop 8 f);
      tasks = length c.tasks;
      entries = padded most_tasks no_task (tasks j);
      locks = length c.locks;
      ceilings = padded most_locks 0 (ceilings j);
      holdings = padded most_locks 0 (holdings j);
    }

-- ---- the table of a file of bytes fits its type

byte_small : (f : File) → Bytes f → (r k : ℕ) → byte_at f r k < 256
unfolding byte_at
byte_small f small r k = any_small f small (16 * r + k)
  where
    any_small : (xs : List ℕ) → Bytes xs → (n : ℕ) → get_or xs n 0 < 256
    any_small [] h n = omega arith
    any_small (x ∷ xs) h zero = h.0
    any_small (x ∷ xs) h (suc n) = any_small xs h.1 n

wide_small : (f : File) → Bytes f → (r k : ℕ) → wide_at f r k < 2 ^ 32
unfolding wide_at
wide_small f small r k =
    omega (arith, byte_small f small r k, byte_small f small r (k + 1), byte_small f small r (k + 2), byte_small f small r (k + 3))

bytes_dropped : (n : ℕ) (f : File) → Bytes f → Bytes (drop n f)
bytes_dropped zero f small = small
bytes_dropped (suc n) [] small = tt
bytes_dropped (suc n) (b ∷ f) small = bytes_dropped n f small.1

instruction_at_small : (f : File) → Bytes f → (r : ℕ) → ByteFields (instruction_at f r)
unfolding instruction_at
instruction_at_small f small r = (byte_small f small r 3, byte_small f small r 4, byte_small f small r 5)

entry_fits : (f : File) → Bytes f → (t : TaskChain) → FitsEntry (entry_at f t)
unfolding entry_at
entry_fits f small t =
    record {
      execution = wide_small f small t.task_record 4;
      period = wide_small f small t.task_record 8;
      arrival = wide_small f small t.task_record 12;
      body = padded_length most_instructions end_instruction (map (instruction_at f) t.body);
      instructions =
          every_padded ByteFields most_instructions end_instruction (map (instruction_at f) t.body)
          (omega arith, omega arith, omega arith)
          (every_map ByteFields (instruction_at f) t.body
          (every_of (λ r. ByteFields (instruction_at f r)) (instruction_at_small f small) t.body));
    }

pub fits_read : (f : File) → Bytes f → {c : Chains} → chains_of f ≡ passed c → Fits (table_at f c)
unfolding table_at
fits_read f small {c} e =
    record {
      window = wide_small f small 0 4;
      store = length-take-le 8 (drop 8 f) (omega (arith, length-drop 8 f, (chains_led f e).whole));
      values = every_take (λ (b : ℕ). b < 256) 8 (drop 8 f) (bytes_dropped 8 f small);
      entries_full = padded_length most_tasks no_task (map (entry_at f) c.tasks);
      entries =
          every_padded FitsEntry most_tasks no_task (map (entry_at f) c.tasks) no_task_fits
          (every_map FitsEntry (entry_at f) c.tasks (entries_fit c.tasks));
      ceilings = padded_length most_locks 0 (map (λ r. byte_at f r 2) c.locks);
      holdings_full = padded_length most_locks 0 (map (λ r. wide_at f r 4) c.locks);
      holdings =
          every_padded Wide most_locks 0 (map (λ r. wide_at f r 4) c.locks) (omega arith)
          (every_map Wide (λ r. wide_at f r 4) c.locks
          (every_of (λ r. Wide (wide_at f r 4)) (λ r. wide_small f small r 4) c.locks));
    }
  where
    entries_fit : (ts : List TaskChain) → Every (λ (t : TaskChain). FitsEntry (entry_at f t)) ts
    entries_fit [] = tt
    entries_fit (t ∷ ts) = (entry_fits f small t, entries_fit ts)
