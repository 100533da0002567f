-- What is read back from a record that was laid out: its kind, its links, and whether 4 holds of it.
-- Assumes nothing.
use Rattle.std.specs.Prelude.{◌≡◌, true, ◌&&◌, eqb, length, get_or, replicate}
use Rattle.std.proofs.Common.{ap, ◌∙◌, arith, length-append, get_or-append-add, eq-eqb}
use Prim.Native.Nat.{ℕ, ◌+◌, ◌*◌, ◌/◌, ◌%◌, ◌<◌, ◌^◌}
use Rattle.std.proofs.Math.Bool.{and-true}
use mathlib.Core.List.{List, [], ◌∷◌, ◌++◌}
use Rattle.std.proofs.lemmas.List.{length-replicate, get_or-replicate}
use Rattle.notation.specs.Lists.{from}
use Rattle.notation.specs.Laws.ListLaws.{from_length, get_or_from}
use Rattle.notation.specs.Laws.QuantifierLaws.{at_all}
use Rattle.taskfile.specs.declared.Instruction.{Instruction}
use Rattle.taskfile.specs.declared.Kind.TheVariants.{Header, TaskRecord, LockRecord, InstructionRecord}
use Rattle.taskfile.specs.declared.Table.{Table}
use Rattle.taskfile.specs.declared.TaskEntry.{TaskEntry}
use Rattle.taskfile.specs.Records.{File, kind_number, byte_at, wide_at, next, zero_from, instruction_at, tidy, in_range}
use Rattle.taskfile.specs.Records.{tidy_instruction, instruction_in_range, window_in_range, times_in_range, ceiling_in_range}
use Rattle.writer.specs.declared.Lock.{Lock}
use Rattle.writer.specs.Values.{Fits, FitsEntry}
use Rattle.writer.specs.Layout.{wide_bytes, instruction_record, task_record, lock_record, header_record}
use Rattle.writer.proofs.Laws.LayoutLaws.{header_record_length}
use Rattle.writer.proofs.Laws.PartLaws.{StandsAt, stands_byte}
use Rattle.writer.proofs.Laws.WideBytesLaws.{wide_back}

-- n bytes that are zero one by one
pub zero_from_all : (f : File) (r a n : ℕ) → ((j : ℕ) → j < n → byte_at f r (a + j) ≡ 0) → zero_from f r a n ≡ true
unfolding zero_from
zero_from_all f r a n zeros =
    at_all (λ j. eqb (byte_at f r j) 0) (from a n) 0 (λ k lt.
    let below : k < n = omega (arith, from_length a n) in
    eq-eqb (byte_at f r (get_or (from a n) k 0)) 0 (ap (byte_at f r) (get_or_from a n k 0 below) ∙ zeros k below))

-- bytes before zeros, and then the zeros
zeros_stand : (f : File) (r : ℕ) (bytes : List ℕ) (n : ℕ) → StandsAt f r (bytes ++ replicate n 0)
    → zero_from f r (length bytes) n ≡ true
zeros_stand f r bytes n stands =
    zero_from_all f r (length bytes) n (λ j lt.
    stands_byte f r (bytes ++ replicate n 0) stands (length bytes + j)
    (omega (arith, length-append bytes (replicate {A = ℕ} n 0), length-replicate {A = ℕ} n 0))
    ∙ get_or-append-add bytes (replicate n 0) j 0 ∙ get_or-replicate n j 0 0 lt)

-- a wide field whose four bytes were laid out
wide_stands : (f : File) (r k x : ℕ) → x < 2 ^ 32 → byte_at f r k ≡ x % 256 → byte_at f r (k + 1) ≡ x / 256 % 256
    → byte_at f r (k + 2) ≡ x / 65536 % 256 → byte_at f r (k + 3) ≡ x / 16777216 % 256 → wide_at f r k ≡ x
unfolding wide_at
wide_stands f r k x fits first second third last =
    (λ j. first j + 256 * second j + 65536 * third j + 16777216 * last j) ∙ wide_back x fits

-- ---- an instruction's record

module _ (f : File) (i : Instruction) (link r : ℕ) (stands : StandsAt f r (instruction_record i link)) where
  pub instruction_back : instruction_at f r ≡ i
  unfolding instruction_at instruction_record
  instruction_back =
      let byte = stands_byte f r (instruction_record i link) stands in
      λ k. record {
        operation = byte 2 (omega arith) k;
        a = byte 3 (omega arith) k;
        b = byte 4 (omega arith) k;
        c = byte 5 (omega arith) k;
      }

  pub instruction_kind : byte_at f r 0 ≡ kind_number InstructionRecord
  unfolding kind_number instruction_record
  instruction_kind = stands_byte f r (instruction_record i link) stands 0 (omega arith)

  pub instruction_link : next f r ≡ link
  unfolding next instruction_record
  instruction_link = stands_byte f r (instruction_record i link) stands 1 (omega arith)

  pub instruction_fine : (tidy f r InstructionRecord && in_range f r InstructionRecord)
      ≡ (tidy_instruction i && instruction_in_range i)
  unfolding tidy in_range instruction_record
  instruction_fine =
      rw (instruction_back, zeros_stand f r (4 ∷ link ∷ i.operation ∷ i.a ∷ i.b ∷ i.c ∷ []) 10 stands, and-true)

-- ---- a lock's record

module _ (f : File) (lock : Lock) (link r : ℕ) (stands : StandsAt f r (lock_record lock link)) where
  pub lock_kind : byte_at f r 0 ≡ kind_number LockRecord
  unfolding kind_number lock_record wide_bytes
  lock_kind = stands_byte f r (lock_record lock link) stands 0 (omega arith)

  pub lock_link : next f r ≡ link
  unfolding next lock_record wide_bytes
  lock_link = stands_byte f r (lock_record lock link) stands 1 (omega arith)

  pub ceiling_back : byte_at f r 2 ≡ lock.ceiling
  unfolding lock_record wide_bytes
  ceiling_back = stands_byte f r (lock_record lock link) stands 2 (omega arith)

  pub lock_fine : (tidy f r LockRecord && in_range f r LockRecord) ≡ ceiling_in_range lock.ceiling
  unfolding tidy in_range lock_record wide_bytes
  lock_fine =
      let zero-byte : byte_at f r 3 ≡ 0 = stands_byte f r (lock_record lock link) stands 3 (omega arith) in
      let front : List ℕ = 3 ∷ link ∷ lock.ceiling ∷ 0 ∷ wide_bytes lock.holding in
      rw (zero-byte, ceiling_back, zeros_stand f r front 8 stands)

  pub holding_back : lock.holding < 2 ^ 32 → wide_at f r 4 ≡ lock.holding
  unfolding lock_record wide_bytes
  holding_back fits =
      let byte = stands_byte f r (lock_record lock link) stands in
      wide_stands f r 4 lock.holding fits (byte 4 (omega arith)) (byte 5 (omega arith)) (byte 6 (omega arith))
      (byte 7 (omega arith))

-- ---- a task's record

module _ (f : File) (e : TaskEntry) (link first r : ℕ) (stands : StandsAt f r (task_record e link first)) where
  pub task_kind : byte_at f r 0 ≡ kind_number TaskRecord
  unfolding kind_number task_record wide_bytes
  task_kind = stands_byte f r (task_record e link first) stands 0 (omega arith)

  pub task_link : next f r ≡ link
  unfolding next task_record wide_bytes
  task_link = stands_byte f r (task_record e link first) stands 1 (omega arith)

  pub task_first : byte_at f r 2 ≡ first
  unfolding task_record wide_bytes
  task_first = stands_byte f r (task_record e link first) stands 2 (omega arith)

  module _ (fits : FitsEntry e) where
    pub execution_back : wide_at f r 4 ≡ e.execution
    unfolding task_record wide_bytes
    execution_back =
        let byte = stands_byte f r (task_record e link first) stands in
        wide_stands f r 4 e.execution fits.execution (byte 4 (omega arith)) (byte 5 (omega arith))
        (byte 6 (omega arith)) (byte 7 (omega arith))

    pub period_back : wide_at f r 8 ≡ e.period
    unfolding task_record wide_bytes
    period_back =
        let byte = stands_byte f r (task_record e link first) stands in
        wide_stands f r 8 e.period fits.period (byte 8 (omega arith)) (byte 9 (omega arith))
        (byte 10 (omega arith)) (byte 11 (omega arith))

    pub arrival_back : wide_at f r 12 ≡ e.arrival
    unfolding task_record wide_bytes
    arrival_back =
        let byte = stands_byte f r (task_record e link first) stands in
        wide_stands f r 12 e.arrival fits.arrival (byte 12 (omega arith)) (byte 13 (omega arith))
        (byte 14 (omega arith)) (byte 15 (omega arith))

    pub task_fine : (tidy f r TaskRecord && in_range f r TaskRecord) ≡ times_in_range e.execution e.period
    unfolding tidy in_range task_record wide_bytes
    task_fine =
        let zero-byte : byte_at f r 3 ≡ 0 = stands_byte f r (task_record e link first) stands 3 (omega arith) in
        rw (zero-byte, execution_back, period_back)

-- ---- the header

module _ (f : File) (t : Table) (task lock : ℕ) (fits : Fits t) (stands : StandsAt f 0 (header_record t task lock)) where
  header_byte : (k : ℕ) → k < 16 → byte_at f 0 k ≡ get_or (header_record t task lock) k 0
  header_byte k h =
      stands_byte f 0 (header_record t task lock) stands k (omega (arith, header_record_length t task lock fits.store))

  pub header_kind : byte_at f 0 0 ≡ kind_number Header
  unfolding kind_number header_record wide_bytes
  header_kind = header_byte 0 (omega arith)

  pub header_task : byte_at f 0 2 ≡ task
  unfolding header_record wide_bytes
  header_task = header_byte 2 (omega arith)

  pub header_lock : byte_at f 0 3 ≡ lock
  unfolding header_record wide_bytes
  header_lock = header_byte 3 (omega arith)

  pub window_back : wide_at f 0 4 ≡ t.window
  unfolding header_record wide_bytes
  window_back =
      wide_stands f 0 4 t.window fits.window (header_byte 4 (omega arith)) (header_byte 5 (omega arith))
      (header_byte 6 (omega arith)) (header_byte 7 (omega arith))

  pub header_fine : (tidy f 0 Header && in_range f 0 Header) ≡ window_in_range t.window
  unfolding tidy in_range header_record wide_bytes
  header_fine =
      let zero-byte : byte_at f 0 1 ≡ 0 = header_byte 1 (omega arith) in
      rw (zero-byte, window_back)
