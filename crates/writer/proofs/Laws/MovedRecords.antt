-- One record of a file, moved with its links, is the record that the layout writes: a header, a task, a lock, an
-- instruction.
-- Assumes nothing.
use Rattle.std.specs.Prelude.{ℕ, zero, suc, ◌+◌, ◌*◌, ◌/◌, ◌%◌, ◌≤◌, ◌<◌, ◌≡◌, refl, true, List, [], ◌∷◌, ◌++◌, map, eqb, length, get_or, take, drop, replicate}
use Rattle.std.proofs.Common.{arith, ap, ◌∙◌, length-drop, length-take-le, get_or-take, get_or-drop, ext_get_or}
use Rattle.std.proofs.Math.Decide.{dec_lt}
use Rattle.std.proofs.Math.Path.{sym}
use Rattle.std.proofs.Math.ListN.{get_or-eq_default}
use borrow.Author.Tests.{eqb-true}
use Rattle.std.specs.Prelude.{if◌then◌else◌}
use Rattle.notation.specs.Lists.{from, up_to, member, all}
use Rattle.notation.specs.Ordered.{Every}
use Rattle.notation.specs.Laws.ListLaws.{from_length, get_or_from}
use Rattle.notation.specs.Laws.PairLaws.{every_at}
use Rattle.notation.specs.Laws.QuantifierLaws.{map_at}
use Rattle.notation.specs.Laws.TestLaws.{and_both}
use Rattle.taskfile.specs.declared.Kind.TheVariants.{Header, TaskRecord, LockRecord, InstructionRecord}
use Rattle.taskfile.specs.Chains.{Chains, TaskChain}
use Rattle.taskfile.specs.Records.{File, kind_number, byte_at, wide_at, next, tidy, tidy_instruction, zero_from, instruction_at}
use Rattle.taskfile.specs.Tables.{entry_at, table_at}
use Rattle.writer.proofs.Laws.ChainRecords.{GoodRecord}
use Rattle.writer.proofs.Laws.LockLaws.{lock_at}
use Rattle.writer.specs.Layout.{wide_bytes, header_record, task_record, lock_record, instruction_record}
use Rattle.writer.specs.Positions.{position_of}
use Rattle.writer.specs.WalkOrder.{link_bytes, moved_record}

-- ---- the fields

-- a wide field's four bytes
wide_bytes_lem : (a b c d : ℕ) → a < 256 → b < 256 → c < 256 → d < 256
    → wide_bytes (a + 256 * b + 65536 * c + 16777216 * d) ≡ a ∷ b ∷ c ∷ d ∷ []
unfolding wide_bytes
wide_bytes_lem a b c d ha hb hc hd =
    let x = a + 256 * b + 65536 * c + 16777216 * d in
    let first : x % 256 ≡ a = omega arith in
    let past : x / 256 ≡ b + 256 * c + 65536 * d = omega arith in
    let second : x / 256 % 256 ≡ b = ap (λ (n : ℕ). n % 256) past ∙ omega arith in
    let later : x / 65536 ≡ c + 256 * d = omega arith in
    let third : x / 65536 % 256 ≡ c = ap (λ (n : ℕ). n % 256) later ∙ omega arith in
    let last : x / 16777216 ≡ d = omega arith in
    let fourth : x / 16777216 % 256 ≡ d = ap (λ (n : ℕ). n % 256) last ∙ omega arith in
    λ j. first j ∷ second j ∷ third j ∷ fourth j ∷ []

module _ (f : File) (small : Every (λ (b : ℕ). b < 256) f) where
  byte_below : (r k : ℕ) → byte_at f r k < 256
  unfolding byte_at
  byte_below r k =
      elim (dec_lt (16 * r + k) (length f)) [
        | yes inside ↦ every_at (λ (b : ℕ). b < 256) f (16 * r + k) 0 small inside
        | no outside ↦ omega (arith, get_or-eq_default f 0 {n = 16 * r + k} (omega arith))
      ]

  -- a wide field of a record
  field_bytes : (r k : ℕ)
      → wide_bytes (wide_at f r k) ≡ byte_at f r k ∷ byte_at f r (k + 1) ∷ byte_at f r (k + 2) ∷ byte_at f r (k + 3) ∷ []
  unfolding wide_at
  field_bytes r k =
      wide_bytes_lem (byte_at f r k) (byte_at f r (k + 1)) (byte_at f r (k + 2)) (byte_at f r (k + 3))
      (byte_below r k) (byte_below r (k + 1)) (byte_below r (k + 2)) (byte_below r (k + 3))

-- bytes that are zero
zero_bytes : (f : File) (r k n : ℕ) → zero_from f r k n ≡ true → map (byte_at f r) (from k n) ≡ replicate n 0
unfolding zero_from from all
zero_bytes f r k zero h = refl
zero_bytes f r k (suc n) h =
    let parts = and_both (eqb (byte_at f r k) 0) _ h in
    let first : byte_at f r k ≡ 0 = eqb-true _ _ parts.0 in
    let others = zero_bytes f r (suc k) n parts.1 in
    λ j. first j ∷ others j

-- the store
store_bytes : (f : File) → 16 ≤ length f → take 8 (drop 8 f) ≡ map (byte_at f 0) (from 8 8)
unfolding byte_at from
store_bytes f whole =
    let size : length (take 8 (drop 8 f)) ≡ 8 = length-take-le 8 (drop 8 f) (omega (arith, length-drop 8 f)) in
    ext_get_or 0 (take 8 (drop 8 f)) (map (byte_at f 0) (from 8 8)) size
    (λ k lt.
    (let inside : k < 8 = omega (arith, size) in
    get_or-take 8 (drop 8 f) k 0 inside
    ∙ get_or-drop 8 f k 0
    ∙ ap (λ (n : ℕ). get_or f n 0) (omega arith)
    ∙ sym (map_at (byte_at f 0) (from 8 8) k 0 0 (omega (arith, from_length 8 8))
    ∙ ap (byte_at f 0) (get_or_from 8 8 k 0 inside))))

-- ---- a record with its links moved

-- record r with the links that stand in the listed bytes moved
unfoldable moved_by : List ℕ → File → List ℕ → ℕ → List ℕ
moved_by links f walk r = map (λ k. if member k links then position_of (byte_at f r k) walk else byte_at f r k) (up_to 16)

moved_by_lem : (f : File) (walk : List ℕ) (r kind : ℕ) → byte_at f r 0 ≡ kind
    → moved_record f walk r ≡ moved_by (link_bytes kind) f walk r
unfolding moved_record moved_by
moved_by_lem f walk r kind e = ap (λ k. moved_by (link_bytes k) f walk r) e

-- an instruction
pub instruction_moved : (f : File) (walk : List ℕ) (r : ℕ) → GoodRecord InstructionRecord f r
    → moved_record f walk r ≡ instruction_record (instruction_at f r) (position_of (next f r) walk)
unfolding moved_by link_bytes member up_to from instruction_record instruction_at next kind_number tidy
instruction_moved f walk r good =
    let kind : byte_at f r 0 ≡ 4 = good.kind_byte in
    let unused = (and_both (tidy_instruction (instruction_at f r)) (zero_from f r 6 10) good.unused_zero).1 in
    let zeros = zero_bytes f r 6 10 unused in
    moved_by_lem f walk r 4 kind
    ∙ (λ j.
    kind j ∷ position_of (byte_at f r 1) walk ∷ byte_at f r 2 ∷ byte_at f r 3 ∷ byte_at f r 4 ∷ byte_at f r 5 ∷ zeros j)

module _ (f : File) (small : Every (λ (b : ℕ). b < 256) f) (walk : List ℕ) where
  -- a task
  pub task_moved : (t : TaskChain) → GoodRecord TaskRecord f t.task_record
      → moved_record f walk t.task_record
      ≡ task_record (entry_at f t) (position_of (next f t.task_record) walk)
      (position_of (byte_at f t.task_record 2) walk)
  unfolding moved_by link_bytes member up_to from task_record entry_at next kind_number tidy
  task_moved t good =
      let r = t.task_record in
      let kind : byte_at f r 0 ≡ 2 = good.kind_byte in
      let unused : byte_at f r 3 ≡ 0 = eqb-true _ _ good.unused_zero in
      let execution = sym (field_bytes f small r 4) in
      let period = sym (field_bytes f small r 8) in
      let arrival = sym (field_bytes f small r 12) in
      moved_by_lem f walk r 2 kind
      ∙ (λ j.
      kind j ∷ position_of (byte_at f r 1) walk ∷ position_of (byte_at f r 2) walk ∷ unused j
      ∷ ((execution j ++ period j) ++ arrival j))

  -- a lock
  pub lock_moved : (r : ℕ) → GoodRecord LockRecord f r
      → moved_record f walk r ≡ lock_record (lock_at f r) (position_of (next f r) walk)
  unfolding moved_by link_bytes member up_to from lock_record lock_at next kind_number tidy
  lock_moved r good =
      let kind : byte_at f r 0 ≡ 3 = good.kind_byte in
      let tests = and_both (eqb (byte_at f r 3) 0) (zero_from f r 8 8) good.unused_zero in
      let unused : byte_at f r 3 ≡ 0 = eqb-true _ _ tests.0 in
      let holding = sym (field_bytes f small r 4) in
      let zeros = zero_bytes f r 8 8 tests.1 in
      moved_by_lem f walk r 3 kind
      ∙ (λ j. kind j ∷ position_of (byte_at f r 1) walk ∷ byte_at f r 2 ∷ unused j ∷ (holding j ++ zeros j))

  -- the header of a file that has one whole
  pub header_moved : (c : Chains) → 16 ≤ length f → GoodRecord Header f 0
      → moved_record f walk 0
      ≡ header_record (table_at f c) (position_of (byte_at f 0 2) walk) (position_of (byte_at f 0 3) walk)
  unfolding moved_by link_bytes member up_to from header_record table_at kind_number tidy
  header_moved c whole good =
      let kind : byte_at f 0 0 ≡ 1 = good.kind_byte in
      let unused : byte_at f 0 1 ≡ 0 = eqb-true _ _ good.unused_zero in
      let window = sym (field_bytes f small 0 4) in
      let store = sym (store_bytes f whole) in
      moved_by_lem f walk 0 1 kind
      ∙ (λ j.
      kind j ∷ unused j ∷ position_of (byte_at f 0 2) walk ∷ position_of (byte_at f 0 3) walk ∷ (window j ++ store j))
