-- The records of a task file, and number 4 for one record. Document 01, "The task file" and "Instructions": records
-- of 16 bytes, a kind in byte 0, the index of the next record of the chain in byte 1. Which bytes are unused and
-- which values are in range stand apart, since a file may be tidied for the one and not the other.
-- Document 02, E4: "Lock bytes 4-7 become the longest holding time H, no longer unused bytes." Any H is in range.
-- Document 02, E7: "Field c of Pick becomes the lowest value, c ≤ b ≤ 15"; "4 for c above b".
-- Assumes nothing.
use Rattle.std.specs.Prelude.{ℕ, ◌+◌, ◌*◌, ◌/◌, Bool, true, ◌&&◌, List, [], ◌∷◌, length, get_or, leb, ltb, eqb}
use Rattle.taskfile.specs.declared.Instruction.{Instruction}
use Rattle.taskfile.specs.declared.Kind.{Kind}
use Rattle.taskfile.specs.declared.Kind.TheVariants.{Header, TaskRecord, LockRecord, InstructionRecord}
use Rattle.std.specs.Prelude.{if◌then◌else◌}
use Rattle.notation.specs.Lists.{from, all}

-- a task file is any bytes
abbrev pub File : Type 0
File = List ℕ

-- "Records of 16 bytes"
unfoldable pub records : File → ℕ
records f = length f / 16

-- byte k of record r
unfoldable pub byte_at : File → ℕ → ℕ → ℕ
byte_at f r k = get_or f (16 * r + k) 0

-- "Wide fields are unsigned 32-bit, low byte first."
unfoldable pub wide_at : File → ℕ → ℕ → ℕ
wide_at f r k = byte_at f r k + 256 * byte_at f r (k + 1) + 65536 * byte_at f r (k + 2) + 16777216 * byte_at f r (k + 3)

-- "byte 1 the index of the next record in the chain"
unfoldable pub next : File → ℕ → ℕ
next f r = byte_at f r 1

-- "Byte 0 is the kind": 1 header, 2 task, 3 lock, 4 instruction
unfoldable pub kind_number : Kind → ℕ
kind_number Header = 1
kind_number TaskRecord = 2
kind_number LockRecord = 3
kind_number InstructionRecord = 4

-- How an operation uses one of its fields a, b, c. "lock numbers are left to 9"
pub data Use : Type 0 where
  unused : Use
  most : ℕ → Use
  lock_number : Use

pub record Uses : Type 0 where
  pub a : Use
  pub b : Use
  pub c : Use

-- the ranges that fields have: a register 0 to 3, a variable 0 to 7, any byte, and 0 to 15
abbrev pub register_number : Use
register_number = most 3

abbrev pub variable_number : Use
variable_number = most 7

abbrev pub any_byte : Use
any_byte = most 255

abbrev pub small : Use
small = most 15

abbrev pub uses : Use → Use → Use → Uses
uses x y z = record { a = x; b = y; c = z }

-- The operations by number, with the fields that each uses.
unfoldable pub operation_uses : List Uses
operation_uses =
    uses unused unused unused  -- 0 End
    ∷ uses register_number variable_number unused  -- 1 Load a from variable b
    ∷ uses variable_number register_number unused  -- 2 Store to variable a from register b
    ∷ uses register_number any_byte unused  -- 3 Set register a to the number b
    ∷ uses register_number register_number unused  -- 4 Add register b to register a
    ∷ uses register_number register_number unused  -- 5 Subtract register b from register a
    ∷ uses register_number register_number small  -- 6 skip c instructions if register a is less than register b
    ∷ uses register_number register_number small  -- 7 the same if equal
    ∷ uses register_number small small  -- 8 Pick, a takes any value c to b
    ∷ uses lock_number unused unused  -- 9 Acquire lock a
    ∷ uses lock_number unused unused  -- 10 Release lock a
    ∷ uses register_number unused unused  -- 11 Assert, fails if register a is 0
    ∷ []

unfoldable pub uses_of : ℕ → Uses
uses_of operation = get_or operation_uses operation (uses unused unused unused)

-- "Unused fields are zero."
unfoldable pub tidy_field : Use → ℕ → Bool
tidy_field unused x = eqb x 0
tidy_field (most n) x = true
tidy_field lock_number x = true

unfoldable pub field_in_range : Use → ℕ → Bool
field_in_range unused x = true
field_in_range (most n) x = leb x n
field_in_range lock_number x = true

unfoldable pub instruction_at : File → ℕ → Instruction
instruction_at f r = record { operation = byte_at f r 2; a = byte_at f r 3; b = byte_at f r 4; c = byte_at f r 5 }

unfoldable pub tidy_instruction : Instruction → Bool
tidy_instruction i =
    let u = uses_of i.operation in
    tidy_field u.a i.a && tidy_field u.b i.b && tidy_field u.c i.c

unfoldable pub fields_in_range : Instruction → Bool
fields_in_range i =
    let u = uses_of i.operation in
    ltb i.operation (length operation_uses)
    && field_in_range u.a i.a && field_in_range u.b i.b && field_in_range u.c i.c

-- is it a Pick?
abbrev pub is_pick : Instruction → Bool
is_pick i = eqb i.operation 8

-- a Pick's lowest value is not above its highest: "c ≤ b"
unfoldable pub choice_in_range : Instruction → Bool
choice_in_range i = if is_pick i then leb i.c i.b else true

unfoldable pub instruction_in_range : Instruction → Bool
instruction_in_range i = fields_in_range i && choice_in_range i

-- n bytes of record r from byte k on are zero
unfoldable pub zero_from : File → ℕ → ℕ → ℕ → Bool
zero_from f r k n = all (λ j. eqb (byte_at f r j) 0) (from k n)

-- "an unused byte not zero": no unused byte of the record is other than zero
unfoldable pub tidy : File → ℕ → Kind → Bool
tidy f r Header = eqb (byte_at f r 1) 0
tidy f r TaskRecord = eqb (byte_at f r 3) 0
tidy f r LockRecord = eqb (byte_at f r 3) 0 && zero_from f r 8 8
tidy f r InstructionRecord = tidy_instruction (instruction_at f r) && zero_from f r 6 10

-- "window W (at least 1)"; "1 ≤ C ≤ P"; "ceiling, 0 to 7"
abbrev pub window_in_range : ℕ → Bool
window_in_range W = leb 1 W

abbrev pub times_in_range : ℕ → ℕ → Bool
times_in_range C P = leb 1 C && leb C P

abbrev pub ceiling_in_range : ℕ → Bool
ceiling_in_range ceiling = leb ceiling 7

-- "a value out of range": the window, a task's times, a ceiling, an operation and its fields
unfoldable pub in_range : File → ℕ → Kind → Bool
in_range f r Header = window_in_range (wide_at f r 4)
in_range f r TaskRecord = times_in_range (wide_at f r 4) (wide_at f r 8)
in_range f r LockRecord = ceiling_in_range (byte_at f r 2)
in_range f r InstructionRecord = instruction_in_range (instruction_at f r)
