-- One instruction of one job on one store. Document 01, "Instructions".
-- Assumes nothing.
use Rattle.std.specs.Prelude.{ℕ, ◌+◌, ◌-◌, ◌%◌, true, false, List, [], ◌∷◌, get_or, set, replicate, ltb, eqb}
use Rattle.taskfile.specs.declared.Instruction.{Instruction}
use Rattle.taskfile.specs.Records.{is_pick}
use Rattle.std.specs.Prelude.{if◌then◌else◌}
use Rattle.notation.specs.Lists.{from_to}
use Rattle.machine.specs.declared.Effect.{Effect}
use Rattle.machine.specs.declared.Local.{Local}
use Rattle.machine.specs.Held.{acquire, release, no_locks}

-- eight bytes, one for each shared variable
abbrev pub Store : Type 0
Store = List ℕ

-- "A job has registers 0 to 3, zero at its start, and holds no lock then."
unfoldable pub fresh : Local
fresh = record { next = 0; registers = replicate 4 0; held = no_locks }

-- The values on offer: "8 Pick, a takes any value 0 to b", and document 02, E7: "Field c of Pick becomes the lowest
-- value, c ≤ b ≤ 15, so the choice runs c to b"; "the value being the Pick's choice, else 0".
unfoldable pub values : Instruction → List ℕ
values i = if is_pick i then from_to i.c i.b else 0 ∷ []

unfoldable pub register : Local → ℕ → ℕ
register l r = get_or l.registers r 0

-- the next instruction, and the same with n instructions skipped
unfoldable pub skipping : ℕ → Local → Local
skipping n l = record { next = l.next + 1 + n; registers = l.registers; held = l.held }

unfoldable pub with_register : ℕ → ℕ → Local → Local
with_register r x l = record { next = l.next; registers = set l.registers r x; held = l.held }

unfoldable pub with_held : List ℕ → Local → Local
with_held held l = record { next = l.next; registers = l.registers; held = held }

-- an instruction that changes the job's own state alone, and goes on
abbrev pub goes_on : Local → Store → Effect
goes_on l s = record { local = l; store = s; failed = false; ended = false }

-- "Sums and differences are taken modulo 256."
unfoldable pub plus : ℕ → ℕ → ℕ
plus x y = (x + y) % 256

unfoldable pub minus : ℕ → ℕ → ℕ
minus x y = (x + (256 - y)) % 256

-- the operations, each with its fields, the Pick's choice, the job's own state and the store
abbrev pub Operation : Type 0
Operation = Instruction → ℕ → Local → Store → Effect

-- "0 End"; document 02, E3: "cleared by End"
unfoldable pub end_job : Operation
end_job i v l s = record { local = skipping 0 (with_held no_locks l); store = s; failed = false; ended = true }

-- "1 Load a from variable b"
unfoldable pub load_variable : Operation
load_variable i v l s = goes_on (skipping 0 (with_register i.a (get_or s i.b 0) l)) s

-- "2 Store to variable a from register b"
unfoldable pub store : Operation
store i v l s = goes_on (skipping 0 l) (set s i.a (register l i.b))

-- "3 Set register a to the number b"
unfoldable pub set_number : Operation
set_number i v l s = goes_on (skipping 0 (with_register i.a i.b l)) s

-- "4 Add register b to register a"
unfoldable pub add : Operation
add i v l s = goes_on (skipping 0 (with_register i.a (plus (register l i.a) (register l i.b)) l)) s

-- "5 Subtract register b from register a"
unfoldable pub subtract : Operation
subtract i v l s = goes_on (skipping 0 (with_register i.a (minus (register l i.a) (register l i.b)) l)) s

-- "6 skip c instructions if register a is less than register b"
unfoldable pub skip_less : Operation
skip_less i v l s = goes_on (skipping (if ltb (register l i.a) (register l i.b) then i.c else 0) l) s

-- "7 the same if equal"
unfoldable pub skip_equal : Operation
skip_equal i v l s = goes_on (skipping (if eqb (register l i.a) (register l i.b) then i.c else 0) l) s

-- "8 Pick, a takes any value 0 to b"; document 02, E7: "so the choice runs c to b"
unfoldable pub pick : Operation
pick i v l s = goes_on (skipping 0 (with_register i.a v l)) s

-- "9 Acquire lock a; 10 Release lock a"
unfoldable pub acquire_lock : Operation
acquire_lock i v l s = goes_on (skipping 0 (with_held (acquire l.held i.a) l)) s

unfoldable pub release_lock : Operation
release_lock i v l s = goes_on (skipping 0 (with_held (release l.held i.a) l)) s

-- "11 Assert, fails if register a is 0"; "A failed assertion is noted against its job and the run goes on."
unfoldable pub assert : Operation
assert i v l s = record { local = skipping 0 l; store = s; failed = eqb (register l i.a) 0; ended = false }

-- the operations by number
unfoldable pub operation_effects : List Operation
operation_effects =
    end_job ∷ load_variable ∷ store ∷ set_number ∷ add ∷ subtract
    ∷ skip_less ∷ skip_equal ∷ pick ∷ acquire_lock ∷ release_lock ∷ assert ∷ []

-- what an instruction does, where v is the Pick's choice
unfoldable pub perform : Operation
perform i v l s = get_or operation_effects i.operation end_job i v l s
