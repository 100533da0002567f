-- The table's own judgement, numbers 7 to 9, whatever the table came from. Document 01, "Numbers by who causes them":
-- "Then 6, 7, 8, 9, 10, 11, each over the whole table."
-- A fault stands at a site of the table; who read the table says which record that is.
-- Assumes nothing.
use Rattle.std.specs.Prelude.{ℕ, ◌+◌, ◌-◌, Bool, false, not, ◌&&◌, ◌||◌, List, map, length, get_or, leb, ltb, eqb}
use Rattle.taskfile.specs.declared.Instruction.{Instruction}
use Rattle.taskfile.specs.declared.Site.{Site}
use Rattle.taskfile.specs.declared.Site.TheVariants.{AtHeader, AtTask, AtInstruction, AtLock}
use Rattle.taskfile.specs.declared.Table.{Table}
use Rattle.taskfile.specs.declared.Task.{Task}
use Rattle.notation.specs.Checked.{Checked, none_of, ◌>>◌}
use Rattle.notation.specs.Lists.{up_to, each}
use Rattle.taskfile.specs.Tables.{tasks_of, task_of, body_of, ceilings_of, end_instruction}

-- the task with a number, and all of them in chain order
abbrev pub numbered : ℕ → Task
numbered i = record { 0 = i }

unfoldable pub task_numbers : Table → List Task
task_numbers t = map numbered (up_to (length (tasks_of t)))

-- the instruction at position p of task i
unfoldable pub instruction_of : Table → Task → ℕ → Instruction
instruction_of t i p = get_or (body_of (task_of t i)) p end_instruction

-- all instructions in chain order, task by task
unfoldable pub instruction_sites : Table → List Site
instruction_sites t =
    each (task_numbers t) (λ i. map (λ p. AtInstruction i p) (up_to (length (body_of (task_of t i)))))

-- operations by number, of those that a judgement asks for
unfoldable pub is_end : Instruction → Bool
is_end i = eqb i.operation 0

unfoldable pub is_skip : Instruction → Bool
is_skip i = eqb i.operation 6 || eqb i.operation 7

unfoldable pub is_acquire : Instruction → Bool
is_acquire i = eqb i.operation 9

unfoldable pub is_release : Instruction → Bool
is_release i = eqb i.operation 10

-- a fault of instructions, or of tasks, as a fault of sites
unfoldable pub of_instruction : (Task → ℕ → Bool) → Site → Bool
of_instruction fault AtHeader = false
of_instruction fault (AtTask i) = false
of_instruction fault (AtInstruction i p) = fault i p
of_instruction fault (AtLock l) = false

unfoldable pub of_task : (Task → Bool) → Site → Bool
of_task fault AtHeader = false
of_task fault (AtTask i) = fault i
of_task fault (AtInstruction i p) = false
of_task fault (AtLock l) = false

-- "7 BODY: last instruction not End (place: it), or a skip beyond it (place: the skip)"
unfoldable pub body_fault : Table → Task → ℕ → Bool
body_fault t i p =
    let last = length (body_of (task_of t i)) - 1 in
    let here = instruction_of t i p in
    eqb p last && not (is_end here) || is_skip here && ltb last (p + 1 + here.c)

-- "8 RATE: a period above the previous task's"
unfoldable pub rate_fault : Table → Task → Bool
rate_fault t i = ltb 0 i.0 && ltb (task_of t (numbered (i.0 - 1))).period (task_of t i).period

-- "9 CEILING: Acquire or Release of a lock not in the table, or Acquire of one with a ceiling below the task's base"
unfoldable pub ceiling_fault : Table → Task → ℕ → Bool
ceiling_fault t i p =
    let here = instruction_of t i p in
    (is_acquire here || is_release here) && leb (length (ceilings_of t)) here.a
    || is_acquire here && ltb (get_or (ceilings_of t) here.a 0) i.0

-- 7, 8 and 9, each over the whole table, at the first such site
unfoldable pub judged : Table → Checked Site (Unit {0})
judged t = do
  none_of 7 (of_instruction (body_fault t)) (instruction_sites t)
  none_of 8 (of_task (rate_fault t)) (map (λ i. AtTask i) (task_numbers t))
  none_of 9 (of_instruction (ceiling_fault t)) (instruction_sites t)
