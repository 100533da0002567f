-- The parts of the judgement as its functions yield them: the faults of one body, and the shape that a table in
-- arrays has.
-- Assumes nothing.
use Rattle.std.specs.Prelude.{◌≡◌, ℕ, ◌+◌, ◌-◌, ◌≤◌, ◌<◌, Bool, not, ◌&&◌, ◌||◌, List, length, get_or, leb, ltb, eqb}
use Rattle.taskfile.specs.declared.Instruction.{Instruction}
use Rattle.taskfile.specs.declared.Table.{Table}
use Rattle.taskfile.specs.declared.TaskEntry.{TaskEntry}
use Rattle.taskfile.specs.Judgement.{is_end, is_skip, is_acquire, is_release}
use Rattle.taskfile.specs.Tables.{body_of, end_instruction, no_task}

-- the arrays are full, and the counts stay within them
pub record ShapedEntry (e : TaskEntry) : Type 0 where
  pub full : length e.body ≡ 16
  pub within : e.length ≤ 16

pub record Shaped (t : Table) : Type 0 where
  pub entries_full : length t.entries ≡ 8
  pub tasks_within : t.tasks ≤ 8
  pub ceilings_full : length t.ceilings ≡ 8
  pub holdings_full : length t.holdings ≡ 8
  pub locks_within : t.locks ≤ 8
  pub bodies : (i : ℕ) → i < 8 → ShapedEntry (get_or t.entries i no_task)

-- a fault of 7 at position p of a body
unfoldable pub body_fault_in : TaskEntry → ℕ → Bool
body_fault_in e p =
    let last = length (body_of e) - 1 in
    let here = get_or (body_of e) p end_instruction in
    eqb p last && not (is_end here) || is_skip here && ltb last (p + 1 + here.c)

-- a fault of 9 of an instruction of task i, where the table's locks have these ceilings
unfoldable pub ceiling_fault_in : List ℕ → ℕ → Instruction → Bool
ceiling_fault_in ceilings i here =
    (is_acquire here || is_release here) && leb (length ceilings) here.a
    || is_acquire here && ltb (get_or ceilings here.a 0) i
