-- The table that a table's lines spell is that table, with what stands past its counts made blank.
-- Assumes nothing.
use Rattle.std.specs.Prelude.{◌≡◌, refl, List, [], ◌∷◌, ◌++◌, map, length, take}
use Rattle.std.proofs.Math.Path.{sym, ap}
use Rattle.std.proofs.Common.{◌∙◌, arith, append_assoc, append-nil}
use Prim.Native.Nat.{suc, min, ◌≤◌}
use Rattle.std.proofs.Math.ListN.{length-take}
use Rattle.notation.specs.Checked.{passed}
use Rattle.notation.specs.Laws.ElementLaws.{map_take}
use Rattle.notation.specs.Laws.QuantifierLaws.{map_length}
use Rattle.notation.specs.Lists.{each, padded}
use Rattle.notation.specs.Ordered.{Every}
use Rattle.taskfile.specs.declared.Instruction.{Instruction}
use Rattle.taskfile.specs.declared.Table.{Table}
use Rattle.taskfile.specs.declared.TaskEntry.{TaskEntry}
use Rattle.taskfile.specs.Chains.{most_tasks, most_locks, most_instructions}
use Rattle.taskfile.specs.Tables.{tasks_of, body_of, ceilings_of, holdings_of, end_instruction, no_task}
use Rattle.writer.specs.declared.Lock.{Lock}
use Rattle.writer.specs.Claims.{lock_array}
use Rattle.writer.specs.Covered.{covered_entry, covered}
use Rattle.writer.specs.Values.{FitsEntry, Fits}
use Rattle.writer.specs.Fields.{fields}
use Rattle.writer.proofs.Laws.CheckedTableLaws.{fields_within, tasks_fit}
use Rattle.writer.proofs.Laws.CoveredLaws.{held_tasks_length}
use Rattle.writer.proofs.Laws.LockLaws.{locks_full, locks_ceilings, locks_holdings}
use Rattle.texts.specs.Grammar.{Line}
use Rattle.texts.proofs.Laws.AddedLinesLaws.{table_with}
use Rattle.texts.proofs.Laws.RowLaws.{used_of, instruction_with_back}
use Rattle.texts.proofs.Laws.SoundTableLaws.{Sound, bodies_sound}
use Rattle.texts.specs.TextTables.{task_with, lock_with, Groups, in_front, grouped, table_of}
use Rattle.texts.specs.TextTables.{instruction_line, task_lines, lock_line, table_lines}

-- ---- lines in groups

-- the lines of a body
body_grouped : (body : List Instruction) (rest : List Line) → Every Sound body
    → grouped (map instruction_line body ++ rest)
    ≡ record { body = body ++ (grouped rest).body; tasks = (grouped rest).tasks; locks = (grouped rest).locks }
unfolding grouped in_front instruction_line used_of
body_grouped [] rest sound = refl
body_grouped (i ∷ body) rest sound =
    let one = instruction_with_back i sound.0.operation sound.0.clean in
    let others = body_grouped body rest sound.1 in
    λ j. record { body = one j ∷ (others j).body; tasks = (others j).tasks; locks = (others j).locks }

-- a task's numbers and its body
entry_spelled : (e : TaskEntry) → FitsEntry e → e.length ≤ 16
    → task_with (e.execution ∷ e.period ∷ e.arrival ∷ []) (body_of e) ≡ covered_entry e
unfolding task_with covered_entry body_of
entry_spelled e fit within =
    let isLength : min (suc most_instructions) (length (take e.length e.body)) ≡ e.length =
    omega (arith, length-take e.length e.body, fit.body, within) in
    λ j. record {
      execution = e.execution;
      period = e.period;
      arrival = e.arrival;
      length = isLength j;
      body = padded most_instructions end_instruction (take e.length e.body);
    }

-- a task's lines
task_grouped : (e : TaskEntry) (rest : List Line) → FitsEntry e → e.length ≤ 16 → Every Sound (body_of e)
    → (grouped rest).body ≡ []
    → grouped (task_lines e ++ rest)
    ≡ record { body = []; tasks = covered_entry e ∷ (grouped rest).tasks; locks = (grouped rest).locks }
unfolding grouped in_front task_lines
task_grouped e rest fit within sound none =
    let numbers = e.execution ∷ e.period ∷ e.arrival ∷ [] in
    let isBody : body_of e ++ (grouped rest).body ≡ body_of e =
    ap (λ (b : List Instruction). body_of e ++ b) none ∙ append-nil (body_of e) in
    ap (λ (g : Groups). record { body = []; tasks = task_with numbers g.body ∷ g.tasks; locks = g.locks })
    (body_grouped (body_of e) rest sound)
    ∙ ap (λ (x : TaskEntry). record { body = []; tasks = x ∷ (grouped rest).tasks; locks = (grouped rest).locks })
    (ap (task_with numbers) isBody ∙ entry_spelled e fit within)

-- the lines of locks, and those of tasks before them
locks_grouped : (locks : List Lock) → grouped (map lock_line locks) ≡ record { body = []; tasks = []; locks = locks }
unfolding grouped in_front lock_line lock_with
locks_grouped [] = refl
locks_grouped (lock ∷ locks) =
    let others = locks_grouped locks in
    λ j. record { body = (others j).body; tasks = (others j).tasks; locks = lock ∷ (others j).locks }

tasks_grouped : (tasks : List TaskEntry) (locks : List Lock) → Every FitsEntry tasks
    → Every (λ (e : TaskEntry). e.length ≤ 16) tasks → Every (λ e. Every Sound (body_of e)) tasks
    → grouped (each tasks task_lines ++ map lock_line locks)
    ≡ record { body = []; tasks = map covered_entry tasks; locks = locks }
unfolding each
tasks_grouped [] locks fit within sound = locks_grouped locks
tasks_grouped (e ∷ tasks) locks fit within sound =
    let others = tasks_grouped tasks locks fit.1 within.1 sound.1 in
    let rest = each tasks task_lines ++ map lock_line locks in
    ap grouped (append_assoc (task_lines e) (each tasks task_lines) (map lock_line locks))
    ∙ task_grouped e rest fit.0 within.0 sound.0 (ap (λ (g : Groups). g.body) others)
    ∙ ap (λ (g : Groups). record { body = []; tasks = covered_entry e ∷ g.tasks; locks = g.locks }) others

-- ---- the whole table

module _ (t : Table) (fit : Fits t) {u : Unit {0}} (sound : fields t ≡ passed u) where
  -- the tasks and the locks of the covered table
  with_covered : table_with t.window t.store (map covered_entry (tasks_of t)) (take t.locks (lock_array t))
      ≡ covered t
  unfolding table_with covered ceilings_of holdings_of
  with_covered =
      let within = fields_within t fit sound in
      let n = t.locks in
      let isTasks : min (suc most_tasks) (length (map covered_entry (tasks_of t))) ≡ t.tasks =
      omega (arith, map_length covered_entry (tasks_of t), held_tasks_length t fit within.0, within.0) in
      let even = fit.ceilings ∙ sym fit.holdings_full in
      let isLocks : min (suc most_locks) (length (take n (lock_array t))) ≡ n =
      omega (arith, length-take n (lock_array t), locks_full t fit, within.1) in
      let isCeilings = map_take (λ (lock : Lock). lock.ceiling) n (lock_array t)
      ∙ ap (take n) (locks_ceilings t.ceilings t.holdings even) in
      let isHoldings = map_take (λ (lock : Lock). lock.holding) n (lock_array t)
      ∙ ap (take n) (locks_holdings t.ceilings t.holdings even) in
      λ j. record {
        window = t.window;
        store = t.store;
        tasks = isTasks j;
        entries = padded most_tasks no_task (map covered_entry (tasks_of t));
        locks = isLocks j;
        ceilings = padded most_locks 0 (isCeilings j);
        holdings = padded most_locks 0 (isHoldings j);
      }

  -- a table's lines spell that table
  pub table_spelled : table_of (table_lines t) ≡ covered t
  unfolding table_of table_lines table_with
  table_spelled =
      let within = fields_within t fit sound in
      ap (λ (g : Groups). table_with t.window t.store g.tasks g.locks)
      (tasks_grouped (tasks_of t) (take t.locks (lock_array t)) (tasks_fit t fit) within.2
      (bodies_sound t fit sound))
      ∙ with_covered
