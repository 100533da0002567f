-- The lines of a table whose fields passed are lines of the grammar, in order: so its text is one of the grammar.
-- Assumes nothing.
use Rattle.std.specs.Prelude.{◌≡◌, ℕ, suc, ◌≤◌, ◌<◌, ◌^◌, true, not, ◌&&◌, length, take, replicate, ltb, eqb}
use Rattle.std.proofs.Math.Path.{refl}
use Rattle.std.proofs.Common.{sym, subst, arith, lt-ltb, leb-true, le-leb}
use mathlib.Core.List.{List, [], ◌∷◌, ◌++◌, map, append_assoc}
use Rattle.notation.specs.Checked.{passed, require}
use Rattle.notation.specs.Laws.CheckedLaws.{then_passed, require_passed}
use Rattle.notation.specs.Laws.PaddedLaws.{every_take}
use Rattle.notation.specs.Laws.PairLaws.{every_append, every_map, every_imp}
use Rattle.notation.specs.Laws.TestLaws.{and_both, and_holds, test_holds}
use Rattle.notation.specs.Lists.{all, each}
use Rattle.notation.specs.Ordered.{Every}
use Rattle.taskfile.specs.declared.Instruction.{Instruction}
use Rattle.taskfile.specs.declared.Site.TheVariants.{AtTask, AtInstruction, AtLock}
use Rattle.taskfile.specs.declared.Table.{Table}
use Rattle.taskfile.specs.declared.TaskEntry.{TaskEntry}
use Rattle.taskfile.specs.Chains.{most_tasks, most_locks, most_instructions}
use Rattle.taskfile.specs.Judgement.{numbered}
use Rattle.taskfile.proofs.Laws.RecordLaws.{instruction_ranged}
use Rattle.taskfile.specs.Records.{times_in_range, ceiling_in_range, tidy_instruction, instruction_in_range}
use Rattle.taskfile.specs.Tables.{tasks_of, body_of}
use Rattle.writer.specs.declared.Lock.{Lock}
use Rattle.writer.specs.Claims.{claimed_tasks, claimed_body, claimed_locks, lock_array, no_lock}
use Rattle.writer.specs.Values.{ByteFields, FitsEntry, Fits}
use Rattle.writer.specs.Fields.{body_fields, task_fields, lock_fields, fields}
use Rattle.writer.proofs.Laws.CheckedTableLaws.{fields_parts, fields_within, tasks_fit, tasks_claimed, bodies_claimed}
use Rattle.writer.proofs.Laws.ClaimLaws.{claimed_covered}
use Rattle.writer.proofs.Laws.LockLaws.{HoldingFits, locks_full, claimed_locks_fit}
use Rattle.texts.specs.declared.Form.TheVariants.{WindowLine, StartLine, TaskLine}
use Rattle.texts.specs.Grammar.{Line, line_with, row_of, operation_rows, known, fits, IsLine, may_come, in_order}
use Rattle.texts.specs.Grammar.{Spells, byte_field}
use Rattle.texts.proofs.Laws.EveryLaws.{every_both}
use Rattle.texts.proofs.Laws.RowLaws.{used_of, bytes_fit, instruction_fits, operation_earliest}
use Rattle.texts.proofs.Laws.RowLaws.{operation_latest, operation_stage}
use Rattle.texts.specs.TextTables.{instruction_line, task_lines, lock_line, table_lines, text_of}

-- ---- what passed

-- an instruction with a known operation and fields in range, and nothing in the fields that it does not use
pub record Sound (i : Instruction) : Type 0 where
  pub operation : i.operation < 12
  pub ranged : instruction_in_range i ≡ true
  pub clean : tidy_instruction i ≡ true

sound_tested : (i : Instruction) → (tidy_instruction i && instruction_in_range i) ≡ true → Sound i
sound_tested i test =
    let both = and_both (tidy_instruction i) (instruction_in_range i) test in
    record { operation = (instruction_ranged i both.1).known; ranged = both.1; clean = both.0 }

instructions_sound : (i p : ℕ) (body : List Instruction) {u : Unit {0}} → body_fields i p body ≡ passed u
    → Every Sound body
unfolding body_fields
instructions_sound i p [] e = tt
instructions_sound i p (here ∷ others) e =
    let room = then_passed (require (ltb p most_instructions) 5 (AtInstruction (numbered i) p)) _ e in
    let good = then_passed (require (tidy_instruction here && instruction_in_range here) 4 _) _ room.2 in
    (sound_tested here (test_holds _ (require_passed _ 4 _ good.1)), instructions_sound i (suc p) others good.2)

tasks_sound : (i : ℕ) (tasks : List TaskEntry) {u : Unit {0}} → task_fields i tasks ≡ passed u
    → Every (λ e. Every Sound (claimed_body e)) tasks
unfolding task_fields
tasks_sound i [] h = tt
tasks_sound i (e ∷ others) h =
    let room = then_passed (require (ltb i most_tasks) 5 (AtTask (numbered i))) _ h in
    let times = then_passed (require (times_in_range e.execution e.period) 4 (AtTask (numbered i))) _ room.2 in
    let some = then_passed (require (not (eqb e.length 0)) 5 (AtTask (numbered i))) _ times.2 in
    let body = then_passed (body_fields i 0 (claimed_body e)) (task_fields (suc i) others) some.2 in
    (instructions_sound i 0 (claimed_body e) body.1, tasks_sound (suc i) others body.2)

locks_sound : (l : ℕ) (locks : List Lock) {u : Unit {0}} → lock_fields l locks ≡ passed u
    → Every (λ (lock : Lock). lock.ceiling ≤ 7) locks
unfolding lock_fields
locks_sound l [] e = tt
locks_sound l (lock ∷ others) e =
    let room = then_passed (require (ltb l most_locks) 5 (AtLock l)) _ e in
    let good = then_passed (require (ceiling_in_range lock.ceiling) 4 (AtLock l)) _ room.2 in
    (leb-true lock.ceiling 7 (test_holds _ (require_passed _ 4 _ good.1)), locks_sound (suc l) others good.2)

module _ (t : Table) (fit : Fits t) {u : Unit {0}} (sound : fields t ≡ passed u) where
  pub bodies_sound : Every (λ e. Every Sound (body_of e)) (tasks_of t)
  bodies_sound =
      every_both (λ e. claimed_body e ≡ body_of e) (λ e. Every Sound (claimed_body e)) (λ e. Every Sound (body_of e))
      (λ e same h. subst (Every Sound) same h) (tasks_of t) (bodies_claimed t fit sound)
      (subst (Every (λ e. Every Sound (claimed_body e))) (tasks_claimed t fit sound)
      (tasks_sound 0 (claimed_tasks t) (fields_parts t sound).0))

  -- the locks that a table holds are those that it claims
  held_locks : claimed_locks t ≡ take t.locks (lock_array t)
  unfolding claimed_locks
  held_locks =
      claimed_covered t.locks (lock_array t) no_lock (omega (arith, (fields_within t fit sound).1, locks_full t fit))

  pub locks_low : Every (λ (lock : Lock). (lock.ceiling ≤ 7) × HoldingFits lock) (take t.locks (lock_array t))
  locks_low =
      subst (Every (λ (lock : Lock). (lock.ceiling ≤ 7) × HoldingFits lock)) held_locks
      (every_both (λ (lock : Lock). lock.ceiling ≤ 7) HoldingFits
      (λ (lock : Lock). (lock.ceiling ≤ 7) × HoldingFits lock) (λ lock low wide. (low, wide)) (claimed_locks t)
      (locks_sound 0 (claimed_locks t) (fields_parts t sound).1) (claimed_locks_fit t fit))

-- ---- lines that fit

window_good : (window : ℕ) → window < 2 ^ 32 → IsLine (line_with WindowLine (window ∷ []))
unfolding known fits row_of
window_good window small = (refl, and_holds (ltb window (2 ^ 32)) true (lt-ltb window (2 ^ 32) small) refl)

store_good : (store : List ℕ) → length store ≡ 8 → Every (λ (b : ℕ). b < 256) store → IsLine (line_with StartLine store)
unfolding known row_of all
store_good store long small = (refl, bytes_fit (replicate 8 byte_field) store refl long small)

task_good : (e : TaskEntry) → FitsEntry e → IsLine (line_with TaskLine (e.execution ∷ e.period ∷ e.arrival ∷ []))
unfolding known fits row_of
task_good e fit =
    let execution = lt-ltb e.execution (2 ^ 32) fit.execution in
    let period = lt-ltb e.period (2 ^ 32) fit.period in
    let arrival = lt-ltb e.arrival (2 ^ 32) fit.arrival in
    (refl, rw (execution, period, arrival) refl)

instruction_good : (i : Instruction) → Sound i → ByteFields i → IsLine (instruction_line i)
unfolding instruction_line known operation_rows used_of
instruction_good i good small = (lt-ltb i.operation 12 good.operation, instruction_fits i small)

lock_good : (lock : Lock) → lock.ceiling ≤ 7 → HoldingFits lock → IsLine (lock_line lock)
unfolding lock_line known fits row_of
lock_good lock low wide =
    (refl, rw (lt-ltb lock.ceiling 256 (omega (arith, low)), lt-ltb lock.holding (2 ^ 32) wide) refl)

-- a task's line and its body's
instructions_good : (body : List Instruction) → Every Sound body → Every ByteFields body
    → Every IsLine (map instruction_line body)
instructions_good body good small =
    every_map IsLine instruction_line body
    (every_both Sound ByteFields (λ i. IsLine (instruction_line i)) instruction_good body good small)

tasks_good : (tasks : List TaskEntry) → Every FitsEntry tasks → Every (λ e. Every Sound (body_of e)) tasks
    → Every IsLine (each tasks task_lines)
unfolding each task_lines body_of
tasks_good [] fit good = tt
tasks_good (e ∷ others) fit good =
    every_append IsLine (task_lines e) (each others task_lines) (
      task_good e fit.0,
      instructions_good (body_of e) good.0 (every_take ByteFields e.length e.body fit.0.instructions),
    )
    (tasks_good others fit.1 good.1)

-- ---- lines in order

-- at the stages from one to another
abbrev During : ℕ → ℕ → List Line → Type 0
During first last lines = (stage : ℕ) → first ≤ stage → stage ≤ last → in_order stage lines ≡ true

-- a line may come at a stage, and the others at the one that it leads to
placed_more : (stage : ℕ) (l : Line) (lines : List Line) → (row_of l.form).earliest ≤ stage
    → stage ≤ (row_of l.form).latest → in_order (row_of l.form).stage lines ≡ true
    → in_order stage (l ∷ lines) ≡ true
unfolding in_order may_come
placed_more stage l lines early late others =
    let r = row_of l.form in
    and_holds _ _ (and_holds _ _ (le-leb r.earliest stage early) (le-leb stage r.latest late)) others

locks_placed : (locks : List Lock) → During 2 4 (map lock_line locks)
unfolding in_order lock_line row_of
locks_placed [] stage first last = le-leb 2 stage first
locks_placed (lock ∷ others) stage first last =
    placed_more stage (lock_line lock) (map lock_line others) first last
    (locks_placed others 4 (omega arith) (omega arith))

body_placed : (body : List Instruction) (rest : List Line) → in_order 3 rest ≡ true
    → in_order 3 (map instruction_line body ++ rest) ≡ true
unfolding instruction_line
body_placed [] rest after = after
body_placed (i ∷ others) rest after =
    let o = i.operation in
    placed_more 3 (instruction_line i) (map instruction_line others ++ rest)
    (omega (arith, operation_earliest o)) (omega (arith, operation_latest o))
    (subst (λ (s : ℕ). in_order s (map instruction_line others ++ rest) ≡ true) (sym (operation_stage o))
    (body_placed others rest after))

tasks_placed : (tasks : List TaskEntry) (rest : List Line) → During 2 3 rest → During 2 3 (each tasks task_lines ++ rest)
unfolding each task_lines row_of
tasks_placed [] rest after stage first last = after stage first last
tasks_placed (e ∷ others) rest after stage first last =
    let later = tasks_placed others rest after 3 (omega arith) (omega arith) in
    let lines = map instruction_line (body_of e) in
    placed_more stage (line_with TaskLine (e.execution ∷ e.period ∷ e.arrival ∷ []))
    (lines ++ each others task_lines ++ rest) first last
    (subst (λ (l : List Line). in_order 3 l ≡ true) (sym (append_assoc lines (each others task_lines) rest))
    (body_placed (body_of e) (each others task_lines ++ rest) later))

-- ---- the text of a table

module _ (t : Table) (fit : Fits t) {u : Unit {0}} (sound : fields t ≡ passed u) where
  lines_good : Every IsLine (table_lines t)
  unfolding table_lines
  lines_good = (
    window_good t.window fit.window,
    (
      store_good t.store fit.store fit.values,
      every_append IsLine (each (tasks_of t) task_lines) (map lock_line (take t.locks (lock_array t)))
          (tasks_good (tasks_of t) (tasks_fit t fit) (bodies_sound t fit sound))
          (every_map IsLine lock_line (take t.locks (lock_array t))
          (every_imp (λ (lock : Lock). (lock.ceiling ≤ 7) × HoldingFits lock) (λ lock. IsLine (lock_line lock))
          (λ lock both. lock_good lock both.0 both.1) (take t.locks (lock_array t)) (locks_low t fit sound))),
    ),
  )

  lines_placed : in_order 0 (table_lines t) ≡ true
  unfolding table_lines row_of
  lines_placed =
      let locks = map lock_line (take t.locks (lock_array t)) in
      let rest = each (tasks_of t) task_lines ++ locks in
      placed_more 0 (line_with WindowLine (t.window ∷ [])) (line_with StartLine t.store ∷ rest) (omega arith)
      (omega arith)
      (placed_more 1 (line_with StartLine t.store) rest (omega arith) (omega arith)
      (tasks_placed (tasks_of t) locks
      (λ stage first last. locks_placed (take t.locks (lock_array t)) stage first (omega arith))
      2 (omega arith) (omega arith)))

  -- its lines spell its text
  pub table_spells : Spells (table_lines t) (text_of t)
  unfolding text_of
  table_spells = record { good = lines_good; placed = lines_placed; bytes = refl }
