-- Line by line to the same table: for lines of the grammar in its order, the table to which each line adds its part is
-- the one that the lines spell. Past what an array holds nothing is stored, and a count stays at one too many.
-- Assumes nothing.
use Rattle.std.specs.Prelude.{◌≡◌, true, length, get_or, replicate}
use Rattle.std.proofs.Math.Path.{refl, ap}
use Rattle.std.proofs.Common.{sym, subst, ◌∙◌, arith, set-set}
use Prim.Native.Nat.{ℕ, suc, min, ◌-◌, ◌≤◌}
use Rattle.std.proofs.Math.Decide.{dec_lt}
use mathlib.Core.List.{List, [], ◌∷◌, ◌++◌, map, append_assoc, append-nil}
use Rattle.std.proofs.Math.ListN.{set}
use Rattle.std.proofs.Math.Seq.{get_or-append_seam, set_out}
use Rattle.std.proofs.lemmas.List.{take-append-le}
use Rattle.notation.specs.Laws.ElementLaws.{length_snoc}
use Rattle.notation.specs.Laws.ListLaws.{map_snoc}
use Rattle.notation.specs.Laws.PaddedLaws.{padded_at, padded_length, padded_snoc}
use Rattle.notation.specs.Laws.QuantifierLaws.{map_length}
use Rattle.notation.specs.Laws.TabulateLaws.{values_of}
use Rattle.notation.specs.Lists.{from, up_to, padded, bytes_at}
use Rattle.notation.specs.Ordered.{Every}
use Rattle.taskfile.specs.declared.Instruction.{Instruction}
use Rattle.taskfile.specs.declared.Table.{Table}
use Rattle.taskfile.specs.declared.TaskEntry.{TaskEntry}
use Rattle.taskfile.specs.Chains.{most_tasks, most_locks, most_instructions}
use Rattle.taskfile.specs.Tables.{end_instruction, no_task, empty_table}
use Rattle.writer.specs.declared.Lock.{Lock}
use Rattle.texts.specs.declared.Form.{Form}
use Rattle.texts.specs.declared.Form.TheVariants.{WindowLine, StartLine, TaskLine, InstructionLine, LockLine}
use Rattle.texts.specs.Code.AddedLines.{counted, with_window, with_store, with_tasks, add_task, longer_task}
use Rattle.texts.specs.Code.AddedLines.{add_instruction, add_lock, add_part, add_lines}
use Rattle.texts.specs.Grammar.{Line, line_with, row_of, IsLine, in_order, at_window, at_tasks}
use Rattle.texts.proofs.Laws.LineReadLaws.{fits_length}
use Rattle.texts.proofs.Laws.OrderLaws.{placed_parts, stage_later, lines_begun}
use Rattle.texts.proofs.Laws.RowLaws.{operation_earliest, operation_latest}
use Rattle.texts.specs.TextTables.{instruction_with, task_with, lock_with, Groups, in_front, grouped, table_of}

-- ---- arrays to which one more is added

-- one more is counted, up to one too many
counted_more : {A : Type 0} (most : ℕ) (xs : List A) (y : A)
    → counted most (min (suc most) (length xs)) ≡ min (suc most) (length (xs ++ (y ∷ [])))
unfolding counted
counted_more most xs y = omega (arith, length_snoc xs y)

-- an array that is full holds none of those after
padded_full : {A : Type 0} (n : ℕ) (d : A) (xs : List A) (y : A) → n ≤ length xs
    → padded n d xs ≡ padded n d (xs ++ (y ∷ []))
unfolding padded
padded_full n d xs y full =
    take-append-le n xs (replicate n d) full
    ∙ sym (take-append-le n xs (y ∷ []) full)
    ∙ sym (take-append-le n (xs ++ (y ∷ [])) (replicate n d) (omega (arith, length_snoc xs y)))

-- one more is stored after the others, where there is room
padded_more : {A : Type 0} (n : ℕ) (d : A) (xs : List A) (y : A)
    → set (padded n d xs) (min (suc n) (length xs)) y ≡ padded n d (xs ++ (y ∷ []))
padded_more n d xs y =
    elim (dec_lt (length xs) n) [
      | yes room ↦
          (let is : min (suc n) (length xs) ≡ length xs = omega arith in
          ap (λ (k : ℕ). set (padded n d xs) k y) is ∙ padded_snoc n d xs y room)
      | no full ↦
          set_out (padded n d xs) (min (suc n) (length xs)) y (omega (arith, padded_length n d xs))
          ∙ padded_full n d xs y (omega arith)
    ]

-- the last one is changed, where it is stored
last_changed : {A : Type 0} (n : ℕ) (d : A) (xs : List A) (y : A) (f : A → A) (last : ℕ)
    → last ≡ min (suc n) (length (xs ++ (y ∷ []))) - 1
    → set (padded n d (xs ++ (y ∷ []))) last (f (get_or (padded n d (xs ++ (y ∷ []))) last d))
    ≡ padded n d (xs ++ (f y ∷ []))
last_changed n d xs y f last is =
    let array = padded n d (xs ++ (y ∷ [])) in
    elim (dec_lt (length xs) n) [
      | yes room ↦
          (let at : last ≡ length xs = omega (arith, length_snoc xs y) in
          let held : get_or array (length xs) d ≡ y =
          padded_at n d (xs ++ (y ∷ [])) (length xs) room ∙ get_or-append_seam xs y [] d in
          ap (λ (k : ℕ). set array k (f (get_or array k d))) at
          ∙ ap (λ z. set array (length xs) (f z)) held
          ∙ ap (λ l. set l (length xs) (f y)) (sym (padded_snoc n d xs y room))
          ∙ set-set (padded n d xs) (length xs) y (f y)
          ∙ padded_snoc n d xs (f y) room)
      | no full ↦
          set_out array last _ (omega (arith, length_snoc xs y, padded_length n d (xs ++ (y ∷ []))))
          ∙ sym (padded_full n d xs y (omega arith))
          ∙ padded_full n d xs (f y) (omega arith)
    ]

-- ---- tables to which a part is added

-- a task's instruction more
longer_with : (numbers : List ℕ) (body : List Instruction) (i : Instruction)
    → longer_task (task_with numbers body) i ≡ task_with numbers (body ++ (i ∷ []))
unfolding longer_task task_with
longer_with numbers body i =
    let isLength = counted_more most_instructions body i in
    let isBody = padded_more most_instructions end_instruction body i in
    λ j. record {
      execution = get_or numbers 0 0;
      period = get_or numbers 1 0;
      arrival = get_or numbers 2 0;
      length = isLength j;
      body = isBody j;
    }

module _ (window : ℕ) (store : List ℕ) where
  -- the table with these tasks and locks
  unfoldable pub table_with : List TaskEntry → List Lock → Table
  table_with tasks locks =
      record {
        window = window;
        store = store;
        tasks = min (suc most_tasks) (length tasks);
        entries = padded most_tasks no_task tasks;
        locks = min (suc most_locks) (length locks);
        ceilings = padded most_locks 0 (map (λ (lock : Lock). lock.ceiling) locks);
        holdings = padded most_locks 0 (map (λ (lock : Lock). lock.holding) locks);
      }

  task_added : (tasks : List TaskEntry) (locks : List Lock) (e : TaskEntry)
      → add_task (table_with tasks locks) e ≡ table_with (tasks ++ (e ∷ [])) locks
  unfolding add_task with_tasks table_with
  task_added tasks locks e =
      let isTasks = counted_more most_tasks tasks e in
      let isEntries = padded_more most_tasks no_task tasks e in
      λ j. with_tasks (table_with tasks locks) (isTasks j) (isEntries j)

  instruction_added : (tasks : List TaskEntry) (locks : List Lock) (e : TaskEntry) (i : Instruction)
      → add_instruction (table_with (tasks ++ (e ∷ [])) locks) i ≡ table_with (tasks ++ (longer_task e i ∷ [])) locks
  unfolding add_instruction with_tasks table_with
  instruction_added tasks locks e i =
      let isTasks : min (suc most_tasks) (length (tasks ++ (e ∷ [])))
      ≡ min (suc most_tasks) (length (tasks ++ (longer_task e i ∷ []))) =
      omega (arith, length_snoc tasks e, length_snoc tasks (longer_task e i)) in
      let isEntries = last_changed most_tasks no_task tasks e (λ x. longer_task x i) _ refl in
      λ j. with_tasks (table_with tasks locks) (isTasks j) (isEntries j)

  lock_added : (tasks : List TaskEntry) (locks : List Lock) (lock : Lock)
      → add_lock (table_with tasks locks) lock ≡ table_with tasks (locks ++ (lock ∷ []))
  unfolding add_lock table_with
  lock_added tasks locks lock =
      let isLocks = counted_more most_locks locks lock in
      let isCeilings = held (λ l. l.ceiling) in
      let isHoldings = held (λ l. l.holding) in
      λ j. record {
        window = window;
        store = store;
        tasks = min (suc most_tasks) (length tasks);
        entries = padded most_tasks no_task tasks;
        locks = isLocks j;
        ceilings = isCeilings j;
        holdings = isHoldings j;
      }
    where
      held : (f : Lock → ℕ)
          → set (padded most_locks 0 (map f locks)) (min (suc most_locks) (length locks)) (f lock)
          ≡ padded most_locks 0 (map f (locks ++ (lock ∷ [])))
      held f =
          ap (λ (n : ℕ). set (padded most_locks 0 (map f locks)) (min (suc most_locks) n) (f lock))
          (sym (map_length f locks))
          ∙ padded_more most_locks 0 (map f locks) (f lock)
          ∙ ap (padded most_locks 0) (sym (map_snoc f locks lock))

  -- ---- lines after lines

  -- lines after a task line: its body grows, then come other tasks, and locks
  abbrev BodyAdded : List Line → Groups → Type 0
  BodyAdded lines g =
      (done : List TaskEntry) (numbers : List ℕ) (body : List Instruction) (locks : List Lock)
      → add_lines (table_with (done ++ (task_with numbers body ∷ [])) locks) lines
      ≡ table_with (done ++ (task_with numbers (body ++ g.body) ∷ g.tasks)) (locks ++ g.locks)

  body_line : (form : Form) (own : List ℕ) (lines : List Line) (g : Groups) → 2 ≤ (row_of form).latest
      → BodyAdded lines g → BodyAdded (line_with form own ∷ lines) (in_front form own g)
  unfolding add_lines add_part in_front row_of
  body_line WindowLine own lines g late others done numbers body locks = absurd (omega (arith, late))
  body_line StartLine own lines g late others done numbers body locks = absurd (omega (arith, late))
  body_line TaskLine own lines g late others done numbers body locks =
      let next = task_with own g.body ∷ g.tasks in
      ap (λ (t : Table). add_lines t lines)
      (task_added (done ++ (task_with numbers body ∷ [])) locks (task_with own []))
      ∙ others (done ++ (task_with numbers body ∷ [])) own [] locks
      ∙ ap (λ (l : List TaskEntry). table_with l (locks ++ g.locks))
      (append_assoc done (task_with numbers body ∷ []) next
      ∙ ap (λ (b : List Instruction). done ++ (task_with numbers b ∷ next)) (sym (append-nil body)))
  body_line (InstructionLine operation) own lines g late others done numbers body locks =
      let i = instruction_with operation own in
      ap (λ (t : Table). add_lines t lines)
      (instruction_added done locks (task_with numbers body) i
      ∙ ap (λ (e : TaskEntry). table_with (done ++ (e ∷ [])) locks) (longer_with numbers body i))
      ∙ others done numbers (body ++ (i ∷ [])) locks
      ∙ ap (λ (b : List Instruction). table_with (done ++ (task_with numbers b ∷ g.tasks)) (locks ++ g.locks))
      (append_assoc body (i ∷ []) g.body)
  body_line LockLine own lines g late others done numbers body locks =
      ap (λ (t : Table). add_lines t lines)
      (lock_added (done ++ (task_with numbers body ∷ [])) locks (lock_with own))
      ∙ others done numbers body (locks ++ (lock_with own ∷ []))
      ∙ ap (table_with (done ++ (task_with numbers (body ++ g.body) ∷ g.tasks)))
      (append_assoc locks (lock_with own ∷ []) g.locks)

  body_added : (lines : List Line) (stage : ℕ) → in_order stage lines ≡ true → 2 ≤ stage
      → BodyAdded lines (grouped lines)
  unfolding add_lines grouped
  body_added [] stage placed late =
      λ done numbers body locks j.
      table_with (done ++ (task_with numbers (sym (append-nil body) j) ∷ [])) (sym (append-nil locks) j)
  body_added (l ∷ lines) stage placed late =
      let parts = placed_parts stage l lines placed in
      let later : 2 ≤ (row_of l.form).latest = omega (arith, late, parts.1) in
      body_line l.form l.numbers lines (grouped lines) later
      (body_added lines (row_of l.form).stage parts.2 (stage_later l.form later))

  -- lines before which no task line came: no instruction may come
  abbrev TasksAdded : List Line → Groups → Type 0
  TasksAdded lines g =
      (locks : List Lock) → add_lines (table_with [] locks) lines ≡ table_with g.tasks (locks ++ g.locks)

  tasks_line : (form : Form) (own : List ℕ) (lines : List Line) (g : Groups) (stage : ℕ)
      → (row_of form).earliest ≤ stage → stage ≤ (row_of form).latest → 2 ≤ stage → (stage ≡ 3 → ⊥)
      → BodyAdded lines g → (((row_of form).stage ≡ 3 → ⊥) → TasksAdded lines g)
      → TasksAdded (line_with form own ∷ lines) (in_front form own g)
  unfolding add_lines add_part in_front row_of
  tasks_line WindowLine own lines g stage early before late outside body others locks =
      absurd (omega (arith, late, before))
  tasks_line StartLine own lines g stage early before late outside body others locks =
      absurd (omega (arith, late, before))
  tasks_line TaskLine own lines g stage early before late outside body others locks =
      ap (λ (t : Table). add_lines t lines) (task_added [] locks (task_with own [])) ∙ body [] own [] locks
  tasks_line (InstructionLine operation) own lines g stage early before late outside body others locks =
      absurd (outside (omega (arith, early, before, operation_earliest operation, operation_latest operation)))
  tasks_line LockLine own lines g stage early before late outside body others locks =
      ap (λ (t : Table). add_lines t lines) (lock_added [] locks (lock_with own))
      ∙ others (λ h. omega (arith, h)) (locks ++ (lock_with own ∷ []))
      ∙ ap (table_with g.tasks) (append_assoc locks (lock_with own ∷ []) g.locks)

  tasks_added : (lines : List Line) (stage : ℕ) → in_order stage lines ≡ true → 2 ≤ stage → (stage ≡ 3 → ⊥)
      → TasksAdded lines (grouped lines)
  unfolding add_lines grouped
  tasks_added [] stage placed late outside = λ locks. ap (table_with []) (sym (append-nil locks))
  tasks_added (l ∷ lines) stage placed late outside =
      let parts = placed_parts stage l lines placed in
      let next = (row_of l.form).stage in
      let later = stage_later l.form (omega (arith, late, parts.1)) in
      tasks_line l.form l.numbers lines (grouped lines) stage parts.0 parts.1 late outside
      (body_added lines next parts.2 later) (tasks_added lines next parts.2 later)

-- ---- the whole text

-- the first two lines
begun_table : (window store : List ℕ) → length store ≡ 8
    → add_part (add_part empty_table WindowLine window) StartLine store ≡ table_with (get_or window 0 0) store [] []
unfolding add_part with_window with_store empty_table table_with padded bytes_at up_to from
begun_table window store long =
    let same = values_of store 8 long in
    λ j. record {
      window = get_or window 0 0;
      store = same j;
      tasks = 0;
      entries = replicate 8 no_task;
      locks = 0;
      ceilings = replicate 8 0;
      holdings = replicate 8 0;
    }

-- Lines of the grammar, in its order, add up to the table that they spell.
pub lines_added : (lines : List Line) → in_order at_window lines ≡ true → Every IsLine lines
    → add_lines empty_table lines ≡ table_of lines
unfolding add_lines table_of table_with row_of
lines_added lines placed good =
    let b = lines_begun lines placed good in
    let long = fits_length (row_of StartLine).fields b.start b.bytes in
    subst (λ (l : List Line). add_lines empty_table l ≡ table_of l) (sym b.is)
    (ap (λ (t : Table). add_lines t b.others) (begun_table b.window b.start long)
    ∙ tasks_added (get_or b.window 0 0) b.start b.others at_tasks b.placed (omega arith) (λ h. omega (arith, h))
    [])
