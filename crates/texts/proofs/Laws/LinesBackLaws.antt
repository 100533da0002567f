-- The lines of the table that lines spell are these lines, where the table holds as many parts as there are.
-- Assumes nothing.
use Rattle.std.specs.Prelude.{◌≡◌, refl, ℕ, zero, suc, min, ◌≤◌, true, List, [], ◌∷◌, ◌++◌, map, length, take, replicate}
use Rattle.std.proofs.Common.{sym, ap, subst, ◌∙◌, le_of_suc-le-suc, not-suc-le-zero, arith, take-take}
use Rattle.std.proofs.Math.Seq.{take-append_seam}
use Rattle.notation.specs.Laws.PaddedLaws.{padded_cons}
use Rattle.notation.specs.Laws.TabulateLaws.{values_of}
use Rattle.notation.specs.Lists.{from, up_to, each, padded}
use Rattle.notation.specs.Ordered.{Every}
use Rattle.taskfile.specs.declared.Instruction.{Instruction}
use Rattle.taskfile.specs.declared.Table.{Table}
use Rattle.taskfile.specs.declared.TaskEntry.{TaskEntry}
use Rattle.taskfile.specs.Chains.{most_tasks, most_locks, most_instructions}
use Rattle.taskfile.specs.Tables.{tasks_of, body_of, end_instruction, no_task}
use Rattle.writer.specs.declared.Lock.{Lock}
use Rattle.writer.specs.Claims.{lock_by_lock}
use Rattle.texts.specs.declared.Form.{Form}
use Rattle.texts.specs.declared.Form.TheVariants.{WindowLine, StartLine, TaskLine, InstructionLine, LockLine}
use Rattle.texts.specs.Grammar.{Line, line_with, row_of, fits, IsLine, in_order, at_window, at_tasks, at_locks}
use Rattle.texts.proofs.Laws.LineReadLaws.{fits_length}
use Rattle.texts.proofs.Laws.OrderLaws.{placed_parts, stage_later, lines_begun}
use Rattle.texts.proofs.Laws.RowLaws.{line_of_instruction, operation_earliest, operation_latest}
use Rattle.texts.specs.TextTables.{task_with, lock_with, Groups, in_front, grouped, table_of}
use Rattle.texts.specs.TextTables.{instruction_line, task_lines, lock_line, table_lines}

-- ---- arrays that hold all

abbrev ceiling_of : Lock → ℕ
ceiling_of lock = lock.ceiling

abbrev longest_of : Lock → ℕ
longest_of lock = lock.holding

-- what was counted and stored, where it is not too many
held_all : {A : Type 0} (most : ℕ) (d : A) (xs : List A) → length xs ≤ most
    → take (min (suc most) (length xs)) (padded most d xs) ≡ xs
unfolding padded
held_all most d xs few =
    let is : min (suc most) (length xs) ≡ length xs = omega arith in
    ap (λ (n : ℕ). take n (padded most d xs)) is
    ∙ take-take (length xs) most (xs ++ replicate most d) few
    ∙ take-append_seam xs (replicate most d)

locks_stored : (most : ℕ) (locks : List Lock) → length locks ≤ most
    → take (length locks) (lock_by_lock (padded most 0 (map ceiling_of locks)) (padded most 0 (map longest_of locks)))
    ≡ locks
unfolding lock_by_lock
locks_stored most [] few = refl
locks_stored zero (lock ∷ locks) few = absurd (not-suc-le-zero few)
locks_stored (suc most) (lock ∷ locks) few =
    let ceilings = padded_cons most 0 lock.ceiling (map ceiling_of locks) in
    let holdings = padded_cons most 0 lock.holding (map longest_of locks) in
    (λ j. take (suc (length locks)) (lock_by_lock (ceilings j) (holdings j)))
    ∙ ap (λ (l : List Lock). lock ∷ l) (locks_stored most locks (le_of_suc-le-suc few))

locks_held : (locks : List Lock) → length locks ≤ most_locks
    → take (min (suc most_locks) (length locks))
    (lock_by_lock (padded most_locks 0 (map ceiling_of locks)) (padded most_locks 0 (map longest_of locks)))
    ≡ locks
locks_held locks few =
    let is : min (suc most_locks) (length locks) ≡ length locks = omega arith in
    let array = lock_by_lock (padded most_locks 0 (map ceiling_of locks)) (padded most_locks 0 (map longest_of locks)) in
    ap (λ (n : ℕ). take n array) is
    ∙ locks_stored most_locks locks few

-- ---- the lines of groups

unfoldable group_lines : Groups → List Line
group_lines g = map instruction_line g.body ++ each g.tasks task_lines ++ map lock_line g.locks

-- a task's lines
task_back : (numbers : List ℕ) (body : List Instruction) → fits (row_of TaskLine).fields numbers ≡ true
    → (task_with numbers body).length ≤ 16
    → task_lines (task_with numbers body) ≡ line_with TaskLine numbers ∷ map instruction_line body
unfolding task_with task_lines body_of row_of up_to from
task_back numbers body good within =
    let isNumbers = values_of numbers 3 (fits_length (row_of TaskLine).fields numbers good) in
    let isBody = held_all most_instructions end_instruction body (omega (arith, within)) in
    λ j. line_with TaskLine (isNumbers j) ∷ map instruction_line (isBody j)

lock_back : (numbers : List ℕ) → fits (row_of LockLine).fields numbers ≡ true
    → lock_line (lock_with numbers) ≡ line_with LockLine numbers
unfolding lock_line lock_with row_of up_to from
lock_back numbers good =
    ap (line_with LockLine) (values_of numbers 2 (fits_length (row_of LockLine).fields numbers good))

-- after a lock come locks alone
lock_last : (form : Form) → at_locks ≤ (row_of form).latest → form ≡ LockLine
unfolding row_of
lock_last WindowLine late = absurd (omega (arith, late))
lock_last StartLine late = absurd (omega (arith, late))
lock_last TaskLine late = absurd (omega (arith, late))
lock_last (InstructionLine operation) late = absurd (omega (arith, late, operation_latest operation))
lock_last LockLine late = refl

locks_alone : (lines : List Line) (stage : ℕ) → in_order stage lines ≡ true → at_locks ≤ stage
    → ((grouped lines).body ≡ []) × ((grouped lines).tasks ≡ [])
unfolding grouped in_front row_of
locks_alone [] stage placed late = (refl, refl)
locks_alone (l ∷ lines) stage placed late =
    let parts = placed_parts stage l lines placed in
    let isLock = lock_last l.form (omega (arith, late, parts.1)) in
    let next : (row_of l.form).stage ≡ at_locks = ap (λ (f : Form). (row_of f).stage) isLock in
    let none = locks_alone lines (row_of l.form).stage parts.2 (omega (arith, next)) in (
      ap (λ (f : Form). (in_front f l.numbers (grouped lines)).body) isLock ∙ none.0,
      ap (λ (f : Form). (in_front f l.numbers (grouped lines)).tasks) isLock ∙ none.1,
    )

-- before the first task comes no instruction
first_front : (form : Form) (numbers : List ℕ) (g : Groups) → (row_of form).earliest ≤ at_tasks
    → (form ≡ LockLine → (g.body ≡ []) × (g.tasks ≡ [])) → at_tasks ≤ (row_of form).latest
    → (in_front form numbers g).body ≡ []
unfolding in_front row_of
first_front WindowLine numbers g early alone late = absurd (omega (arith, late))
first_front StartLine numbers g early alone late = absurd (omega (arith, late))
first_front TaskLine numbers g early alone late = refl
first_front (InstructionLine operation) numbers g early alone late =
    absurd (omega (arith, early, operation_earliest operation))
first_front LockLine numbers g early alone late = (alone refl).0

-- a lock line, and the lines after it
locks_after : (form : Form) (lines : List Line) → in_order (row_of form).stage lines ≡ true → form ≡ LockLine
    → ((grouped lines).body ≡ []) × ((grouped lines).tasks ≡ [])
unfolding row_of
locks_after form lines placed isLock =
    locks_alone lines (row_of form).stage placed (omega (arith, ap (λ (f : Form). (row_of f).stage) isLock))

tasks_first : (lines : List Line) → in_order at_tasks lines ≡ true → (grouped lines).body ≡ []
unfolding grouped
tasks_first [] placed = refl
tasks_first (l ∷ lines) placed =
    let parts = placed_parts at_tasks l lines placed in
    first_front l.form l.numbers (grouped lines) parts.0 (locks_after l.form lines parts.2) parts.1

-- a line in front of groups is the first of their lines
front_back : (form : Form) (numbers : List ℕ) (g : Groups) (lines : List Line) → 2 ≤ (row_of form).latest
    → fits (row_of form).fields numbers ≡ true
    → Every (λ (e : TaskEntry). e.length ≤ 16) (in_front form numbers g).tasks
    → (form ≡ LockLine → (g.body ≡ []) × (g.tasks ≡ []))
    → group_lines g ≡ lines → group_lines (in_front form numbers g) ≡ line_with form numbers ∷ lines
unfolding group_lines in_front each row_of
front_back WindowLine numbers g lines late good within alone back = absurd (omega (arith, late))
front_back StartLine numbers g lines late good within alone back = absurd (omega (arith, late))
front_back TaskLine numbers g lines late good within alone back =
    ap (λ (l : List Line). l ++ each g.tasks task_lines ++ map lock_line g.locks)
    (task_back numbers g.body good within.0)
    ∙ ap (λ (l : List Line). line_with TaskLine numbers ∷ l) back
front_back (InstructionLine operation) numbers g lines late good within alone back =
    let line = line_of_instruction operation numbers good in
    λ j. line j ∷ back j
front_back LockLine numbers g lines late good within alone back =
    let none = alone refl in
    let line = lock_back numbers good in
    let rest : map lock_line g.locks ≡ lines =
    (λ j. map instruction_line (sym none.0 j) ++ each (sym none.1 j) task_lines ++ map lock_line g.locks) ∙ back in
    (λ j. map instruction_line (none.0 j) ++ each (none.1 j) task_lines ++ (line j ∷ map lock_line g.locks))
    ∙ ap (λ (l : List Line). line_with LockLine numbers ∷ l) rest

-- the tail of what holds of every task in front
tasks_later : (form : Form) (numbers : List ℕ) (g : Groups)
    → Every (λ (e : TaskEntry). e.length ≤ 16) (in_front form numbers g).tasks
    → Every (λ (e : TaskEntry). e.length ≤ 16) g.tasks
unfolding in_front
tasks_later WindowLine numbers g within = within
tasks_later StartLine numbers g within = within
tasks_later TaskLine numbers g within = within.1
tasks_later (InstructionLine operation) numbers g within = within
tasks_later LockLine numbers g within = within

groups_back : (lines : List Line) (stage : ℕ) → in_order stage lines ≡ true → at_tasks ≤ stage → Every IsLine lines
    → Every (λ (e : TaskEntry). e.length ≤ 16) (grouped lines).tasks → group_lines (grouped lines) ≡ lines
unfolding grouped group_lines each row_of
groups_back [] stage placed late good within = refl
groups_back (l ∷ lines) stage placed late good within =
    let parts = placed_parts stage l lines placed in
    let next = (row_of l.form).stage in
    let later : at_tasks ≤ (row_of l.form).latest = omega (arith, late, parts.1) in
    front_back l.form l.numbers (grouped lines) lines later good.0.1 within
    (locks_after l.form lines parts.2)
    (groups_back lines next parts.2 (stage_later l.form later) good.1
    (tasks_later l.form l.numbers (grouped lines) within))

-- ---- the lines of the whole table

-- no count is one too many
pub record Held (t : Table) : Type 0 where
  pub tasks : t.tasks ≤ 8
  pub locks : t.locks ≤ 8
  pub lengths : Every (λ (e : TaskEntry). e.length ≤ 16) (tasks_of t)

pub lines_back : (lines : List Line) → in_order at_window lines ≡ true → Every IsLine lines → Held (table_of lines)
    → table_lines (table_of lines) ≡ lines
unfolding table_of table_lines tasks_of group_lines row_of up_to from
lines_back lines placed good =
    let b = lines_begun lines placed good in
    let g = grouped b.others in
    subst (λ (l : List Line). Held (table_of l) → table_lines (table_of l) ≡ l) (sym b.is) (λ held.
    let isTasks = held_all most_tasks no_task g.tasks (omega (arith, held.tasks)) in
    let isLocks = locks_held g.locks (omega (arith, held.locks)) in
    let lengths = subst (Every (λ (e : TaskEntry). e.length ≤ 16)) isTasks held.lengths in
    let isWindow = values_of b.window 1 (fits_length (row_of WindowLine).fields b.window b.wide) in
    let none = sym (tasks_first b.others b.placed) in
    let is_rest = (λ j. map instruction_line (none j) ++ each (isTasks j) task_lines ++ map lock_line (isLocks j))
    ∙ groups_back b.others at_tasks b.placed (omega arith) b.good lengths in
    λ j. line_with WindowLine (isWindow j) ∷ line_with StartLine b.start ∷ is_rest j)
