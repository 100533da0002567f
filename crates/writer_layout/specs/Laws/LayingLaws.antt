-- Laws of a table's layout as it is written: a part of it, and what is left to write; a body, the tasks, the locks.
-- Assumes nothing.
use Rattle.std.specs.Prelude.{◌≡◌, refl, ℕ, suc, ◌+◌, ◌≤◌, List, [], ◌∷◌, ◌++◌, length, drop}
use Rattle.std.proofs.Common.{sym, ap, ◌∙◌, arith, add-one, append_assoc, append-nil, drop_of_length-le}
use Rattle.taskfile.specs.declared.Table.{Table}
use Rattle.taskfile.specs.declared.TaskEntry.{TaskEntry}
use Rattle.writer.specs.Claims.{claimed_tasks, claimed_body, claimed_locks}
use Rattle.writer.specs.Sites.{locks_at}
use Rattle.writer.specs.Layout.{link_to, instruction_record, body_records, task_record, after_task, task_records}
use Rattle.writer.specs.Layout.{lock_record, lock_records, header_record, layout}
use Rattle.notation_buffers.specs.declared.pages.Page.{Page}
use Rattle.notation_buffers.specs.Code.Pages.{Puts}
use Rattle.notation_buffers.specs.Laws.PageLaws.{puts_same, puts_length, puts_none, puts_more}
use Rattle.writer_layout.specs.Code.ClaimedParts.{link_at}
use Rattle.writer_layout.specs.Laws.CountedLaws.{link_from}
use Rattle.writer_layout.specs.Code.Layouts.{task_part}

-- ---- a part is written, and the rest is left

-- of the bytes `whole`, those before `rest` were written
pub record Laying (before : Page) (whole : List ℕ) (now : Page) (rest : List ℕ) : Type 0 where
  pub done : List ℕ
  pub is : Puts before done now
  pub joins : done ++ rest ≡ whole

pub laying_whole : (page : Page) {whole rest : List ℕ} → rest ≡ whole → Laying page whole page rest
laying_whole page e = record { done = []; is = puts_none page; joins = e }

pub laying_more : {before now after : Page} {whole rest part left : List ℕ} → rest ≡ part ++ left
    → Laying before whole now rest → Puts now part after → Laying before whole after left
laying_more {part = part} {left} split laying more =
    record {
      done = laying.done ++ part;
      is = puts_more laying.is more;
      joins =
          append_assoc laying.done part left
          ∙ ap (λ (l : List ℕ). laying.done ++ l) (sym split)
          ∙ laying.joins;
    }

pub laying_all : {before now : Page} {whole rest : List ℕ} → rest ≡ [] → Laying before whole now rest
    → Puts before whole now
laying_all none laying =
    puts_same
    (sym (append-nil laying.done) ∙ ap (λ (l : List ℕ). laying.done ++ l) (sym none) ∙ laying.joins)
    laying.is

-- the page keeps its length
pub laying_length : {before now : Page} {whole rest : List ℕ} → Laying before whole now rest
    → length now.bytes.now ≡ length before.bytes.now
laying_length laying = puts_length laying.is

-- the link to what comes after part p
pub link_after_lem : {A : Type 0} (r p : ℕ) (xs : List A) {count link : ℕ} → count ≡ length xs → link ≡ link_at r (p + 1) count
    → link ≡ link_to r (drop (suc p) xs)
link_after_lem r p xs counted is =
    is ∙ ap (link_at r (p + 1)) counted ∙ sym (link_from r (p + 1) xs) ∙ ap (λ (k : ℕ). link_to r (drop k xs)) (add-one p)

-- ---- parts of one kind, each linked to the next: the instructions of a body, the locks

-- the records of parts from index r on
pub record Linked {A : Type 0} (record_of : A → ℕ → List ℕ) (recordsFrom : ℕ → List A → List ℕ) : Type 0 where
  pub one : (r : ℕ) (x : A) (others : List A)
      → recordsFrom r (x ∷ others) ≡ record_of x (link_to (suc r) others) ++ recordsFrom (suc r) others
  pub none : (r : ℕ) → recordsFrom r [] ≡ []

pub body_linked : Linked instruction_record body_records
unfolding body_records
body_linked = record { one = λ r i others. refl; none = λ r. refl }

pub locks_linked : Linked lock_record lock_records
unfolding lock_records
locks_linked = record { one = λ r lock others. refl; none = λ r. refl }

-- the records from part p on, where the first part is at index r
unfoldable pub parts_left : {A : Type 0} → (ℕ → List A → List ℕ) → ℕ → List A → ℕ → List ℕ
parts_left recordsFrom r parts p = recordsFrom (r + p) (drop p parts)

-- none is written yet
pub parts_whole : {A : Type 0} (recordsFrom : ℕ → List A → List ℕ) (r : ℕ) (parts : List A) (page : Page)
    → Laying page (recordsFrom r parts) page (parts_left recordsFrom r parts 0)
unfolding parts_left
parts_whole recordsFrom r parts page =
    let same : r + 0 ≡ r = omega arith in
    laying_whole page (ap (λ (k : ℕ). recordsFrom k parts) same)

-- part p is written next
pub parts_more : {A : Type 0} {record_of : A → ℕ → List ℕ} {recordsFrom : ℕ → List A → List ℕ}
    → Linked record_of recordsFrom → (r : ℕ) (parts : List A) (p : ℕ) {x : A} {count link : ℕ}
    {before now after : Page} {whole : List ℕ} → drop p parts ≡ x ∷ drop (suc p) parts → count ≡ length parts
    → link ≡ link_at (r + p + 1) (p + 1) count → Laying before whole now (parts_left recordsFrom r parts p)
    → Puts now (record_of x link) after → Laying before whole after (parts_left recordsFrom r parts (p + 1))
unfolding parts_left
parts_more {record_of = record_of} {recordsFrom} linked r parts p {x} {link = link} here counted is laying puts =
    let same : link ≡ link_to (suc (r + p)) (drop (suc p) parts) =
    link_after_lem (r + p + 1) p parts counted is ∙ ap (λ (k : ℕ). link_to k (drop (suc p) parts)) (add-one (r + p)) in
    let later : suc (r + p) ≡ r + (p + 1) = omega arith in
    let split : recordsFrom (r + p) (drop p parts)
    ≡ record_of x link ++ recordsFrom (r + (p + 1)) (drop (p + 1) parts) =
    ap (recordsFrom (r + p)) here
    ∙ linked.one (r + p) x (drop (suc p) parts)
    ∙ (λ j. record_of x (sym same j) ++ recordsFrom (later j) (drop (sym (add-one p) j) parts)) in
    laying_more split laying puts

-- all are written
pub parts_all : {A : Type 0} {record_of : A → ℕ → List ℕ} {recordsFrom : ℕ → List A → List ℕ}
    → Linked record_of recordsFrom → (r : ℕ) (parts : List A) (p : ℕ) → length parts ≤ p
    → {before now : Page} {whole : List ℕ} → Laying before whole now (parts_left recordsFrom r parts p)
    → Puts before whole now
unfolding parts_left
parts_all {recordsFrom = recordsFrom} linked r parts p all laying =
    laying_all (ap (recordsFrom (r + p)) (drop_of_length-le parts all) ∙ linked.none (r + p)) laying

-- ---- the tasks

-- the records of the tasks from task i on, which is at index r
unfoldable pub tasks_left : List TaskEntry → ℕ → ℕ → List ℕ
tasks_left tasks r i = task_records r (drop i tasks)

pub tasks_left_whole : (tasks : List TaskEntry) → tasks_left tasks 1 0 ≡ task_records 1 tasks
unfolding tasks_left
tasks_left_whole tasks = refl

pub tasks_left_more : (tasks : List TaskEntry) (r i : ℕ) {e : TaskEntry} {many count after link : ℕ}
    → drop i tasks ≡ e ∷ drop (suc i) tasks → count ≡ length (claimed_body e) → after ≡ r + 1 + count
    → many ≡ length tasks → link ≡ link_at after (i + 1) many
    → tasks_left tasks r i ≡ task_part e r link ++ tasks_left tasks after (i + 1)
unfolding tasks_left task_records task_part after_task
tasks_left_more tasks r i {e} {count = count} {after} {link} here counted is all linked =
    let index : suc r + length (claimed_body e) ≡ after = omega arith in
    let same : link ≡ link_to after (drop (suc i) tasks) = link_after_lem after i tasks all linked in
    let body = claimed_body e in
    ap (task_records r) here
    ∙ ap
    (λ (k : ℕ). task_record e (link_to k (drop (suc i) tasks)) (link_to (suc r) body) ++ body_records (suc r) body
    ++ task_records k (drop (suc i) tasks)) index
    ∙ (λ j. task_record e (sym same j) (link_to (suc r) body) ++ body_records (suc r) body
    ++ task_records after (drop (sym (add-one i) j) tasks))

pub tasks_left_none : (tasks : List TaskEntry) (r i : ℕ) → length tasks ≤ i → tasks_left tasks r i ≡ []
unfolding tasks_left task_records
tasks_left_none tasks r i all = ap (task_records r) (drop_of_length-le tasks all)

-- ---- a task's part, and the whole layout

pub task_laid : (e : TaskEntry) (r link : ℕ) {count first : ℕ} {before mid after : Page} → count ≡ length (claimed_body e)
    → first ≡ link_at (r + 1) 0 count → Puts before (task_record e link first) mid
    → Puts mid (body_records (r + 1) (claimed_body e)) after → Puts before (task_part e r link) after
unfolding task_part
task_laid e r link {count} {first} counted linked one two =
    let body = claimed_body e in
    let same : first ≡ link_to (r + 1) body =
    linked ∙ ap (link_at (r + 1) 0) counted ∙ sym (link_from (r + 1) 0 body) in
    puts_same
    (ap (λ (k : ℕ). task_record e link k ++ body_records (r + 1) body) same
    ∙ ap (λ (k : ℕ). task_record e link (link_to k body) ++ body_records k body) (add-one r)) (puts_more one two)

pub layout_laid : (t : Table) {index tasks locks task lock : ℕ} {before mid later after : Page} → index ≡ locks_at t
    → tasks ≡ length (claimed_tasks t) → locks ≡ length (claimed_locks t)
    → task ≡ link_at 1 0 tasks → lock ≡ link_at index 0 locks
    → Puts before (header_record t task lock) mid → Puts mid (task_records 1 (claimed_tasks t)) later
    → Puts later (lock_records index (claimed_locks t)) after → Puts before (layout t) after
unfolding layout
layout_laid t {index} {tasks} {locks} {task} {lock} is many few to-task to-lock one two three =
    let first : task ≡ link_to 1 (claimed_tasks t) =
    to-task ∙ ap (link_at 1 0) many ∙ sym (link_from 1 0 (claimed_tasks t)) in
    let second : lock ≡ link_to index (claimed_locks t) =
    to-lock ∙ ap (link_at index 0) few ∙ sym (link_from index 0 (claimed_locks t)) in
    let tasks-part = task_records 1 (claimed_tasks t) in
    let to : ℕ = link_to 1 (claimed_tasks t) in
    let named : header_record t task lock ≡ header_record t to (link_to index (claimed_locks t)) =
    λ j. header_record t (first j) (second j) in
    puts_same
    (ap (λ (l : List ℕ). l ++ tasks-part ++ lock_records index (claimed_locks t)) named
    ∙ ap
    (λ (k : ℕ). header_record t to (link_to k (claimed_locks t)) ++ tasks-part ++ lock_records k (claimed_locks t))
    is) (puts_more (puts_more one two) three)
