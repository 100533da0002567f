-- Laws of a table's layout as it is written into a buffer with room for it, from a place on: a part of it, and what is
-- left to write; a body, the tasks, the locks.
-- Assumes nothing.
use Rattle.std.specs.Prelude.{◌≡◌, ℕ, suc, ◌+◌, ◌≤◌, List, [], ◌∷◌, ◌++◌, length, drop}
use Rattle.std.proofs.Common.{sym, ap, ◌∙◌, arith, add-one, append_assoc, append-nil, drop_of_length-le}
use Rattle.taskfile.specs.declared.Table.{Table}
use Rattle.taskfile.specs.declared.TaskEntry.{TaskEntry}
use Rattle.writer.specs.Claims.{claimed_tasks, claimed_body, claimed_locks}
use Rattle.writer.specs.Sites.{locks_at}
use Rattle.writer.specs.Layout.{link_to, body_records, task_record, task_records}
use Rattle.writer.specs.Layout.{lock_records, header_record, layout, layout_room}
use Rattle.notation_buffers.specs.Laws.WritingLaws.{appends_none, appends_more, appends_length}
use Rattle.writer_layout.specs.Laws.RecordBytes.{Lays, lays_same}
use Rattle.writer_layout.specs.Code.ClaimedParts.{link_at}
use Rattle.writer_layout.specs.Laws.CountedLaws.{link_from}
use Rattle.writer_layout.specs.Laws.LayingLaws.{Linked, link_after_lem, parts_left}
use Rattle.writer_layout.specs.Code.Layouts.{task_part}

-- ---- a part is written, and the rest is left

-- of the bytes `whole`, those before `rest` were written
pub record Laying (before : List ℕ) (at : ℕ) (whole now : List ℕ) (next : ℕ) (rest : List ℕ) : Type 0 where
  pub done : List ℕ
  pub is : Lays before at done now next
  pub joins : done ++ rest ≡ whole

pub laying_whole : (before : List ℕ) (at : ℕ) {whole rest : List ℕ} → rest ≡ whole
    → Laying before at whole before at rest
laying_whole before at e = record { done = []; is = appends_none layout_room before at; joins = e }

pub laying_more : {before : List ℕ} {at : ℕ} {whole now : List ℕ} {next : ℕ} {rest part left after : List ℕ} {n : ℕ}
    → layout_room ≤ length before → rest ≡ part ++ left → Laying before at whole now next rest
    → Lays now next part after n
    → Laying before at whole after n left
laying_more {part = part} {left} enough split laying more =
    record {
      done = laying.done ++ part;
      is = appends_more enough laying.is more;
      joins =
          append_assoc laying.done part left
          ∙ ap (λ (l : List ℕ). laying.done ++ l) (sym split)
          ∙ laying.joins;
    }

pub laying_all : {before : List ℕ} {at : ℕ} {whole now : List ℕ} {next : ℕ} {rest : List ℕ} → rest ≡ []
    → Laying before at whole now next rest → Lays before at whole now next
laying_all none laying =
    lays_same
    (sym (append-nil laying.done) ∙ ap (λ (l : List ℕ). laying.done ++ l) (sym none) ∙ laying.joins)
    laying.is

pub laying_length : {before : List ℕ} {at : ℕ} {whole now : List ℕ} {next : ℕ} {rest : List ℕ}
    → Laying before at whole now next rest → layout_room ≤ length before → length now ≡ length before
laying_length laying enough = appends_length laying.is enough

-- ---- parts of one kind, each linked to the next

-- none is written yet
pub parts_whole : {A : Type 0} (recordsFrom : ℕ → List A → List ℕ) (r : ℕ) (parts : List A) (before : List ℕ) (at : ℕ)
    → Laying before at (recordsFrom r parts) before at (parts_left recordsFrom r parts 0)
unfolding parts_left
parts_whole recordsFrom r parts before at =
    let same : r + 0 ≡ r = omega arith in
    laying_whole before at (ap (λ (k : ℕ). recordsFrom k parts) same)

-- part p is written next
pub parts_more : {A : Type 0} {record_of : A → ℕ → List ℕ} {recordsFrom : ℕ → List A → List ℕ}
    → Linked record_of recordsFrom → (r : ℕ) (parts : List A) (p : ℕ) {x : A} {count link : ℕ}
    {before : List ℕ} {at : ℕ} {whole now : List ℕ} {next : ℕ} {after : List ℕ} {n : ℕ}
    → layout_room ≤ length before → drop p parts ≡ x ∷ drop (suc p) parts → count ≡ length parts
    → link ≡ link_at (r + p + 1) (p + 1) count → Laying before at whole now next (parts_left recordsFrom r parts p)
    → Lays now next (record_of x link) after n → Laying before at whole after n (parts_left recordsFrom r parts (p + 1))
unfolding parts_left
parts_more {record_of = record_of} {recordsFrom} linked r parts p {x} {link = link} enough here counted is laying lays =
    let same : link ≡ link_to (suc (r + p)) (drop (suc p) parts) =
    link_after_lem (r + p + 1) p parts counted is ∙ ap (λ (k : ℕ). link_to k (drop (suc p) parts)) (add-one (r + p)) in
    let later : suc (r + p) ≡ r + (p + 1) = omega arith in
    let split : recordsFrom (r + p) (drop p parts)
    ≡ record_of x link ++ recordsFrom (r + (p + 1)) (drop (p + 1) parts) =
    ap (recordsFrom (r + p)) here
    ∙ linked.one (r + p) x (drop (suc p) parts)
    ∙ (λ j. record_of x (sym same j) ++ recordsFrom (later j) (drop (sym (add-one p) j) parts)) in
    laying_more enough split laying lays

-- all are written
pub parts_all : {A : Type 0} {record_of : A → ℕ → List ℕ} {recordsFrom : ℕ → List A → List ℕ}
    → Linked record_of recordsFrom → (r : ℕ) (parts : List A) (p : ℕ) → length parts ≤ p
    → {before : List ℕ} {at : ℕ} {whole now : List ℕ} {next : ℕ}
    → Laying before at whole now next (parts_left recordsFrom r parts p) → Lays before at whole now next
unfolding parts_left
parts_all {recordsFrom = recordsFrom} linked r parts p all laying =
    laying_all (ap (recordsFrom (r + p)) (drop_of_length-le parts all) ∙ linked.none (r + p)) laying

-- ---- a task's part, and the whole layout

pub task_laid : (e : TaskEntry) (r link : ℕ) {count first : ℕ} {before : List ℕ} {at : ℕ} {mid : List ℕ} {m : ℕ}
    {after : List ℕ} {n : ℕ} → layout_room ≤ length before → count ≡ length (claimed_body e)
    → first ≡ link_at (r + 1) 0 count
    → Lays before at (task_record e link first) mid m → Lays mid m (body_records (r + 1) (claimed_body e)) after n
    → Lays before at (task_part e r link) after n
unfolding task_part
task_laid e r link {count} {first} enough counted linked one two =
    let body = claimed_body e in
    let same : first ≡ link_to (r + 1) body =
    linked ∙ ap (link_at (r + 1) 0) counted ∙ sym (link_from (r + 1) 0 body) in
    lays_same
    (ap (λ (k : ℕ). task_record e link k ++ body_records (r + 1) body) same
    ∙ ap (λ (k : ℕ). task_record e link (link_to k body) ++ body_records k body) (add-one r)) (appends_more enough one two)

pub layout_laid : (t : Table) {index tasks locks task lock : ℕ} {before mid : List ℕ} {m : ℕ} {later : List ℕ} {k : ℕ}
    {after : List ℕ} {n : ℕ} → layout_room ≤ length before → index ≡ locks_at t
    → tasks ≡ length (claimed_tasks t) → locks ≡ length (claimed_locks t)
    → task ≡ link_at 1 0 tasks → lock ≡ link_at index 0 locks
    → Lays before 0 (header_record t task lock) mid m → Lays mid m (task_records 1 (claimed_tasks t)) later k
    → Lays later k (lock_records index (claimed_locks t)) after n → Lays before 0 (layout t) after n
unfolding layout
layout_laid t {index} {tasks} {locks} {task} {lock} enough is many few to-task to-lock one two three =
    let first : task ≡ link_to 1 (claimed_tasks t) =
    to-task ∙ ap (link_at 1 0) many ∙ sym (link_from 1 0 (claimed_tasks t)) in
    let second : lock ≡ link_to index (claimed_locks t) =
    to-lock ∙ ap (link_at index 0) few ∙ sym (link_from index 0 (claimed_locks t)) in
    let tasks-part = task_records 1 (claimed_tasks t) in
    let to : ℕ = link_to 1 (claimed_tasks t) in
    let named : header_record t task lock ≡ header_record t to (link_to index (claimed_locks t)) =
    λ j. header_record t (first j) (second j) in
    lays_same
    (ap (λ (l : List ℕ). l ++ tasks-part ++ lock_records index (claimed_locks t)) named
    ∙ ap
    (λ (k : ℕ). header_record t to (link_to k (claimed_locks t)) ++ tasks-part ++ lock_records k (claimed_locks t))
    is) (appends_more enough (appends_more enough one two) three)
