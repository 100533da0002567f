-- The walk of a table's layout comes to the table's fields, at the index that each record has; and its size is right.
-- Assumes nothing.
use Rattle.std.specs.Prelude.{◌≡◌, refl, ℕ, zero, suc, ◌+◌, ◌*◌, ◌%◌, ◌≤◌, ◌<◌, true, not, List, [], ◌∷◌, ◌++◌, eqb, length}
use Rattle.std.proofs.Common.{sym, ap, ◌∙◌, arith, append-nil, length-append, eq-eqb, le-leb}
use Rattle.notation.specs.Checked.{passed, require, placed_by, ◌>>=◌, ◌>>◌}
use Rattle.notation.specs.Lists.{from, up_to, each, member, sum}
use Rattle.notation.specs.Laws.CheckedLaws.{then_goes}
use Rattle.notation.specs.Laws.MemberLaws.{member_inside}
use Rattle.notation.specs.Laws.PaddedLaws.{padded_length, every_padded, every_take}
use Rattle.notation.specs.Laws.PairLaws.{every_imp, every_append, from_within}
use Rattle.notation.specs.Ordered.{Every}
use Rattle.taskfile.specs.declared.Kind.TheVariants.{Header, LockRecord}
use Rattle.taskfile.specs.declared.Site.TheVariants.{AtHeader, AtTask, AtInstruction, AtLock}
use Rattle.taskfile.specs.declared.Table.{Table}
use Rattle.taskfile.specs.declared.TaskEntry.{TaskEntry}
use Rattle.taskfile.specs.Chains.{most_tasks, most_locks, most_instructions, chain, task_chains, records_of}
use Rattle.taskfile.specs.Chains.{reached_by, no_stray, chains_of}
use Rattle.taskfile.specs.File.{sized}
use Rattle.taskfile.proofs.Laws.CheckSteps.{none_of_up_to_none}
use Rattle.taskfile.specs.Judgement.{numbered}
use Rattle.taskfile.specs.Records.{records, window_in_range}
use Rattle.taskfile.specs.Tables.{end_instruction, no_task}
use Rattle.writer.specs.Claims.{claimed, claimed_tasks, claimed_body, lock_array, no_lock, claimed_locks}
use Rattle.writer.specs.Sites.{index_of, locks_at}
use Rattle.writer.specs.Values.{FitsEntry, ByteFields, Fits}
use Rattle.writer.specs.Fields.{task_fields, lock_fields, fields}
use Rattle.writer.specs.Layout.{link_to, after_task, header_record, task_records, lock_records, layout}
use Rattle.writer.proofs.Laws.ClaimLaws.{claimed_most}
use Rattle.writer.proofs.Laws.Laid.{laid_task, laid_tasks, laid_chains}
use Rattle.writer.proofs.Laws.LaidListLaws.{Below, record_of_laid}
use Rattle.writer.proofs.Laws.LaidRecordLaws.{header_kind, header_task, header_lock, header_fine}
use Rattle.writer.proofs.Laws.LaidTaskLaws.{TaskPlaces, claimed_linked, locks_laid, tasks_laid}
use Rattle.writer.proofs.Laws.LayoutLaws.{header_record_length, task_records_length, lock_records_length}
use Rattle.writer.proofs.Laws.LockLaws.{locks_full}
use Rattle.writer.proofs.Laws.PartLaws.{StandsAt, stands_first, stands_second}
use Rattle.writer.proofs.Laws.PlacedCheckLaws.{placed_whole}
use Rattle.writer.proofs.Laws.SiteLaws.{record_total, record_total_cons, counted_index, index_counted, locks_counted}

-- ---- what a table that fits claims

pub no_task_fits : FitsEntry no_task
unfolding no_task
no_task_fits =
    record {
      execution = omega arith;
      period = omega arith;
      arrival = omega arith;
      body = padded_length most_instructions end_instruction [];
      instructions =
          every_padded ByteFields most_instructions end_instruction [] (omega arith, omega arith, omega arith) tt;
    }

-- every task that a table claims fits, also the one too many
pub claimed_fit : (t : Table) → Fits t → Every FitsEntry (claimed_tasks t)
unfolding claimed_tasks claimed
claimed_fit t fits =
    every_take FitsEntry t.tasks (t.entries ++ no_task ∷ [])
    (every_append FitsEntry t.entries (no_task ∷ []) fits.entries (no_task_fits, tt))

-- ---- how many records there are

body_most : (e : TaskEntry) → FitsEntry e → length (claimed_body e) ≤ 17
unfolding claimed_body
body_most e fits = omega (arith, claimed_most e.length e.body end_instruction, fits.body)

total_most : (tasks : List TaskEntry) → Every FitsEntry tasks → record_total tasks ≤ 18 * length tasks
unfolding record_total sum
total_most [] fit = omega arith
total_most (e ∷ others) fit = omega (arith, record_total_cons e others, body_most e fit.0, total_most others fit.1)

pub layout_bytes : (t : Table) → Fits t
    → length (layout t) ≡ 16 * (suc (record_total (claimed_tasks t)) + length (claimed_locks t))
unfolding layout
layout_bytes t fits =
    let header = header_record t (link_to 1 (claimed_tasks t)) (link_to (locks_at t) (claimed_locks t)) in
    let tasks = task_records 1 (claimed_tasks t) in
    let locks = lock_records (locks_at t) (claimed_locks t) in
    length-append (header ++ tasks) locks
    ∙ omega (
      arith,
      length-append header tasks,
      header_record_length t (link_to 1 (claimed_tasks t)) (link_to (locks_at t) (claimed_locks t)) fits.store,
      task_records_length 1 (claimed_tasks t),
      lock_records_length (locks_at t) (claimed_locks t),
    )

pub layout_records : (t : Table) → Fits t
    → records (layout t) ≡ suc (record_total (claimed_tasks t)) + length (claimed_locks t)
unfolding records
layout_records t fits = omega (arith, layout_bytes t fits)

-- at most 1 + 9 × 18 + 9
pub layout_most : (t : Table) → Fits t → suc (record_total (claimed_tasks t)) + length (claimed_locks t) ≤ 172
unfolding claimed_tasks claimed_locks
layout_most t fits =
    omega (
      arith,
      total_most (claimed_tasks t) (claimed_fit t fits),
      claimed_most t.tasks t.entries no_task,
      claimed_most t.locks (lock_array t) no_lock,
      fits.entries_full,
      locks_full t fits,
    )

-- 1 holds of it
pub sized_laid : (t : Table) → Fits t → sized (layout t) ≡ true
unfolding sized
sized_laid t fits =
    let long = layout_bytes t fits in
    let most = layout_most t fits in
    rw (le-leb 1 (length (layout t)) (omega arith), le-leb (length (layout t)) 4096 (omega arith))
    (eq-eqb (length (layout t) % 16) 0 (omega arith))

-- ---- where the parts stand

-- the header, the tasks and the locks
pub layout_parts : (t : Table) → Fits t
    → StandsAt (layout t) 0 (header_record t (link_to 1 (claimed_tasks t)) (link_to (locks_at t) (claimed_locks t)))
    × StandsAt (layout t) 1 (task_records 1 (claimed_tasks t))
    × StandsAt (layout t) (locks_at t) (lock_records (locks_at t) (claimed_locks t))
unfolding layout
layout_parts t fits =
    let firstTask = link_to 1 (claimed_tasks t) in
    let firstLock = link_to (locks_at t) (claimed_locks t) in
    let header = header_record t firstTask firstLock in
    let tasks = task_records 1 (claimed_tasks t) in
    let locks = lock_records (locks_at t) (claimed_locks t) in
    let whole : StandsAt (layout t) 0 (header ++ tasks ++ locks) =
    record { front = []; back = []; whole = sym (append-nil (header ++ tasks ++ locks)); before = refl } in
    let front = stands_first (layout t) 0 (header ++ tasks) locks whole in
    let long = header_record_length t firstTask firstLock fits.store in (
      stands_first (layout t) 0 header tasks front,
      stands_second (layout t) 0 1 1 header tasks front (omega (arith, long)) (omega arith),
      stands_second (layout t) 0 (locks_at t) (locks_at t) (header ++ tasks) locks whole
          (length-append header tasks ∙ omega (arith, long, task_records_length 1 (claimed_tasks t), locks_counted t))
          (omega arith),
    )

-- the tasks stand, with their bodies, where `index_of` says; and so do the locks
pub layout_places : (t : Table) → TaskPlaces (index_of t) 0 1 (claimed_tasks t)
unfolding counted_index
layout_places t =
    record {
      task_place = λ j few.
          let same : 0 + j ≡ j = omega arith in
          ap (λ n. index_of t (AtTask (numbered n))) same ∙ index_counted t (AtTask (numbered j)) few ∙ omega arith;
      instruction_place = λ j q few inside.
          let same : 0 + j ≡ j = omega arith in
          ap (λ n. index_of t (AtInstruction (numbered n) q)) same
          ∙ index_counted t (AtInstruction (numbered j) q) (few, inside)
          ∙ omega arith;
    }

pub lock_places : (t : Table) (q : ℕ) → q < length (claimed_locks t) → index_of t (AtLock (0 + q)) ≡ locks_at t + q
unfolding counted_index
lock_places t q few =
    let same : 0 + q ≡ q = omega arith in
    ap (λ n. index_of t (AtLock n)) same ∙ index_counted t (AtLock q) few ∙ omega (arith, locks_counted t)

-- ---- the records reached

-- numbers from a start on, and then those after them
from_append : (start m n : ℕ) → from start m ++ from (start + m) n ≡ from start (m + n)
unfolding from
from_append start zero n =
    let first : start + 0 ≡ start = omega arith in
    let many : n ≡ 0 + n = omega arith in
    λ k. from (first k) (many k)
from_append start (suc m) n =
    let next : start + suc m ≡ suc start + m = omega arith in
    let more : suc (m + n) ≡ suc m + n = omega arith in
    ap (λ (k : ℕ). start ∷ (from (suc start) m ++ from k n)) next
    ∙ ap (λ (l : List ℕ). start ∷ l) (from_append (suc start) m n)
    ∙ ap (λ (k : ℕ). from start k) more

-- the locks stand after the header and the tasks
locks_after : (t : Table) → locks_at t ≡ 0 + suc (record_total (claimed_tasks t))
locks_after t = omega (arith, locks_counted t)

-- the records of tasks laid out from index r on are those from r on
pub tasks_reached : (r : ℕ) (tasks : List TaskEntry) → records_of (laid_tasks r tasks) ≡ from r (record_total tasks)
unfolding records_of each laid_tasks laid_task from record_total sum after_task
tasks_reached r [] = refl
tasks_reached r (e ∷ others) =
    let n = length (claimed_body e) in
    let after : suc r + n ≡ r + suc n = omega arith in
    ap (λ (l : List ℕ). (r ∷ from (suc r) n) ++ l) (tasks_reached (after_task r e) others)
    ∙ ap (λ (k : ℕ). (r ∷ from (suc r) n) ++ from k (record_total others)) after
    ∙ from_append r (suc n) (record_total others)

-- all records are reached, in the order in which they stand
pub reached_laid : (t : Table) → Fits t → reached_by (laid_chains t) ≡ up_to (records (layout t))
unfolding reached_by laid_chains up_to from
reached_laid t fits =
    let total = record_total (claimed_tasks t) in
    let n = length (claimed_locks t) in
    ap (λ (l : List ℕ). 0 ∷ (l ++ from (locks_at t) n)) (tasks_reached 1 (claimed_tasks t))
    ∙ ap (λ (k : ℕ). 0 ∷ (from 1 total ++ from k n)) (locks_after t)
    ∙ from_append 0 (suc total) n
    ∙ ap (λ (k : ℕ). from 0 k) (sym (layout_records t fits))

-- so 6 holds
pub stray_laid : (t : Table) → Fits t → no_stray (layout t) (laid_chains t) ≡ passed tt
unfolding no_stray up_to
stray_laid t fits =
    none_of_up_to_none 6 (λ r. not (member r (reached_by (laid_chains t)))) (records (layout t)) (λ k lt.
    ap (λ (l : List ℕ). not (member k l)) (reached_laid t fits)
    ∙ ap not (member_inside k 0 (records (layout t)) (omega arith) (omega arith)))

-- ---- the whole walk

-- the locks come after all that was reached
pub locks_below : (t : Table) → Below (locks_at t) (0 ∷ records_of (laid_tasks 1 (claimed_tasks t)))
locks_below t =
    let total = record_total (claimed_tasks t) in
    let after = locks_after t in (
      omega arith,
      rw (tasks_reached 1 (claimed_tasks t))
          (every_imp (λ k. (1 ≤ k) × (k < 1 + total)) (λ k. k < locks_at t) (λ k h. omega (arith, h.1)) (from 1 total)
          (from_within 1 total)),
    )

header_place : (t : Table) → index_of t AtHeader ≡ 0
unfolding counted_index
header_place t = index_counted t AtHeader tt

-- the header has a first task just if the table counts one
tasks_linked_some : (t : Table) → eqb (link_to 1 (claimed_tasks t)) 0 ≡ eqb t.tasks 0
unfolding claimed_tasks
tasks_linked_some t = claimed_linked t.tasks t.entries no_task 0

-- numbers 2 to 6 of a table's layout are the table's own 4 and 5, and its chains are the stretches laid out
pub chains_laid : (t : Table) → Fits t
    → chains_of (layout t) ≡ ◌>>◌ (placed_by (index_of t) (fields t)) (passed (laid_chains t))
unfolding chains_of fields laid_chains
chains_laid t fits =
    let f = layout t in
    let tasks = claimed_tasks t in
    let locks = claimed_locks t in
    let firstTask = link_to 1 tasks in
    let firstLock = link_to (locks_at t) locks in
    let parts = layout_parts t fits in
    let header = record_of_laid Header f 0 (window_in_range t.window)
    (header_kind f t firstTask firstLock fits parts.0) (header_fine f t firstTask firstLock fits parts.0) in
    let task = header_task f t firstTask firstLock fits parts.0 in
    let lock = header_lock f t firstTask firstLock fits parts.0 in
    let some = tasks_linked_some t in
    let walked = tasks_laid f (index_of t) tasks 1 0 most_tasks (0 ∷ []) 0 (claimed_fit t fits) parts.1 (omega arith)
    (omega arith, tt) (omega arith) (layout_places t) in
    let last = locks_laid f (index_of t) locks (locks_at t) 0 most_locks (0 ∷ records_of (laid_tasks 1 tasks)) 0 parts.2
    (omega (arith, locks_after t)) (locks_below t) (omega arith) (lock_places t) in
    (λ k. ◌>>◌ (header k) (◌>>◌ (require (not (eqb (task k) 0)) 5 0)
    (◌>>=◌ (task_chains most_tasks f (0 ∷ []) 0 (task k)) (λ ts.
    ◌>>=◌ (chain LockRecord most_locks f (0 ∷ records_of ts) 0 (lock k)) (λ ls.
    ◌>>◌ (no_stray f (record { tasks = ts; locks = ls })) (passed (record { tasks = ts; locks = ls })))))))
    ∙ (λ k. ◌>>◌ (require (window_in_range t.window) 4 0) (◌>>◌ (require (not (some k)) 5 0)
    (◌>>=◌ (walked k) (λ ts.
    ◌>>=◌ (chain LockRecord most_locks f (0 ∷ records_of ts) 0 firstLock) (λ ls.
    ◌>>◌ (no_stray f (record { tasks = ts; locks = ls })) (passed (record { tasks = ts; locks = ls })))))))
    ∙ placed_whole (index_of t) (window_in_range t.window) (not (eqb t.tasks 0)) AtHeader (task_fields 0 tasks)
    (lock_fields 0 locks) (laid_tasks 1 tasks) (from (locks_at t) (length locks)) (laid_chains t)
    (λ ts. chain LockRecord most_locks f (0 ∷ records_of ts) 0 firstLock)
    (λ ts ls. ◌>>◌ (no_stray f (record { tasks = ts; locks = ls })) (passed (record { tasks = ts; locks = ls })))
    (header_place t) last (then_goes _ (stray_laid t fits))
