-- The table read back from a table's layout: the same, with what stands past its counts made blank.
-- Assumes nothing.
use Rattle.std.specs.Prelude.{◌≡◌, refl, ℕ, suc, ◌+◌, ◌*◌, ◌≤◌, List, [], ◌∷◌, ◌++◌, map, length, take, drop}
use Rattle.std.proofs.Math.Path.{sym, ap}
use Rattle.std.proofs.Common.{subst, ◌∙◌, arith, append_assoc, length-append, take_at}
use Rattle.std.proofs.lemmas.Simd.{map-map}
use Rattle.notation.specs.Checked.{passed}
use Rattle.notation.specs.Laws.ListLaws.{from_length}
use Rattle.notation.specs.Lists.{from, padded}
use Rattle.notation.specs.Ordered.{Every}
use Rattle.taskfile.specs.declared.Instruction.{Instruction}
use Rattle.taskfile.specs.declared.Table.{Table}
use Rattle.taskfile.specs.declared.TaskEntry.{TaskEntry}
use Rattle.taskfile.specs.Chains.{most_tasks, most_locks, most_instructions}
use Rattle.taskfile.specs.Records.{File, byte_at, wide_at, instruction_at}
use Rattle.taskfile.specs.Tables.{tasks_of, ceilings_of, holdings_of, end_instruction, no_task, entry_at, table_at}
use Rattle.writer.specs.declared.Lock.{Lock}
use Rattle.writer.specs.Claims.{claimed_tasks, claimed_body, lock_by_lock, lock_array, no_lock, claimed_locks}
use Rattle.writer.specs.Sites.{locks_at}
use Rattle.writer.specs.Covered.{covered_entry, covered}
use Rattle.writer.specs.Values.{FitsEntry, Fits}
use Rattle.writer.specs.Fields.{fields}
use Rattle.writer.specs.Layout.{wide_bytes, link_to, instruction_record, body_records, task_record, after_task, task_records}
use Rattle.writer.specs.Layout.{lock_record, lock_records, header_record, layout}
use Rattle.writer.proofs.Laws.CheckedTableLaws.{tasks_fit, body_claimed, fields_within, tasks_claimed, locks_even, locks_claimed}
use Rattle.writer.proofs.Laws.ClaimLaws.{claimed_length}
use Rattle.writer.proofs.Laws.Laid.{laid_task, laid_tasks, laid_chains}
use Rattle.writer.proofs.Laws.LaidChainLaws.{layout_parts}
use Rattle.writer.proofs.Laws.LaidRecordLaws.{instruction_back, ceiling_back, execution_back, period_back, arrival_back}
use Rattle.writer.proofs.Laws.LaidRecordLaws.{window_back, holding_back}
use Rattle.writer.proofs.Laws.LayoutLaws.{body_records_length, task_record_length}
use Rattle.writer.proofs.Laws.LockLaws.{lock_at, HoldingFits, locks_ceilings, locks_holdings, locks_full, claimed_locks_fit}
use Rattle.writer.proofs.Laws.PartLaws.{StandsAt, stands_first, stands_second}

-- ---- bodies and locks

instruction_size_lem : (i : Instruction) (next : ℕ) → length (instruction_record i next) ≡ 16 * 1
unfolding instruction_record
instruction_size_lem i next = refl

instructions_back : (f : File) (r : ℕ) (body : List Instruction) → StandsAt f r (body_records r body)
    → map (instruction_at f) (from r (length body)) ≡ body
unfolding body_records from
instructions_back f r [] stands = refl
instructions_back f r (i ∷ others) stands =
    let next = link_to (suc r) others in
    let own = instruction_record i next in
    let rest = body_records (suc r) others in
    let here = instruction_back f i next r (stands_first f r own rest stands) in
    let after = stands_second f r 1 (suc r) own rest stands (instruction_size_lem i next) (omega arith) in
    let later = instructions_back f (suc r) others after in
    λ j. here j ∷ later j

lock_size : (lock : Lock) (next : ℕ) → length (lock_record lock next) ≡ 16 * 1
unfolding lock_record wide_bytes
lock_size lock next = refl

locks_back : (f : File) (r : ℕ) (locks : List Lock) → Every HoldingFits locks → StandsAt f r (lock_records r locks)
    → map (lock_at f) (from r (length locks)) ≡ locks
unfolding lock_records from lock_at
locks_back f r [] fit stands = refl
locks_back f r (lock ∷ others) fit stands =
    let next = link_to (suc r) others in
    let own = lock_record lock next in
    let rest = lock_records (suc r) others in
    let first = stands_first f r own rest stands in
    let ceiling = ceiling_back f lock next r first in
    let holding = holding_back f lock next r first fit.0 in
    let after = stands_second f r 1 (suc r) own rest stands (lock_size lock next) (omega arith) in
    let later = locks_back f (suc r) others fit.1 after in
    λ j. record { ceiling = ceiling j; holding = holding j } ∷ later j

-- ---- tasks

claimed_body_length : (e : TaskEntry) → FitsEntry e → e.length ≤ 16 → length (claimed_body e) ≡ e.length
unfolding claimed_body
claimed_body_length e fit within = claimed_length e.length e.body end_instruction (omega (arith, fit.body))

-- a task and its body
entry_back : (f : File) (r : ℕ) (e : TaskEntry) (next first : ℕ) → FitsEntry e → e.length ≤ 16
    → StandsAt f r (task_record e next first ++ body_records (suc r) (claimed_body e))
    → entry_at f (laid_task r e) ≡ covered_entry e
unfolding entry_at laid_task covered_entry
entry_back f r e next first fit within stands =
    let own = task_record e next first in
    let records = body_records (suc r) (claimed_body e) in
    let task = stands_first f r own records stands in
    let after = stands_second f r 1 (suc r) own records stands (task_record_length e next first) (omega arith) in
    let execution = execution_back f e next first r task fit in
    let period = period_back f e next first r task fit in
    let arrival = arrival_back f e next first r task fit in
    let long = from_length (suc r) (length (claimed_body e)) ∙ claimed_body_length e fit within in
    let body = instructions_back f (suc r) (claimed_body e) after ∙ body_claimed e fit within in
    λ j.
    record {
      execution = execution j;
      period = period j;
      arrival = arrival j;
      length = long j;
      body = padded most_instructions end_instruction (body j);
    }

-- how many bytes a task and its body have
task_size : (r : ℕ) (e : TaskEntry) (next first : ℕ)
    → length (task_record e next first ++ body_records (suc r) (claimed_body e)) ≡ 16 * suc (length (claimed_body e))
task_size r e next first =
    omega (
      arith,
      length-append (task_record e next first) (body_records (suc r) (claimed_body e)),
      task_record_length e next first,
      body_records_length (suc r) (claimed_body e),
    )

after_task_lem : (r : ℕ) (e : TaskEntry) → after_task r e ≡ r + suc (length (claimed_body e))
unfolding after_task
after_task_lem r e = omega arith

tasks_back : (f : File) (r : ℕ) (tasks : List TaskEntry) → Every FitsEntry tasks
    → Every (λ (e : TaskEntry). e.length ≤ 16) tasks → StandsAt f r (task_records r tasks)
    → map (entry_at f) (laid_tasks r tasks) ≡ map covered_entry tasks
unfolding task_records laid_tasks
tasks_back f r [] fit within stands = refl
tasks_back f r (e ∷ others) fit within stands =
    let next = link_to (after_task r e) others in
    let first = link_to (suc r) (claimed_body e) in
    let own = task_record e next first ++ body_records (suc r) (claimed_body e) in
    let rest = task_records (after_task r e) others in
    let here = entry_back f r e next first fit.0 within.0 (stands_first f r own rest stands) in
    let after : StandsAt f (after_task r e) rest =
    stands_second f r (suc (length (claimed_body e))) (after_task r e) own rest stands (task_size r e next first) (after_task_lem r e) in
    let later = tasks_back f (after_task r e) others fit.1 within.1 after in
    λ j. here j ∷ later j

-- ---- the whole table

store_stands : (t : Table) → Fits t → (firstTask firstLock : ℕ) (back : List ℕ)
    → take 8 (drop 8 (header_record t firstTask firstLock ++ back)) ≡ t.store
unfolding header_record wide_bytes
store_stands t fit firstTask firstLock back = take_at t.store back 8 fit.store

store_back : (t : Table) → Fits t → take 8 (drop 8 (layout t)) ≡ t.store
unfolding layout
store_back t fit =
    let firstTask = link_to 1 (claimed_tasks t) in
    let firstLock = link_to (locks_at t) (claimed_locks t) in
    let tasks = task_records 1 (claimed_tasks t) in
    let locks = lock_records (locks_at t) (claimed_locks t) in
    ap (λ (g : File). take 8 (drop 8 g)) (append_assoc (header_record t firstTask firstLock) tasks locks)
    ∙ store_stands t fit firstTask firstLock (tasks ++ locks)

laid_tasks_length : (r : ℕ) (tasks : List TaskEntry) → length (laid_tasks r tasks) ≡ length tasks
unfolding laid_tasks
laid_tasks_length r [] = refl
laid_tasks_length r (e ∷ others) = ap suc (laid_tasks_length (after_task r e) others)

claimed_tasks_length : (t : Table) → Fits t → t.tasks ≤ 8 → length (claimed_tasks t) ≡ t.tasks
unfolding claimed_tasks
claimed_tasks_length t fit within = claimed_length t.tasks t.entries no_task (omega (arith, fit.entries_full))

claimed_locks_length : (t : Table) → Fits t → t.locks ≤ 8 → length (claimed_locks t) ≡ t.locks
unfolding claimed_locks
claimed_locks_length t fit within =
    claimed_length t.locks (lock_array t) no_lock (omega (arith, locks_full t fit))

module _ (t : Table) (fit : Fits t) {u : Unit {0}} (sound : fields t ≡ passed u) where
  entries_back : map (entry_at (layout t)) (laid_tasks 1 (claimed_tasks t)) ≡ map covered_entry (tasks_of t)
  entries_back =
      let same = tasks_claimed t fit sound in
      ap (λ (tasks : List TaskEntry). map (entry_at (layout t)) (laid_tasks 1 tasks)) same
      ∙ tasks_back (layout t) 1 (tasks_of t) (tasks_fit t fit) (fields_within t fit sound).2
      (subst (λ (tasks : List TaskEntry). StandsAt (layout t) 1 (task_records 1 tasks)) same (layout_parts t fit).1)

  -- the ceilings, and the holding times
  laid_locks : List ℕ
  laid_locks = from (locks_at t) (length (claimed_locks t))

  held_back : map (lock_at (layout t)) laid_locks ≡ lock_by_lock (ceilings_of t) (holdings_of t)
  unfolding laid_locks
  held_back =
      locks_back (layout t) (locks_at t) (claimed_locks t) (claimed_locks_fit t fit) (layout_parts t fit).2
      ∙ locks_claimed t fit sound

  ceilings_back : map (λ r. byte_at (layout t) r 2) laid_locks ≡ ceilings_of t
  unfolding lock_at
  ceilings_back =
      sym (map-map (λ (lock : Lock). lock.ceiling) (lock_at (layout t)) laid_locks)
      ∙ ap (map (λ (lock : Lock). lock.ceiling)) held_back
      ∙ locks_ceilings (ceilings_of t) (holdings_of t) (locks_even t fit)

  holdings_back : map (λ r. wide_at (layout t) r 4) laid_locks ≡ holdings_of t
  unfolding lock_at
  holdings_back =
      sym (map-map (λ (lock : Lock). lock.holding) (lock_at (layout t)) laid_locks)
      ∙ ap (map (λ (lock : Lock). lock.holding)) held_back
      ∙ locks_holdings (ceilings_of t) (holdings_of t) (locks_even t fit)

  -- the table that the layout spells
  pub table_laid : table_at (layout t) (laid_chains t) ≡ covered t
  unfolding table_at laid_chains covered laid_locks
  table_laid =
      let within = fields_within t fit sound in
      let parts = layout_parts t fit in
      let window = window_back (layout t) t _ _ fit parts.0 in
      let store = store_back t fit in
      let tasks = laid_tasks_length 1 (claimed_tasks t) ∙ claimed_tasks_length t fit within.0 in
      let entries = entries_back in
      let locks = from_length (locks_at t) (length (claimed_locks t)) ∙ claimed_locks_length t fit within.1 in
      λ j.
      record {
        window = window j;
        store = store j;
        tasks = tasks j;
        entries = padded most_tasks no_task (entries j);
        locks = locks j;
        ceilings = padded most_locks 0 (ceilings_back j);
        holdings = padded most_locks 0 (holdings_back j);
      }
