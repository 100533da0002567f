-- The walk of bodies, tasks and locks that were laid out comes to their fields, at the index that each record has.
-- Assumes nothing.
use Rattle.std.specs.Prelude.{◌≡◌, refl, not, ◌&&◌, List, [], ◌∷◌, ◌++◌, ltb, eqb, length, get_or, take}
use Rattle.std.proofs.Common.{sym, ◌∙◌, length-append, le-ltb}
use Rattle.std.proofs.Math.Path.{ap}
use Prim.Native.Nat.{ℕ, zero, suc, ◌+◌, ◌≤◌, ◌<◌}
use native.Mathlib.Omega.{arith}
use Rattle.std.proofs.Math.Dec.{eqb-suc-zero}
use Rattle.notation.specs.Checked.{passed, require, placed_by, ◌>>=◌, ◌>>◌}
use Rattle.notation.specs.Lists.{from, member, sum}
use Rattle.notation.specs.Laws.PairLaws.{every_imp, every_append, from_within}
use Rattle.notation.specs.Ordered.{Every}
use Rattle.taskfile.specs.declared.Instruction.{Instruction}
use Rattle.taskfile.specs.declared.Kind.TheVariants.{TaskRecord, LockRecord, InstructionRecord}
use Rattle.taskfile.specs.declared.Site.{Site}
use Rattle.taskfile.specs.declared.Site.TheVariants.{AtTask, AtInstruction, AtLock}
use Rattle.taskfile.specs.declared.TaskEntry.{TaskEntry}
use Rattle.taskfile.specs.Chains.{most_tasks, most_locks, most_instructions, follow, chain, body_chain, task_chains}
use Rattle.taskfile.specs.Judgement.{numbered}
use Rattle.taskfile.specs.Records.{File, next, tidy_instruction, instruction_in_range, times_in_range, ceiling_in_range}
use Rattle.taskfile.specs.Tables.{end_instruction, no_task}
use Rattle.writer.specs.declared.Lock.{Lock}
use Rattle.writer.specs.Claims.{claimed, claimed_body}
use Rattle.writer.specs.Values.{FitsEntry}
use Rattle.writer.specs.Fields.{body_fields, task_fields, lock_fields}
use Rattle.writer.specs.Layout.{wide_bytes, link_to, instruction_record, body_records, lock_record, lock_records, task_record}
use Rattle.writer.specs.Layout.{after_task, task_records}
use Rattle.writer.proofs.Laws.Laid.{laid_task, laid_tasks}
use Rattle.writer.proofs.Laws.LaidListLaws.{Below, below_more, below_fresh, follow_laid, more_allowed, chain_laid}
use Rattle.writer.proofs.Laws.LaidRecordLaws.{instruction_kind, instruction_link, instruction_fine}
use Rattle.writer.proofs.Laws.LaidRecordLaws.{lock_kind, lock_link, lock_fine}
use Rattle.writer.proofs.Laws.LaidRecordLaws.{task_kind, task_link, task_first, task_fine}
use Rattle.writer.proofs.Laws.LayoutLaws.{body_records_length, task_record_length}
use Rattle.writer.proofs.Laws.PartLaws.{StandsAt, stands_first, stands_second, stands_inside}
use Rattle.writer.proofs.Laws.PlacedCheckLaws.{bind_rest, placed_many, placed_holder}
use Rattle.writer.proofs.Laws.SiteLaws.{record_total, record_total_cons}

-- ---- bodies and locks

-- the instructions of a body from position p on, laid out from index r on
pub body_laid : (f : File) (index : Site → ℕ) (i : ℕ) (body : List Instruction) (r p allowed : ℕ) (reached : List ℕ)
    (holder : ℕ) → StandsAt f r (body_records r body) → 0 < r → Below r reached → allowed + p ≡ most_instructions
    → ((q : ℕ) → q < length body → index (AtInstruction (numbered i) (p + q)) ≡ r + q)
    → chain InstructionRecord allowed f reached holder (link_to r body)
    ≡ ◌>>◌ (placed_by index (body_fields i p body)) (passed (from r (length body)))
unfolding body_records body_fields instruction_record
body_laid f index i =
    chain_laid InstructionRecord most_instructions (λ here. tidy_instruction here && instruction_in_range here)
    instruction_record body_records (body_fields i) (AtInstruction (numbered i))
    (λ r x others. refl) (λ p. refl) (λ p x others. refl) (λ x link. refl) f
    (instruction_kind f) (instruction_link f) (instruction_fine f) index

-- the locks from lock l on
pub locks_laid : (f : File) (index : Site → ℕ) (locks : List Lock) (r l allowed : ℕ) (reached : List ℕ) (holder : ℕ)
    → StandsAt f r (lock_records r locks) → 0 < r → Below r reached → allowed + l ≡ most_locks
    → ((q : ℕ) → q < length locks → index (AtLock (l + q)) ≡ r + q)
    → chain LockRecord allowed f reached holder (link_to r locks)
    ≡ ◌>>◌ (placed_by index (lock_fields l locks)) (passed (from r (length locks)))
unfolding lock_records lock_fields lock_record wide_bytes
locks_laid f index =
    chain_laid LockRecord most_locks (λ lock. ceiling_in_range lock.ceiling) lock_record lock_records lock_fields AtLock
    (λ r x others. refl) (λ p. refl) (λ p x others. refl) (λ x link. refl) f (lock_kind f) (lock_link f) (lock_fine f)
    index

-- ---- tasks

-- is there a body? the link to it says what its count says
pub claimed_linked : {A : Type 0} (count : ℕ) (array : List A) (blank : A) (r : ℕ)
    → eqb (link_to (suc r) (claimed count array blank)) 0 ≡ eqb count 0
unfolding claimed link_to
claimed_linked zero array blank r = refl
claimed_linked (suc count) [] blank r = eqb-suc-zero r ∙ sym (eqb-suc-zero count)
claimed_linked (suc count) (x ∷ array) blank r = eqb-suc-zero r ∙ sym (eqb-suc-zero count)

-- where the tasks from task i on stand, and their instructions, where the first stands at index r
pub record TaskPlaces (index : Site → ℕ) (i r : ℕ) (tasks : List TaskEntry) : Type 0 where
  pub task_place : (j : ℕ) → j < length tasks → index (AtTask (numbered (i + j))) ≡ r + record_total (take j tasks)
  pub instruction_place : (j q : ℕ) → j < length tasks → q < length (claimed_body (get_or tasks j no_task))
      → index (AtInstruction (numbered (i + j)) q) ≡ suc (r + record_total (take j tasks)) + q

-- so the first task, its instructions and the other tasks stand
module _ (index : Site → ℕ) (i r : ℕ) (e : TaskEntry) (others : List TaskEntry)
    (places : TaskPlaces index i r (e ∷ others)) where
  task_first_place : index (AtTask (numbered i)) ≡ r
  unfolding record_total sum
  task_first_place =
      let same : i ≡ i + 0 = omega arith in
      ap (λ n. index (AtTask (numbered n))) same ∙ places.task_place 0 (omega arith) ∙ omega arith

  body_first_place : (q : ℕ) → q < length (claimed_body e) → index (AtInstruction (numbered i) (0 + q)) ≡ suc r + q
  unfolding record_total sum
  body_first_place q inside =
      let same : i ≡ i + 0 = omega arith in
      let position : 0 + q ≡ q = omega arith in
      (λ k. index (AtInstruction (numbered (same k)) (position k))) ∙ places.instruction_place 0 q (omega arith) inside ∙ omega arith

  task_later_place : TaskPlaces index (suc i) (after_task r e) others
  unfolding after_task
  task_later_place =
      record {
        task_place = λ j few.
            let same : suc i + j ≡ i + suc j = omega arith in
            ap (λ n. index (AtTask (numbered n))) same
            ∙ places.task_place (suc j) (omega arith)
            ∙ omega (arith, record_total_cons e (take j others));
        instruction_place = λ j q few inside.
            let same : suc i + j ≡ i + suc j = omega arith in
            ap (λ n. index (AtInstruction (numbered n) q)) same
            ∙ places.instruction_place (suc j) q (omega arith) inside
            ∙ omega (arith, record_total_cons e (take j others));
      }

after_task_lem : (r : ℕ) (e : TaskEntry) → after_task r e ≡ r + suc (length (claimed_body e))
unfolding after_task
after_task_lem r e = omega arith

after_some : (r : ℕ) (e : TaskEntry) → 0 < after_task r e
after_some r e = omega (arith, after_task_lem r e)

-- the record of a task, its body, and the other tasks
task_parts : (f : File) (r : ℕ) (e : TaskEntry) (others : List TaskEntry) → StandsAt f r (task_records r (e ∷ others))
    → StandsAt f r (task_record e (link_to (after_task r e) others) (link_to (suc r) (claimed_body e)))
    × StandsAt f (suc r) (body_records (suc r) (claimed_body e))
    × StandsAt f (after_task r e) (task_records (after_task r e) others)
unfolding task_records
task_parts f r e others stands =
    let own = task_record e (link_to (after_task r e) others) (link_to (suc r) (claimed_body e)) in
    let body = body_records (suc r) (claimed_body e) in
    let rest = task_records (after_task r e) others in
    let both = stands_first f r (own ++ body) rest stands in
    let long = task_record_length e (link_to (after_task r e) others) (link_to (suc r) (claimed_body e)) in (
      stands_first f r own body both,
      stands_second f r 1 (suc r) own body both long (omega arith),
      stands_second f r (suc (length (claimed_body e))) (after_task r e) (own ++ body) rest stands
          (length-append own body ∙ omega (arith, long, body_records_length (suc r) (claimed_body e))) (after_task_lem r e),
    )

module _ (f : File) (index : Site → ℕ) (i r : ℕ) (e : TaskEntry) (link : ℕ)
    (stands : StandsAt f r (task_record e link (link_to (suc r) (claimed_body e)))) where
  -- what following the index of its record comes to
  task_follow : (allowed : ℕ) (reached : List ℕ) (holder : ℕ) → FitsEntry e → Below r reached → allowed + i ≡ most_tasks
      → follow TaskRecord allowed f (member r reached) holder r
      ≡ ◌>>◌ (require (ltb i most_tasks) 5 r) (require (times_in_range e.execution e.period) 4 r)
  task_follow allowed reached holder fits below count =
      let first = link_to (suc r) (claimed_body e) in
      follow_laid TaskRecord allowed f (member r reached) holder r (ltb i most_tasks)
      (times_in_range e.execution e.period)
      (stands_inside f r (task_record e link first) stands (omega (arith, task_record_length e link first)))
      (below_fresh r reached below) (more_allowed allowed i most_tasks count) (task_kind f e link first r stands)
      (task_fine f e link first r stands fits)

  -- "an empty body (place: the holder)", and the body
  pub body_chain_laid : (reached : List ℕ) → StandsAt f (suc r) (body_records (suc r) (claimed_body e)) → Below r reached
      → ((q : ℕ) → q < length (claimed_body e) → index (AtInstruction (numbered i) (0 + q)) ≡ suc r + q)
      → body_chain f (r ∷ reached) r
      ≡ ◌>>◌ (require (not (eqb e.length 0)) 5 r)
      (◌>>◌ (placed_by index (body_fields i 0 (claimed_body e))) (passed (from (suc r) (length (claimed_body e)))))
  unfolding body_chain claimed_body
  body_chain_laid reached body below places =
      let first = task_first f e link (link_to (suc r) (claimed_body e)) r stands in
      let some = claimed_linked e.length e.body end_instruction r in
      let deeper = body_laid f index i (claimed_body e) (suc r) 0 most_instructions (r ∷ reached) r body (omega arith)
      (omega arith, below_more r (suc r) reached (omega arith) below) (omega arith) places in
      (λ k. ◌>>◌ (require (not (eqb (first k) 0)) 5 r)
      (chain InstructionRecord most_instructions f (r ∷ reached) r (first k)))
      ∙ (λ k. ◌>>◌ (require (not (some k)) 5 r) (deeper k))

-- what is reached with a task is below the index after it
task_below : (r : ℕ) (e : TaskEntry) (reached : List ℕ) → Below r reached
    → Below (after_task r e) (r ∷ from (suc r) (length (claimed_body e)) ++ reached)
unfolding after_task
task_below r e reached below =
    let n = length (claimed_body e) in (
      omega arith,
      every_append (λ k. k < suc r + n) (from (suc r) n) reached
          (every_imp (λ k. (suc r ≤ k) × (k < suc r + n)) (λ k. k < suc r + n) (λ k h. h.1) (from (suc r) n)
          (from_within (suc r) n))
          (below_more r (suc r + n) reached (omega arith) below),
    )

-- the tasks from task i on, laid out from index r on
pub tasks_laid : (f : File) (index : Site → ℕ) (tasks : List TaskEntry) (r i allowed : ℕ) (reached : List ℕ)
    (holder : ℕ) → Every FitsEntry tasks → StandsAt f r (task_records r tasks) → 0 < r → Below r reached
    → allowed + i ≡ most_tasks → TaskPlaces index i r tasks
    → task_chains allowed f reached holder (link_to r tasks)
    ≡ ◌>>◌ (placed_by index (task_fields i tasks)) (passed (laid_tasks r tasks))
unfolding task_chains task_fields laid_tasks laid_task link_to ◌>>◌ placed_by
tasks_laid f index [] r i zero reached holder fit stands some below count places = refl
tasks_laid f index [] r i (suc allowed) reached holder fit stands some below count places = refl
tasks_laid f index (e ∷ others) zero i zero reached holder fit stands some below count places = absurd (omega arith)
tasks_laid f index (e ∷ others) zero i (suc allowed) reached holder fit stands some below count places =
    absurd (omega arith)
tasks_laid f index (e ∷ others) (suc r) i zero reached holder fit stands some below count places =
    let own = (task_parts f (suc r) e others stands).0 in
    let link = link_to (after_task (suc r) e) others in
    ap (λ c. ◌>>◌ c (passed [])) (task_follow f index i (suc r) e link own 0 reached holder fit.0 below count)
    ∙ placed_many index (ltb i most_tasks) (times_in_range e.execution e.period) (AtTask (numbered i)) (suc r) _ _ _
    (task_first_place index i (suc r) e others places) (le-ltb i most_tasks (omega arith))
tasks_laid f index (e ∷ others) (suc r) i (suc allowed) reached holder fit stands some below count places =
    let parts = task_parts f (suc r) e others stands in
    let link = link_to (after_task (suc r) e) others in
    let follows = task_follow f index i (suc r) e link parts.0 (suc allowed) reached holder fit.0 below count in
    let body = body_chain_laid f index i (suc r) e link parts.0 reached parts.1 below
    (body_first_place index i (suc r) e others places) in
    let deeper = tasks_laid f index others (after_task (suc r) e) (suc i) allowed
    (suc r ∷ from (suc (suc r)) (length (claimed_body e)) ++ reached) (suc r) fit.1 parts.2 (after_some (suc r) e)
    (task_below (suc r) e reached below) (omega arith) (task_later_place index i (suc r) e others places) in
    (λ k. ◌>>◌ (follows k) (◌>>=◌ (body k) (λ own.
    ◌>>=◌ (task_chains allowed f (suc r ∷ own ++ reached) (suc r) (next f (suc r))) (λ rest.
    passed (record { task_record = suc r; body = own } ∷ rest)))))
    ∙ placed_holder index (ltb i most_tasks) (times_in_range e.execution e.period) (not (eqb e.length 0))
    (AtTask (numbered i)) (suc r) (body_fields i 0 (claimed_body e)) (task_fields (suc i) others) _ _ _
    (task_first_place index i (suc r) e others places)
    (bind_rest (placed_by index (task_fields (suc i) others)) (laid_tasks (after_task (suc r) e) others)
    (λ rest. passed (laid_task (suc r) e ∷ rest))
    (λ (n : ℕ). task_chains allowed f (suc r ∷ from (suc (suc r)) (length (claimed_body e)) ++ reached) (suc r) n)
    (task_link f e link (link_to (suc (suc r)) (claimed_body e)) (suc r) parts.0) deeper)
