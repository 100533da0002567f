-- An accepted file, read and written, is that file with its records in walk order: `walk_order`.
-- Assumes nothing.
use Prim.Native.Nat.{ℕ, suc, ◌+◌, ◌<◌}
use Rattle.std.proofs.Common.{arith, sym, ◌∙◌, length-append}
use Rattle.std.specs.Prelude.{◌≡◌}
use Rattle.std.proofs.Math.Path.{refl, ap, subst}
use mathlib.Core.List.{List, [], ◌∷◌, ◌++◌, map, append_assoc, append-nil}
use Rattle.std.proofs.Math.ListN.{length, length-map}
use Rattle.notation.specs.Checked.{passed}
use Rattle.notation.specs.Lists.{sum, each}
use Rattle.notation.specs.Ordered.{Every}
use Rattle.notation.specs.Laws.ListLaws.{each_append}
use Rattle.taskfile.specs.declared.Kind.{Kind}
use Rattle.taskfile.specs.declared.Kind.TheVariants.{LockRecord, InstructionRecord}
use Rattle.taskfile.specs.Chains.{Chains, TaskChain, records_of, reached_by, chains_of}
use Rattle.taskfile.specs.Records.{File, byte_at, next, instruction_at}
use Rattle.taskfile.specs.Tables.{entry_at, table_at}
use Rattle.writer.specs.Claims.{claimed_tasks, claimed_body, claimed_locks}
use Rattle.writer.specs.Sites.{locks_at}
use Rattle.writer.proofs.Laws.ChainRecords.{LedChain, LedTasks, chains_led}
use Rattle.writer.proofs.Laws.ClaimLaws.{body_spelled, tasks_spelled, locks_spelled}
use Rattle.writer.proofs.Laws.LockLaws.{lock_at}
use Rattle.writer.proofs.Laws.MovedRecords.{lock_moved, instruction_moved, task_moved, header_moved}
use Rattle.writer.proofs.Laws.PositionLaws.{StandFrom, new_stand, stand_first, stand_second}
use Rattle.writer.specs.Layout.{link_to, instruction_record, body_records, task_record, after_task, task_records}
use Rattle.writer.specs.Layout.{lock_record, lock_records, header_record, layout}
use Rattle.writer.specs.Positions.{position_of}
use Rattle.writer.specs.WalkOrder.{moved_record, in_walk_order}
use Rattle.writer.proofs.Laws.SiteLaws.{record_total, locks_counted}

-- ---- chains of one kind, laid out from index n on

module _ (f : File) (walk : List ℕ) (ends : position_of 0 walk ≡ 0) where
  -- the moved index leads to where the chain's records stand
  link_led : {B : Type 0} (kind : Kind) (g : ℕ → B) (index n : ℕ) (l : List ℕ) → LedChain kind f index l
      → StandFrom walk n l → position_of index walk ≡ link_to n (map g l)
  unfolding link_to
  link_led kind g index n [] led stand = ap (λ (x : ℕ). position_of x walk) led ∙ ends
  link_led kind g index n (r ∷ others) led stand = ap (λ (x : ℕ). position_of x walk) led.0 ∙ stand.0

  -- the moved records of such a chain are those that the layout writes: locks, and a body
  locks_moved : Every (λ (b : ℕ). b < 256) f → (index n : ℕ) (l : List ℕ) → LedChain LockRecord f index l
      → StandFrom walk n l → each l (moved_record f walk) ≡ lock_records n (map (lock_at f) l)
  unfolding each lock_records
  locks_moved small index n [] led stand = refl
  locks_moved small index n (r ∷ others) led stand =
      let link = link_led LockRecord (lock_at f) (next f r) (suc n) others led.2 stand.1 in
      let first = lock_moved f small walk r led.1 ∙ ap (lock_record (lock_at f r)) link in
      let rest = locks_moved small (next f r) (suc n) others led.2 stand.1 in
      λ j. first j ++ rest j

  body_moved : (index n : ℕ) (l : List ℕ) → LedChain InstructionRecord f index l → StandFrom walk n l
      → each l (moved_record f walk) ≡ body_records n (map (instruction_at f) l)
  unfolding each body_records
  body_moved index n [] led stand = refl
  body_moved index n (r ∷ others) led stand =
      let link = link_led InstructionRecord (instruction_at f) (next f r) (suc n) others led.2 stand.1 in
      let first = instruction_moved f walk r led.1 ∙ ap (instruction_record (instruction_at f r)) link in
      let rest = body_moved (next f r) (suc n) others led.2 stand.1 in
      λ j. first j ++ rest j

-- ---- the tasks

-- as many records as the tasks have with their bodies
total_claimed : (f : File) (index : ℕ) (ts : List TaskChain) → LedTasks f index ts
    → record_total (map (entry_at f) ts) ≡ length (records_of ts)
unfolding record_total records_of each sum
total_claimed f index [] led = refl
total_claimed f index (t ∷ others) led =
    let body = ap length (body_spelled f t led.3) ∙ length-map t.body (instruction_at f) in
    let rest = total_claimed f (next f t.task_record) others led.4 in
    ap (λ (n : ℕ). suc n + record_total (map (entry_at f) others)) body
    ∙ ap (λ (n : ℕ). suc (length t.body) + n) rest
    ∙ sym (length-append (t.task_record ∷ t.body) (records_of others))

module _ (f : File) (small : Every (λ (b : ℕ). b < 256) f) (walk : List ℕ) (ends : position_of 0 walk ≡ 0) where
  -- the same of tasks: where the index leads, and their moved records, each task followed by its body
  task_link_led : (index n : ℕ) (ts : List TaskChain) → LedTasks f index ts → StandFrom walk n (records_of ts)
      → position_of index walk ≡ link_to n (map (entry_at f) ts)
  unfolding link_to records_of each
  task_link_led index n [] led stand = ap (λ (x : ℕ). position_of x walk) led ∙ ends
  task_link_led index n (t ∷ others) led stand = ap (λ (x : ℕ). position_of x walk) led.0 ∙ stand.0

  tasks_moved : (index n : ℕ) (ts : List TaskChain) → LedTasks f index ts → StandFrom walk n (records_of ts)
      → each (records_of ts) (moved_record f walk) ≡ task_records n (map (entry_at f) ts)
  unfolding records_of each task_records after_task
  tasks_moved index n [] led stand = refl
  tasks_moved index n (t ∷ others) led stand =
      let r = t.task_record in
      let e = entry_at f t in
      let held = body_spelled f t led.3 in
      let same : n + suc (length t.body) ≡ after_task n e =
      omega (arith, ap length held, length-map t.body (instruction_at f)) in
      let here = stand_first walk n (r ∷ t.body) (records_of others) stand in
      let later : StandFrom walk (after_task n e) (records_of others) =
      subst (λ (m : ℕ). StandFrom walk m (records_of others)) same
      (stand_second walk n (r ∷ t.body) (records_of others) stand) in
      let nextLink = task_link_led (next f r) (after_task n e) others led.4 later in
      let bodyLink : position_of (byte_at f r 2) walk ≡ link_to (suc n) (claimed_body e) =
      link_led f walk ends InstructionRecord (instruction_at f) (byte_at f r 2) (suc n) t.body led.2 here.1
      ∙ ap (link_to (suc n)) (sym held) in
      let first = task_moved f small walk t led.1 ∙ (λ j. task_record e (nextLink j) (bodyLink j)) in
      let second : each t.body (moved_record f walk) ≡ body_records (suc n) (claimed_body e) =
      body_moved f walk ends (byte_at f r 2) (suc n) t.body led.2 here.1
      ∙ ap (body_records (suc n)) (sym held) in
      let third = tasks_moved (next f r) (after_task n e) others led.4 later in
      each_append (moved_record f walk) (r ∷ t.body) (records_of others) ∙ (λ j. (first j ++ second j) ++ third j)

-- ---- the whole file

-- document 02, E2: "an accepted file, read and written, is that file with its records in walk order"
pub walk_order : (f : File) → Every (λ (b : ℕ). b < 256) f → {c : Chains} → chains_of f ≡ passed c
    → layout (table_at f c) ≡ in_walk_order f c
unfolding layout in_walk_order reached_by each
walk_order f small {c} e =
    let led = chains_led f e in
    let t = table_at f c in
    let walk = reached_by c in
    let moved = moved_record f walk in
    let tasks = records_of c.tasks in
    let stand : StandFrom walk 0 walk = new_stand walk [] walk [] (sym (append-nil walk)) led.all_new in
    let ends : position_of 0 walk ≡ 0 = stand.0 in
    let heldTasks = tasks_spelled f c led.few_tasks in
    let heldLocks = locks_spelled f c led.few_locks in
    let locksFrom : 1 + length tasks ≡ locks_at t =
    omega (
      arith,
      locks_counted t,
      ap record_total heldTasks,
      total_claimed f (byte_at f 0 2) c.tasks led.tasks,
    ) in
    let standTasks : StandFrom walk 1 tasks = stand_first walk 1 tasks c.locks stand.1 in
    let standLocks : StandFrom walk (locks_at t) c.locks =
    subst (λ (n : ℕ). StandFrom walk n c.locks) locksFrom (stand_second walk 1 tasks c.locks stand.1) in
    let firstTask : position_of (byte_at f 0 2) walk ≡ link_to 1 (claimed_tasks t) =
    task_link_led f small walk ends (byte_at f 0 2) 1 c.tasks led.tasks standTasks
    ∙ ap (link_to 1) (sym heldTasks) in
    let firstLock : position_of (byte_at f 0 3) walk ≡ link_to (locks_at t) (claimed_locks t) =
    link_led f walk ends LockRecord (lock_at f) (byte_at f 0 3) (locks_at t) c.locks led.locks standLocks
    ∙ ap (link_to (locks_at t)) (sym heldLocks) in
    let headerLaid = header_record t (link_to 1 (claimed_tasks t)) (link_to (locks_at t) (claimed_locks t)) in
    let tasksLaid = task_records 1 (claimed_tasks t) in
    let locksLaid = lock_records (locks_at t) (claimed_locks t) in
    let headerSame : moved 0 ≡ headerLaid =
    header_moved f small walk c led.whole led.header ∙ (λ j. header_record t (firstTask j) (firstLock j)) in
    let tasksSame : each tasks moved ≡ tasksLaid =
    tasks_moved f small walk ends (byte_at f 0 2) 1 c.tasks led.tasks standTasks
    ∙ ap (task_records 1) (sym heldTasks) in
    let locksSame : each c.locks moved ≡ locksLaid =
    locks_moved f walk ends small (byte_at f 0 3) (locks_at t) c.locks led.locks standLocks
    ∙ ap (lock_records (locks_at t)) (sym heldLocks) in
    append_assoc headerLaid tasksLaid locksLaid
    ∙ (λ j. sym headerSame j ++ (sym tasksSame j ++ sym locksSame j))
    ∙ ap (λ (l : List ℕ). moved 0 ++ l) (sym (each_append moved tasks c.locks))
