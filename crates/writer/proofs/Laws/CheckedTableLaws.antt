-- What a table is like whose fields passed: its counts stay within its arrays, so what it claims is what it holds.
-- Assumes nothing.
use Rattle.std.specs.Prelude.{◌≡◌, ℕ, suc, ◌+◌, ◌≤◌, not, List, [], ◌∷◌, ◌++◌, length, ltb, eqb}
use Rattle.std.proofs.Common.{subst, arith, length-take, length-append, ltb→lt}
use Rattle.notation.specs.Checked.{passed, require}
use Rattle.notation.specs.Laws.CheckedLaws.{then_passed, require_passed}
use Rattle.notation.specs.Laws.PaddedLaws.{every_take}
use Rattle.notation.specs.Ordered.{Every}
use Rattle.taskfile.specs.declared.Instruction.{Instruction}
use Rattle.taskfile.specs.declared.Site.TheVariants.{AtTask, AtInstruction, AtLock}
use Rattle.taskfile.specs.declared.Table.{Table}
use Rattle.taskfile.specs.declared.TaskEntry.{TaskEntry}
use Rattle.taskfile.specs.Chains.{most_tasks, most_locks, most_instructions}
use Rattle.taskfile.specs.Judgement.{numbered}
use Rattle.taskfile.specs.Records.{times_in_range}
use Rattle.taskfile.specs.Tables.{tasks_of, body_of, ceilings_of, holdings_of, end_instruction, no_task}
use Rattle.writer.specs.declared.Lock.{Lock}
use Rattle.writer.specs.Claims.{claimed, claimed_tasks, claimed_body, lock_by_lock, lock_array, no_lock, claimed_locks}
use Rattle.writer.specs.Values.{FitsEntry, Fits}
use Rattle.writer.specs.Fields.{body_fields, task_fields, lock_fields, fields}
use Rattle.writer.proofs.Laws.ClaimLaws.{claimed_covered, locks_held}
use Rattle.writer.proofs.Laws.LockLaws.{locks_full}

-- a count is within its array where no part too many is claimed
claimed_within : {A : Type 0} (count : ℕ) (array : List A) (blank : A) (most : ℕ) → length array ≡ most
    → length (claimed count array blank) ≤ most → count ≤ most
unfolding claimed
claimed_within count array blank most full few =
    omega (arith, length-take count (array ++ blank ∷ []), length-append array (blank ∷ []))

-- ---- parts that passed are no more than there may be

body_few : (i p : ℕ) (body : List Instruction) {u : Unit {0}} → body_fields i p body ≡ passed u
    → p ≤ most_instructions → p + length body ≤ most_instructions
unfolding body_fields
body_few i p [] e h = omega arith
body_few i p (here ∷ others) e h =
    let room = then_passed (require (ltb p most_instructions) 5 (AtInstruction (numbered i) p)) _ e in
    let below = ltb→lt p most_instructions (require_passed (ltb p most_instructions) 5 _ room.1) in
    omega (arith, body_few i (suc p) others (then_passed _ _ room.2).2 below)

locks_few : (l : ℕ) (locks : List Lock) {u : Unit {0}} → lock_fields l locks ≡ passed u → l ≤ most_locks
    → l + length locks ≤ most_locks
unfolding lock_fields
locks_few l [] e h = omega arith
locks_few l (lock ∷ others) e h =
    let room = then_passed (require (ltb l most_locks) 5 (AtLock l)) _ e in
    let below = ltb→lt l most_locks (require_passed (ltb l most_locks) 5 _ room.1) in
    omega (arith, locks_few (suc l) others (then_passed _ _ room.2).2 below)

-- the parts of a task that passed: it is not too many, its body is short enough, and the others passed
task_passed : (i : ℕ) (e : TaskEntry) (others : List TaskEntry) {u : Unit {0}} → task_fields i (e ∷ others) ≡ passed u
    → (suc i ≤ most_tasks) × (length (claimed_body e) ≤ most_instructions) × (task_fields (suc i) others ≡ passed u)
unfolding task_fields
task_passed i e others h =
    let room = then_passed (require (ltb i most_tasks) 5 (AtTask (numbered i))) _ h in
    let times = then_passed (require (times_in_range e.execution e.period) 4 (AtTask (numbered i))) _ room.2 in
    let some = then_passed (require (not (eqb e.length 0)) 5 (AtTask (numbered i))) _ times.2 in
    let body = then_passed (body_fields i 0 (claimed_body e)) (task_fields (suc i) others) some.2 in
    let few : 0 + length (claimed_body e) ≤ most_instructions = body_few i 0 (claimed_body e) body.1 (omega arith) in
    (ltb→lt i most_tasks (require_passed (ltb i most_tasks) 5 _ room.1), omega arith, body.2)

tasks_few : (i : ℕ) (tasks : List TaskEntry) {u : Unit {0}} → task_fields i tasks ≡ passed u → i ≤ most_tasks
    → i + length tasks ≤ most_tasks
tasks_few i [] h le = omega arith
tasks_few i (e ∷ others) h le =
    let parts = task_passed i e others h in
    omega (arith, tasks_few (suc i) others parts.2 parts.0)

bodies_few : (i : ℕ) (tasks : List TaskEntry) {u : Unit {0}} → task_fields i tasks ≡ passed u
    → Every (λ e. length (claimed_body e) ≤ most_instructions) tasks
bodies_few i [] h = tt
bodies_few i (e ∷ others) h =
    let parts = task_passed i e others h in
    (parts.1, bodies_few (suc i) others parts.2)

-- ---- a table whose fields passed

-- the tasks that a table holds fit
pub tasks_fit : (t : Table) → Fits t → Every FitsEntry (tasks_of t)
unfolding tasks_of
tasks_fit t fit = every_take FitsEntry t.tasks t.entries fit.entries

lengths_within : (tasks : List TaskEntry) → Every FitsEntry tasks
    → Every (λ e. length (claimed_body e) ≤ most_instructions) tasks → Every (λ (e : TaskEntry). e.length ≤ 16) tasks
unfolding claimed_body
lengths_within [] fit few = tt
lengths_within (e ∷ others) fit few = (
  claimed_within e.length e.body end_instruction most_instructions fit.0.body few.0,
  lengths_within others fit.1 few.1,
)

-- what a table claims whose counts are within its arrays is what it holds
pub body_claimed : (e : TaskEntry) → FitsEntry e → e.length ≤ 16 → claimed_body e ≡ body_of e
unfolding claimed_body body_of
body_claimed e fit within = claimed_covered e.length e.body end_instruction (omega (arith, fit.body))

bodies_within_claimed : (tasks : List TaskEntry) → Every FitsEntry tasks
    → Every (λ (e : TaskEntry). e.length ≤ 16) tasks → Every (λ e. claimed_body e ≡ body_of e) tasks
bodies_within_claimed [] fit within = tt
bodies_within_claimed (e ∷ others) fit within =
    (body_claimed e fit.0 within.0, bodies_within_claimed others fit.1 within.1)

tasks_within_claimed : (t : Table) → Fits t → t.tasks ≤ 8 → claimed_tasks t ≡ tasks_of t
unfolding claimed_tasks tasks_of
tasks_within_claimed t fit within = claimed_covered t.tasks t.entries no_task (omega (arith, fit.entries_full))

locks_within_claimed : (t : Table) → Fits t → t.locks ≤ 8
    → claimed_locks t ≡ lock_by_lock (ceilings_of t) (holdings_of t)
unfolding claimed_locks ceilings_of holdings_of
locks_within_claimed t fit within =
    locks_held t.locks most_locks t.ceilings t.holdings fit.ceilings fit.holdings_full within

-- as many holding times as ceilings
pub locks_even : (t : Table) → Fits t → length (ceilings_of t) ≡ length (holdings_of t)
unfolding ceilings_of holdings_of
locks_even t fit =
    omega (
      arith,
      length-take t.locks t.ceilings,
      length-take t.locks t.holdings,
      fit.ceilings,
      fit.holdings_full,
    )

-- the tasks passed, and the locks
pub fields_parts : (t : Table) {u : Unit {0}} → fields t ≡ passed u
    → (task_fields 0 (claimed_tasks t) ≡ passed tt) × (lock_fields 0 (claimed_locks t) ≡ passed tt)
unfolding fields
fields_parts t h =
    let parts = then_passed (task_fields 0 (claimed_tasks t)) (lock_fields 0 (claimed_locks t))
    (then_passed _ _ (then_passed _ _ h).2).2 in
    (parts.1, parts.2)

-- no part too many is claimed
pub claims_few : (t : Table) {u : Unit {0}} → fields t ≡ passed u
    → (length (claimed_tasks t) ≤ most_tasks) × (length (claimed_locks t) ≤ most_locks)
    × Every (λ e. length (claimed_body e) ≤ most_instructions) (claimed_tasks t)
claims_few t sound =
    let parts = fields_parts t sound in
    let tasks = tasks_few 0 (claimed_tasks t) parts.0 (omega arith) in
    let locks = locks_few 0 (claimed_locks t) parts.1 (omega arith) in
    (omega arith, omega arith, bodies_few 0 (claimed_tasks t) parts.0)

module _ (t : Table) (fit : Fits t) {u : Unit {0}} (sound : fields t ≡ passed u) where
  tasks_within_lem : t.tasks ≤ 8
  unfolding claimed_tasks
  tasks_within_lem =
      claimed_within t.tasks t.entries no_task most_tasks fit.entries_full (claims_few t sound).0

  locks_within_lem : t.locks ≤ 8
  unfolding claimed_locks
  locks_within_lem =
      claimed_within t.locks (lock_array t) no_lock most_locks (locks_full t fit)
      (claims_few t sound).1

  -- the ninth task, the ninth lock and the seventeenth instruction are refused by 5
  pub fields_within : (t.tasks ≤ 8) × (t.locks ≤ 8) × Every (λ (e : TaskEntry). e.length ≤ 16) (tasks_of t)
  fields_within = (
    tasks_within_lem,
    locks_within_lem,
    lengths_within (tasks_of t) (tasks_fit t fit)
        (subst (Every (λ e. length (claimed_body e) ≤ most_instructions)) (tasks_within_claimed t fit tasks_within_lem) (claims_few t sound).2),
  )

  pub tasks_claimed : claimed_tasks t ≡ tasks_of t
  tasks_claimed = tasks_within_claimed t fit tasks_within_lem

  pub locks_claimed : claimed_locks t ≡ lock_by_lock (ceilings_of t) (holdings_of t)
  locks_claimed = locks_within_claimed t fit locks_within_lem

  pub bodies_claimed : Every (λ e. claimed_body e ≡ body_of e) (tasks_of t)
  bodies_claimed = bodies_within_claimed (tasks_of t) (tasks_fit t fit) fields_within.2
