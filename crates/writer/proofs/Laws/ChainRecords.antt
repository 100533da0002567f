-- What the walk of records says of the chains that it passed: each record is of its chain's kind and tidy, each index
-- leads to the next record, and no record is reached twice.
-- Assumes nothing.
use Rattle.std.specs.Prelude.{ℕ, zero, suc, ◌≤◌, ◌<◌, ◌≡◌, refl, Bool, true, false, ◌&&◌, List, [], ◌∷◌, ◌++◌, ltb, eqb, length}
use Rattle.std.proofs.Common.{arith, ap, subst, ◌∙◌}
use Rattle.std.proofs.Math.Bool.{not}
use Rattle.std.proofs.lemmas.List.{length-map}
use borrow.Author.Tests.{eqb-true, eqb-false, ltb-true, not-true}
use Rattle.notation.specs.Checked.{passed, require}
use Rattle.notation.specs.Lists.{member, each}
use Rattle.notation.specs.Laws.CheckedLaws.{passed_same, bind_passed, then_passed, require_passed}
use Rattle.notation.specs.Laws.TestLaws.{and_both, test_holds}
use Rattle.taskfile.specs.declared.Kind.{Kind}
use Rattle.taskfile.specs.declared.Kind.TheVariants.{Header, TaskRecord, LockRecord, InstructionRecord}
use Rattle.taskfile.specs.Chains.{Chains, TaskChain, most_instructions, most_tasks, most_locks, record_of, follow, chain}
use Rattle.taskfile.specs.Chains.{body_chain, task_chains, records_of, reached_by, chains_of}
use Rattle.taskfile.specs.Code.Reading.{linked, linked_task}
use Rattle.taskfile.proofs.Laws.ChainCases.{follow_allowed}
use Rattle.taskfile.proofs.Laws.ChainLaws.{chain_linked, tasks_linked}
use Rattle.taskfile.proofs.Laws.LinkedLaws.{linked_length}
use Rattle.taskfile.specs.Records.{File, kind_number, records, byte_at, next, tidy, in_range}
use Rattle.writer.proofs.Laws.PositionLaws.{AllNew, new_append, member_joined}

-- a record of its kind with no unused byte other than zero and its values in range
pub record GoodRecord (kind : Kind) (f : File) (r : ℕ) : Type 0 where
  pub kind_byte : byte_at f r 0 ≡ kind_number kind
  pub unused_zero : tidy f r kind ≡ true
  pub values_in_range : in_range f r kind ≡ true

-- records of one kind, each of which leads to the next; `index` leads to the first, and the last one leads to none
abbrev pub LedChain : Kind → File → ℕ → List ℕ → Type 0
LedChain kind f index [] = index ≡ 0
LedChain kind f index (r ∷ others) = (index ≡ r) × GoodRecord kind f r × LedChain kind f (next f r) others

-- the same of tasks, each with its body, which is not empty
abbrev pub LedTasks : File → ℕ → List TaskChain → Type 0
LedTasks f index [] = index ≡ 0
LedTasks f index (t ∷ others) =
    (index ≡ t.task_record) × GoodRecord TaskRecord f t.task_record
    × LedChain InstructionRecord f (byte_at f t.task_record 2) t.body × (length t.body ≤ most_instructions)
    × LedTasks f (next f t.task_record) others × (byte_at f t.task_record 2 ≡ 0 → ⊥)

-- what the checks of 2 and 4 at a record say
record_good : (kind : Kind) (f : File) (r : ℕ) {u : Unit {0}} → record_of kind f r ≡ passed u → GoodRecord kind f r
unfolding record_of
record_good kind f r e =
    let right = eqb (byte_at f r 0) (kind_number kind) in
    let sound = tidy f r kind && in_range f r kind in
    let steps = then_passed (require right 2 r) (require sound 4 r) e in
    let tests = and_both (tidy f r kind) _ (test_holds sound (require_passed sound 4 r steps.2)) in
    record {
      kind_byte = eqb-true _ _ (test_holds right (require_passed right 2 r steps.1));
      unused_zero = tests.0;
      values_in_range = tests.1;
    }

-- what was followed leads to a good record that was not reached before
module _ (kind : Kind) (allowed : ℕ) (f : File) (again : Bool) (holder index : ℕ) {u : Unit {0}}
    (e : follow kind allowed f again holder index ≡ passed u) where
  follow_good : GoodRecord kind f index
  unfolding follow
  follow_good = record_good kind f index (then_passed _ _ (then_passed _ _ e).2).2

  follow_first : (ltb index (records f) ≡ true) × (again ≡ false)
  unfolding follow
  follow_first =
      let first = (then_passed (require (ltb index (records f) && not again) 3 holder) _ e).1 in
      let both = test_holds _ (require_passed (ltb index (records f) && not again) 3 holder first) in
      let parts = and_both (ltb index (records f)) (not again) both in
      (parts.0, not-true again parts.1)

  follow_inside : index < records f
  follow_inside = ltb-true index (records f) follow_first.0

  follow_new : again ≡ false
  follow_new = follow_first.1

-- a chain that passed
chain_led : (kind : Kind) (allowed : ℕ) (f : File) (reached : List ℕ) (holder index : ℕ) {l : List ℕ}
    → chain kind allowed f reached holder index ≡ passed l → LedChain kind f index l
unfolding chain
chain_led kind zero f reached holder zero e = subst (LedChain kind f 0) (passed_same e) refl
chain_led kind zero f reached holder (suc i) e =
    let step = then_passed (follow kind 0 f (member (suc i) reached) holder (suc i)) _ e in
    absurd (omega (arith, follow_allowed kind 0 f (member (suc i) reached) holder (suc i) step.1))
chain_led kind (suc allowed) f reached holder zero e = subst (LedChain kind f 0) (passed_same e) refl
chain_led kind (suc allowed) f reached holder (suc i) e =
    let step = then_passed (follow kind (suc allowed) f (member (suc i) reached) holder (suc i)) _ e in
    let others = bind_passed (chain kind allowed f (suc i ∷ reached) (suc i) (next f (suc i))) _ step.2 in
    subst (LedChain kind f (suc i)) (passed_same others.2) (
      refl,
      follow_good kind (suc allowed) f (member (suc i) reached) holder (suc i) step.1,
      chain_led kind allowed f (suc i ∷ reached) (suc i) (next f (suc i)) others.1,
    )

-- its records are new behind any list that has the records reached before
chain_new : (kind : Kind) (allowed : ℕ) (f : File) (reached : List ℕ) (holder index : ℕ) {l : List ℕ}
    → chain kind allowed f reached holder index ≡ passed l → (front : List ℕ)
    → ((x : ℕ) → member x front ≡ member x reached) → AllNew front l
unfolding chain
chain_new kind zero f reached holder zero e front same = subst (AllNew front) (passed_same e) tt
chain_new kind zero f reached holder (suc i) e front same =
    subst (AllNew front) (passed_same (then_passed _ _ e).2) tt
chain_new kind (suc allowed) f reached holder zero e front same = subst (AllNew front) (passed_same e) tt
chain_new kind (suc allowed) f reached holder (suc i) e front same =
    let step = then_passed (follow kind (suc allowed) f (member (suc i) reached) holder (suc i)) _ e in
    let others = bind_passed (chain kind allowed f (suc i ∷ reached) (suc i) (next f (suc i))) _ step.2 in
    subst (AllNew front) (passed_same others.2) (
      same (suc i) ∙ follow_new kind (suc allowed) f (member (suc i) reached) holder (suc i) step.1,
      chain_new kind allowed f (suc i ∷ reached) (suc i) (next f (suc i)) others.1 (front ++ (suc i ∷ []))
          (member_joined front reached same (suc i ∷ [])),
    )

-- it has no more records than were allowed
few_records : (kind : Kind) (allowed : ℕ) (f : File) (reached : List ℕ) (holder index : ℕ) {l : List ℕ}
    → chain kind allowed f reached holder index ≡ passed l → length l ≤ allowed
few_records kind allowed f reached holder index e =
    omega (arith, ap length (chain_linked kind allowed f reached holder index e), linked_length f allowed index)

-- a body that passed
module _ (f : File) (reached : List ℕ) (holder : ℕ) {l : List ℕ} (e : body_chain f reached holder ≡ passed l) where
  body_chain_lem : chain InstructionRecord most_instructions f reached holder (byte_at f holder 2) ≡ passed l
  unfolding body_chain
  body_chain_lem = (then_passed (require (not (eqb (byte_at f holder 2) 0)) 5 holder) _ e).2

  body_led : LedChain InstructionRecord f (byte_at f holder 2) l
  body_led = chain_led InstructionRecord most_instructions f reached holder (byte_at f holder 2) body_chain_lem

  body_some : byte_at f holder 2 ≡ 0 → ⊥
  unfolding body_chain
  body_some =
      let first = byte_at f holder 2 in
      let test = (then_passed (require (not (eqb first 0)) 5 holder) _ e).1 in
      eqb-false first 0 (not-true (eqb first 0) (test_holds _ (require_passed (not (eqb first 0)) 5 holder test)))

  body_few : length l ≤ most_instructions
  body_few = few_records InstructionRecord most_instructions f reached holder (byte_at f holder 2) body_chain_lem

-- the tasks' chain that passed
tasks_led : (allowed : ℕ) (f : File) (reached : List ℕ) (holder index : ℕ) {ts : List TaskChain}
    → task_chains allowed f reached holder index ≡ passed ts → LedTasks f index ts
unfolding task_chains
tasks_led zero f reached holder zero e = subst (LedTasks f 0) (passed_same e) refl
tasks_led zero f reached holder (suc i) e =
    let step = then_passed (follow TaskRecord 0 f (member (suc i) reached) holder (suc i)) _ e in
    absurd (omega (arith, follow_allowed TaskRecord 0 f (member (suc i) reached) holder (suc i) step.1))
tasks_led (suc allowed) f reached holder zero e = subst (LedTasks f 0) (passed_same e) refl
tasks_led (suc allowed) f reached holder (suc i) e =
    let step = then_passed (follow TaskRecord (suc allowed) f (member (suc i) reached) holder (suc i)) _ e in
    let body = bind_passed (body_chain f (suc i ∷ reached) (suc i)) _ step.2 in
    let others = bind_passed (task_chains allowed f (suc i ∷ body.0 ++ reached) (suc i) (next f (suc i))) _ body.2 in
    subst (LedTasks f (suc i)) (passed_same others.2) (
      refl,
      follow_good TaskRecord (suc allowed) f (member (suc i) reached) holder (suc i) step.1,
      body_led f (suc i ∷ reached) (suc i) body.1,
      body_few f (suc i ∷ reached) (suc i) body.1,
      tasks_led allowed f (suc i ∷ body.0 ++ reached) (suc i) (next f (suc i)) others.1,
      body_some f (suc i ∷ reached) (suc i) body.1,
    )

-- its records, each task followed by its body, are new too
tasks_new : (allowed : ℕ) (f : File) (reached : List ℕ) (holder index : ℕ) {ts : List TaskChain}
    → task_chains allowed f reached holder index ≡ passed ts → (front : List ℕ)
    → ((x : ℕ) → member x front ≡ member x reached) → AllNew front (records_of ts)
unfolding task_chains records_of each
tasks_new zero f reached holder zero e front same =
    subst (λ (ts : List TaskChain). AllNew front (records_of ts)) (passed_same e) tt
tasks_new zero f reached holder (suc i) e front same =
    subst (λ (ts : List TaskChain). AllNew front (records_of ts)) (passed_same (then_passed _ _ e).2) tt
tasks_new (suc allowed) f reached holder zero e front same =
    subst (λ (ts : List TaskChain). AllNew front (records_of ts)) (passed_same e) tt
tasks_new (suc allowed) f reached holder (suc i) e front same =
    let step = then_passed (follow TaskRecord (suc allowed) f (member (suc i) reached) holder (suc i)) _ e in
    let body = bind_passed (body_chain f (suc i ∷ reached) (suc i)) _ step.2 in
    let others = bind_passed (task_chains allowed f (suc i ∷ body.0 ++ reached) (suc i) (next f (suc i))) _ body.2 in
    let newTask : member (suc i) front ≡ false =
    same (suc i) ∙ follow_new TaskRecord (suc allowed) f (member (suc i) reached) holder (suc i) step.1 in
    let newBody : AllNew (front ++ (suc i ∷ [])) body.0 =
    chain_new InstructionRecord most_instructions f (suc i ∷ reached) (suc i) (byte_at f (suc i) 2)
    (body_chain_lem f (suc i ∷ reached) (suc i) body.1) (front ++ (suc i ∷ []))
    (member_joined front reached same (suc i ∷ [])) in
    let newOthers : AllNew (front ++ (suc i ∷ body.0)) (records_of others.0) =
    tasks_new allowed f (suc i ∷ body.0 ++ reached) (suc i) (next f (suc i)) others.1 (front ++ (suc i ∷ body.0))
    (member_joined front reached same (suc i ∷ body.0)) in
    subst (λ (ts : List TaskChain). AllNew front (records_of ts)) (passed_same others.2)
    (new_append front (suc i ∷ body.0) (records_of others.0) (newTask, newBody) newOthers)

-- the first task's record is one of the file's, and so the file has more than one
tasks_inside : (allowed : ℕ) (f : File) (reached : List ℕ) (holder index : ℕ) {ts : List TaskChain}
    → (index ≡ 0 → ⊥) → task_chains allowed f reached holder index ≡ passed ts → 16 ≤ length f
unfolding task_chains records
tasks_inside allowed f reached holder zero some e = absurd (some refl)
tasks_inside zero f reached holder (suc i) some e =
    let step = then_passed (follow TaskRecord 0 f (member (suc i) reached) holder (suc i)) _ e in
    omega (arith, follow_inside TaskRecord 0 f (member (suc i) reached) holder (suc i) step.1)
tasks_inside (suc allowed) f reached holder (suc i) some e =
    let step = then_passed (follow TaskRecord (suc allowed) f (member (suc i) reached) holder (suc i)) _ e in
    omega (arith, follow_inside TaskRecord (suc allowed) f (member (suc i) reached) holder (suc i) step.1)

-- the chains of a file whose walk passed
pub record LedChains (f : File) (c : Chains) : Type 0 where
  pub whole : 16 ≤ length f
  pub header : GoodRecord Header f 0
  pub some_tasks : byte_at f 0 2 ≡ 0 → ⊥
  pub tasks : LedTasks f (byte_at f 0 2) c.tasks
  pub few_tasks : length c.tasks ≤ most_tasks
  pub locks : LedChain LockRecord f (byte_at f 0 3) c.locks
  pub few_locks : length c.locks ≤ most_locks
  pub all_new : AllNew [] (reached_by c)

few_tasks_lem : (allowed : ℕ) (f : File) (reached : List ℕ) (holder index : ℕ) {ts : List TaskChain}
    → task_chains allowed f reached holder index ≡ passed ts → length ts ≤ allowed
few_tasks_lem allowed f reached holder index e =
    omega (
      arith,
      ap length (tasks_linked allowed f reached holder index e),
      length-map (linked f allowed index) (linked_task f),
      linked_length f allowed index,
    )

pub chains_led : (f : File) {c : Chains} → chains_of f ≡ passed c → LedChains f c
unfolding chains_of reached_by member
chains_led f e =
    let header = then_passed (record_of Header f 0) _ e in
    let some = then_passed (require (not (eqb (byte_at f 0 2) 0)) 5 0) _ header.2 in
    let test = test_holds _ (require_passed (not (eqb (byte_at f 0 2) 0)) 5 0 some.1) in
    let follows : byte_at f 0 2 ≡ 0 → ⊥ = eqb-false (byte_at f 0 2) 0 (not-true (eqb (byte_at f 0 2) 0) test) in
    let tasks = bind_passed (task_chains most_tasks f (0 ∷ []) 0 (byte_at f 0 2)) _ some.2 in
    let reached : List ℕ = 0 ∷ records_of tasks.0 in
    let locks = bind_passed (chain LockRecord most_locks f reached 0 (byte_at f 0 3)) _ tasks.2 in
    let newTasks : AllNew (0 ∷ []) (records_of tasks.0) =
    tasks_new most_tasks f (0 ∷ []) 0 (byte_at f 0 2) tasks.1 (0 ∷ []) (λ x. refl) in
    let newLocks : AllNew reached locks.0 =
    chain_new LockRecord most_locks f reached 0 (byte_at f 0 3) locks.1 reached (λ x. refl) in
    subst (LedChains f) (passed_same (then_passed _ _ locks.2).2)
    (record {
      whole = tasks_inside most_tasks f (0 ∷ []) 0 (byte_at f 0 2) follows tasks.1;
      header = record_good Header f 0 header.1;
      some_tasks = follows;
      tasks = tasks_led most_tasks f (0 ∷ []) 0 (byte_at f 0 2) tasks.1;
      few_tasks = few_tasks_lem most_tasks f (0 ∷ []) 0 (byte_at f 0 2) tasks.1;
      locks = chain_led LockRecord most_locks f reached 0 (byte_at f 0 3) locks.1;
      few_locks = few_records LockRecord most_locks f reached 0 (byte_at f 0 3) locks.1;
      all_new = (refl, new_append (0 ∷ []) (records_of tasks.0) locks.0 newTasks newLocks);
    })
