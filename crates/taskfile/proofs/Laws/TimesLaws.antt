-- The times of a file that was read are in range: "1 ≤ C ≤ P". What holds of each task as it is reached holds of each
-- task of the table: `reached_held`.
-- Assumes nothing.
use Rattle.std.specs.Prelude.{◌≡◌, Bool, true, ◌&&◌, List, [], ◌∷◌, ◌++◌, length, leb}
use Rattle.std.proofs.Common.{sym, arith, leb-true}
use Rattle.std.proofs.Math.Path.{subst}
use Prim.Native.Nat.{ℕ, zero, suc, ◌≤◌, ◌<◌}
use Rattle.std.proofs.lemmas.List.{length-map}
use Rattle.taskfile.specs.declared.Kind.{Kind}
use Rattle.taskfile.specs.declared.Kind.TheVariants.{TaskRecord, LockRecord}
use Rattle.taskfile.specs.declared.Task.{Task}
use Rattle.taskfile.specs.declared.TaskEntry.{TaskEntry}
use Rattle.taskfile.specs.Chains.{Chains, TaskChain, most_tasks, most_locks, record_of, records_of, follow, chain, body_chain, task_chains, chains_of}
use Rattle.taskfile.proofs.Laws.ChainLaws.{chains_linked, tasks_held}
use Rattle.notation.specs.Checked.{passed, require}
use Rattle.notation.specs.Laws.CheckedLaws.{passed_same, bind_passed, then_passed, require_passed}
use Rattle.taskfile.proofs.Laws.LinkedLaws.{linked_length}
use Rattle.notation.specs.Lists.{member}
use Rattle.notation.specs.Laws.PairLaws.{every_map, every_at}
use Rattle.notation.specs.Ordered.{Every}
use Rattle.taskfile.specs.Code.Reading.{linked, linked_task, linked_chains}
use Rattle.taskfile.specs.Records.{File, byte_at, wide_at, next, tidy, in_range}
use Rattle.taskfile.specs.Tables.{tasks_of, task_of, no_task, entry_at, table_at}
use Rattle.notation.specs.Laws.TestLaws.{and_both, test_holds}

-- a record that passed has its values in range
record_in_range : (kind : Kind) (f : File) (r : ℕ) {u : Unit {0}} → record_of kind f r ≡ passed u
    → in_range f r kind ≡ true
unfolding record_of
record_in_range kind f r e =
    let test = then_passed _ (require (tidy f r kind && in_range f r kind) 4 r) e in
    (and_both (tidy f r kind) _ (test_holds _ (require_passed (tidy f r kind && in_range f r kind) 4 r test.2))).1

pub follow_in_range : (kind : Kind) (allowed : ℕ) (f : File) (again : Bool) (holder index : ℕ) {u : Unit {0}}
    → follow kind allowed f again holder index ≡ passed u → in_range f index kind ≡ true
unfolding follow
follow_in_range kind allowed f again holder index e =
    record_in_range kind f index (then_passed _ _ (then_passed _ _ e).2).2

few_tasks_lem : (f : File) {c : Chains} → chains_of f ≡ passed c → length c.tasks ≤ most_tasks
unfolding linked_chains
few_tasks_lem f e =
    let tasks = linked f most_tasks (byte_at f 0 2) in
    subst (λ (c : Chains). length c.tasks ≤ most_tasks) (sym (chains_linked f e))
    (omega (arith, length-map tasks (linked_task f), linked_length f most_tasks (byte_at f 0 2)))

-- what holds of a task whose record is in range and whose body passed
module _ (f : File) (P : TaskChain → Type 0)
    (each : (reached : List ℕ) (r : ℕ) (body : List ℕ) → in_range f r TaskRecord ≡ true → body_chain f reached r ≡ passed body
    → P (record { task_record = r; body = body })) where
  -- holds of each task that was reached
  tasks_reached : (allowed : ℕ) (reached : List ℕ) (holder index : ℕ) {ts : List TaskChain}
      → task_chains allowed f reached holder index ≡ passed ts → Every P ts
  unfolding task_chains
  tasks_reached zero reached holder zero e = subst (Every P) (passed_same e) tt
  tasks_reached zero reached holder (suc i) e = subst (Every P) (passed_same (then_passed _ _ e).2) tt
  tasks_reached (suc allowed) reached holder zero e = subst (Every P) (passed_same e) tt
  tasks_reached (suc allowed) reached holder (suc i) e =
      let step = then_passed (follow TaskRecord (suc allowed) f (member (suc i) reached) holder (suc i)) _ e in
      let body = bind_passed (body_chain f (suc i ∷ reached) (suc i)) _ step.2 in
      let others = bind_passed (task_chains allowed f (suc i ∷ body.0 ++ reached) (suc i) (next f (suc i))) _ body.2 in
      subst (Every P) (passed_same others.2) (
        each (suc i ∷ reached) (suc i) body.0
            (follow_in_range TaskRecord (suc allowed) f (member (suc i) reached) holder (suc i) step.1) body.1,
        tasks_reached allowed (suc i ∷ body.0 ++ reached) (suc i) (next f (suc i)) others.1,
      )

  chains_reached : {c : Chains} → chains_of f ≡ passed c → Every P c.tasks
  unfolding chains_of
  chains_reached e =
      let tasks = bind_passed (task_chains most_tasks f (0 ∷ []) 0 (byte_at f 0 2)) _ (then_passed _ _ (then_passed _ _ e).2).2 in
      let locks = bind_passed (chain LockRecord most_locks f (0 ∷ records_of tasks.0) 0 (byte_at f 0 3)) _ tasks.2 in
      subst (λ (c : Chains). Every P c.tasks) (passed_same (then_passed _ _ locks.2).2)
      (tasks_reached most_tasks (0 ∷ []) 0 (byte_at f 0 2) tasks.1)

-- what holds of the entry of such a task holds of each task of the table
pub reached_held : (f : File) (P : TaskEntry → Type 0)
    → ((reached : List ℕ) (r : ℕ) (body : List ℕ) → in_range f r TaskRecord ≡ true → body_chain f reached r ≡ passed
    body → P (entry_at f (record { task_record = r; body = body }))) → {c : Chains} → chains_of f ≡ passed c → (i : Task)
    → i.0 < length (tasks_of (table_at f c)) → P (task_of (table_at f c) i)
unfolding task_of
reached_held f P each {c} e i lt =
    every_at P (tasks_of (table_at f c)) i.0 no_task
    (rw (tasks_held f c (few_tasks_lem f e)) (every_map P (entry_at f) c.tasks (chains_reached f (λ t. P (entry_at f t)) each e)))
    lt

-- the times of one entry
abbrev pub TimesInRange : TaskEntry → Type 0
TimesInRange e = (1 ≤ e.execution) × (e.execution ≤ e.period)

entry_in_range : (f : File) (c : TaskChain) → in_range f c.task_record TaskRecord ≡ true → TimesInRange (entry_at f c)
unfolding in_range entry_at
entry_in_range f c h =
    let parts = and_both (leb 1 (wide_at f c.task_record 4)) _ h in
    (leb-true _ _ parts.0, leb-true _ _ parts.1)

-- every task of a file that was read has 1 ≤ C ≤ P
pub times_in_range_lem : (f : File) {c : Chains} → chains_of f ≡ passed c → (i : Task)
    → i.0 < length (tasks_of (table_at f c)) → TimesInRange (task_of (table_at f c) i)
times_in_range_lem f e i lt = reached_held f TimesInRange (λ reached r body h passes. entry_in_range f _ h) e i lt
