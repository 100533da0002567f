-- Laws of chains: a chain that passed is the records that its links lead to, so the table read from the chains is the
-- one read by following indices.
-- Assumes nothing.
use Rattle.std.specs.Prelude.{ℕ, zero, suc, ◌≤◌, ◌<◌, ◌≡◌, refl, List, [], ◌∷◌, ◌++◌, map, length, get_or}
use Rattle.std.proofs.Common.{arith, sym, ap, ◌∙◌}
use Rattle.std.proofs.lemmas.List.{length-map}
use Rattle.taskfile.specs.declared.Kind.{Kind}
use Rattle.taskfile.specs.declared.Kind.TheVariants.{LockRecord, InstructionRecord}
use Rattle.taskfile.specs.declared.Site.{Site}
use Rattle.taskfile.specs.declared.Site.TheVariants.{AtHeader, AtTask, AtInstruction, AtLock}
use Rattle.taskfile.specs.declared.Table.{Table}
use Rattle.taskfile.specs.declared.Task.{Task}
use Rattle.taskfile.specs.Chains.{Chains, TaskChain, most_instructions, most_tasks, most_locks, chain, body_chain, task_chains, records_of, chains_of}
use Rattle.notation.specs.Checked.{passed}
use Rattle.notation.specs.Laws.CheckedLaws.{passed_same, bind_passed, then_passed}
use Rattle.taskfile.specs.File.{record_at}
use Rattle.taskfile.specs.Code.JudgingParts.{Shaped, ShapedEntry}
use Rattle.taskfile.proofs.Laws.LinkedLaws.{linked_length, linked_at}
use Rattle.notation.specs.Laws.PaddedLaws.{padded_length, padded_held, every_padded}
use Rattle.notation.specs.Lists.{padded}
use Rattle.notation.specs.Laws.PairLaws.{every_at, every_of, every_map}
use Rattle.taskfile.specs.Code.Reading.{linked, linked_task, linked_chains}
use Rattle.taskfile.specs.Code.ReadingParts.{link_after, site_record}
use Rattle.taskfile.specs.Records.{File, byte_at, wide_at, next, instruction_at}
use Rattle.taskfile.specs.Tables.{end_instruction, no_task, tasks_of, task_of, body_of, ceilings_of, holdings_of, entry_at, table_at}
use Rattle.notation.specs.Laws.QuantifierLaws.{map_at}

-- a chain that passed is the records that its links lead to
pub chain_linked : (kind : Kind) (allowed : ℕ) (f : File) (reached : List ℕ) (holder index : ℕ) {l : List ℕ}
    → chain kind allowed f reached holder index ≡ passed l → l ≡ linked f allowed index
unfolding chain linked
chain_linked kind zero f reached holder zero e = sym (passed_same e)
chain_linked kind zero f reached holder (suc i) e = sym (passed_same (then_passed _ _ e).2)
chain_linked kind (suc allowed) f reached holder zero e = sym (passed_same e)
chain_linked kind (suc allowed) f reached holder (suc i) e =
    let others = bind_passed (chain kind allowed f (suc i ∷ reached) (suc i) (next f (suc i))) _ (then_passed _ _ e).2 in
    sym (passed_same others.2) ∙ ap (λ r. suc i ∷ r) (chain_linked kind allowed f (suc i ∷ reached) (suc i) (next f (suc i)) others.1)

-- a body that passed, and the tasks with their bodies
body_linked : (f : File) (reached : List ℕ) (holder : ℕ) {l : List ℕ} → body_chain f reached holder ≡ passed l
    → l ≡ linked f most_instructions (byte_at f holder 2)
unfolding body_chain
body_linked f reached holder e =
    chain_linked InstructionRecord most_instructions f reached holder (byte_at f holder 2) (then_passed _ _ e).2

pub tasks_linked : (allowed : ℕ) (f : File) (reached : List ℕ) (holder index : ℕ) {ts : List TaskChain}
    → task_chains allowed f reached holder index ≡ passed ts → ts ≡ map (linked_task f) (linked f allowed index)
unfolding task_chains linked linked_task
tasks_linked zero f reached holder zero e = sym (passed_same e)
tasks_linked zero f reached holder (suc i) e = sym (passed_same (then_passed _ _ e).2)
tasks_linked (suc allowed) f reached holder zero e = sym (passed_same e)
tasks_linked (suc allowed) f reached holder (suc i) e =
    let body = bind_passed (body_chain f (suc i ∷ reached) (suc i)) _ (then_passed _ _ e).2 in
    let others = bind_passed (task_chains allowed f (suc i ∷ body.0 ++ reached) (suc i) (next f (suc i))) _ body.2 in
    let bodySame = body_linked f (suc i ∷ reached) (suc i) body.1 in
    let othersSame = tasks_linked allowed f (suc i ∷ body.0 ++ reached) (suc i) (next f (suc i)) others.1 in
    sym (passed_same others.2) ∙ (λ k. record { task_record = suc i; body = bodySame k } ∷ othersSame k)

-- the chains of a file whose walk passed
pub chains_linked : (f : File) {c : Chains} → chains_of f ≡ passed c → c ≡ linked_chains f
unfolding chains_of linked_chains
chains_linked f e =
    let tasks = bind_passed (task_chains most_tasks f (0 ∷ []) 0 (byte_at f 0 2)) _ (then_passed _ _ (then_passed _ _ e).2).2 in
    let locks = bind_passed (chain LockRecord most_locks f (0 ∷ records_of tasks.0) 0 (byte_at f 0 3)) _ tasks.2 in
    let end = passed_same (then_passed _ _ locks.2).2 in
    let tasksSame = tasks_linked most_tasks f (0 ∷ []) 0 (byte_at f 0 2) tasks.1 in
    let locksSame = chain_linked LockRecord most_locks f (0 ∷ records_of tasks.0) 0 (byte_at f 0 3) locks.1 in
    sym end ∙ (λ k. record { tasks = tasksSame k; locks = locksSame k })

-- a site of the table that the links spell: its task is one of the tasks, its position one of the body's, its lock one
-- of the locks
abbrev pub Sited : File → Site → Type 0
Sited f AtHeader = Unit {0}
Sited f (AtTask i) = i.0 < length (linked f most_tasks (byte_at f 0 2))
Sited f (AtInstruction i p) =
    (i.0 < length (linked f most_tasks (byte_at f 0 2)))
    × (p < length (linked f most_instructions (byte_at f (link_after f (byte_at f 0 2) i.0) 2)))
Sited f (AtLock l) = l < length (linked f most_locks (byte_at f 0 3))

-- task number k is the one whose record k links lead to
task_at : (f : File) (k : ℕ) (d : TaskChain) → k < length (linked f most_tasks (byte_at f 0 2))
    → get_or (linked_chains f).tasks k d ≡ linked_task f (link_after f (byte_at f 0 2) k)
unfolding linked_chains
task_at f k d h =
    map_at (linked_task f) (linked f most_tasks (byte_at f 0 2)) k 0 d h
    ∙ ap (linked_task f) (linked_at f most_tasks (byte_at f 0 2) k 0 h)

-- the record at a site by the chains is the one by following indices
pub site_record_lem : (f : File) (s : Site) → Sited f s → record_at (linked_chains f) s ≡ site_record f s
unfolding record_at site_record linked_task linked_chains
site_record_lem f AtHeader h = refl
site_record_lem f (AtTask i) h = ap (λ t. t.task_record) (task_at f i.0 _ h)
site_record_lem f (AtInstruction i p) h =
    ap (λ t. get_or t.body p 0) (task_at f i.0 _ h.0)
    ∙ linked_at f most_instructions (byte_at f (link_after f (byte_at f 0 2) i.0) 2) p 0 h.1
site_record_lem f (AtLock l) h = linked_at f most_locks (byte_at f 0 3) l 0 h

-- the arrays of a table hold what the chains spell
pub tasks_held : (f : File) (c : Chains) → length c.tasks ≤ most_tasks
    → tasks_of (table_at f c) ≡ map (entry_at f) c.tasks
unfolding tasks_of table_at
tasks_held f c h = padded_held most_tasks no_task (entry_at f) c.tasks h

pub ceilings_held : (f : File) (c : Chains) → length c.locks ≤ most_locks
    → ceilings_of (table_at f c) ≡ map (λ r. byte_at f r 2) c.locks
unfolding ceilings_of table_at
ceilings_held f c h = padded_held most_locks 0 (λ r. byte_at f r 2) c.locks h

pub holdings_held : (f : File) (c : Chains) → length c.locks ≤ most_locks
    → holdings_of (table_at f c) ≡ map (λ r. wide_at f r 4) c.locks
unfolding holdings_of table_at
holdings_held f c h = padded_held most_locks 0 (λ r. wide_at f r 4) c.locks h

pub body_held : (f : File) (t : TaskChain) → length t.body ≤ most_instructions
    → body_of (entry_at f t) ≡ map (instruction_at f) t.body
unfolding body_of entry_at
body_held f t h = padded_held most_instructions end_instruction (instruction_at f) t.body h

-- a site of a table: its task is one of the tasks, its position one of the body's, its lock one of the locks
abbrev pub InTable : Table → Site → Type 0
InTable t AtHeader = Unit {0}
InTable t (AtTask i) = i.0 < length (tasks_of t)
InTable t (AtInstruction i p) = (i.0 < length (tasks_of t)) × (p < length (body_of (task_of t i)))
InTable t (AtLock l) = l < length (ceilings_of t)

-- the tasks of the table that the links spell, and how many there are
linked_tasks : (f : File) → tasks_of (table_at f (linked_chains f)) ≡ map (entry_at f) (linked_chains f).tasks
unfolding linked_chains
linked_tasks f = tasks_held f (linked_chains f) (simp length-map (linked_length f most_tasks (byte_at f 0 2)))

tasks_counted : (f : File) → length (tasks_of (table_at f (linked_chains f))) ≡ length (linked f most_tasks (byte_at f 0 2))
unfolding linked_chains
tasks_counted f = ap length (linked_tasks f) ∙ simp length-map

locks_counted : (f : File) → length (ceilings_of (table_at f (linked_chains f))) ≡ length (linked f most_locks (byte_at f 0 3))
unfolding linked_chains
locks_counted f = ap length (ceilings_held f (linked_chains f) (linked_length f most_locks (byte_at f 0 3))) ∙ simp length-map

-- its task number i, and how long the body is
pub task_held : (f : File) (i : Task) → i.0 < length (linked f most_tasks (byte_at f 0 2))
    → task_of (table_at f (linked_chains f)) i ≡ entry_at f (linked_task f (link_after f (byte_at f 0 2) i.0))
unfolding task_of linked_chains
task_held f i h =
    let none : TaskChain = record { task_record = 0; body = [] } in
    let below : i.0 < length (linked_chains f).tasks = simp length-map h in
    ap (λ ts. get_or ts i.0 no_task) (linked_tasks f)
    ∙ map_at (entry_at f) (linked_chains f).tasks i.0 none no_task below
    ∙ ap (entry_at f) (task_at f i.0 none h)

body_counted : (f : File) (i : Task) → i.0 < length (linked f most_tasks (byte_at f 0 2))
    → length (body_of (task_of (table_at f (linked_chains f)) i))
    ≡ length (linked f most_instructions (byte_at f (link_after f (byte_at f 0 2) i.0) 2))
unfolding linked_task
body_counted f i h =
    let r = link_after f (byte_at f 0 2) i.0 in
    ap (λ e. length (body_of e)) (task_held f i h)
    ∙ ap length (body_held f (linked_task f r) (linked_length f most_instructions (byte_at f r 2)))
    ∙ simp length-map

-- a site of the table that the links spell is a site by the links
pub in_table_sited : (f : File) (s : Site) → InTable (table_at f (linked_chains f)) s → Sited f s
in_table_sited f AtHeader h = tt
in_table_sited f (AtTask i) h = rw tasks_counted at h
in_table_sited f (AtInstruction i p) h =
    let task : i.0 < length (linked f most_tasks (byte_at f 0 2)) = rw tasks_counted at h.0 in
    (task, rw (body_counted f i task) at h.1)
in_table_sited f (AtLock l) h = rw (locks_counted f) at h

-- the table that the links spell is in full arrays, with counts that stay within them
entry_shaped : (f : File) (r : ℕ) → ShapedEntry (entry_at f (linked_task f r))
unfolding entry_at linked_task
entry_shaped f r =
    record {
      full = padded_length most_instructions end_instruction (map (instruction_at f) (linked f most_instructions (byte_at f r 2)));
      within = linked_length f most_instructions (byte_at f r 2);
    }

none_shaped : ShapedEntry no_task
unfolding no_task
none_shaped = record { full = padded_length most_instructions end_instruction []; within = omega arith }

pub table_shaped : (f : File) → Shaped (table_at f (linked_chains f))
unfolding table_at linked_chains
table_shaped f =
    let tasks = linked f most_tasks (byte_at f 0 2) in
    let locks = linked f most_locks (byte_at f 0 3) in
    let entries = map (entry_at f) (map (linked_task f) tasks) in
    record {
      entries_full = padded_length most_tasks no_task entries;
      tasks_within = simp length-map (linked_length f most_tasks (byte_at f 0 2));
      ceilings_full = padded_length most_locks 0 (map (λ r. byte_at f r 2) locks);
      holdings_full = padded_length most_locks 0 (map (λ r. wide_at f r 4) locks);
      locks_within = linked_length f most_locks (byte_at f 0 3);
      bodies = λ i h.
          every_at ShapedEntry (padded most_tasks no_task entries) i no_task
          (every_padded ShapedEntry most_tasks no_task entries none_shaped
          (every_map ShapedEntry (entry_at f) (map (linked_task f) tasks)
          (every_map (λ t. ShapedEntry (entry_at f t)) (linked_task f) tasks
          (every_of (λ r. ShapedEntry (entry_at f (linked_task f r))) (entry_shaped f) tasks))))
          (rw padded_length h);
    }
