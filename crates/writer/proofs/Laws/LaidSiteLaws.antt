-- The record at a site of a table whose fields passed stands in the layout at the site's index.
-- Assumes nothing.
use Rattle.std.specs.Prelude.{◌≡◌, ℕ, zero, suc, ◌+◌, ◌≤◌, ◌<◌, take}
use Rattle.std.proofs.Math.Path.{refl, sym, ap, subst}
use Rattle.std.proofs.Common.{◌∙◌}
use native.Mathlib.Omega.{arith}
use mathlib.Core.List.{List, [], ◌∷◌}
use Rattle.std.proofs.Math.ListN.{length, get_or}
use Rattle.notation.specs.Checked.{passed}
use Rattle.notation.specs.Laws.ListLaws.{get_or_from}
use Rattle.notation.specs.Laws.PairLaws.{every_at}
use Rattle.notation.specs.Laws.QuantifierLaws.{map_length}
use Rattle.taskfile.specs.declared.Instruction.{Instruction}
use Rattle.taskfile.specs.declared.Site.{Site}
use Rattle.taskfile.specs.declared.Site.TheVariants.{AtHeader, AtTask, AtInstruction, AtLock}
use Rattle.taskfile.specs.declared.Table.{Table}
use Rattle.taskfile.specs.declared.Task.{Task}
use Rattle.taskfile.specs.declared.TaskEntry.{TaskEntry}
use Rattle.taskfile.specs.Chains.{TaskChain}
use Rattle.taskfile.specs.File.{record_at}
use Rattle.taskfile.proofs.Laws.ChainLaws.{InTable}
use Rattle.taskfile.specs.Tables.{tasks_of, task_of, body_of, ceilings_of, holdings_of, no_task}
use Rattle.writer.specs.Claims.{claimed_tasks, claimed_body, claimed_locks}
use Rattle.writer.specs.Sites.{index_of, locks_at}
use Rattle.writer.specs.Covered.{covered_entry, covered}
use Rattle.writer.specs.Values.{FitsEntry, Fits}
use Rattle.writer.specs.Fields.{fields}
use Rattle.writer.specs.Layout.{after_task}
use Rattle.writer.proofs.Laws.CheckedTableLaws.{tasks_fit, body_claimed, fields_within, tasks_claimed, locks_even, locks_claimed}
use Rattle.writer.proofs.Laws.CoveredLaws.{body_covered, tasks_covered, ceilings_covered, task_covered}
use Rattle.writer.proofs.Laws.Laid.{laid_task, laid_tasks, laid_chains}
use Rattle.writer.proofs.Laws.LockLaws.{locks_length}
use Rattle.writer.proofs.Laws.SiteLaws.{record_total, record_total_cons, total_none, counted_index, ClaimedSite, index_counted, locks_counted}

after_total : (r : ℕ) (e : TaskEntry) (before : List TaskEntry)
    → after_task r e + record_total before ≡ r + record_total (e ∷ before)
unfolding after_task
after_total r e before = omega (arith, record_total_cons e before)

-- the chain of task number i stands after those before it
chain_at_lem : (r : ℕ) (tasks : List TaskEntry) (i : ℕ) (d : TaskChain) (e : TaskEntry) → i < length tasks
    → get_or (laid_tasks r tasks) i d ≡ laid_task (r + record_total (take i tasks)) (get_or tasks i e)
unfolding laid_tasks
chain_at_lem r [] i d e lt = absurd (omega arith)
chain_at_lem r (x ∷ others) zero d e lt =
    let place : r ≡ r + record_total [] = omega (arith, total_none) in
    ap (λ (k : ℕ). laid_task k x) place
chain_at_lem r (x ∷ others) (suc i) d e lt =
    let place : after_task r x + record_total (take i others) ≡ r + record_total (x ∷ take i others) =
    after_total r x (take i others) in
    chain_at_lem (after_task r x) others i d e (omega arith) ∙ ap (λ (k : ℕ). laid_task k (get_or others i e)) place

module _ (t : Table) (fit : Fits t) {u : Unit {0}} (sound : fields t ≡ passed u) where
  -- a task of the covered table is one that the table claims
  task_claimed : (i : Task) → i.0 < length (tasks_of (covered t)) → i.0 < length (claimed_tasks t)
  task_claimed i h =
      omega (arith, ap length (tasks_covered t fit sound), map_length covered_entry (tasks_of t), ap length (tasks_claimed t fit sound))

  instruction_claimed : (i : Task) (p : ℕ) → i.0 < length (tasks_of (covered t))
      → p < length (body_of (task_of (covered t) i)) → p < length (claimed_body (get_or (claimed_tasks t) i.0 no_task))
  unfolding task_of
  instruction_claimed i p task h =
      let below : i.0 < length (tasks_of t) =
      omega (arith, ap length (tasks_covered t fit sound), map_length covered_entry (tasks_of t)) in
      let fits = every_at FitsEntry (tasks_of t) i.0 no_task (tasks_fit t fit) below in
      let within = every_at (λ (e : TaskEntry). e.length ≤ 16) (tasks_of t) i.0 no_task (fields_within t fit sound).2 below in
      let same : body_of (task_of (covered t) i) ≡ claimed_body (get_or (claimed_tasks t) i.0 no_task) =
      ap body_of (task_covered t fit sound i below) ∙ body_covered (task_of t i) fits within
      ∙ sym (body_claimed (task_of t i) fits within)
      ∙ ap (λ (tasks : List TaskEntry). claimed_body (get_or tasks i.0 no_task)) (sym (tasks_claimed t fit sound)) in
      subst (λ (body : List Instruction). p < length body) same h

  lock_claimed : (l : ℕ) → l < length (ceilings_of (covered t)) → l < length (claimed_locks t)
  lock_claimed l h =
      omega (
        arith,
        ap length (ceilings_covered t fit sound),
        ap length (locks_claimed t fit sound),
        locks_length (ceilings_of t) (holdings_of t) (locks_even t fit),
      )

  record_counted : (s : Site) → InTable (covered t) s → record_at (laid_chains t) s ≡ counted_index t s
  unfolding record_at counted_index laid_chains laid_task
  record_counted AtHeader h = refl
  record_counted (AtTask i) h =
      ap (λ (c : TaskChain). c.task_record) (chain_at_lem 1 (claimed_tasks t) i.0 _ no_task (task_claimed i h))
      ∙ omega arith
  record_counted (AtInstruction i p) h =
      ap (λ (c : TaskChain). get_or c.body p 0)
      (chain_at_lem 1 (claimed_tasks t) i.0 _ no_task (task_claimed i h.0))
      ∙ get_or_from _ _ p 0 (instruction_claimed i p h.0 h.1)
      ∙ omega arith
  record_counted (AtLock l) h =
      get_or_from (locks_at t) (length (claimed_locks t)) l 0 (lock_claimed l h) ∙ omega (arith, locks_counted t)

  -- a site of the covered table is one of what the table claims
  site_claimed : (s : Site) → InTable (covered t) s → ClaimedSite t s
  site_claimed AtHeader h = tt
  site_claimed (AtTask i) h = task_claimed i h
  site_claimed (AtInstruction i p) h = (task_claimed i h.0, instruction_claimed i p h.0 h.1)
  site_claimed (AtLock l) h = lock_claimed l h

  pub record_laid : (s : Site) → InTable (covered t) s → record_at (laid_chains t) s ≡ index_of t s
  record_laid s h = record_counted s h ∙ sym (index_counted t s (site_claimed s h))
