-- The covered table of a table whose fields passed: it holds the same tasks and locks, and so it is the same table.
-- Assumes nothing.
use Rattle.std.specs.Prelude.{◌≡◌, refl, ℕ, ◌≤◌, ◌<◌, length, take, replicate}
use Rattle.std.proofs.Math.Path.{ap}
use Rattle.std.proofs.Common.{◌∙◌, arith, take-take, take_at}
use mathlib.Core.List.{List, [], ◌∷◌, ◌++◌, map}
use Rattle.std.proofs.Math.ListN.{get_or, length-take}
use Rattle.notation.specs.Checked.{passed}
use Rattle.notation.specs.Laws.QuantifierLaws.{map_length, map_at}
use Rattle.notation.specs.Lists.{padded}
use Rattle.notation.specs.Ordered.{Every}
use Rattle.taskfile.specs.declared.Table.{Table}
use Rattle.taskfile.specs.declared.Task.{Task}
use Rattle.taskfile.specs.declared.TaskEntry.{TaskEntry}
use Rattle.taskfile.specs.Chains.{most_tasks, most_locks, most_instructions}
use Rattle.taskfile.specs.Tables.{tasks_of, task_of, body_of, ceilings_of, holdings_of, end_instruction, no_task}
use Rattle.writer.specs.Covered.{covered_entry, covered}
use Rattle.writer.specs.Values.{FitsEntry, Fits}
use Rattle.writer.specs.Fields.{fields}
use Rattle.writer.proofs.Laws.CheckedTableLaws.{tasks_fit, fields_within}
use Rattle.writer.specs.SameTable.{contents_of, SameTable}

-- an array that was filled up holds what it was filled from
padded_taken : {A : Type 0} (n most : ℕ) (d : A) (xs : List A) → length xs ≡ n → n ≤ most
    → take n (padded most d xs) ≡ xs
unfolding padded
padded_taken n most d xs long within =
    take-take n most (xs ++ replicate most d) within ∙ take_at xs (replicate most d) n long

-- the body of a covered task
pub body_covered : (e : TaskEntry) → FitsEntry e → e.length ≤ 16 → body_of (covered_entry e) ≡ body_of e
unfolding body_of covered_entry
body_covered e fit within =
    padded_taken e.length most_instructions end_instruction (take e.length e.body)
    (omega (arith, length-take e.length e.body, fit.body)) within

contents_covered : (tasks : List TaskEntry) → Every FitsEntry tasks → Every (λ (e : TaskEntry). e.length ≤ 16) tasks
    → map contents_of (map covered_entry tasks) ≡ map contents_of tasks
unfolding contents_of covered_entry
contents_covered [] fit within = refl
contents_covered (e ∷ others) fit within =
    let body = body_covered e fit.0 within.0 in
    let later = contents_covered others fit.1 within.1 in
    λ j. record { execution = e.execution; period = e.period; arrival = e.arrival; body = body j } ∷ later j

pub held_tasks_length : (t : Table) → Fits t → t.tasks ≤ 8 → length (tasks_of t) ≡ t.tasks
unfolding tasks_of
held_tasks_length t fit within = omega (arith, length-take t.tasks t.entries, fit.entries_full)

module _ (t : Table) (fit : Fits t) {u : Unit {0}} (sound : fields t ≡ passed u) where
  -- the covered table's tasks, ceilings and holding times, and its task number i
  pub tasks_covered : tasks_of (covered t) ≡ map covered_entry (tasks_of t)
  unfolding tasks_of covered
  tasks_covered =
      let within = (fields_within t fit sound).0 in
      padded_taken t.tasks most_tasks no_task (map covered_entry (tasks_of t))
      (map_length covered_entry (tasks_of t) ∙ held_tasks_length t fit within) within

  pub ceilings_covered : ceilings_of (covered t) ≡ ceilings_of t
  unfolding ceilings_of covered
  ceilings_covered =
      let within = (fields_within t fit sound).1 in
      padded_taken t.locks most_locks 0 (ceilings_of t)
      (omega (arith, length-take t.locks t.ceilings, fit.ceilings)) within

  pub holdings_covered : holdings_of (covered t) ≡ holdings_of t
  unfolding holdings_of covered
  holdings_covered =
      let within = (fields_within t fit sound).1 in
      padded_taken t.locks most_locks 0 (holdings_of t)
      (omega (arith, length-take t.locks t.holdings, fit.holdings_full)) within

  pub task_covered : (i : Task) → i.0 < length (tasks_of t) → task_of (covered t) i ≡ covered_entry (task_of t i)
  unfolding task_of
  task_covered i lt =
      ap (λ (tasks : List TaskEntry). get_or tasks i.0 no_task) tasks_covered
      ∙ map_at covered_entry (tasks_of t) i.0 no_task no_task lt

  -- the covered table is the same table
  pub covered_same : SameTable (covered t) t
  unfolding covered
  covered_same =
      record {
        window = refl;
        store = refl;
        tasks =
            ap (map contents_of) tasks_covered
            ∙ contents_covered (tasks_of t) (tasks_fit t fit) (fields_within t fit sound).2;
        ceilings = ceilings_covered;
        holdings = holdings_covered;
      }
