-- Laws of a table's parts.
-- Assumes nothing.
use Rattle.std.specs.Prelude.{◌≡◌, ◌+◌, ◌≤◌, ◌<◌, length, get_or}
use Rattle.std.proofs.Common.{ap, ◌∙◌, arith}
use Rattle.std.proofs.lemmas.List.{length-map}
use Rattle.std.proofs.Math.ListN.{get_or-map}
use Rattle.taskfile.specs.declared.Table.{Table}
use Rattle.taskfile.specs.declared.Task.{Task}
use Rattle.taskfile.specs.Judgement.{numbered, task_numbers}
use Rattle.notation.specs.Lists.{from, up_to}
use Rattle.notation.specs.Laws.ListLaws.{up_to_length, get_or_up_to}
use Rattle.notation.specs.Laws.PairLaws.{every_imp, every_map, ordered_imp, ordered_map, from_within, from_rises}
use Rattle.notation.specs.Ordered.{Every, Ordered}
use Rattle.taskfile.specs.Tables.{tasks_of}

-- there are as many task numbers as tasks, and each stands at its own place
pub task_numbers_length : (t : Table) → length (task_numbers t) ≡ length (tasks_of t)
unfolding task_numbers
task_numbers_length t = length-map (up_to (length (tasks_of t))) numbered ∙ up_to_length (length (tasks_of t))

pub task_numbers_at : (t : Table) (i d : Task) → i.0 < length (tasks_of t) → get_or (task_numbers t) i.0 d ≡ i
unfolding task_numbers
task_numbers_at t i d lt =
    get_or-map numbered (up_to (length (tasks_of t))) i.0 d.0 ∙ ap numbered (get_or_up_to (length (tasks_of t)) i.0 d.0 lt)

-- what holds of each task of the table holds of every task number
pub every_task : (t : Table) (P : Task → Type 0) → ((i : Task) → i.0 < length (tasks_of t) → P i)
    → Every P (task_numbers t)
unfolding task_numbers up_to
every_task t P h =
    let n = length (tasks_of t) in
    every_map P numbered (from 0 n)
    (every_imp (λ k. (0 ≤ k) × (k < 0 + n)) (λ k. P (numbered k)) (λ k g. h (numbered k) (omega arith)) (from 0 n) (from_within 0 n))

-- the task numbers rise
pub tasks_rise : (t : Table) (R : Task → Task → Type 0) → ((i j : Task) → i.0 < j.0 → R i j)
    → Ordered R (task_numbers t)
unfolding task_numbers up_to
tasks_rise t R h =
    let n = length (tasks_of t) in
    ordered_map R numbered (from 0 n)
    (ordered_imp ◌<◌ (λ j k. R (numbered j) (numbered k)) (λ j k lt. h (numbered j) (numbered k) lt) (from 0 n) (from_rises 0 n))
