-- The runs of a history's jobs as far as they have gone: each job's steps are allowed, and either the last of them
-- ends the job or none does.
-- Assumes nothing.
use Rattle.std.specs.Prelude.{◌≡◌, ℕ, ◌<◌, Bool, true, false, List, [], ◌∷◌, map, length, get_or, take}
use Rattle.notation.specs.Lists.{last_or}
use Rattle.timing.specs.Accepted.{Accepted}
use Rattle.machine.specs.Instructions.{Store}
use Rattle.matching.proofs.Laws.History.Histories.{Mark, Marks, ColumnRun, unbegun, mark_step, columns_from}
use Rattle.matching.proofs.Laws.History.PlanReading.{Allowed, Whole}

-- the round of the last of these steps, or the previous one where there is none
unfoldable pub last_round : ℕ → List Mark → ℕ
last_round previous ms = last_or previous (map (λ m. m.round) ms)

-- the marks of job x from here on are a run that has not come to its End
abbrev pub Going : Accepted → ℕ → ℕ → List Mark → ColumnRun → Type 0
Going a x previous [] c = Unit {0}
Going a x previous (m ∷ ms) c =
    Allowed a x previous m c × ((mark_step a x m c).column.ended ≡ false) × Going a x m.round ms (mark_step a x m c)

-- the stores that the jobs before x leave
unfoldable pub stores_before : Accepted → Marks → List Store → ℕ → List Store
stores_before a h stores x = (columns_from a 0 (take x h) stores).stores

-- where job x begins
abbrev pub beginning : Accepted → Marks → List Store → ℕ → ColumnRun
beginning a h stores x = record { column = unbegun; stores = stores_before a h stores x }

-- the marks of job x from its start c on are a run to its End, or one that has not come to it
abbrev pub RunsTo : Accepted → ℕ → List Mark → ColumnRun → Bool → Type 0
RunsTo a x ms c true = Whole a x 0 ms c
RunsTo a x ms c false = Going a x 0 ms c

-- the marks of job x in a history are such a run, on the stores that the jobs before it leave
abbrev pub Part : Accepted → Marks → List Store → ℕ → Bool → Type 0
Part a h stores x ended = RunsTo a x (get_or h x []) (beginning a h stores x) ended

-- those of each job are, to its End where `ended` says so
abbrev pub Parts : Accepted → Marks → List Store → (ℕ → Bool) → Type 0
Parts a h stores ended = (x : ℕ) → x < length h → Part a h stores x (ended x)
