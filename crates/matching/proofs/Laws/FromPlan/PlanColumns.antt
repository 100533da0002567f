-- What the run of a legal plan says of its history: each job's rounds do not fall, its steps, stores and failed jobs
-- are those of the columns, each guess is the store that is due, and every column ends. A column's last step notes
-- the priority of what the job holds.
-- Assumes nothing.
use Rattle.std.specs.Prelude.{◌≡◌, ℕ, ◌<◌, true, length}
use Rattle.std.proofs.Math.Path.{sym, ap, subst}
use Rattle.std.proofs.Common.{◌∙◌, arith}
use mathlib.Core.List.{List, [], ◌∷◌, map}
use Rattle.std.proofs.Math.ListN.{get_or, get_or-map}
use Rattle.notation.specs.Laws.ListLaws.{map_snoc}
use Rattle.notation.specs.Lists.{last_or}
use Rattle.taskfile.specs.Tables.{ceilings_of}
use Rattle.timing.specs.Accepted.{Accepted}
use Rattle.timing.specs.Code.IsAccepted.{IsAccepted}
use Rattle.timing.specs.Relations.{base}
use Rattle.machine.specs.Ends.{no_flags}
use Rattle.machine.specs.Held.{priority}
use Rattle.machine.proofs.Laws.HeldLaws.{priority_none}
use Rattle.machine.specs.Instructions.{Store, fresh}
use Rattle.plan.specs.Legality.{steps_of, due_store}
use Rattle.plan.specs.Plans.{Legal}
use Rattle.plan.specs.Runs.{Plan, Step, JobRuns, job_total, first_round}
use Rattle.matching.proofs.Laws.FromPlan.CutRuns.{cut_whole, whole_ends}
use Rattle.matching.proofs.Laws.History.Histories.{Mark, Marks, job, round, JobColumn, unbegun, ColumnRun, effect_of, stepped, mark_step, run_marks, columns}
use Rattle.matching.proofs.Laws.FromPlan.LegalLaws.{legal_run_lem, legal_guesses}
use Rattle.notation.specs.Laws.ElementLaws.{last_snoc}
use Rattle.matching.proofs.Laws.History.PartLaws.{column_at}
use Rattle.matching.proofs.Laws.History.Parts.{beginning}
use Rattle.matching.proofs.Laws.History.PlanHistoryLaws.{PlanBack, plan_read, plan_run_is}
use Rattle.matching.proofs.Laws.History.PlanReading.{marks_of, step_of, guesses_of, guessed, flags_from, columns_run}
use Rattle.matching.proofs.Laws.FromPlan.PlanRounds.{rounds_marked}
use Rattle.matching.proofs.Laws.History.RoundLaws.{guess_of}
use Rattle.matching.proofs.Laws.FromPlan.RunLaws.{Climbs, job_climbs}
use Rattle.matching.proofs.Laws.FromPlan.SequenceLaws.{AllRounds}

-- ---- one job's steps

module _ (a : Accepted) (x : ℕ) where
  -- the last step notes the priority of what the job holds; before the first that is its base
  abbrev Noting : JobColumn → Type 0
  Noting c =
      last_or (base a (job x)) (map (λ step. step.priority_after) c.steps)
      ≡ priority (ceilings_of a.table) (base a (job x)) c.local.held

  run_notes : (ms : List Mark) (c : ColumnRun) → Noting c.column → Noting (run_marks a x ms c).column
  unfolding run_marks mark_step stepped step_of
  run_notes [] c e = e
  run_notes (m ∷ ms) c e =
      let step : Step = step_of a x m (effect_of a x m c) in
      run_notes ms (mark_step a x m c)
      (ap (last_or (base a (job x))) (map_snoc (λ (step : Step). step.priority_after) c.column.steps step)
      ∙ last_snoc (base a (job x)) (map (λ step. step.priority_after) c.column.steps) step.priority_after)

  unbegun_notes : Noting unbegun
  unfolding unbegun fresh last_or
  unbegun_notes = sym (priority_none (ceilings_of a.table) (base a (job x)))

-- ---- a legal plan

module _ {a : Accepted} (ok : IsAccepted a) (plan : Plan) {runs : JobRuns} (legal : Legal a plan runs) where
  abbrev h : Marks
  h = marks_of runs

  abbrev S : List Store
  S = guesses_of a plan

  pub legal_back : PlanBack a plan runs
  legal_back = plan_read ok plan (legal_run_lem a plan legal).0

  -- each job's rounds do not fall
  pub legal_climbs : AllRounds (job_total a) h
  unfolding job_total job
  legal_climbs y lt =
      subst (Climbs (job_total a) first_round) (rounds_marked runs y)
      (job_climbs a plan (legal_run_lem a plan legal).0 (job y) (omega (arith, lt, legal_back.full)))

  -- the run is the history's reading by columns
  run_is : runs ≡ columns_run a 0 h (guessed a S)
  run_is = plan_run_is ok plan (legal_run_lem a plan legal).0

  pub legal_steps : (y : ℕ) → steps_of runs (job y) ≡ (get_or (columns a h S).jobs y unbegun).steps
  unfolding steps_of job columns_run guessed columns unbegun
  legal_steps y =
      ap (λ (r : JobRuns). get_or r.steps y []) run_is ∙ get_or-map (λ (c : JobColumn). c.steps) (columns a h S).jobs y unbegun

  pub legal_stores : runs.running.stores ≡ (columns a h S).stores
  unfolding columns_run guessed columns
  legal_stores = ap (λ (r : JobRuns). r.running.stores) run_is

  pub legal_failed : runs.running.failed ≡ flags_from 0 (columns a h S).jobs no_flags
  unfolding columns_run guessed columns
  legal_failed = ap (λ (r : JobRuns). r.running.failed) run_is

  -- each guess is the store that is due
  pub guess_due : (q : ℕ) → q < job_total a → (d : Store) → get_or S q d ≡ due_store a runs (round q)
  guess_due q lt d = guess_of a plan q d lt ∙ legal_guesses a plan legal (round q) lt

  -- every column ends
  pub legal_ends : (y : ℕ) → y < job_total a → (get_or (columns a h S).jobs y unbegun).ended ≡ true
  legal_ends y lt =
      let inside : y < length h = omega (arith, legal_back.full) in
      ap (λ (c : JobColumn). c.ended) (column_at a h y S inside)
      ∙ whole_ends a y (get_or h y []) 0 (beginning a h S y) (cut_whole a h S y inside legal_back.whole)

-- a column's last step notes the priority of what its job holds
pub column_notes : (a : Accepted) (h : Marks) (S : List Store) (y : ℕ) → y < length h
    → last_or (base a (job y)) (map (λ step. step.priority_after) (get_or (columns a h S).jobs y unbegun).steps)
    ≡ priority (ceilings_of a.table) (base a (job y)) (get_or (columns a h S).jobs y unbegun).local.held
column_notes a h S y lt =
    subst (Noting a y) (sym (column_at a h y S lt)) (run_notes a y (get_or h y []) (beginning a h S y) (unbegun_notes a y))
