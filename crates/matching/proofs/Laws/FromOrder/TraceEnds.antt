-- How a history ends where an order's trace ends with all rounds over: its last store is the state's, and the flags
-- of its failed columns are the state's failed jobs.
-- Assumes nothing.
use Rattle.std.specs.Prelude.{◌≡◌, ℕ, zero, suc, ◌+◌, ◌≤◌, ◌<◌, List, [], ◌∷◌}
use Rattle.std.proofs.Math.Path.{refl, sym, ap}
use Rattle.std.proofs.Common.{◌∙◌}
use Rattle.std.proofs.Math.Decide.{dec_lt}
use native.Mathlib.Omega.{arith}
use Rattle.std.proofs.Math.Bool.{false}
use Rattle.std.proofs.Math.Option.{some}
use Rattle.std.proofs.Math.ListN.{length, get_or, get_or-eq_default}
use Rattle.std.proofs.Math.Seq.{ext_get_or}
use Rattle.notation.specs.Lists.{last_or}
use Rattle.timing.specs.Accepted.{Accepted}
use Rattle.timing.specs.Code.IsAccepted.{IsAccepted}
use Rattle.timing.proofs.Laws.JobFacts.{jobs_few}
use Rattle.machine.specs.Ends.{Flags, no_flags, no_store, flagged}
use Rattle.machine.specs.Instructions.{Store}
use Rattle.order.specs.OrderBytes.{task_of_byte}
use Rattle.order.specs.Orders.{run}
use Rattle.order.specs.States.{State, initial}
use Rattle.order.proofs.Laws.StepLaws.{flag_here, flag_other, flag_length, good_turn, step_says, no_flag, initial_invariant}
use Rattle.plan.specs.Runs.{job_total}
use Rattle.matching.proofs.Laws.History.ColumnLaws.{columns_jobs, columns_length}
use Rattle.matching.proofs.Laws.History.Histories.{Marks, JobColumn, unbegun, columns}
use Rattle.notation.specs.Laws.ElementLaws.{last_at, last_none, or_none}
use Rattle.matching.proofs.Laws.History.PlanReading.{flags_from}
use Rattle.matching.proofs.Laws.FromOrder.TraceMore.{trace_run_first}
use Rattle.matching.proofs.Laws.FromOrder.Traces.{Traced}

-- ---- the flags of the failed columns

flags_length : (x : ℕ) (cs : List JobColumn) (flags : Flags) → length (flags_from x cs flags) ≡ length flags
unfolding flags_from
flags_length x [] flags = refl
flags_length x (c ∷ cs) flags = flags_length (suc x) cs (flagged c.failed x flags) ∙ flag_length c.failed x flags

-- those below the first column's number stay
flags_below : (x : ℕ) (cs : List JobColumn) (flags : Flags) (y : ℕ) → y < x
    → get_or (flags_from x cs flags) y false ≡ get_or flags y false
unfolding flags_from
flags_below x [] flags y lt = refl
flags_below x (c ∷ cs) flags y lt =
    flags_below (suc x) cs (flagged c.failed x flags) y (omega arith) ∙ flag_other c.failed x y flags (λ e. omega arith)

-- and where none is raised yet, each is its column's
flags_at : (x : ℕ) (cs : List JobColumn) (flags : Flags) → x + length cs ≤ length flags
    → ((n : ℕ) → x ≤ n → get_or flags n false ≡ false) → (y : ℕ)
    → get_or (flags_from x cs flags) (x + y) false ≡ (get_or cs y unbegun).failed
unfolding flags_from unbegun
flags_at x [] flags room low y = low (x + y) (omega arith)
flags_at x (c ∷ cs) flags room low zero =
    let place : x + 0 ≡ x = omega arith in
    ap (λ (n : ℕ). get_or (flags_from (suc x) cs (flagged c.failed x flags)) n false) place
    ∙ flags_below (suc x) cs (flagged c.failed x flags) x (omega arith)
    ∙ flag_here c.failed x flags (omega arith)
    ∙ or_none c.failed (get_or flags x false) (low x (omega arith))
flags_at x (c ∷ cs) flags room low (suc y) =
    let place : x + suc y ≡ suc x + y = omega arith in
    ap (λ (n : ℕ). get_or (flags_from (suc x) cs (flagged c.failed x flags)) n false) place
    ∙ flags_at (suc x) cs (flagged c.failed x flags) (omega (arith, flag_length c.failed x flags))
    (λ n le. flag_other c.failed x n flags (λ e. omega arith) ∙ low n (omega arith)) y

-- ---- an order of no jobs

-- where there is no job there is no step
no_step : {a : Accepted} → IsAccepted a → job_total a ≡ 0 → (order : List ℕ) {s : State}
    → run a (initial a) order ≡ some s → initial a ≡ s
unfolding run job_total
no_step ok none [] e = cc
no_step {a} ok none (byte ∷ bytes) e =
    let said = step_says a (initial a) byte (trace_run_first a (initial a) byte bytes e).1 in
    absurd (omega (arith, (good_turn ok (initial_invariant a) (task_of_byte byte) said.due).0.running.job))

-- ---- the end

module _ {a : Accepted} (ok : IsAccepted a) {s : State} {r : ℕ} {guesses : List Store} {h : Marks} {done : List ℕ}
    (t : Traced a s r guesses h done) where
  -- the last round's store is the state's, where all rounds are over
  pub last_store : (order : List ℕ) → run a (initial a) order ≡ some s → r ≡ job_total a
      → last_or a.table.store (columns a h guesses).stores ≡ s.store
  unfolding columns initial
  last_store order ran over = go (job_total a) refl
    where
      count : length (columns a h guesses).stores ≡ job_total a
      count = columns_length a 0 h guesses ∙ t.guessed

      go : (k : ℕ) → job_total a ≡ k → last_or a.table.store (columns a h guesses).stores ≡ s.store
      go zero none =
          last_none a.table.store (columns a h guesses).stores (count ∙ none) ∙ ap (λ (n : State). n.store) (no_step ok none order ran)
      go (suc q) total =
          last_at a.table.store no_store (columns a h guesses).stores q (count ∙ total) ∙ t.final q (sym total ∙ sym over) over

  -- each job's flag is its column's, and no other is raised
  failed_at : ((y : ℕ) → job_total a ≤ y → get_or s.failed y false ≡ false)
      → (y : ℕ) → (get_or (columns a h guesses).jobs y unbegun).failed ≡ get_or s.failed y false
  unfolding columns unbegun
  failed_at beyond y = elim (dec_lt y (job_total a)) [
    | yes lt ↦ t.failures y lt
    | no out ↦
        ap (λ (c : JobColumn). c.failed)
        (get_or-eq_default (columns a h guesses).jobs unbegun {n = y} (omega (arith, columns_jobs a 0 h guesses, t.listed)))
        ∙ sym (beyond y (omega arith))
  ]

  pub failed_flags : ((y : ℕ) → job_total a ≤ y → get_or s.failed y false ≡ false)
      → flags_from 0 (columns a h guesses).jobs no_flags ≡ s.failed
  unfolding columns no_flags job_total
  failed_flags beyond =
      let jobs = (columns a h guesses).jobs in
      let few : 0 + length jobs ≤ 32 = omega (arith, columns_jobs a 0 h guesses, t.listed, jobs_few ok.is_timed) in
      let at = flags_at 0 jobs no_flags few (λ n le. no_flag 32 n) in
      ext_get_or false (flags_from 0 jobs no_flags) s.failed (flags_length 0 jobs no_flags ∙ sym t.wide)
      (λ y lt. (let place : 0 + y ≡ y = omega arith in
      ap (λ (n : ℕ). get_or (flags_from 0 jobs no_flags) n false) (sym place) ∙ at y ∙ failed_at beyond y))
