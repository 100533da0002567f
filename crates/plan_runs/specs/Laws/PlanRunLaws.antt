-- Laws of a plan's run: the guesses copied, the first byte and the length judged, and what the jobs' run comes to.
-- Assumes nothing.
use Rattle.std.specs.Prelude.{◌≡◌, ℕ, ◌+◌, ◌*◌, ◌≤◌, ◌<◌, ◌&&◌, List, map, ltb, leb, length, get_or, set, drop, replicate, Result, Ok, Err}
use Rattle.std.proofs.Math.Path.{refl, sym, ap}
use Rattle.std.proofs.Common.{◌∙◌, zero-add, add-one, arith, length-drop, get_or-drop, lt-ltb, le-ltb, le-leb, eq-eqb, ne_eqb}
use Rattle.std.proofs.Math.Bool.{true, false}
use Rattle.std.proofs.Math.Dec.{eqb}
use Rattle.std.proofs.lemmas.List.{length-replicate}
use Rattle.std.proofs.Math.Seq.{paste, paste-zero, paste-suc}
use Rattle.std.proofs.lemmas.List.Edits.{length-paste}
use Rattle.std.proofs.lemmas.Bool.{lt-leb}
use Rattle.notation.specs.Checked.{Checked, refused, passed, require, mapped, ◌>>=◌, ◌>>◌}
use Rattle.notation.specs.Laws.CheckedLaws.{require_holds, require_fails}
use Rattle.notation.specs.Laws.ElementLaws.{map_map}
use Rattle.notation.specs.Laws.TestLaws.{and_first, and_last, and_holds}
use Rattle.notation.specs.Lists.{up_to}
use Rattle.taskfile.specs.Code.Refusals.{outcome}
use Rattle.taskfile.specs.declared.Ceilings.{Ceilings}
use Rattle.taskfile.specs.declared.refusals.Refusal.TheVariants.{Shape}
use Rattle.taskfile.specs.declared.refusals.Refused.{Refused}
use Rattle.timing.specs.Accepted.{Accepted}
use Rattle.timing.specs.Relations.{job_numbers}
use Rattle.machine.specs.Ends.{no_flags}
use Rattle.machine.specs.Instructions.{Store}
use Rattle.plan.specs.Runs.{Plan, JobRuns, RunState, job_total, guess, round_numbers, run_start, run_jobs, run_plan}
use Rattle.plan_marks.specs.declared.JobsRan.{JobsRan}
use Rattle.plan_marks.specs.declared.Marks.{Marks}
use Rattle.plan_marks.specs.Code.Marks.{stores_in, steps_in, run_state_in}
use Rattle.plan_marks.specs.Code.RunParts.{Holds, job_runs_in, JobsRanOf, PlanRanOf}
use Rattle.plan_marks.specs.Laws.StoreLaws.{guesses_copied}

-- ---- the guesses copied: the first v bytes of them

pub record Copying (plan before : List ℕ) (most v : ℕ) (now : List ℕ) : Type 0 where
  pub is : now ≡ paste before 0 (drop 1 plan) v
  pub below : v ≤ most

pub copying_none : (plan before : List ℕ) (most : ℕ) → Copying plan before most 0 before
copying_none plan before most = record { is = paste-zero before 0 (drop 1 plan); below = omega arith }

pub copying_more : (plan before : List ℕ) (most v : ℕ) (now : List ℕ) → Copying plan before most v now
    → most ≤ length before → 1 + most ≤ length plan → v < most
    → Copying plan before most (v + 1) (set now v (get_or plan (1 + v) 0))
copying_more plan before most v now done room long lt = record {
  is =
      ap (λ (l : List ℕ). set l v (get_or plan (1 + v) 0)) done.is
      ∙ ap (λ (b : ℕ). set (paste before 0 (drop 1 plan) v) v b) (sym (get_or-drop 1 plan v 0))
      ∙ ap (λ (i : ℕ). set (paste before 0 (drop 1 plan) v) i (get_or (drop 1 plan) v 0)) (sym (zero-add v))
      ∙ paste-suc before 0 (drop 1 plan) v 0 (omega arith) (omega (arith, length-drop 1 plan))
      ∙ ap (paste before 0 (drop 1 plan)) (sym (add-one v));
  below = omega arith;
}

pub copying_all : (plan before : List ℕ) (most v : ℕ) (now : List ℕ) → Copying plan before most v now → most ≤ v
    → now ≡ paste before 0 (drop 1 plan) most
copying_all plan before most v now done all =
    let whole : v ≡ most = omega arith in
    done.is ∙ ap (paste before 0 (drop 1 plan)) whole

-- ---- a plan's run

-- the first byte is there and right
first_holds : (plan : Plan) (n : ℕ) → (length plan ≡ 0 → ⊥) → get_or plan 0 0 ≡ n
    → (ltb 0 (length plan) && eqb (get_or plan 0 0) n) ≡ true
first_holds plan n some first =
    and_holds (ltb 0 (length plan)) _ (lt-ltb 0 (length plan) (omega arith)) (eq-eqb (get_or plan 0 0) n first)

-- a plan whose first byte or length is wrong
module _ (program : List ℕ) (locks : Ceilings) (plan : Plan) (k : ℕ) where
  misshapen_at : (place : ℕ)
      → ((a : Accepted) (times : List ℕ) → Holds a program times locks k → run_plan a plan ≡ refused 40 place)
      → PlanRanOf program locks plan k (Err (record { why = Shape; place = place }))
  unfolding mapped
  misshapen_at place ran = record { long = tt; ran = λ a times holds. sym (ran a times holds) }

  first_wrong : ((n : ℕ) → n ≡ k → (ltb 0 (length plan) && eqb (get_or plan 0 0) n) ≡ false)
      → PlanRanOf program locks plan k (Err (record { why = Shape; place = 0 }))
  unfolding run_plan job_total
  first_wrong wrong =
      misshapen_at 0
      (λ a times holds.
      require_fails (ltb 0 (length plan) && eqb (get_or plan 0 0) (job_total a)) 40 0 _ (wrong (job_total a) holds.total))

  -- there is no first byte
  pub ran_empty : length plan ≡ 0 → PlanRanOf program locks plan k (Err (record { why = Shape; place = 0 }))
  ran_empty none = first_wrong (λ n is. and_first (ltb 0 (length plan)) _ (le-ltb 0 (length plan) (omega arith)))

  -- it is not k
  pub ran_other : (get_or plan 0 0 ≡ k → ⊥) → PlanRanOf program locks plan k (Err (record { why = Shape; place = 0 }))
  ran_other other =
      first_wrong (λ n is. and_last (ltb 0 (length plan)) _ (ne_eqb (get_or plan 0 0) n (λ e. other (e ∙ is))))

  -- the guesses are not all there
  pub ran_short : (length plan ≡ 0 → ⊥) → get_or plan 0 0 ≡ k → length plan < 1 + 8 * k
      → PlanRanOf program locks plan k (Err (record { why = Shape; place = length plan }))
  unfolding run_plan job_total
  ran_short some first short =
      misshapen_at (length plan)
      (λ a times holds.
      require_holds (ltb 0 (length plan) && eqb (get_or plan 0 0) (job_total a)) 40 0 _
      (first_holds plan (job_total a) some (first ∙ sym holds.total))
      ∙ require_fails (leb (1 + 8 * job_total a) (length plan)) 40 (length plan) _
      (lt-leb (1 + 8 * job_total a) (length plan) (omega (arith, holds.total))))

-- ---- the run of a plan whose first byte is k and whose guesses are there

-- the run starts from the guesses
pub run_start_is : (a : Accepted) (plan : Plan) (k : ℕ) (stores : List ℕ) → job_total a ≡ k → length stores ≡ 256 → k ≤ 32
    → 1 + 8 * k ≤ length plan
    → run_start a plan ≡ run_state_in k (paste stores 0 (drop 1 plan) (8 * k)) no_flags (1 + 8 * k)
unfolding run_start run_state_in round_numbers
run_start_is a plan k stores total whole few long =
    ap started total ∙ ap (λ (l : List Store). record { offset = 1 + 8 * k; stores = l; failed = no_flags }) same
  where
    started : ℕ → RunState
    started n =
        record { offset = 1 + 8 * n; stores = map (guess plan) (map (λ n. record { 0 = n }) (up_to n)); failed = no_flags }

    same : map (guess plan) (map (λ n. record { 0 = n }) (up_to k)) ≡ stores_in (paste stores 0 (drop 1 plan) (8 * k)) k
    same = map_map (guess plan) (λ n. record { 0 = n }) (up_to k) ∙ sym (guesses_copied plan stores k whole few long)

-- what follows the jobs' run
unfoldable ending : Plan → JobRuns → Checked ℕ JobRuns
ending plan runs =
    ◌>>◌ (require (eqb runs.running.offset (length plan)) 40 runs.running.offset) (passed runs)

-- a plan's run is that of its jobs, and then the check that nothing is left over
run_is : (a : Accepted) (plan : Plan) (k : ℕ) → job_total a ≡ k → (length plan ≡ 0 → ⊥) → get_or plan 0 0 ≡ k
    → 1 + 8 * k ≤ length plan → run_plan a plan ≡ ◌>>=◌ (run_jobs a plan (job_numbers a) (run_start a plan)) (ending plan)
unfolding run_plan ending
run_is a plan k total some first long =
    require_holds (ltb 0 (length plan) && eqb (get_or plan 0 0) (job_total a)) 40 0 _
    (first_holds plan (job_total a) some (first ∙ sym total))
    ∙ require_holds (leb (1 + 8 * job_total a) (length plan)) 40 (length plan) _
    (le-leb (1 + 8 * job_total a) (length plan) (omega arith))

-- the guesses copied into an array of zeros
abbrev pub Copied : Plan → ℕ → List ℕ → Type 0
Copied plan k stores = stores ≡ paste (replicate 256 0) 0 (drop 1 plan) (8 * k)

pub copied_length : (plan : Plan) (k : ℕ) (stores : List ℕ) → Copied plan k stores → k ≤ 32 → 1 + 8 * k ≤ length plan
    → length stores ≡ 256
copied_length plan k stores copied few long =
    let whole = length-replicate {A = ℕ} 256 0 in
    ap length copied
    ∙ length-paste (replicate 256 0) 0 (drop 1 plan) (8 * k) (omega (arith, whole)) (omega (arith, length-drop 1 plan))
    ∙ whole

-- the jobs' run over the copied guesses, and what follows it, is the plan's
module _ (program : List ℕ) (locks : Ceilings) (plan : Plan) (k : ℕ) {stores stores' : List ℕ} {marks' : Marks}
    {r : Result JobsRan (Refused ℕ)} (few : k ≤ 32) (some : length plan ≡ 0 → ⊥) (first : get_or plan 0 0 ≡ k)
    (long : 1 + 8 * k ≤ length plan) (copied : Copied plan k stores)
    (jobs : JobsRanOf program locks plan k stores stores' marks' r) where
  run_made : (a : Accepted) (times : List ℕ) → Holds a program times locks k
      → run_plan a plan ≡ ◌>>=◌ (mapped (job_runs_in k stores' marks') (outcome r)) (ending plan)
  unfolding job_total
  run_made a times holds =
      let started : run_start a plan ≡ run_state_in k stores no_flags (1 + 8 * k) =
      run_start_is a plan k (replicate 256 0) holds.total (length-replicate {A = ℕ} 256 0) few long
      ∙ ap (λ (l : List ℕ). run_state_in k l no_flags (1 + 8 * k)) (sym copied) in
      run_is a plan k holds.total some first long
      ∙ ap (λ (s : RunState). ◌>>=◌ (run_jobs a plan (job_numbers a) s) (ending plan)) started
      ∙ ap (λ (c : Checked ℕ JobRuns). ◌>>=◌ c (ending plan)) (sym (jobs.ran a times holds))

  -- the jobs' run is refused
  pub jobs_out : {e : Refused ℕ} → r ≡ Err e → PlanRanOf program locks plan k (Err e)
  unfolding mapped ◌>>=◌
  jobs_out {e} there = record {
    long = tt;
    ran = λ a times holds. sym (rw there at (run_made a times holds));
  }

  module _ {ran : JobsRan} (clear : r ≡ Ok ran) where
    -- bytes are left over
    pub left_over : (ran.offset ≡ length plan → ⊥)
        → PlanRanOf program locks plan k (Err (record { why = Shape; place = ran.offset }))
    unfolding mapped ◌>>=◌ ending require ◌>>◌ run_state_in
    left_over more = record {
      long = tt;
      ran = λ a times holds.
          (let made = rw clear at (run_made a times holds) in
          let other : eqb ran.offset (length plan) ≡ false = ne_eqb ran.offset (length plan) more in
          sym (made ∙ rw other refl));
    }

    -- none are
    pub plan_ran : ran.offset ≡ length plan
        → PlanRanOf program locks plan k (Ok (record { failed = ran.failed; stores = stores'; marks = marks' }))
    unfolding mapped ◌>>=◌ ending require ◌>>◌ run_state_in
    plan_ran whole = record {
      long = long;
      ran = λ a times holds.
          (let made = rw clear at (run_made a times holds) in
          let same : eqb ran.offset (length plan) ≡ true = eq-eqb ran.offset (length plan) whole in
          sym (made ∙ rw same
          (ap (λ (n : ℕ). passed (record {
            steps = steps_in marks' k;
            running = run_state_in k stores' ran.failed n;
          })) whole)));
    }
