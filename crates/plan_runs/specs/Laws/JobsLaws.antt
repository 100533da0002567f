-- The run of all jobs over lent arrays: what holds before each job's run, and what that run makes of it. It is refused,
-- it comes to its end, or all jobs have run.
-- Assumes nothing.
use Rattle.std.specs.Prelude.{◌≡◌, ℕ, ◌+◌, ◌*◌, ◌≤◌, ◌<◌, Bool, true, false, length, replicate, Result, Ok, Err}
use Rattle.std.proofs.Math.Path.{refl, ap, ap₂}
use Rattle.std.proofs.Common.{sym, ◌∙◌, add-one, arith, length-set, drop-cons}
use mathlib.Core.List.{List, [], ◌∷◌, ◌++◌, append_assoc, append-nil}
use Rattle.std.proofs.Math.ListN.{drop, drop_of_length-le}
use Rattle.notation.specs.Checked.{Checked, refused, passed, mapped, ◌>>=◌}
use Rattle.notation.specs.Laws.TabulateLaws.{same_values}
use Rattle.notation.specs.Lists.{from, up_to}
use Rattle.taskfile.specs.Code.Refusals.{outcome, number_of}
use Rattle.taskfile.specs.declared.Ceilings.{Ceilings}
use Rattle.taskfile.specs.declared.refusals.Refused.{Refused}
use Rattle.timing.specs.declared.Job.{Job}
use Rattle.timing.specs.Accepted.{Accepted}
use Rattle.timing.proofs.Laws.JobNumberLaws.{jobs_length, jobs_at}
use Rattle.timing.specs.Relations.{IsJob, job_numbers}
use Rattle.machine.specs.Ends.{Flags, no_flags, flagged}
use Rattle.plan.specs.Runs.{Plan, Step, RunState, JobRuns, run_jobs}
use Rattle.plan_marks.specs.declared.JobRan.{JobRan}
use Rattle.plan_marks.specs.declared.Marks.{Marks}
use Rattle.plan_marks.specs.Code.Marks.{run_state_in, steps_marked, steps_in}
use Rattle.plan_marks.specs.Code.RunParts.{Holds, job_run_in, JobRanOf, JobsRanOf}
use Rattle.notation.specs.Laws.TabulateLaws.{values_snoc}
use Rattle.plan_runs.specs.Laws.JobLaws.{whole_job}

-- ---- jobs before others

-- a run after the steps of jobs that ran before it
unfoldable pub after_jobs : List (List Step) → Checked ℕ JobRuns → Checked ℕ JobRuns
after_jobs made (refused number place) = refused number place
after_jobs made (passed runs) = passed (record { steps = made ++ runs.steps; running = runs.running })

no_jobs_lem : (c : Checked ℕ JobRuns) → c ≡ after_jobs [] c
unfolding after_jobs
no_jobs_lem (refused number place) = refl
no_jobs_lem (passed runs) = refl

more_jobs : (made more : List (List Step)) (c : Checked ℕ JobRuns)
    → after_jobs made (after_jobs more c) ≡ after_jobs (made ++ more) c
unfolding after_jobs
more_jobs made more (refused number place) = refl
more_jobs made more (passed runs) =
    ap (λ (l : List (List Step)). passed (record { steps = l; running = runs.running }))
    (sym (append_assoc made more runs.steps))

-- ---- one job, then the others

module _ (a : Accepted) (plan : Plan) (x : ℕ) (others : List Job) (running : RunState) (k : ℕ) (flags : Flags)
    (stores : List ℕ) (marks : Marks) where
  abbrev job : Job
  job = record { 0 = x }

  -- its refusal is the whole run's
  refused_first : (e : Refused ℕ)
      → mapped (job_run_in k x flags stores marks) (outcome (Err e)) ≡ whole_job a plan x running
      → run_jobs a plan (job ∷ others) running ≡ refused (number_of e.why) e.place
  unfolding run_jobs ◌>>=◌ mapped
  refused_first e is = rw (← is) refl

  -- without one the others run from where it left off
  after_first : (c : Checked ℕ JobRuns) (made : List Step)
      → ◌>>=◌ c (λ rest. passed (record { steps = made ∷ rest.steps; running = rest.running }))
      ≡ after_jobs (made ∷ []) c
  unfolding ◌>>=◌ after_jobs
  after_first (refused number place) made = refl
  after_first (passed runs) made = refl

  passed_first : (r : JobRan)
      → mapped (job_run_in k x flags stores marks) (outcome {P = ℕ} (Ok r)) ≡ whole_job a plan x running
      → run_jobs a plan (job ∷ others) running
      ≡ after_jobs (steps_marked marks x ∷ [])
      (run_jobs a plan others (run_state_in k stores (flagged r.failed x flags) r.offset))
  unfolding run_jobs ◌>>=◌ mapped
  passed_first r is = rw (← is) (after_first _ _)

-- ---- what holds before each job's run

-- the jobs before x have run: the arrays hold what their runs made, and the whole run is what is left after them
pub record JobsRunning (program : List ℕ) (locks : Ceilings) (plan : Plan) (k : ℕ) (stores₀ : List ℕ)
    (stores : List ℕ) (marks : Marks) (failed : Flags) (offset x : ℕ) : Type 0 where
  pub room : length stores ≡ 256
  pub flags : length failed ≡ 32
  pub few : x ≤ k
  pub near : offset ≤ 1 + 8 * k + 32 * x
  pub runs : (a : Accepted) (times : List ℕ) → Holds a program times locks k
      → run_jobs a plan (job_numbers a) (run_state_in k stores₀ no_flags (1 + 8 * k))
      ≡ after_jobs (steps_in marks x) (run_jobs a plan (drop x (job_numbers a)) (run_state_in k stores failed offset))

-- no job has run yet
pub jobs_start : (program : List ℕ) (locks : Ceilings) (plan : Plan) (k : ℕ) (stores : List ℕ) (marks : Marks)
    → length stores ≡ 256 → JobsRunning program locks plan k stores stores marks (replicate 32 false) (1 + 8 * k) 0
unfolding no_flags steps_in up_to from
jobs_start program locks plan k stores marks room = record {
  room = room;
  flags = refl;
  few = omega arith;
  near = omega arith;
  runs = λ a times held. no_jobs_lem _;
}

-- a flag more or less leaves as many
flags_kept : (test : Bool) (x : ℕ) (flags : Flags) → length (flagged test x flags) ≡ length flags
unfolding flagged
flags_kept true x flags = length-set flags x true
flags_kept false x flags = refl

-- the steps of the jobs up to x, where the run of x kept those of the others
made_more : (marks marks' : Marks) (x : ℕ) → x < 32
    → ((y : ℕ) → y < 32 → (y ≡ x → ⊥) → steps_marked marks' y ≡ steps_marked marks y)
    → steps_in marks x ++ (steps_marked marks' x ∷ []) ≡ steps_in marks' (x + 1)
unfolding steps_in
made_more marks marks' x is_x others =
    ap (λ (l : List (List Step)). l ++ (steps_marked marks' x ∷ []))
    (same_values (steps_marked marks) (steps_marked marks') x (λ y lt. sym (others y (omega arith) (λ e. omega arith))))
    ∙ sym (values_snoc (steps_marked marks') x)

module _ {program : List ℕ} {locks : Ceilings} {plan : Plan} {k : ℕ} {stores₀ stores : List ℕ} {marks : Marks}
    {failed : Flags} {offset x : ℕ} (run : JobsRunning program locks plan k stores₀ stores marks failed offset x)
    (whole : length stores₀ ≡ 256) (most : k ≤ 32) where
  -- all jobs have run
  pub jobs_ended : k ≤ x
      → JobsRanOf program locks plan k stores₀ stores marks (Ok (record { offset = offset; failed = failed }))
  unfolding run_jobs after_jobs mapped
  jobs_ended all = record {
    room = omega (arith, run.room);
    near = omega (arith, run.near, run.few);
    stopped = tt;
    ran = λ a times held.
        (let none : drop x (job_numbers a) ≡ [] =
        drop_of_length-le (job_numbers a) {i = x} (omega (arith, jobs_length a, held.total)) in
        let last : x ≡ k = omega (arith, run.few) in
        sym (run.runs a times held ∙ rw none refl
        ∙ ap (λ (l : List (List Step)). passed (record { steps = l; running = run_state_in k stores failed offset }))
        (append-nil _ ∙ ap (steps_in marks) last)));
  }

  module _ (more : x < k) {stores' : List ℕ} {marks' : Marks} {r : Result JobRan (Refused ℕ)}
      (one : JobRanOf program locks plan k x offset stores marks stores' marks' r) where
    -- the job that runs next, and those after it
    next_first : (a : Accepted) → length a.jobs ≡ k
        → drop x (job_numbers a) ≡ record { 0 = x } ∷ drop (x + 1) (job_numbers a)
    next_first a total =
        drop-cons (job_numbers a) x (record { 0 = x }) (omega (arith, jobs_length a))
        ∙ ap₂ (λ (y : Job) (n : ℕ). y ∷ drop n (job_numbers a))
        (jobs_at a (record { 0 = x }) (record { 0 = x }) (omega arith)) (sym (add-one x))

    -- so the whole run is its run and theirs, after those before it
    next_run : (a : Accepted) (times : List ℕ) → Holds a program times locks k
        → run_jobs a plan (job_numbers a) (run_state_in k stores₀ no_flags (1 + 8 * k))
        ≡ after_jobs (steps_in marks x)
        (run_jobs a plan (record { 0 = x } ∷ drop (x + 1) (job_numbers a)) (run_state_in k stores failed offset))
    next_run a times held =
        run.runs a times held
        ∙ ap (λ (l : List Job). after_jobs (steps_in marks x) (run_jobs a plan l (run_state_in k stores failed offset)))
        (next_first a held.total)

    -- its run is refused
    pub jobs_refused : {e : Refused ℕ} → r ≡ Err e → JobsRanOf program locks plan k stores₀ stores' marks' (Err e)
    unfolding after_jobs mapped
    jobs_refused {e} there = record {
      room = omega (arith, one.room, run.room);
      near = tt;
      stopped = let there_near = rw there at one.stopped in omega (arith, there_near, run.near);
      ran = λ a times held.
          (let isJob : IsJob a (record { 0 = x }) = omega (arith, held.total) in
          let met =
          refused_first a plan x (drop (x + 1) (job_numbers a)) (run_state_in k stores failed offset) k failed stores'
          marks' e (rw there at (one.ran a times held isJob failed)) in
          sym (next_run a times held ∙ ap (after_jobs (steps_in marks x)) met));
    }

    -- its run came to its end
    pub jobs_go : {ran : JobRan} → r ≡ Ok ran → {failed' : Flags} → failed' ≡ flagged ran.failed x failed
        → JobsRunning program locks plan k stores₀ stores' marks' failed' ran.offset (x + 1)
    jobs_go {ran} clear {failed'} raised = record {
      room = omega (arith, one.room, run.room);
      flags = ap (λ (f : Flags). length f) raised ∙ flags_kept ran.failed x failed ∙ run.flags;
      few = omega arith;
      near = let near = rw clear at one.near in omega (arith, near, run.near);
      runs = λ a times held.
          (let isJob : IsJob a (record { 0 = x }) = omega (arith, held.total) in
          next_run a times held
          ∙ ap (after_jobs (steps_in marks x))
          (passed_first a plan x (drop (x + 1) (job_numbers a)) (run_state_in k stores failed offset) k failed stores'
          marks' ran (rw clear at (one.ran a times held isJob failed)))
          ∙ more_jobs _ _ _
          ∙ ap₂ (λ (l : List (List Step)) (f : Flags).
          after_jobs l (run_jobs a plan (drop (x + 1) (job_numbers a)) (run_state_in k stores' f ran.offset)))
          (made_more marks marks' x (omega arith) one.others) (sym raised));
    }
