-- The run of one job over lent arrays: what holds before each step, and what a step makes of it. The step's bytes are
-- refused, it ends the job, it goes on, or all sixteen steps are made.
-- Assumes nothing.
use Rattle.std.specs.Prelude.{◌≡◌, ℕ, suc, ◌+◌, ◌-◌, ◌*◌, ◌≤◌, ◌<◌, Bool, true, ◌||◌, ltb, get_or, Result, Ok, Err, IfOk, IfErr}
use Rattle.std.proofs.Math.Path.{refl, sym, ap, ap₂}
use Rattle.std.proofs.Common.{◌∙◌, lt-ltb}
use native.Mathlib.Omega.{arith}
use Rattle.std.proofs.Math.Bool.{false, false≢true}
use mathlib.Core.List.{List, [], ◌∷◌, ◌++◌, map, append-nil}
use Rattle.std.proofs.Math.ListN.{length}
use Rattle.notation.specs.Checked.{Checked, passed, mapped}
use Rattle.notation.specs.Lists.{from, up_to, bytes_at}
use Rattle.notation.specs.Laws.TabulateLaws.{values_length}
use Rattle.notation.specs.Laws.TestLaws.{and_holds}
use Rattle.taskfile.specs.declared.Ceilings.{Ceilings}
use Rattle.taskfile.specs.declared.Instruction.{Instruction}
use Rattle.timing.specs.declared.Job.{Job}
use Rattle.timing.specs.Accepted.{Accepted}
use Rattle.timing.specs.Relations.{IsJob}
use Rattle.machine.specs.declared.Effect.{Effect}
use Rattle.machine.specs.declared.Local.{Local}
use Rattle.machine.specs.Ends.{Flags, flagged}
use Rattle.machine.specs.Instructions.{fresh, perform}
use Rattle.plan.specs.declared.Round.{Round}
use Rattle.plan.specs.Runs.{Plan, Step, RunState, JobRun, first_round, round_at, step_bytes, step_effect, step_made, running_after, run_job}
use Rattle.order_states.specs.Code.SnapshotSteps.{owner_in, instruction_in}
use Rattle.taskfile.specs.Code.Refusals.{outcome}
use Rattle.taskfile.specs.declared.refusals.Refused.{Refused}
use Rattle.plan_marks.specs.declared.JobRan.{JobRan}
use Rattle.plan_marks.specs.declared.Marks.{Marks}
use Rattle.plan_marks.specs.Code.Marks.{store_at, with_store, run_state_in, step_marked, step_count, steps_marked, with_mark}
use Rattle.plan_marks.specs.Code.RunParts.{Holds, job_run_in, JobRanOf}
use Rattle.plan.specs.Runs.{step_bytes_for}
use Rattle.plan_marks.specs.Laws.MarkLaws.{count_here, mark_added, mark_others}
use Rattle.plan_marks.specs.Laws.StoreLaws.{put_length}
use Rattle.plan_runs.specs.Laws.ByteLaws.{bytes_refused, bytes_near, bytes_passed, bytes_round}
use Rattle.plan_runs.specs.Laws.FlagLaws.{flag_kept}
use Rattle.plan_runs.specs.Laws.LentSteps.{lent_step, body_size, fresh_inside, inside_short, owner_small}
use Rattle.plan_runs.specs.Laws.LentSteps.{bytes_lent, effect_lent, inside_on, made_lent, after_lent}
use Rattle.plan_runs.specs.Code.StepBounds.{may_step}
use Rattle.machine.specs.Code.Within.{LocksWithin}
use Rattle.machine.proofs.Laws.InstructionLaws.{perform_length}
use Rattle.machine.proofs.Laws.WithinLaws.{fresh_within, perform_within}
use Rattle.plan_runs.specs.Laws.NextStepLaws.{after_steps, made_none, made_more, step_refused, step_ended_lem, step_goes}

-- a job's first n steps
unfoldable pub first_steps : Marks → ℕ → ℕ → List Step
first_steps marks x n = map (step_marked marks x) (up_to n)

-- the whole run of job x
abbrev pub whole_job : Accepted → Plan → ℕ → RunState → Checked ℕ JobRun
whole_job a plan x running = run_job a plan (record { 0 = x }) 16 fresh first_round running

-- a job has made n steps: the arrays hold what they made, and its whole run is what is left of it after them
pub record Running (program : List ℕ) (locks : Ceilings) (plan : Plan) (k x start : ℕ) (stores₀ : List ℕ)
    (marks₀ : Marks) (owner : ℕ) (stores : List ℕ) (marks : Marks) (local : Local) (previous : Round) (failed : Bool)
    (offset n : ℕ) : Type 0 where
  pub room : length stores ≡ 256
  pub others : (y : ℕ) → y < 32 → (y ≡ x → ⊥) → steps_marked marks y ≡ steps_marked marks₀ y
  pub near : offset ≡ start + 2 * n
  pub few : n ≤ 16
  pub owned : owner ≡ owner_in program x
  pub counted : 0 < n → step_count marks x ≡ n
  pub within : LocksWithin local
  pub inside : (a : Accepted) (times : List ℕ) → Holds a program times locks k → IsJob a (record { 0 = x })
      → local.next < body_size a x
  pub runs : (a : Accepted) (times : List ℕ) → Holds a program times locks k → IsJob a (record { 0 = x })
      → (flags : Flags)
      → whole_job a plan x (run_state_in k stores₀ flags start)
      ≡ after_steps (first_steps marks x n)
      (run_job a plan (record { 0 = x }) (16 - n) local previous (run_state_in k stores (flagged failed x flags) offset))

-- no step is made yet
pub run_starts : (program : List ℕ) (locks : Ceilings) (plan : Plan) (k x start : ℕ) (stores : List ℕ) (marks : Marks)
    {owner : ℕ} {local : Local} → length stores ≡ 256 → owner ≡ owner_in program x → local ≡ fresh
    → Running program locks plan k x start stores marks owner stores marks local first_round false start 0
unfolding first_steps up_to from
run_starts program locks plan k x start stores marks room owned new = record {
  room = room;
  others = λ y isY apart. refl;
  near = omega arith;
  few = omega arith;
  owned = owned;
  counted = λ some. absurd (omega arith);
  within = rw new fresh_within;
  inside = λ a times held isJob. rw new (fresh_inside held x isJob);
  runs = λ a times held isJob flags. rw (new, ← flag_kept false x flags refl) (made_none _);
}

module _ {program : List ℕ} {locks : Ceilings} {plan : Plan} {k x start : ℕ} {stores₀ : List ℕ} {marks₀ : Marks}
    {owner : ℕ} {stores : List ℕ} {marks : Marks} {local : Local} {previous : Round} {failed : Bool} {offset n : ℕ}
    (run : Running program locks plan k x start stores₀ marks₀ owner stores marks local previous failed offset n)
    (whole : length stores₀ ≡ 256) where
  -- the job's run came to this
  abbrev Ran : Result JobRan (Refused ℕ) → Type 0
  Ran r = JobRanOf program locks plan k x start stores₀ marks₀ stores marks r

  -- it came to its end
  abbrev ended_here : Result JobRan (Refused ℕ)
  ended_here = Ok (record { offset = offset; failed = failed })

  -- only the run itself is left to show
  ran_as : (r : Result JobRan (Refused ℕ)) → IfOk r (λ ran. ran.offset ≤ start + 32) → IfErr r (λ e. e.place ≤ start + 32)
      → ((a : Accepted) (times : List ℕ) → Holds a program times locks k → IsJob a (record { 0 = x }) → (flags : Flags)
      → mapped (job_run_in k x flags stores marks) (outcome r)
      ≡ whole_job a plan x (run_state_in k stores₀ flags start))
      → Ran r
  ran_as r near stopped ran = record {
    room = omega (arith, run.room);
    others = run.others;
    near = near;
    stopped = stopped;
    ran = ran;
  }

  reached : offset ≤ start + 32
  reached = omega (arith, run.near, run.few)

  -- no accepted table has a base or a position out of bounds
  run_outside : (owner < 8 → local.next < 16 → ⊥) → Ran ended_here
  run_outside out = ran_as ended_here reached tt (λ a times held isJob flags.
      absurd (out (owner_small held x isJob run.owned)
      (omega (arith, run.inside a times held isJob, inside_short held x isJob))))

  -- all sixteen steps are made
  pub run_used : 16 ≤ n → Ran ended_here
  unfolding run_job after_steps first_steps steps_marked mapped
  run_used used = ran_as ended_here reached tt (λ a times held isJob flags.
      (let none : 16 - n ≡ 0 = omega arith in
      let made : first_steps marks x n ++ [] ≡ steps_marked marks x =
      append-nil _ ∙ ap (λ (c : ℕ). map (step_marked marks x) (up_to c)) (sym (run.counted (omega arith))) in
      sym (run.runs a times held isJob flags ∙ rw none refl
      ∙ ap (λ (l : List Step). passed (record {
        steps = l;
        running = run_state_in k stores (flagged failed x flags) offset;
      })) made)))

  -- no step may be made any more
  pub run_over : {b : Bool} → b ≡ may_step owner local.next → b ≡ false → Ran ended_here
  unfolding may_step
  run_over is over =
      run_outside (λ low within.
      false≢true (sym (sym is ∙ over) ∙ and_holds (ltb owner 8) _ (lt-ltb _ _ low) (lt-ltb _ _ within)))

  module _ {i : Instruction} (reads : i ≡ instruction_in program owner local.next) (more : n < 16) where
    left : 16 - n ≡ suc (16 - (n + 1))
    left = omega arith

    refused_near : (e : Refused ℕ) → outcome (Err e) ≡ step_bytes_for k i plan previous offset → e.place ≤ start + 32
    refused_near e is = omega (arith, run.near, bytes_near k i plan previous offset e is)

    -- the step's bytes are refused
    pub run_refused_lem : {e : Refused ℕ} → outcome (Err e) ≡ step_bytes_for k i plan previous offset → Ran (Err e)
    unfolding after_steps run_state_in mapped
    run_refused_lem {e} is = ran_as (Err e) tt (refused_near e is) (λ a times held isJob flags.
        (let inside = run.inside a times held isJob in
        let bytes =
        bytes_lent held x isJob run.owned local inside reads plan previous offset
        ∙ bytes_refused k i plan previous offset e is in
        sym (run.runs a times held isJob flags
        ∙ rw left (ap (after_steps (first_steps marks x n)) (step_refused a plan _ (16 - (n + 1)) local previous _ bytes)))))

    module _ (is : outcome {P = ℕ} (Ok tt) ≡ step_bytes_for k i plan previous offset) (is_x : x < 32) (rounds : k ≤ 32) {effect : Effect}
        (does : effect ≡ perform i (get_or plan (offset + 1) 0) local (store_at stores (round_at plan offset).0))
        {stores' : List ℕ} {marks' : Marks} (puts : stores' ≡ with_store stores (round_at plan offset).0 effect.store)
        (notes : marks' ≡ with_mark marks x n (lent_step locks plan owner offset effect)) {failed' : Bool}
        (either : failed' ≡ (failed || effect.failed)) where
      is_round : (round_at plan offset).0 < k
      is_round = bytes_round k i plan previous offset is

      eight : length effect.store ≡ 8
      unfolding store_at bytes_at
      eight = ap (λ (e : Effect). length e.store) does ∙ perform_length _ _ _ _ ∙ values_length _ 8

      room' : length stores' ≡ 256
      room' =
          ap (λ (l : List ℕ). length l) puts ∙ put_length stores run.room _ (omega (arith, is_round)) _ eight
          ∙ run.room

      others' : (y : ℕ) → y < 32 → (y ≡ x → ⊥) → steps_marked marks' y ≡ steps_marked marks₀ y
      others' y isY apart =
          ap (λ (m : Marks). steps_marked m y) notes
          ∙ mark_others marks x n is_x more _ y apart
          ∙ run.others y isY apart

      counted' : step_count marks' x ≡ n + 1
      counted' = ap (λ (m : Marks). step_count m x) notes ∙ count_here marks x n is_x more _

      added : steps_marked marks' x ≡ first_steps marks x n ++ (lent_step locks plan owner offset effect ∷ [])
      unfolding first_steps
      added = ap (λ (m : Marks). steps_marked m x) notes ∙ mark_added marks x n is_x more _

      first_added : first_steps marks' x (n + 1)
          ≡ first_steps marks x n ++ (lent_step locks plan owner offset effect ∷ [])
      unfolding first_steps steps_marked
      first_added = ap (λ (c : ℕ). map (step_marked marks' x) (up_to c)) (sym counted') ∙ added

      -- the steps and where the run stands, for an accepted table
      module _ {a : Accepted} {times : List ℕ} (held : Holds a program times locks k)
          (isJob : IsJob a (record { 0 = x })) (flags : Flags) where
        abbrev job : Job
        job = record { 0 = x }

        abbrev before : RunState
        before = run_state_in k stores (flagged failed x flags) offset

        abbrev after : RunState
        after = run_state_in k stores' (flagged failed' x flags) (offset + 2)

        inside : local.next < body_size a x
        inside = run.inside a times held isJob

        passes : step_bytes a plan job local previous offset ≡ passed tt
        passes =
            bytes_lent held x isJob run.owned local inside reads plan previous offset
            ∙ bytes_passed k i plan previous offset is

        effect_is : step_effect a plan job local before ≡ effect
        effect_is =
            effect_lent held x isJob run.owned local inside reads plan stores (flagged failed x flags) offset is_round
            does

        made_is : step_made a plan job before effect ≡ lent_step locks plan owner offset effect
        made_is = made_lent held x isJob run.owned plan stores (flagged failed x flags) offset effect

        after_is : running_after plan job before effect ≡ after
        after_is =
            after_lent plan x k rounds stores run.room failed flags offset is_round effect eight
            ∙ ap₂ (λ (s : List ℕ) (b : Bool). run_state_in k s (flagged b x flags) (offset + 2)) (sym puts) (sym either)

        ended_is : effect.ended ≡ true → whole_job a plan x (run_state_in k stores₀ flags start)
            ≡ passed (record { steps = steps_marked marks' x; running = after })
        unfolding run_state_in after_steps
        ended_is ends =
            run.runs a times held isJob flags
            ∙ rw left
            (ap (after_steps (first_steps marks x n))
            (step_ended_lem a plan job (16 - (n + 1)) local previous before passes effect_is ends))
            ∙ ap₂ (λ (s : Step) (r : RunState). passed (record { steps = first_steps marks x n ++ (s ∷ []); running = r }))
            made_is after_is
            ∙ ap (λ (l : List Step). passed (record { steps = l; running = after })) (sym added)

        abbrev onward : RunState → Checked ℕ JobRun
        onward running = run_job a plan job (16 - (n + 1)) effect.local (round_at plan offset) running

        goes_is : effect.ended ≡ false → whole_job a plan x (run_state_in k stores₀ flags start)
            ≡ after_steps (first_steps marks' x (n + 1)) (onward after)
        unfolding run_state_in
        goes_is goes =
            run.runs a times held isJob flags
            ∙ ap (λ (m : ℕ). after_steps (first_steps marks x n) (run_job a plan job m local previous before)) left
            ∙ ap (after_steps (first_steps marks x n))
            (step_goes a plan job (16 - (n + 1)) local previous before passes effect_is goes)
            ∙ made_more _ _ _
            ∙ ap₂ (λ (s : Step) (r : RunState). after_steps (first_steps marks x n ++ (s ∷ [])) (onward r)) made_is after_is
            ∙ ap (λ (l : List Step). after_steps l (onward after)) (sym first_added)

      -- the step ends the job
      pub run_ended : effect.ended ≡ true
          → JobRanOf program locks plan k x start stores₀ marks₀ stores' marks'
          (Ok (record { offset = offset + 2; failed = failed' }))
      unfolding mapped
      run_ended ends = record {
        room = omega (arith, room');
        others = others';
        near = omega (arith, run.near);
        stopped = tt;
        ran = λ a times held isJob flags.
            sym (ended_is held isJob flags ends);
      }

      -- the step does not end it
      pub run_goes : {round : Round} → round ≡ round_at plan offset → effect.ended ≡ false
          → Running program locks plan k x start stores₀ marks₀ owner stores' marks' effect.local round failed'
          (offset + 2) (n + 1)
      run_goes noted goes = rw noted record {
        room = room';
        others = others';
        near = omega (arith, run.near);
        few = omega arith;
        owned = run.owned;
        counted = λ some. counted';
        within = rw does (perform_within _ _ _ _ run.within);
        inside = λ a times held isJob.
            inside_on held x isJob run.owned local (run.inside a times held isJob) reads plan stores [] offset is_round
            does goes;
        runs = λ a times held isJob flags. goes_is held isJob flags goes;
      }
