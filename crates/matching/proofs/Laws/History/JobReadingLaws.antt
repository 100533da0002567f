-- A job's run in a plan is its column of a history: marks that stand in the plan and are whole run, and leave the
-- column's steps, stores and flag. A whole job has at most 16 steps.
-- Assumes nothing.
use Rattle.plan.specs.Runs as runs
use Rattle.std.specs.Prelude.{◌≡◌, Bool, true, false, ◌||◌, drop}
use Rattle.std.proofs.Math.Path.{refl, ap}
use Rattle.std.proofs.Common.{sym, ◌∙◌, length-drop, get_or-drop, drop-drop, set-set, lt-ltb, le-leb}
use Rattle.std.proofs.Math.Logic.{inl, inr}
use Prim.Native.Nat.{ℕ, zero, suc, ◌+◌, ◌*◌, ◌≤◌, ◌<◌}
use native.Mathlib.Omega.{arith}
use Rattle.std.proofs.Math.Bool.{or_assoc}
use mathlib.Core.List.{List, [], ◌∷◌, ◌++◌, append_assoc}
use Rattle.std.proofs.Math.ListN.{length, get_or}
use Rattle.notation.specs.Checked.{passed, require, ◌>>=◌}
use Rattle.notation.specs.Laws.CheckedLaws.{require_holds, then_goes}
use Rattle.taskfile.specs.Judgement.{instruction_of}
use Rattle.std.specs.Prelude.{if◌then◌else◌}
use Rattle.notation.specs.Lists.{member, each}
use Rattle.taskfile.specs.Tables.{task_of, body_of}
use Rattle.notation.specs.Laws.TestLaws.{and_holds}
use Rattle.timing.specs.declared.Job.{Job}
use Rattle.timing.specs.Accepted.{Accepted}
use Rattle.timing.specs.Code.IsAccepted.{IsAccepted}
use Rattle.timing.proofs.Laws.JobFacts.{job_task}
use Rattle.timing.specs.Relations.{base, job_at}
use Rattle.machine.proofs.Laws.BodyLaws.{body_step}
use Rattle.machine.specs.declared.Effect.{Effect}
use Rattle.machine.specs.declared.Local.{Local}
use Rattle.machine.specs.Ends.{Flags, flagged}
use Rattle.machine.specs.Instructions.{Store, fresh, values}
use Rattle.order.proofs.Laws.LengthLaws.{body_short}
use Rattle.plan.specs.declared.Round.{Round}
use Rattle.plan.specs.Runs.{Plan, Step, JobRun, job_total, first_round, step_bytes_for, step_bytes, step_effect, step_made, running_after, run_job}
use Rattle.matching.proofs.Laws.History.Histories.{Mark, ColumnRun, job, round, unbegun, effect_of, stepped, mark_step, run_marks}
use Rattle.matching.proofs.Laws.History.PlanReading.{marks_bytes, step_of, Allowed, Whole, standing}

-- ---- a plan's next two bytes

-- the bytes at an offset, and those after them
record Two (plan : Plan) (o r v : ℕ) (rest : List ℕ) : Type 0 where
  first : get_or plan o 0 ≡ r
  second : get_or plan (o + 1) 0 ≡ v
  inside : o + 1 < length plan
  after : drop (o + 2) plan ≡ rest

next_two : (plan : Plan) (o : ℕ) {r v : ℕ} {rest : List ℕ} → drop o plan ≡ r ∷ v ∷ rest → Two plan o r v rest
next_two plan o {r} {v} {rest} e =
    let here : o + 0 ≡ o = omega arith in
    let long : length (drop o plan) ≡ suc (suc (length rest)) = ap length e in
    record {
      first = ap (λ (k : ℕ). get_or plan k 0) (sym here) ∙ sym (get_or-drop o plan 0 0) ∙ ap (λ (l : List ℕ). get_or l 0 0) e;
      second = sym (get_or-drop o plan 1 0) ∙ ap (λ (l : List ℕ). get_or l 1 0) e;
      inside = omega (arith, long, length-drop o plan);
      after = sym (drop-drop 2 o plan) ∙ ap (drop 2) e;
    }

-- ---- flags

flagged_twice : (p q : Bool) (x : ℕ) (flags : Flags) → flagged q x (flagged p x flags) ≡ flagged (p || q) x flags
unfolding flagged
flagged_twice true true x flags = set-set flags x true true
flagged_twice true false x flags = refl
flagged_twice false q x flags = refl

-- ---- one step of a job in a plan

require_true : {P : Type 0} (test : Bool) (number : ℕ) (place : P) → test ≡ true → require test number place ≡ passed tt
unfolding require
require_true test number place e = rw e

module _ (a : Accepted) (plan : Plan) (x : Job) (left : ℕ) (local : Local) (previous : Round) (running : runs.RunState)
    {effect : Effect} {step : Step} {next : runs.RunState} where
  -- a step that is allowed and is the End
  job_ends : step_bytes a plan x local previous running.offset ≡ passed tt
      → step_effect a plan x local running ≡ effect → step_made a plan x running effect ≡ step
      → running_after plan x running effect ≡ next → effect.ended ≡ true
      → run_job a plan x (suc left) local previous running ≡ passed (record { steps = step ∷ []; running = next })
  unfolding run_job ◌>>=◌
  job_ends allowed does makes leaves ends = then_goes _ allowed ∙ rw (does, makes, leaves, ends) refl

  -- and one that is not
  job_goes : step_bytes a plan x local previous running.offset ≡ passed tt
      → step_effect a plan x local running ≡ effect → step_made a plan x running effect ≡ step
      → running_after plan x running effect ≡ next → effect.ended ≡ false → {rest : JobRun}
      → run_job a plan x left effect.local step.round next ≡ passed rest
      → run_job a plan x (suc left) local previous running ≡ passed
      (record { steps = step ∷ rest.steps; running = rest.running })
  unfolding run_job ◌>>=◌
  job_goes allowed does makes leaves goes later = then_goes _ allowed ∙ rw (does, makes, leaves, goes, later) refl

module _ (a : Accepted) (plan : Plan) (x : ℕ) (o : ℕ) {m : Mark} {rest : List ℕ} (two : Two plan o m.round m.value rest) (c : ColumnRun) where
  -- the mark's two bytes are allowed
  mark_passes : {previous : ℕ} → Allowed a x previous m c
      → step_bytes a plan (job x) c.column.local (round previous) o ≡ passed tt
  unfolding step_bytes step_bytes_for
  mark_passes {previous} allowed =
      let below : get_or plan o 0 < job_total a = omega (arith, two.first, allowed.in_plan) in
      let offer = values (instruction_of a.table (job_at a (job x)).task c.column.local.next) in
      let above : previous ≤ get_or plan o 0 = omega (arith, two.first, allowed.in_order) in
      require_holds _ 40 (length plan) _ (lt-ltb (o + 1) (length plan) two.inside)
      ∙ require_holds _ 42 o _ (and_holds _ _ (lt-ltb _ _ below) (le-leb _ _ above))
      ∙ require_true _ 41 (o + 1) (ap (λ (v : ℕ). member v offer) two.second ∙ allowed.on_offer)

  -- they do what the mark does
  mark_does : (flags : Flags) → step_effect a plan (job x) c.column.local (standing o flags c) ≡ effect_of a x m c
  unfolding step_effect effect_of
  mark_does flags = rw (two.first, two.second) refl

  mark_makes : (flags : Flags) (effect : Effect)
      → step_made a plan (job x) (standing o flags c) effect ≡ step_of a x m effect
  unfolding step_made step_of
  mark_makes flags effect = rw (two.first, two.second) refl

  mark_leaves : (flags : Flags)
      → running_after plan (job x) (standing o flags c) (effect_of a x m c) ≡ standing (o + 2)
      (flagged (effect_of a x m c).failed x flags) (mark_step a x m c)
  unfolding running_after mark_step stepped job
  mark_leaves flags = rw two.first refl

-- the run of job x in c whose next mark m is its last, and the one that goes on
unfoldable last_run : Accepted → ℕ → Mark → ColumnRun → ℕ → Flags → JobRun
last_run a x m c o flags =
    record {
      steps = step_of a x m (effect_of a x m c) ∷ [];
      running = standing (o + 2) (flagged (effect_of a x m c).failed x flags) (mark_step a x m c);
    }

unfoldable longer_run : Accepted → ℕ → Mark → ColumnRun → JobRun → JobRun
longer_run a x m c rest = record { steps = step_of a x m (effect_of a x m c) ∷ rest.steps; running = rest.running }

module _ (a : Accepted) (plan : Plan) (x left previous o : ℕ) {m : Mark} {rest : List ℕ} (two : Two plan o m.round m.value rest)
    (c : ColumnRun) (flags : Flags) (allowed : Allowed a x previous m c) where
  mark_ends : (mark_step a x m c).column.ended ≡ true
      → run_job a plan (job x) (suc left) c.column.local (round previous) (standing o flags c)
      ≡ passed (last_run a x m c o flags)
  unfolding mark_step stepped last_run
  mark_ends ends =
      job_ends a plan (job x) left c.column.local (round previous) (standing o flags c)
      (mark_passes a plan x o {m = m} two c allowed) (mark_does a plan x o {m = m} two c flags) (mark_makes a plan x o {m = m} two c flags _)
      (mark_leaves a plan x o {m = m} two c flags) ends

  mark_goes : (mark_step a x m c).column.ended ≡ false → {later : JobRun}
      → run_job a plan (job x) left (mark_step a x m c).column.local (round m.round)
      (standing (o + 2) (flagged (effect_of a x m c).failed x flags) (mark_step a x m c)) ≡ passed later
      → run_job a plan (job x) (suc left) c.column.local (round previous) (standing o flags c)
      ≡ passed (longer_run a x m c later)
  unfolding mark_step stepped step_of longer_run
  mark_goes goes onward =
      job_goes a plan (job x) left c.column.local (round previous) (standing o flags c)
      (mark_passes a plan x o {m = m} two c allowed) (mark_does a plan x o {m = m} two c flags) (mark_makes a plan x o {m = m} two c flags _)
      (mark_leaves a plan x o {m = m} two c flags) goes onward

-- ---- a job

-- a run of job x over these marks, from c and an offset on
pub record JobRead (a : Accepted) (x : ℕ) (ms : List Mark) (c : ColumnRun) (o : ℕ) (flags : Flags) (one : JobRun) :
    Type 0 where
  pub offset : one.running.offset ≡ o + 2 * length ms
  pub stores : one.running.stores ≡ (run_marks a x ms c).stores
  pub steps : c.column.steps ++ one.steps ≡ (run_marks a x ms c).column.steps
  -- did one of these steps fail?
  pub fails : Bool
  pub failed : one.running.failed ≡ flagged fails x flags
  pub noted : (run_marks a x ms c).column.failed ≡ (c.column.failed || fails)

-- the last step alone
read_last : (a : Accepted) (x : ℕ) (m : Mark) (ms : List Mark) (c : ColumnRun) (o : ℕ) (flags : Flags) → ms ≡ []
    → JobRead a x (m ∷ ms) c o flags (last_run a x m c o flags)
unfolding run_marks mark_step stepped step_of last_run
read_last a x m (n ∷ ms) c o flags none = absurd (let long = ap length none in omega arith)
read_last a x m [] c o flags none = record {
  offset = omega arith;
  stores = refl;
  steps = refl;
  fails = (effect_of a x m c).failed;
  failed = refl;
  noted = refl;
}

-- one step and those after it
read_more : (a : Accepted) (x : ℕ) (m : Mark) (ms : List Mark) (c : ColumnRun) (o : ℕ) (flags : Flags) {rest : JobRun}
    → JobRead a x ms (mark_step a x m c) (o + 2) (flagged (effect_of a x m c).failed x flags) rest
    → JobRead a x (m ∷ ms) c o flags (longer_run a x m c rest)
unfolding run_marks mark_step stepped step_of longer_run
read_more a x m ms c o flags {rest} later =
    let effect = effect_of a x m c in
    record {
      offset = omega (arith, later.offset);
      stores = later.stores;
      steps = sym (append_assoc c.column.steps (step_of a x m effect ∷ []) rest.steps) ∙ later.steps;
      fails = effect.failed || later.fails;
      failed = later.failed ∙ flagged_twice effect.failed later.fails x flags;
      noted = later.noted ∙ or_assoc c.column.failed effect.failed later.fails;
    }

module _ (a : Accepted) (plan : Plan) (x : ℕ) where
  -- a job whose marks stand in the plan and are whole runs over them
  pub job_runs : (ms : List Mark) (left previous o : ℕ) (c : ColumnRun) (flags : Flags) (rest : List ℕ)
      → Whole a x previous ms c → drop o plan ≡ marks_bytes ms ++ rest → length ms ≤ left
      → (one : JobRun)
      × (run_job a plan (job x) left c.column.local (round previous) (standing o flags c) ≡ passed one) × JobRead a x
      ms c o flags one
  unfolding marks_bytes each
  job_runs [] left previous o c flags rest whole bytes short = absurd whole
  job_runs (m ∷ ms) zero previous o c flags rest whole bytes short = absurd (omega arith)
  job_runs (m ∷ ms) (suc left) previous o c flags rest whole bytes short =
      let two = next_two plan o {r = m.round} {v = m.value} {rest = marks_bytes ms ++ rest} bytes in
      elim whole.1 [
        | inl last ↦ (
          last_run a x m c o flags,
          mark_ends a plan x left previous o {m = m} two c flags whole.0 last.0,
          read_last a x m ms c o flags last.1,
        )
        | inr on ↦
            (let later = job_runs ms left m.round (o + 2) (mark_step a x m c) _ rest on.1 two.after (omega arith) in (
              longer_run a x m c later.0,
              mark_goes a plan x left previous o {m = m} two c flags whole.0 on.0 later.1,
              read_more a x m ms c o flags later.2,
            ))
      ]

-- ---- a job from its first step on

marks_length : (ms : List Mark) → length (marks_bytes ms) ≡ 2 * length ms
unfolding marks_bytes each
marks_length [] = omega arith
marks_length (m ∷ ms) = omega (arith, marks_length ms)

-- its run, by fields
run_is : {one : JobRun} {steps : List Step} {o : ℕ} {stores : List Store} {flags : Flags} → one.steps ≡ steps
    → one.running.offset ≡ o → one.running.stores ≡ stores → one.running.failed ≡ flags
    → one ≡ record { steps = steps; running = record { offset = o; stores = stores; failed = flags } }
run_is s o r f = λ i. record { steps = s i; running = record { offset = o i; stores = r i; failed = f i } }

module _ (a : Accepted) (plan : Plan) (x : ℕ) (stores : List Store) where
  -- a whole job's run leaves its column's steps and stores, and its flag
  pub column_runs : (ms : List Mark) (left o : ℕ) (flags : Flags) (rest : List ℕ)
      → Whole a x 0 ms (record { column = unbegun; stores = stores }) → drop o plan ≡ marks_bytes ms ++ rest → length ms ≤ left
      → run_job a plan (job x) left fresh first_round (record { offset = o; stores = stores; failed = flags })
      ≡ passed (record {
        steps = (run_marks a x ms (record { column = unbegun; stores = stores })).column.steps;
        running = standing (o + length (marks_bytes ms))
            (flagged (run_marks a x ms (record { column = unbegun; stores = stores })).column.failed x flags)
            (run_marks a x ms (record { column = unbegun; stores = stores }));
      })
  unfolding unbegun
  column_runs ms left o flags rest whole bytes short =
      let found = job_runs a plan x ms left 0 o (record { column = unbegun; stores = stores }) flags rest whole bytes short in
      let read = found.2 in
      let offset : found.0.running.offset ≡ o + length (marks_bytes ms) = omega (arith, read.offset, marks_length ms) in
      found.1 ∙ ap passed (run_is read.steps offset read.stores (read.failed ∙ ap (λ (b : Bool). flagged b x flags) (sym read.noted)))

-- ---- a whole job has at most 16 steps

module _ {a : Accepted} (ok : IsAccepted a) (x : ℕ) (isJob : x < job_total a) where
  -- each step goes on in the body, so from a place in it no more steps come than instructions are left
  whole_within : (ms : List Mark) (previous : ℕ) (c : ColumnRun) → Whole a x previous ms c
      → c.column.local.next < length (body_of (task_of a.table (job_at a (job x)).task))
      → c.column.local.next + length ms ≤ length (body_of (task_of a.table (job_at a (job x)).task))
  unfolding mark_step stepped effect_of base job job_total
  whole_within [] previous c whole inside = absurd whole
  whole_within (m ∷ ms) previous c whole inside =
      let known = job_task ok.is_timed (job x) isJob in
      let step = body_step a.table ok.is_judged (job_at a (job x)).task known c.column.local inside m.value _ in
      elim whole.1 [
        | inl last ↦ omega (arith, ap length last.1)
        | inr on ↦ omega (arith, step on.0, whole_within ms m.round (mark_step a x m c) on.1 (step on.0).1)
      ]

  pub whole_short : (ms : List Mark) (stores : List Store)
      → Whole a x 0 ms (record { column = unbegun; stores = stores }) → length ms ≤ 16
  unfolding unbegun fresh base job job_total
  whole_short ms stores whole =
      let known = job_task ok.is_timed (job x) isJob in
      let some = ok.is_made.bodies (job_at a (job x)).task known in
      omega (
        arith,
        whole_within ms 0 (record { column = unbegun; stores = stores }) whole some,
        body_short ok.is_made.shaped (job_at a (job x)).task known,
      )
