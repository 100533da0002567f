-- A step of a job's run over lent arrays is the step of the definition: its bytes are checked for the lent
-- instruction, its effect is on the store that stands in the array, and the arrays after it hold where the run then
-- stands.
-- Assumes nothing.
use Rattle.std.specs.Prelude.{◌≡◌, ℕ, ◌+◌, ◌≤◌, ◌<◌, Bool, false, ◌||◌, length, take}
use Rattle.std.proofs.Math.Path.{refl, sym, ap, ap₂}
use Rattle.std.proofs.Common.{◌∙◌, arith}
use mathlib.Core.List.{List}
use Rattle.std.proofs.Math.ListN.{get_or}
use Rattle.taskfile.specs.declared.Ceilings.{Ceilings}
use Rattle.taskfile.specs.declared.Instruction.{Instruction}
use Rattle.taskfile.specs.Judgement.{instruction_of}
use Rattle.taskfile.specs.Tables.{tasks_of, task_of, body_of}
use Rattle.timing.specs.declared.Job.{Job}
use Rattle.timing.specs.Accepted.{Accepted}
use Rattle.timing.specs.Relations.{IsJob, base, job_at}
use Rattle.timing.proofs.Laws.BaseLaws.{base_small}
use Rattle.timing.proofs.Laws.JobFacts.{job_task}
use Rattle.machine.specs.declared.Effect.{Effect}
use Rattle.machine.specs.declared.Local.{Local}
use Rattle.machine.specs.Ends.{Flags, flagged}
use Rattle.machine.specs.Held.{priority}
use Rattle.machine.specs.Instructions.{Store, fresh, perform}
use Rattle.machine.proofs.Laws.BodyLaws.{body_step}
use Rattle.order.proofs.Laws.LengthLaws.{body_short}
use Rattle.plan.specs.declared.Round.{Round}
use Rattle.plan.specs.Runs.{Plan, Step, job_total, round_at, step_bytes, step_effect, step_made, running_after}
use Rattle.order_states.specs.Code.SnapshotSteps.{owner_in, instruction_in}
use Rattle.plan_marks.specs.Code.Marks.{run_state_in, store_at, with_store}
use Rattle.plan_marks.specs.Code.RunParts.{Holds}
use Rattle.plan.specs.Runs.{step_bytes_for}
use Rattle.plan_marks.specs.Laws.StoreLaws.{stores_at, put_among}
use Rattle.plan_runs.specs.Laws.FlagLaws.{flag_twice}

-- the step that a job made, as the arrays tell it
abbrev pub lent_step : Ceilings → Plan → ℕ → ℕ → Effect → Step
lent_step locks plan owner offset effect =
    record {
      round = round_at plan offset;
      value = get_or plan (offset + 1) 0;
      priority_after = priority (take locks.count locks.ceilings) owner effect.local.held;
    }

-- how many instructions a job has
unfoldable pub body_size : Accepted → ℕ → ℕ
body_size a x = length (body_of (task_of a.table (job_at a (record { 0 = x })).task))

module _ {a : Accepted} {program times : List ℕ} {locks : Ceilings} {k : ℕ} (held : Holds a program times locks k)
    (x : ℕ) (isJob : IsJob a (record { 0 = x })) where
  abbrev job : Job
  job = record { 0 = x }

  known : base a job < length (tasks_of a.table)
  known = job_task held.ok.is_timed job isJob

  -- a body has 1 to 16 instructions
  pub fresh_inside : fresh.next < body_size a x
  unfolding fresh base body_size
  fresh_inside = held.ok.is_made.bodies (job_at a job).task known

  pub inside_short : body_size a x ≤ 16
  unfolding base body_size
  inside_short = body_short held.ok.is_made.shaped (job_at a job).task known

  module _ {owner : ℕ} (owned : owner ≡ owner_in program x) where
    owner_base : owner ≡ base a job
    owner_base = owned ∙ held.lends.table.owner job isJob

    pub owner_small : owner < 8
    owner_small = omega (arith, owner_base, base_small held.ok job isJob)

    module _ (local : Local) (inside : local.next < body_size a x) {i : Instruction}
        (is : i ≡ instruction_in program owner local.next) where
      -- the next instruction is the lent one
      instruction_lent : i ≡ instruction_of a.table (job_at a job).task local.next
      unfolding base body_size
      instruction_lent =
          is ∙ ap (λ (t : ℕ). instruction_in program t local.next) owner_base
          ∙ held.lends.table.body (job_at a job).task local.next known inside

      -- so the step's bytes are checked for it
      pub bytes_lent : (plan : Plan) (previous : Round) (offset : ℕ)
          → step_bytes a plan job local previous offset ≡ step_bytes_for k i plan previous offset
      unfolding step_bytes step_bytes_for job_total
      bytes_lent plan previous offset = rw (instruction_lent, held.total) refl

      module _ (plan : Plan) (stores : List ℕ) (flags : Flags) (offset : ℕ) (is_round : (round_at plan offset).0 < k)
          {effect : Effect}
          (does : effect ≡ perform i (get_or plan (offset + 1) 0) local (store_at stores (round_at plan offset).0)) where
        pub effect_lent : step_effect a plan job local (run_state_in k stores flags offset) ≡ effect
        unfolding step_effect run_state_in
        effect_lent =
            ap₂ (λ (j : Instruction) (s : Store). perform j (get_or plan (offset + 1) 0) local s)
            (sym instruction_lent) (stores_at stores k (round_at plan offset).0 is_round) ∙ sym does

        -- a step that is no End stays inside the body
        pub inside_on : effect.ended ≡ false → effect.local.next < body_size a x
        unfolding base body_size
        inside_on goes =
            let store : Store = store_at stores (round_at plan offset).0 in
            let same : effect
            ≡ perform (instruction_of a.table (job_at a job).task local.next) (get_or plan (offset + 1) 0) local store =
            does ∙ ap (λ (j : Instruction). perform j (get_or plan (offset + 1) 0) local store) instruction_lent in
            rw same
            (body_step a.table held.ok.is_judged (job_at a job).task known local inside _ _
            (ap (λ (e : Effect). e.ended) (sym same) ∙ goes)).1

  -- the step made is the one that is marked
  pub made_lent : {owner : ℕ} → owner ≡ owner_in program x → (plan : Plan) (stores : List ℕ) (flags : Flags)
      (offset : ℕ) (effect : Effect)
      → step_made a plan job (run_state_in k stores flags offset) effect ≡ lent_step locks plan owner offset effect
  unfolding step_made run_state_in
  made_lent owned plan stores flags offset effect =
      ap₂ (λ (l : List ℕ) (b : ℕ).
      record { round = round_at plan offset; value = get_or plan (offset + 1) 0; priority_after = priority l b effect.local.held })
      (sym held.lends.table.ceilings) (sym (owner_base owned))

-- the arrays after the step hold where the run then stands
pub after_lent : (plan : Plan) (x k : ℕ) → k ≤ 32 → (stores : List ℕ) → length stores ≡ 256 → (failed : Bool)
    (flags : Flags) (offset : ℕ) → (round_at plan offset).0 < k → (effect : Effect) → length effect.store ≡ 8
    → running_after plan (record { 0 = x }) (run_state_in k stores (flagged failed x flags) offset) effect
    ≡ run_state_in k (with_store stores (round_at plan offset).0 effect.store)
    (flagged (failed || effect.failed) x flags) (offset + 2)
unfolding running_after run_state_in
after_lent plan x k few stores whole failed flags offset is_round effect eight =
    ap₂ (λ (s : List Store) (f : Flags). record { offset = offset + 2; stores = s; failed = f })
    (sym (put_among stores whole (round_at plan offset).0 (omega arith) effect.store eight k few))
    (flag_twice failed effect.failed x flags)
