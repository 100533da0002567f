-- Laws of a job's base: it rises with the job's number and is below 8; and whatever a later job of a task comes
-- before, an earlier one does too.
-- Assumes nothing.
use Rattle.timing.proofs.Laws.RelationLaws as relations
use Rattle.std.specs.Prelude.{◌≡◌, ℕ, ◌≤◌, ◌<◌, true, get_or}
use Rattle.std.proofs.Common.{ap, ◌∙◌, inl, inr, arith}
use Rattle.std.proofs.Math.Decide.{ℕ_discrete}
use Rattle.timing.specs.declared.Job.{Job}
use Rattle.timing.specs.Accepted.{Accepted}
use Rattle.timing.proofs.Laws.RelationLaws.{before_says, before_holds}
use Rattle.timing.specs.Relations.{IsJob, job_at, base, before}
use Rattle.taskfile.proofs.Laws.JudgingLaws.{tasks_length}
use Rattle.timing.proofs.Laws.JobFacts.{job_task, job_lasts}
use Rattle.timing.specs.Code.IsAccepted.{IsAccepted}

-- jobs of lower numbers are of tasks no higher
pub base_rises : {a : Accepted} (ok : IsAccepted a) (x y : Job) → x.0 ≤ y.0 → IsJob a y → base a x ≤ base a y
base_rises {a} ok x y le isJob =
    elim (ℕ_discrete x.0 y.0) [
      | yes same ↦ let equal : base a x ≡ base a y = ap (λ (n : ℕ). base a (record { 0 = n })) same in omega arith
      | no apart ↦ elim (relations.jobs_by_number ok.is_timed x y (omega arith) isJob) [ inl h ↦ omega arith | inr h ↦ omega arith ]
    ]

pub base_small : {a : Accepted} (ok : IsAccepted a) (x : Job) → IsJob a x → base a x < 8
base_small {a} ok x isJob = omega (arith, job_task ok.is_timed x isJob, tasks_length _ ok.is_made.shaped, ok.is_made.shaped.tasks_within)

-- a later job of a task comes before another only if the earlier one does
pub earlier_too : {a : Accepted} (ok : IsAccepted a) (u x y : Job) → u.0 ≤ x.0 → IsJob a x → base a u ≡ base a x
    → (u.0 ≡ y.0 → ⊥) → before a x y ≡ true → before a u y ≡ true
earlier_too {a} ok u x y le is_x same apart h =
    elim (ℕ_discrete u.0 x.0) [
      | yes equal ↦ ap (λ (n : ℕ). before a (record { 0 = n }) y) equal ∙ h
      | no other ↦
          let lasts = job_lasts ok.is_timed x is_x in
          let isU : IsJob a u = omega arith in
          let lasted = job_lasts ok.is_timed u isU in
          let rest : get_or a.responses (base a u) 0 ≡ get_or a.responses (base a x) 0 = ap (λ (n : ℕ). get_or a.responses n 0) same in
          let arrives : (job_at a u).arrival ≤ (job_at a x).arrival =
          elim (relations.jobs_by_number ok.is_timed u x (omega arith) is_x) [ inl g ↦ absurd (omega arith) | inr g ↦ omega arith ] in
          before_holds a u y apart
          (elim (before_says a x y h).1 [ inl g ↦ inl (omega arith) | inr g ↦ inr (omega arith) ])
    ]
