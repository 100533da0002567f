-- How many jobs have ended: fewer than all while one has not, and one more when one more ends.
-- Assumes nothing.
use Rattle.std.specs.Prelude.{◌≡◌, suc, ◌<◌, true, false, length, get_or}
use Rattle.std.proofs.Common.{sym, ◌∙◌, arith}
use Rattle.std.proofs.Math.Path.{ap}
use Rattle.notation.specs.Laws.QuantifierLaws.{all_at}
use Rattle.timing.specs.declared.Job.{Job}
use Rattle.timing.specs.Accepted.{Accepted}
use Rattle.timing.proofs.Laws.JobNumberLaws.{jobs_length, jobs_at}
use Rattle.timing.specs.Relations.{IsJob, job_numbers}
use Rattle.machine.specs.Ends.{no_flags}
use Rattle.order.specs.States.{State, initial, has_ended, all_ended}
use Rattle.order.proofs.Laws.StepLaws.{no_flag}
use Rattle.plan.specs.Runs.{job_total}
use Rattle.notation.specs.Laws.CountLaws.{only_fewer, only_same, only_more}
use Rattle.notation.specs.Laws.ElementLaws.{only_none, only_every, at_every}
use Rattle.order.specs.OrderSteps.{ended_count}

-- none where an order starts
pub ended_none : (a : Accepted) → ended_count a (initial a) ≡ 0
unfolding ended_count initial has_ended no_flags
ended_none a =
    let none : Job = record { 0 = 0 } in
    ap length
    (only_none (has_ended (initial a)) (job_numbers a)
    (at_every (λ x. has_ended (initial a) x ≡ false) none (job_numbers a) (λ k lt. no_flag 32 (get_or (job_numbers a) k none).0)))

-- where all jobs have ended, as many have as there are
pub ended_all : (a : Accepted) (s : State) → all_ended a s ≡ true → ended_count a s ≡ job_total a
unfolding ended_count job_total all_ended
ended_all a s done =
    let none : Job = record { 0 = 0 } in
    ap length (only_every (has_ended s) none (job_numbers a) (λ k lt. all_at (has_ended s) (job_numbers a) k none done lt)) ∙ jobs_length a

module _ (a : Accepted) (s : State) where
  -- a job that has not ended leaves the count below the number of jobs
  pub ended_fewer : (x : Job) → IsJob a x → has_ended s x ≡ false → ended_count a s < job_total a
  unfolding ended_count job_total
  ended_fewer x isJob e =
      let fewer = only_fewer (has_ended s) (job_numbers a) x.0 x (omega (arith, jobs_length a)) (ap (has_ended s) (jobs_at a x x isJob) ∙ e) in
      omega (arith, fewer, jobs_length a)

  -- the same tests of each job
  pub ended_same : (t : State) → ((y : Job) → IsJob a y → has_ended t y ≡ has_ended s y) → ended_count a t ≡ ended_count a s
  unfolding ended_count
  ended_same t same =
      only_same (has_ended s) (has_ended t) (job_numbers a) (record { 0 = 0 })
      (λ j lt. (let y : Job = record { 0 = j } in
      let isJob : IsJob a y = omega (arith, jobs_length a) in
      ap (has_ended t) (jobs_at a y _ isJob) ∙ same y isJob ∙ ap (has_ended s) (sym (jobs_at a y _ isJob))))

  -- one job more
  pub ended_more : (t : State) (x : Job) → IsJob a x → has_ended s x ≡ false → has_ended t x ≡ true
      → ((y : Job) → IsJob a y → (y.0 ≡ x.0 → ⊥) → has_ended t y ≡ has_ended s y)
      → ended_count a t ≡ suc (ended_count a s)
  unfolding ended_count
  ended_more t x is_x e f same =
      only_more (has_ended s) (has_ended t) (job_numbers a) x.0 x (omega (arith, jobs_length a))
      (ap (has_ended s) (jobs_at a x x is_x) ∙ e) (ap (has_ended t) (jobs_at a x x is_x) ∙ f)
      (λ j lt apart. (let y : Job = record { 0 = j } in
      let isJob : IsJob a y = omega (arith, jobs_length a) in
      ap (has_ended t) (jobs_at a y _ isJob) ∙ same y isJob apart ∙ ap (has_ended s) (sym (jobs_at a y _ isJob))))
