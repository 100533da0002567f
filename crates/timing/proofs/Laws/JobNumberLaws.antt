-- Laws of `all` and `first_with` over the numbers of a table's jobs.
-- Assumes nothing.
use Rattle.std.specs.Prelude.{◌≡◌, ℕ, Bool, true, false, length, get_or}
use Rattle.std.proofs.Common.{sym, ap, ◌∙◌, arith}
use Rattle.std.proofs.Math.Option.{none, some}
use Rattle.notation.specs.Laws.ListLaws.{up_to_length, get_or_up_to}
use Rattle.notation.specs.Lists.{all, first_with, up_to}
use Rattle.notation.specs.Laws.QuantifierLaws.{all_at, at_all, first_at, first_only, first_none, map_length, map_at}
use Rattle.timing.specs.declared.Job.{Job}
use Rattle.timing.specs.Accepted.{Accepted}
use Rattle.timing.specs.Relations.{IsJob, job_numbers}

pub jobs_length : (a : Accepted) → length (job_numbers a) ≡ length a.jobs
unfolding job_numbers
jobs_length a = map_length _ (up_to (length a.jobs)) ∙ up_to_length (length a.jobs)

pub jobs_at : (a : Accepted) (x d : Job) → IsJob a x → get_or (job_numbers a) x.0 d ≡ x
unfolding job_numbers
jobs_at a x d isJob =
    map_at (λ n. record { 0 = n }) (up_to (length a.jobs)) x.0 0 d (omega (arith, up_to_length (length a.jobs)))
    ∙ ap (λ (n : ℕ). record { 0 = n }) (get_or_up_to (length a.jobs) x.0 0 isJob)

module _ (a : Accepted) (test : Job → Bool) where
  pub all_jobs : all test (job_numbers a) ≡ true → (x : Job) → IsJob a x → test x ≡ true
  all_jobs h x isJob =
      ap test (sym (jobs_at a x x isJob)) ∙ all_at test (job_numbers a) x.0 x h (omega (arith, jobs_length a))

  pub jobs_all : ((x : Job) → IsJob a x → test x ≡ true) → all test (job_numbers a) ≡ true
  jobs_all h =
      at_all test (job_numbers a) (record { 0 = 0 })
      (λ k lt. (let x : Job = record { 0 = k } in let isJob : IsJob a x = omega (arith, jobs_length a) in ap test (jobs_at a x _ isJob) ∙ h x isJob))

  pub first_job : {y : Job} → first_with test (job_numbers a) ≡ some y → IsJob a y × (test y ≡ true)
  first_job {y} h =
      let found = first_at test (job_numbers a) y h in
      let x : Job = record { 0 = found.0 } in
      let isJob : IsJob a x = omega (arith, found.1, jobs_length a) in
      let same : x ≡ y = sym (jobs_at a x y isJob) ∙ found.2 in
      (rw (← (ap (λ (z : Job). z.0) same)) isJob, found.3)

  pub only_job : (y : Job) → IsJob a y → test y ≡ true → ((x : Job) → IsJob a x → test x ≡ true → x.0 ≡ y.0)
      → first_with test (job_numbers a) ≡ some y
  only_job y isJob h only =
      first_only test (job_numbers a) y.0 y (omega (arith, jobs_length a)) (ap test (jobs_at a y y isJob) ∙ h)
      (λ j lt t. (let x : Job = record { 0 = j } in let known : IsJob a x =
      omega (arith, jobs_length a) in only x known (ap test (sym (jobs_at a x y known)) ∙ t)))
      ∙ ap some (jobs_at a y y isJob)

  pub no_job_lem : ((x : Job) → IsJob a x → test x ≡ false) → first_with test (job_numbers a) ≡ none
  no_job_lem h =
      first_none test (job_numbers a) (record { 0 = 0 })
      (λ k lt. (let x : Job = record { 0 = k } in let isJob : IsJob a x = omega (arith, jobs_length a) in ap test (jobs_at a x _ isJob) ∙ h x isJob))
