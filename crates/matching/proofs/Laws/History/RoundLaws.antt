-- Laws of a plan's rounds: there is one for each job, by number, and each has its guess.
-- Assumes nothing.
use Rattle.std.specs.Prelude.{◌≡◌, ℕ, ◌<◌, length, get_or}
use Rattle.std.proofs.Math.Path.{ap}
use Rattle.std.proofs.Common.{◌∙◌, arith}
use mathlib.Core.List.Memᴰ
use mathlib.Core.List.{Memᴰ}
use Rattle.notation.specs.Lists.{up_to}
use Rattle.notation.specs.Laws.ListLaws.{up_to_member, up_to_length, get_or_up_to}
use Rattle.notation.specs.Laws.QuantifierLaws.{map_length, map_at}
use Rattle.timing.specs.Accepted.{Accepted}
use Rattle.machine.specs.Instructions.{Store}
use Rattle.plan.specs.declared.Round.{Round}
use Rattle.plan.specs.Runs.{Plan, job_total, round_numbers, first_round, guess}
use Rattle.matching.proofs.Laws.History.Histories.{round}
use Rattle.matching.proofs.Laws.History.PlanReading.{guesses_of}

module _ (a : Accepted) where
  -- the rounds are those with a number below the number of jobs
  pub round_member : (r : Round) → r.0 < job_total a → Memᴰ r (round_numbers a)
  unfolding round_numbers
  round_member r lt = Memᴰ.map round ((up_to_member (job_total a) r.0).1 lt)

  pub member_round : (r : Round) → Memᴰ r (round_numbers a) → r.0 < job_total a
  unfolding round_numbers
  member_round r m =
      let found = Memᴰ.of_map round (up_to (job_total a)) m in
      let number = ap (λ (q : Round). q.0) found.2 in
      omega (arith, (up_to_member (job_total a) found.0).0 found.1, number)

  rounds_length : length (round_numbers a) ≡ job_total a
  unfolding round_numbers
  rounds_length = map_length round (up_to (job_total a)) ∙ up_to_length (job_total a)

  -- and each stands at its number
  round_at_lem : (r : ℕ) → r < job_total a → get_or (round_numbers a) r first_round ≡ round r
  unfolding round_numbers
  round_at_lem r lt =
      map_at round (up_to (job_total a)) r 0 first_round (omega (arith, up_to_length (job_total a)))
      ∙ ap round (get_or_up_to (job_total a) r 0 lt)

  module _ (plan : Plan) where
    -- a plan has a guess for each
    pub guesses_total : length (guesses_of a plan) ≡ job_total a
    unfolding guesses_of
    guesses_total = map_length (guess plan) (round_numbers a) ∙ rounds_length

    pub guess_of : (r : ℕ) (d : Store) → r < job_total a → get_or (guesses_of a plan) r d ≡ guess plan (round r)
    unfolding guesses_of
    guess_of r d lt =
        map_at (guess plan) (round_numbers a) r first_round d (omega (arith, rounds_length))
        ∙ ap (guess plan) (round_at_lem r lt)
