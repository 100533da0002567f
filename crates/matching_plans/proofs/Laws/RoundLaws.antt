-- Laws of the next round, of any guesses, round and store: the last round, and any other.
-- Assumes nothing.
use Rattle.std.specs.Prelude.{◌≡◌, ℕ, ◌+◌, ◌≤◌, ◌<◌, List}
use Rattle.std.proofs.Math.Path.{refl, ap}
use Rattle.std.proofs.Common.{◌∙◌}
use borrow.Author.Tests.{lt-ltb, le-ltb}
use Rattle.machine.specs.Instructions.{Store}
use Rattle.plan.specs.declared.Round.{Round}
use Rattle.plan_marks.specs.Code.Marks.{with_store}
use Rattle.matching_plans.specs.Code.Tracing.{guess_in, round_in}

module _ (guesses : List ℕ) (r : Round) where
  pub round_last : 31 ≤ r.0 → (store : Store) → (r.0 ≡ round_in r.0) × (guesses ≡ guess_in guesses r.0 store)
  unfolding round_in guess_in
  round_last le store = let is = le-ltb r.0 31 le in (rw is refl, rw is refl)

  pub round_next_lem : r.0 < 31 → {store read : Store} {after : List ℕ} → store ≡ read
      → after ≡ with_store guesses (r.0 + 1) store
      → (r.0 + 1 ≡ round_in r.0) × (after ≡ guess_in guesses r.0 read)
  unfolding round_in guess_in
  round_next_lem lt same put =
      let is = lt-ltb r.0 31 lt in
      (rw is refl, put ∙ ap (with_store guesses (r.0 + 1)) same ∙ rw is refl)
