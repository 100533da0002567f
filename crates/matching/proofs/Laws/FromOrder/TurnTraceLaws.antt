-- What the turn of a byte is to the active jobs: the one started last, or a fresh start over them all; and the active
-- jobs other than the turn's have lower numbers. A step is what the turn's instruction does.
-- Assumes nothing.
use Rattle.std.specs.Prelude.{◌≡◌, ◌⊎◌, ℕ, ◌<◌, Bool, ◌&&◌}
use Rattle.std.proofs.Math.Path.{refl, ap, subst}
use Rattle.std.proofs.Common.{sym, ◌∙◌, arith, eqb-true}
use Rattle.std.proofs.Math.Logic.{inl, inr}
use Rattle.std.proofs.Math.Bool.{true, false}
use Rattle.std.proofs.lemmas.Bool.{false≢true}
use mathlib.Core.List.{List, [], ◌∷◌}
use Rattle.std.proofs.Math.Option.{some}
use Rattle.std.proofs.Math.Dec.{eqb}
use Rattle.std.proofs.Math.ListN.{get_or}
use Rattle.std.specs.Prelude.{if◌then◌else◌}
use Rattle.notation.specs.Lists.{any, first_with}
use Rattle.notation.specs.Ordered.{Every}
use Rattle.notation.specs.Laws.TestLaws.{and_both, or_either}
use Rattle.timing.specs.declared.Job.{Job}
use Rattle.timing.specs.Accepted.{Accepted}
use Rattle.timing.specs.Code.IsAccepted.{IsAccepted}
use Rattle.timing.proofs.Laws.JobNumberLaws.{first_job}
use Rattle.timing.proofs.Laws.RelationLaws.{preempts_lower}
use Rattle.timing.specs.Relations.{base, job_numbers}
use Rattle.machine.specs.Instructions.{fresh, perform}
use Rattle.order.specs.OrderBytes.{value_of_byte}
use Rattle.order.specs.declared.Frame.{Frame}
use Rattle.order.specs.Code.Invariant.{Over, IsRunning, has_begun}
use Rattle.order.specs.Orders.{Turn, start_of, turn_among, turn_of, next_of}
use Rattle.order.specs.States.{State, is_active, may_start}
use Rattle.order.proofs.Laws.StepLaws.{GoodTurn, start_says, map_some, AllowedStep, after_effect, performed_is, flag_other}

-- the turn of the active job started last
abbrev pub GoesOn : State → Turn → Type 0
GoesOn s turn = s.active ≡ turn.frame ∷ turn.under

-- a job's start over all that are active
pub record Starts (s : State) (turn : Turn) : Type 0 where
  pub unbegun : has_begun s turn.frame.job ≡ false
  pub is_fresh : turn.frame.local ≡ fresh
  pub all : turn.under ≡ s.active

module _ (a : Accepted) (s : State) (i : ℕ) where
  start_kind : {turn : Turn} → start_of a s i ≡ some turn → Starts s turn
  unfolding start_of
  start_kind {turn} e =
      let found = map_some _ (first_with (λ y. eqb (base a y) i && may_start a s y) (job_numbers a)) e in
      let job = first_job a (λ y. eqb (base a y) i && may_start a s y) found.1 in
      let start = start_says a s found.0 (and_both (eqb (base a found.0) i) _ job.1).1 in
      subst (Starts s) found.2 (record { unbegun = start.unbegun; is_fresh = refl; all = refl })

  among_kind : (active : List Frame) → s.active ≡ active → {turn : Turn} → turn_among a s i active ≡ some turn
      → GoesOn s turn ⊎ Starts s turn
  unfolding turn_among
  among_kind [] same e = inr (start_kind e)
  among_kind (f ∷ under) same {turn} e = go (eqb (base a f.job) i) e
    where
      go : (b : Bool) → (if b then some (record { frame = f; under = under }) else start_of a s i) ≡ some turn
          → GoesOn s turn ⊎ Starts s turn
      go true h =
          let is : record { frame = f; under = under } ≡ turn = cc in
          inl (subst (GoesOn s) is same)
      go false h = inr (start_kind h)

  -- a turn goes on or starts
  pub turn_kind : {turn : Turn} → turn_of a s i ≡ some turn → GoesOn s turn ⊎ Starts s turn
  unfolding turn_of
  turn_kind e = among_kind s.active refl e

-- ---- the active jobs' numbers

found_lower : (y n : ℕ) (fs : List Frame) → Every (λ f. f.job.0 < n) fs → any (λ f. eqb f.job.0 y) fs ≡ true
    → y < n
unfolding any
found_lower y n [] lower h = absurd (false≢true h)
found_lower y n (f ∷ fs) lower h = elim (or_either (eqb f.job.0 y) _ h) [
  | inl here ↦ omega (arith, lower.0, eqb-true f.job.0 y here)
  | inr later ↦ found_lower y n fs lower.1 later
]

module _ {a : Accepted} (ok : IsAccepted a) {s : State} {turn : Turn} (good : GoodTurn a s turn) where
  -- those under the turn's job have lower numbers
  lower_all : (fs : List Frame) → Every (IsRunning a s) fs → Every (Over a turn.frame) fs
      → Every (λ f. f.job.0 < turn.frame.job.0) fs
  lower_all [] running over = tt
  lower_all (f ∷ fs) running over =
      ((preempts_lower ok.is_timed turn.frame.job f.job running.0.job over.0.preempts).1, lower_all fs running.1 over.1)

  pub under_lower : Every (λ f. f.job.0 < turn.frame.job.0) turn.under
  under_lower = lower_all turn.under good.under good.over

  -- so an active job other than the turn's has a lower number
  pub trace_lower : (y : Job) → (y.0 ≡ turn.frame.job.0 → ⊥) → is_active s y ≡ true → y.0 < turn.frame.job.0
  trace_lower y apart h = found_lower y.0 turn.frame.job.0 turn.under under_lower (good.kept y apart h)

-- ---- a step by its turn

module _ {a : Accepted} {s : State} {byte : ℕ} {after : State} (made : AllowedStep a s byte after) where
  -- the step is what its instruction does to the state
  pub step_after : after_effect s made.turn
      (perform (next_of a made.turn.frame) (value_of_byte byte) made.turn.frame.local s.store) ≡ after
  step_after = sym (performed_is a s (value_of_byte byte) made.turn) ∙ made.made

  -- it raises no other job's flag
  pub step_failed : (y : ℕ) → (y ≡ made.turn.frame.job.0 → ⊥)
      → get_or after.failed y false ≡ get_or s.failed y false
  unfolding after_effect
  step_failed y apart =
      let effect = perform (next_of a made.turn.frame) (value_of_byte byte) made.turn.frame.local s.store in
      ap (λ (z : State). get_or z.failed y false) (sym step_after)
      ∙ flag_other effect.failed made.turn.frame.job.0 y s.failed apart
