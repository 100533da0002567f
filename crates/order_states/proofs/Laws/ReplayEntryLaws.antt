-- The replay's entry: what it answers, by what the file and the order's bytes come to.
-- Assumes nothing.
use Rattle.std.specs.Prelude.{◌≡◌, refl, List, Result, Err}
use Rattle.std.proofs.Math.Path.{sym, ap}
use Rattle.std.proofs.Common.{◌∙◌, arith}
use Prim.Native.Nat.{ℕ, ◌^◌, ◌<◌}
use Rattle.taskfile.specs.declared.refusals.Refused.{Refused}
use Rattle.taskfile.specs.Code.Refusals.{outcome}
use Rattle.notation.specs.Checked.{Checked, refused, passed, mapped}
use Rattle.notation.specs.Laws.CheckedLaws.{bind_refused, bind_goes}
use Rattle.taskfile.specs.Records.{File}
use Rattle.timing.specs.declared.AcceptedFile.{AcceptedFile}
use Rattle.timing.specs.Accepted.{Accepted, accept}
use Rattle.timing.proofs.Laws.AcceptedLaws.{file_accepted}
use Rattle.timing.specs.Code.IsAccepted.{IsAccepted}
use Rattle.timing.proofs.Laws.AcceptLaws.{accepted_refused, accepted_passed}
use Rattle.timing.specs.Code.AcceptParts.{AcceptedParts, accepted_file}
use Rattle.machine.specs.declared.End.{End}
use Rattle.timing.proofs.Laws.JobFacts.{jobs_few}
use Rattle.order.proofs.Laws.LengthLaws.{left_most}
use Rattle.order.specs.Orders.{order_end}
use Rattle.order.specs.Replay.{replay_from, replay, replayed}
use Rattle.order_states.proofs.Laws.ReplayLaws.{replay_fault}
use Rattle.order_states.specs.Code.ReplayParts.{ReplayOf}
use Rattle.order.specs.States.{State, initial}
use Rattle.order.proofs.Laws.StepLaws.{initial_invariant}

module _ (f : File) where
  -- a file that is refused
  pub entry_refused : (order : List ℕ) {n p : ℕ} → refused n p ≡ mapped accepted_file (accept f)
      → refused n p ≡ replayed f order
  unfolding replayed
  entry_refused order e = sym (bind_refused _ (accepted_refused (accept f) e))

  module _ {x : AcceptedFile} (says : passed x ≡ mapped accepted_file (accept f)) where
    abbrev found : (a : Accepted) × (accept f ≡ passed a) × AcceptedParts x a
    found = accepted_passed (accept f) says

    abbrev a : Accepted
    a = found.0

    ok : IsAccepted a
    ok = file_accepted f found.1

    module _ (order : List ℕ) (r : Result End (Refused ℕ)) (made : ReplayOf x.table x.list order r) where
      same : outcome r ≡ replay a order
      same = made a ok found.2.table found.2.list

      -- what the order comes to is what its replay comes to
      pub entry_ended : outcome r ≡ replayed f order
      unfolding replayed
      entry_ended = same ∙ sym (bind_goes _ found.1)

      -- and the place of a fault is small
      place_small : (c : Checked ℕ State) → replay_from a (initial a) 0 order ≡ c → (n p : ℕ)
          → refused n p ≡ replay a order → p < 2 ^ 32
      unfolding replay
      place_small (refused n p) e m q h =
          let fault = replay_fault ok order (initial_invariant a) 0 e in
          let short = left_most a (initial a) in
          let few = jobs_few ok.is_timed in
          let both : ◌≡◌ {A = Checked ℕ End} (refused m q) (refused n p) = h ∙ bind_refused _ e in
          let place : q ≡ p = cc in
          omega (arith, fault.near)
      place_small (passed s) e m q h =
          absurd (let both : ◌≡◌ {A = Checked ℕ End} (refused m q) (passed (order_end s)) = h ∙ bind_goes _ e in cc)

      pub answers_place : {e : Refused ℕ} → r ≡ Err e → e.place < 2 ^ 32
      answers_place {e} is = place_small (replay_from a (initial a) 0 order) refl _ _ (sym (ap outcome is) ∙ same)
