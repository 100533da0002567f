-- The plan check's entry: what it answers, by what the file and the plan's bytes come to.
-- Assumes nothing.
use Rattle.std.specs.Prelude.{◌≡◌, Result, Ok, Err}
use Rattle.std.proofs.Math.Path.{sym, ap}
use Rattle.std.proofs.Common.{◌∙◌}
use Prim.Native.Nat.{ℕ}
use Rattle.notation.specs.Checked.{Checked, refused, passed, mapped}
use Rattle.notation.specs.Laws.CheckedLaws.{bind_refused, bind_goes}
use Rattle.taskfile.specs.Code.Refusals.{number_of}
use Rattle.taskfile.specs.declared.refusals.Refused.{Refused}
use Rattle.taskfile.specs.Records.{File}
use Rattle.timing.specs.declared.AcceptedFile.{AcceptedFile}
use Rattle.timing.specs.Accepted.{Accepted, accept}
use Rattle.timing.specs.Code.AcceptParts.{AcceptedParts, accepted_file}
use Rattle.timing.specs.Code.IsAccepted.{IsAccepted}
use Rattle.timing.proofs.Laws.AcceptedLaws.{file_accepted}
use Rattle.timing.proofs.Laws.AcceptLaws.{accepted_refused, accepted_passed}
use Rattle.machine.specs.declared.End.{End}
use Rattle.plan.specs.Plans.{check_plan, checked}
use Rattle.plan.specs.Runs.{Plan}
use Rattle.plan_marks.specs.declared.PlanChecked.{PlanChecked}
use Rattle.plan_marks.specs.Code.TableParts.{PlanCheckedAs, PlanCheckedOf}

module _ (f : File) where
  -- a file that is refused
  pub entry_refused : (plan : Plan) {n p : ℕ} → refused n p ≡ mapped accepted_file (accept f) → refused n p ≡ checked f plan
  unfolding checked
  entry_refused plan e = sym (bind_refused _ (accepted_refused (accept f) e))

  module _ {x : AcceptedFile} (says : passed x ≡ mapped accepted_file (accept f)) where
    abbrev found : (a : Accepted) × (accept f ≡ passed a) × AcceptedParts x a
    found = accepted_passed (accept f) says

    abbrev a : Accepted
    a = found.0

    ok : IsAccepted a
    ok = file_accepted f found.1

    module _ (plan : Plan) where
      -- what the file's plan comes to is what its check comes to
      checks_plan : {c : Checked ℕ End} → check_plan a plan ≡ c → c ≡ checked f plan
      unfolding checked
      checks_plan e = sym (bind_goes _ found.1 ∙ e)

      -- the check of the file's table is that of the plan
      pub checked_same : (r : Result PlanChecked (Refused ℕ)) → PlanCheckedOf x.table x.list plan r → PlanCheckedAs a plan r
      checked_same r made = made.checks a ok found.2.table found.2.list

      -- what a refused plan comes to
      pub answers_fault : {e : Refused ℕ} → PlanCheckedOf x.table x.list plan (Err e)
          → refused (number_of e.why) e.place ≡ checked f plan
      unfolding check_plan
      answers_fault {e} made = checks_plan (bind_refused _ (checked_same (Err e) made))

      -- what a legal plan comes to
      pub answers_ended : {legal : PlanChecked} → PlanCheckedOf x.table x.list plan (Ok legal)
          → passed legal.end ≡ checked f plan
      unfolding check_plan
      answers_ended {legal} made =
          let same = checked_same (Ok legal) made in
          ap (λ (end : End). passed end) (sym same.ends) ∙ checks_plan (bind_goes _ same.legal)
