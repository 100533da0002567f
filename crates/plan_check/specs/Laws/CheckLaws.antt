-- The check of a plan over what is lent of a table's parts comes to what the plan comes to.
-- Assumes nothing.
use Rattle.std.specs.Prelude.{◌≡◌, refl, ℕ, length, Result, Ok, Err}
use Rattle.std.proofs.Math.Path.{sym, ap}
use Rattle.std.proofs.Common.{◌∙◌}
use Rattle.notation.specs.Checked.{Checked, passed, mapped, ◌>>=◌, ◌>>◌}
use Rattle.notation.specs.Lists.{last_or}
use Rattle.taskfile.specs.Code.Refusals.{outcome}
use Rattle.taskfile.specs.declared.refusals.Refused.{Refused}
use Rattle.taskfile.specs.declared.Table.{Table}
use Rattle.timing.specs.declared.JobList.{JobList}
use Rattle.timing.specs.Accepted.{Accepted}
use Rattle.timing.specs.Code.IsAccepted.{IsAccepted}
use Rattle.timing.specs.Code.JobParts.{job_list_of}
use Rattle.machine.specs.declared.End.{End}
use Rattle.machine.specs.Instructions.{Store}
use Rattle.plan.specs.Legality.{legality}
use Rattle.plan.specs.Plans.{legal_run, plan_end}
use Rattle.plan.specs.Runs.{Plan, JobRuns, job_total}
use Rattle.order_states.specs.declared.LentTimes.{LentTimes}
use Rattle.order_lending.specs.Code.Lending.{TimesOf}
use Rattle.plan_marks.specs.declared.PlanRan.{PlanRan}
use Rattle.plan_marks.specs.Code.Marks.{run_state_in, stores_in, steps_in}
use Rattle.plan_marks.specs.Code.PairParts.{legality_in}
use Rattle.plan_marks.specs.Code.RunParts.{Holds, plan_run_in, PlanRanOf}
use Rattle.plan_marks.specs.Code.TableParts.{PlanCheckedOf}
use Rattle.plan_check.specs.Laws.LegalityLaws.{legality_agreed}

module _ {t : Table} {list : JobList} {l : LentTimes} (plan : Plan) (lent : TimesOf t list l)
    {r : Result PlanRan (Refused ℕ)} (ran : PlanRanOf l.program l.locks plan list.count r) where
  module _ (a : Accepted) (ok : IsAccepted a) (table : t ≡ a.table) (listed : list ≡ job_list_of a.jobs) where
    total : length a.jobs ≡ list.count
    unfolding job_list_of
    total = sym (ap (λ (q : JobList). q.count) listed)

    holds : Holds a l.program l.times l.locks list.count
    holds = record { ok = ok; lends = lent.lends a ok table listed; total = total }

    -- what the run and then the rules come to
    legal_is : legal_run a plan
        ≡ ◌>>=◌ (mapped (plan_run_in list.count plan) (outcome r)) (λ runs. ◌>>◌ (legality a plan runs) (passed runs))
    unfolding legal_run
    legal_is =
        ap (λ (c : Checked ℕ JobRuns). ◌>>=◌ c (λ runs. ◌>>◌ (legality a plan runs) (passed runs)))
        (sym (ran.ran a l.times holds))

  -- the run is refused
  pub run_out : {e : Refused ℕ} → r ≡ Err e → PlanCheckedOf t list plan (Err e)
  unfolding ◌>>=◌ mapped
  run_out there = record { checks = λ a ok table listed. rw there at (legal_is a ok table listed) }

  module _ {made : PlanRan} (clear : r ≡ Ok made) where
    abbrev rules : Checked ℕ (Unit {0})
    rules = legality_in l.program l.times plan t.store made.stores made.marks list.count

    -- a plan that ran is what the rules come to
    ruled : (a : Accepted) → IsAccepted a → t ≡ a.table → list ≡ job_list_of a.jobs
        → legal_run a plan ≡ ◌>>◌ rules (passed (plan_run_in list.count plan made))
    unfolding ◌>>=◌ mapped run_state_in
    ruled a ok table listed =
        let is = rw clear at (legal_is a ok table listed) in
        let agreed = legality_agreed (holds a ok table listed) plan made.stores made.marks
        (plan_run_in list.count plan made) refl refl in
        let same : rules ≡ legality a plan (plan_run_in list.count plan made) =
        ap (λ (u : Table). legality_in l.program l.times plan u.store made.stores made.marks list.count) table ∙ agreed in
        is ∙ ap (λ (c : Checked ℕ (Unit {0})). ◌>>◌ c (passed (plan_run_in list.count plan made))) (sym same)

    -- the rules refuse it
    pub rules_out : (e : Refused ℕ) → outcome (Err e) ≡ rules → PlanCheckedOf t list plan (Err e)
    unfolding ◌>>◌
    rules_out e is = record {
      checks = λ a ok table listed. rw (← is) at (ruled a ok table listed);
    }

    abbrev ending : Store → End
    ending store = record { store = store; failed = made.failed }

    -- they pass it
    pub table_checked : outcome {P = ℕ} (Ok tt) ≡ rules → {store : Store}
        → store ≡ last_or t.store (stores_in made.stores list.count)
        → PlanCheckedOf t list plan (Ok (record { end = record { store = store; failed = made.failed }; marks = made.marks }))
    unfolding ◌>>◌ plan_end job_total run_state_in
    table_checked is {store} stored = record {
      checks = λ a ok table listed. record {
        runs = plan_run_in list.count plan made;
        legal = rw (← is) at (ruled a ok table listed);
        ends =
            ap (λ (u : Table). ending (last_or u.store (stores_in made.stores list.count))) (sym table)
            ∙ ap ending (sym stored);
        steps = ap (steps_in made.marks) (sym (total a ok table listed));
      };
    }
