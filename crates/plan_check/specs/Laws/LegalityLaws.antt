-- The faults 43 to 45 over marks, stores and the lent table are those of the definition.
-- Assumes nothing.
use Rattle.std.specs.Prelude.{◌≡◌, ℕ, Bool, true, false, not, List, [], ◌∷◌, map, length, get_or, Result, Ok, Err, IfOk}
use Rattle.std.proofs.Math.Path.{refl}
use Rattle.std.proofs.Common.{sym, ◌∙◌}
use Rattle.notation.specs.Checked.{Checked, refused, none_of, placed_by, ◌>>◌}
use Rattle.std.specs.Prelude.{if◌then◌else◌}
use Rattle.notation.specs.Lists.{up_to, same}
use Rattle.taskfile.specs.declared.Ceilings.{Ceilings}
use Rattle.timing.specs.Accepted.{Accepted}
use Rattle.machine.specs.Ends.{no_store}
use Rattle.machine.specs.Instructions.{Store}
use Rattle.plan.specs.declared.Round.{Round}
use Rattle.plan.specs.Legality.{due_store, guess_fault, legality}
use Rattle.plan.specs.Runs.{Plan, JobRuns, job_total, round_numbers, guess}
use Rattle.plan_check.specs.Code.Faults.{fault_of, fault_then}
use Rattle.taskfile.specs.Code.Refusals.{number_of, outcome}
use Rattle.taskfile.specs.declared.refusals.Refused.{Refused}
use Rattle.plan_marks.specs.declared.Marks.{Marks}
use Rattle.plan_marks.specs.Code.Marks.{stores_in, steps_in}
use Rattle.plan_marks.specs.Code.PairParts.{order_faulty, lock_faulty, due_store_in, pair_fault_in, guess_fault_from, guess_fault_in}
use Rattle.plan_marks.specs.Code.PairParts.{legality_in}
use Rattle.plan_marks.specs.Code.RunParts.{Holds}
use Rattle.plan_pairs.specs.Laws.PairAgreed.{pairs_agreed}
use Rattle.plan_marks.specs.Laws.FaultLaws.{fault_decides, rest_decides}

-- ---- the agreement

-- a check of numbered places, with the places as numbers again
first_placed : {P : Type 0} (number : ℕ) (g : P → ℕ) (test : Bool) (place : P) (rest : Checked P (Unit {0}))
    (rest' : Checked ℕ (Unit {0})) → placed_by g rest ≡ rest'
    → placed_by g (if test then refused number place else rest) ≡ (if test then refused number (g place) else rest')
unfolding placed_by
first_placed number g true place rest rest' e = refl
first_placed number g false place rest rest' e = e

placed_rounds : (number : ℕ) (fault : Round → Bool) (xs : List ℕ)
    → placed_by (λ r. r.0) (none_of number fault (map (λ n. record { 0 = n }) xs))
    ≡ none_of number (λ x. fault (record { 0 = x })) xs
unfolding none_of placed_by
placed_rounds number fault [] = refl
placed_rounds number fault (x ∷ xs) =
    first_placed number (λ r. r.0) (fault (record { 0 = x })) (record { 0 = x }) _ _ (placed_rounds number fault xs)

pub guesses_agreed : (a : Accepted) (plan : Plan) (runs : JobRuns) (stores : List ℕ) (k : ℕ) → length a.jobs ≡ k
    → runs.running.stores ≡ stores_in stores k
    → guess_fault_in plan a.table.store stores k
    ≡ placed_by (λ r. r.0) (none_of 45 (guess_fault a plan runs) (round_numbers a))
unfolding guess_fault_in guess_fault_from due_store_in guess_fault due_store round_numbers job_total
guesses_agreed a plan runs stores k total left =
    (λ i. none_of 45
    (λ r. not (same (guess plan (record { 0 = r })) (get_or (a.table.store ∷ sym left i) r no_store)))
    (up_to (sym total i)))
    ∙ sym (placed_rounds 45 (guess_fault a plan runs) (up_to (job_total a)))

pub legality_agreed : {a : Accepted} {program times : List ℕ} {locks : Ceilings} {k : ℕ} → Holds a program times locks k
    → (plan : Plan) (stores : List ℕ) (marks : Marks) (runs : JobRuns) → runs.steps ≡ steps_in marks k
    → runs.running.stores ≡ stores_in stores k
    → legality_in program times plan a.table.store stores marks k ≡ legality a plan runs
unfolding legality_in legality
legality_agreed {a} {k = k} holds plan stores marks runs stepped left =
    let paired = pairs_agreed holds marks runs stepped in
    let guessed = guesses_agreed a plan runs stores k holds.total left in
    λ i. ◌>>◌ (paired.0 i) (◌>>◌ (paired.1 i) (guessed i))

-- ---- after a plan's run

-- what a rule's answer tells is the fault that it finds
module _ {rules : Checked ℕ (Unit {0})} where
  pub fault_none : {passed : Unit {0}} → outcome {P = ℕ} (Ok passed) ≡ rules → Ok tt ≡ fault_of rules
  unfolding fault_of
  fault_none is = rw (← is) refl

  pub fault_told : (e : Refused ℕ) → outcome (Err e) ≡ rules → Err (number_of e.why, e.place) ≡ fault_of rules
  unfolding fault_of
  fault_told e is = rw (← is) refl

module _ {ran : Result (Unit {0}) (ℕ × ℕ)} where
  -- the run's fault is the whole check's
  pub ran_first : {fault : ℕ × ℕ} → ran ≡ Err fault → (rules : Checked ℕ (Unit {0})) → Err fault ≡ fault_then ran rules
  unfolding fault_then
  ran_first there rules = rw there refl

  -- without one what is asked of the plan holds, and the rules decide
  module _ {made : Unit {0}} (there : ran ≡ Ok made) where
    pub run_asks : (P : Unit {0} → Type 0) → IfOk ran P → P made
    run_asks P asked = rw there at asked

    pub rules_left : (rules : Checked ℕ (Unit {0})) {fault : Result (Unit {0}) (ℕ × ℕ)} → fault ≡ fault_of rules
        → fault ≡ fault_then ran rules
    unfolding fault_then
    rules_left rules is = rw there is

-- ---- the first refusal of the three

module _ (program times : List ℕ) (plan : Plan) (store : Store) (stores : List ℕ) (marks : Marks) (k : ℕ) where
  abbrev rules : Checked ℕ (Unit {0})
  rules = legality_in program times plan store stores marks k

  pub order_first_lem : (e : Refused ℕ)
      → outcome (Err e) ≡ pair_fault_in 43 (order_faulty program times marks) k → outcome (Err e) ≡ rules
  unfolding legality_in
  order_first_lem e is = fault_decides _ _ e is

  -- without one the rest decides
  module _ (ordered : outcome {P = ℕ} (Ok tt) ≡ pair_fault_in 43 (order_faulty program times marks) k) where
    pub lock_next : (e : Refused ℕ)
        → outcome (Err e) ≡ pair_fault_in 44 (lock_faulty program times marks) k → outcome (Err e) ≡ rules
    unfolding legality_in
    lock_next e is = rest_decides _ _ tt (Err e) ordered (fault_decides _ _ e is)

    pub guess_last_lem : outcome {P = ℕ} (Ok tt) ≡ pair_fault_in 44 (lock_faulty program times marks) k
        → (r : Result (Unit {0}) (Refused ℕ)) → outcome r ≡ guess_fault_in plan store stores k → outcome r ≡ rules
    unfolding legality_in
    guess_last_lem locked r is = rest_decides _ _ tt r ordered (rest_decides _ _ tt r locked is)
