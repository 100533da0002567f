-- What the arrays of marks hold. Assumes nothing.
use Rattle.std.specs.Prelude.{◌≡◌, ℕ, ◌+◌, ◌*◌, ◌≤◌, ◌<◌, List, length, get_or, set, replicate}
use Rattle.std.proofs.Common.{◌∙◌, arith, length-set}
use Rattle.std.proofs.Math.Bridge.{le_prop}
use Rattle.std.proofs.Math.Nat.{ℕ_set}
use Rattle.std.proofs.Math.Decide.{ℕ_discrete, dec_lt}
use Rattle.std.proofs.Math.Seq.{get_or-set_same, get_or-set_other}
use Rattle.std.proofs.lemmas.List.{length-replicate, get_or-replicate, get_or_past}
use Rattle.taskfile.specs.Chains.{most_instructions}
use Rattle.timing.specs.Accepted.{most_jobs}
use Rattle.plan_marks.specs.declared.StepMark.{StepMark}

-- they have a number of steps for each job and a mark for each of its steps, and no job has more than sixteen
pub record IsMarks (counts : List ℕ) (steps : List StepMark) : Type 0 where
  pub counted : length counts ≡ most_jobs
  pub placed : length steps ≡ most_jobs * most_instructions
  pub few : (x : ℕ) → get_or counts x 0 ≤ most_instructions

-- where there are none
pub none_are : (mark : StepMark) → IsMarks (replicate most_jobs 0) (replicate (most_jobs * most_instructions) mark)
none_are mark = record {
  counted = length-replicate {A = ℕ} most_jobs 0;
  placed = length-replicate (most_jobs * most_instructions) mark;
  few = λ x. omega (arith, none x);
}
  where
    none : (x : ℕ) → ◌≡◌ {A = ℕ} (get_or (replicate most_jobs 0) x 0) 0
    none x = elim (dec_lt x most_jobs) [
      | yes is ↦ get_or-replicate {A = ℕ} most_jobs x 0 0 is
      | no past ↦ get_or_past (replicate most_jobs 0) x 0 (omega (arith, length-replicate {A = ℕ} most_jobs 0))
    ]

-- with one more
pub one_more : {counts : List ℕ} {steps : List StepMark} → IsMarks counts steps → (x n : ℕ) (mark : StepMark)
    → n < most_instructions → IsMarks (set counts x (n + 1)) (set steps (16 * x + n) mark)
one_more {counts} {steps} are x n mark room = record {
  counted = length-set counts x (n + 1) ∙ are.counted;
  placed = length-set steps (16 * x + n) mark ∙ are.placed;
  few = λ y. elim (ℕ_discrete y x) [
    | yes same ↦ rw same (here (dec_lt x (length counts)))
    | no apart ↦ rw (get_or-set_other counts x y (n + 1) 0 apart) (are.few y)
  ];
}
  where
    here : Dec (x < length counts) → get_or (set counts x (n + 1)) x 0 ≤ most_instructions
    here (yes is) = rw (get_or-set_same counts x (n + 1) 0 is) (omega arith)
    here (no past) = let out : length (set counts x (n + 1)) ≤ x = omega (arith, length-set counts x (n + 1)) in
        rw (get_or_past (set counts x (n + 1)) x 0 out) (omega arith)

-- it is one fact
pub IsMarks-prop : (counts : List ℕ) (steps : List StepMark) → IsProp (IsMarks counts steps)
IsMarks-prop counts steps = λ p q i. record {
  counted = ℕ_set _ _ p.counted q.counted i;
  placed = ℕ_set _ _ p.placed q.placed i;
  few = λ x. le_prop (p.few x) (q.few x) i;
}
