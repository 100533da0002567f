-- Computed examples of round plans: legal plans with their ends, and each of 40 to 45 with its place.
-- Assumes nothing.
use Rattle.std.specs.Prelude.{◌≡◌, refl, ℕ, List, [], ◌∷◌, ◌++◌, take}
use Rattle.notation.specs.Checked.{Checked, refused, passed}
use Rattle.notation.specs.Lists.{each}
use Rattle.machine.specs.Ends.{Flags, no_flags, no_store}
use Rattle.machine.specs.declared.End.{End}
use Rattle.machine.specs.Instructions.{Store}
use Rattle.examples.specs.Laws.Opened.{opened}
use Rattle.examples.specs.Laws.Samples.{nest, pair, idle, twice, sensor, samples_opened, two_set, first_failed}
use Rattle.plan.proofs.Laws.Opened.{plans_opened}
use Rattle.plan.specs.Plans.{check_plan}
use Rattle.plan.specs.Runs.{Plan}

-- ---- what the examples say, in short words

-- steps in these rounds, each with the value 0
abbrev steps : List ℕ → List ℕ
steps rounds = each rounds (λ r. r ∷ 0 ∷ [])

-- a plan of the table `nest`: the guesses, the rounds of jobs 0 and 1, what job 2 picks, and its rounds
abbrev plan_of : List Store → List ℕ → List ℕ → ℕ → ℕ → List ℕ → Plan
plan_of guesses first second picked start third =
    3 ∷ each guesses (λ g. g) ++ steps first ++ steps second ++ start ∷ picked ∷ steps third

-- the guesses of the nested plan: job 2 leaves 2 in variable 1, and then job 1 leaves 1 in variable 0
abbrev guesses : List Store
guesses = no_store ∷ two_set 0 2 ∷ two_set 1 2 ∷ []

-- the rounds of the nested plan, where the guesses and what job 2 picks are these
abbrev nested_with : List Store → ℕ → Plan
nested_with stores picked = plan_of stores (0 ∷ 0 ∷ 2 ∷ 2 ∷ 2 ∷ []) (0 ∷ 1 ∷ 1 ∷ []) picked 0 (0 ∷ 0 ∷ [])

-- Job 2 is nested in job 1 and that in job 0. The steps of job 0 stand at offsets 25 to 34, those of job 1 at 35 to
-- 40 and those of job 2 at 41 to 46.
abbrev nested : Plan
nested = nested_with guesses 2

-- as `nested`, where job 0 has these rounds
abbrev with_first : List ℕ → Plan
with_first rounds = plan_of guesses rounds (0 ∷ 1 ∷ 1 ∷ []) 2 0 (0 ∷ 0 ∷ [])

-- jobs 1 and 2 overlap and neither is nested, where job 0 has these rounds
abbrev overlapping : List ℕ → Plan
overlapping rounds = plan_of guesses rounds (0 ∷ 0 ∷ 0 ∷ []) 2 0 (1 ∷ 1 ∷ [])

-- a plan of the table `pair`: the round of each job's one step
abbrev pair_plan : ℕ → ℕ → Plan
pair_plan x y = 2 ∷ no_store ++ no_store ++ steps (x ∷ y ∷ [])

-- a plan of the table `twice`: job 1 in round 0, where job 0 has these rounds
abbrev twice_plan : List ℕ → Plan
twice_plan rounds = 2 ∷ no_store ++ no_store ++ steps rounds ++ steps (0 ∷ [])

-- a plan of the table `sensor`: what its job picks, and the rounds of its other steps
abbrev sensor_plan : ℕ → List ℕ → List ℕ
sensor_plan picked rounds = 1 ∷ no_store ++ 0 ∷ picked ∷ steps rounds

abbrev ends_with : Store → Flags → Checked ℕ End
ends_with store failed = passed (record { store = store; failed = failed })

-- ---- the examples

pub record PlanExamples : Type 0 where
  -- a nested plan is legal. Its end store is that of the last round
  pub legal : check_plan nest nested ≡ ends_with (two_set 1 2) no_flags
  -- job 2 is nested in job 0 while that holds a lock whose ceiling is below job 2's base; job 0 then fails its
  -- assertion
  pub legal_under_lock : check_plan nest
      (plan_of (no_store ∷ two_set 0 2 ∷ two_set 0 2 ∷ []) (0 ∷ 1 ∷ 1 ∷ 1 ∷ 1 ∷ []) (2 ∷ 2 ∷ 2 ∷ []) 2 0 (0 ∷ 0 ∷ []))
      ≡ ends_with (two_set 1 2) first_failed
  -- job 1 comes before job 0
  pub legal_before : check_plan pair (pair_plan 1 0) ≡ ends_with no_store no_flags
  -- with no job the end store is the initial store
  pub legal_idle : check_plan idle (0 ∷ []) ≡ ends_with (two_set 5 0) no_flags
  -- "40 SHAPE: first byte not k, bytes run out, or bytes left over"
  pub shape_empty : check_plan nest [] ≡ refused 40 0
  pub shape_first : check_plan nest (2 ∷ []) ≡ refused 40 0
  pub shape_guesses : check_plan nest (take 10 nested) ≡ refused 40 10
  pub shape_steps : check_plan nest (take 46 nested) ≡ refused 40 46
  pub shape_left : check_plan nest (nested ++ (0 ∷ [])) ≡ refused 40 47
  -- "41 VALUE: not a value its instruction allows": an Acquire has the value 0 alone, the Pick 0 to 3
  pub value_fixed : check_plan nest (take 25 nested ++ (0 ∷ 1 ∷ []) ++ steps (0 ∷ [])) ≡ refused 41 26
  pub value_picked : check_plan nest (nested_with guesses 4) ≡ refused 41 42
  -- document 02, E7: a Pick of 3 to 6
  pub value_below : check_plan sensor (sensor_plan 2 (0 ∷ 0 ∷ 0 ∷ [])) ≡ refused 41 10
  pub value_lowest : check_plan sensor (sensor_plan 3 (0 ∷ 0 ∷ 0 ∷ [])) ≡ ends_with no_store no_flags
  pub value_highest : check_plan sensor (sensor_plan 6 (0 ∷ 0 ∷ 0 ∷ 0 ∷ [])) ≡ ends_with no_store first_failed
  pub value_above : check_plan sensor (sensor_plan 7 (0 ∷ 0 ∷ 0 ∷ 0 ∷ [])) ≡ refused 41 10
  -- "42 ROUND: at least k, or below the job's previous step"
  pub round_many : check_plan nest (with_first (0 ∷ 0 ∷ 2 ∷ 2 ∷ 3 ∷ [])) ≡ refused 42 33
  pub round_back : check_plan nest (with_first (0 ∷ 0 ∷ 2 ∷ 1 ∷ 2 ∷ [])) ≡ refused 42 31
  -- "per step 40, 42, 41"
  pub round_first : check_plan nest (take 25 nested ++ (3 ∷ 1 ∷ [])) ≡ refused 42 25
  -- "43 ORDER": jobs 1 and 2 overlap, and neither is nested
  pub order_overlap : check_plan nest (overlapping (0 ∷ 0 ∷ 2 ∷ 2 ∷ 2 ∷ [])) ≡ refused 43 1
  -- job 0 steps in round 1, after job 1's start and not after its end
  pub order_step : check_plan nest (with_first (0 ∷ 0 ∷ 1 ∷ 2 ∷ 2 ∷ [])) ≡ refused 43 0
  -- job 1 comes before job 0, and shares its round or comes after it
  pub order_shared : check_plan pair (pair_plan 0 0) ≡ refused 43 0
  pub order_back : check_plan pair (pair_plan 0 1) ≡ refused 43 0
  -- "44 LOCK": job 0 holds a lock with the ceiling 1 when job 1, whose base is 1, starts within it
  pub lock : check_plan nest (with_first (0 ∷ 2 ∷ 2 ∷ 2 ∷ 2 ∷ [])) ≡ refused 44 0
  -- document 02, E3: a lock taken twice and released once is held, and released twice it is free
  pub lock_once : check_plan twice (twice_plan (0 ∷ 0 ∷ 0 ∷ 0 ∷ 1 ∷ 1 ∷ 1 ∷ [])) ≡ refused 44 0
  pub lock_twice : check_plan twice (twice_plan (0 ∷ 0 ∷ 0 ∷ 0 ∷ 0 ∷ 1 ∷ 1 ∷ [])) ≡ ends_with no_store no_flags
  -- 43 of any pair goes before 44
  pub order_first : check_plan nest (overlapping (0 ∷ 2 ∷ 2 ∷ 2 ∷ 2 ∷ [])) ≡ refused 43 1
  -- "45 GUESS: lowest round whose guess is wrong"
  pub guess_first : check_plan nest (nested_with (two_set 1 0 ∷ no_store ∷ no_store ∷ []) 2) ≡ refused 45 0
  pub guess_next : check_plan nest (nested_with (no_store ∷ no_store ∷ no_store ∷ []) 2) ≡ refused 45 1
  pub guess_last : check_plan nest (nested_with (no_store ∷ two_set 0 2 ∷ two_set 0 2 ∷ []) 2) ≡ refused 45 2

pub plan_examples : PlanExamples
unfolding opened samples_opened plans_opened
plan_examples =
    record {
      legal = refl;
      legal_under_lock = refl;
      legal_before = refl;
      legal_idle = refl;
      shape_empty = refl;
      shape_first = refl;
      shape_guesses = refl;
      shape_steps = refl;
      shape_left = refl;
      value_fixed = refl;
      value_picked = refl;
      value_below = refl;
      value_lowest = refl;
      value_highest = refl;
      value_above = refl;
      round_many = refl;
      round_back = refl;
      round_first = refl;
      order_overlap = refl;
      order_step = refl;
      order_shared = refl;
      order_back = refl;
      lock = refl;
      lock_once = refl;
      lock_twice = refl;
      order_first = refl;
      guess_first = refl;
      guess_next = refl;
      guess_last = refl;
    }
