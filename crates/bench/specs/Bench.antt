-- The bench cases. Document 01, "Bench cases": "P1 to P13 form one table, and one theorem shows that the definitions
-- meet every row". `BenchCases` is the table, a field for each row; `bench` is the theorem.
-- Assumes nothing.
use Rattle.std.specs.Prelude.{◌≡◌, refl, ℕ, Bool, true, false, List, [], ◌∷◌, ◌++◌, replicate}
use Rattle.notation.specs.Checked.{Checked, refused, passed}
use Rattle.taskfile.specs.Records.{File}
use Rattle.timing.specs.declared.Job.{Job}
use Rattle.timing.specs.declared.ReadAnswer.{ReadAnswer}
use Rattle.timing.specs.Accepted.{Accepted, accept}
use Rattle.timing.specs.ReadEntries.{read_answer}
use Rattle.timing.specs.Relations.{before, may_preempt}
use Rattle.timing.specs.Response.{response_of}
use Rattle.machine.specs.declared.RunAnswer.{RunAnswer}
use Rattle.machine.specs.Ends.{Flags, no_flags, no_store}
use Rattle.order.specs.Replay.{replay_answer}
use Rattle.walk.specs.declared.Verdict.TheVariants.{Holds, Fails}
use Rattle.walk.specs.WalkEntry.{walk_answer, walk_after, refusal}
use Rattle.plan.specs.Plans.{plan_answer}
use Rattle.matching.specs.ConversionEntries.{order_to_plan_answer, order_to_plan_after, plan_to_order_answer, plan_to_order_after}
use Rattle.bench.specs.Files.{one_task, two_tasks, table_x}
use Rattle.bench.specs.Laws.Opened.{all_opened}
use Rattle.bench.specs.Laws.Overload.{p4}

-- ---- what the rows say, in short words

abbrev pub reads_as : List ℕ → ℕ → ReadAnswer
reads_as responses jobs = record { number = 0; place = 0; responses = responses; jobs = jobs }

abbrev pub read_refused : ℕ → ℕ → ReadAnswer
read_refused number place = record { number = number; place = place; responses = replicate 8 0; jobs = 0 }

abbrev pub ends_as : List ℕ → Flags → ℕ → RunAnswer
ends_as store failed length = record { number = 0; place = 0; store = store; failed = failed; length = length }

abbrev pub run_refused : ℕ → ℕ → RunAnswer
run_refused number place =
    record { number = number; place = place; store = no_store; failed = no_flags; length = 0 }

-- what a test says of the table of an accepted file
unfoldable pub of_table : Checked ℕ Accepted → (Accepted → Bool) → Bool
of_table (refused number place) test = false
of_table (passed a) test = test a

abbrev pub job_numbered : ℕ → Job
job_numbered n = record { 0 = n }

abbrev pub comes_before : File → ℕ → ℕ → Type 0
comes_before f x y = of_table (accept f) (λ a. before a (job_numbered x) (job_numbered y)) ≡ true

abbrev pub preempts : File → ℕ → ℕ → Type 0
preempts f y x = of_table (accept f) (λ a. may_preempt a (job_numbered y) (job_numbered x)) ≡ true

-- "C/P 2/8, 1/4" with first arrivals of 0 and a, and window W
abbrev pub p1_table : ℕ → ℕ → File
p1_table window a = two_tasks window 2 8 0 1 4 a

-- a lent buffer of 512 bytes, and one of 1,281
abbrev pub lent : ℕ → List ℕ
lent n = replicate n 255

-- variable 0 is 1, and the others 0; job 0 failed
abbrev pub store_x : List ℕ
store_x = 1 ∷ replicate 7 0

abbrev pub failed_x : Flags
failed_x = true ∷ replicate 31 false

abbrev pub order_x : List ℕ
order_x = 0 ∷ 16 ∷ 16 ∷ 16 ∷ 0 ∷ 0 ∷ 0 ∷ 0 ∷ []

-- "plan of 33 bytes: 2; eight 0; 1 and seven 0; job 0 rounds 0 1 1 1 1; job 1 rounds 0 0 0; values 0", where the
-- rounds of job 1 are r
abbrev pub plan_x : ℕ → List ℕ
plan_x r =
    2 ∷ replicate 8 0 ++ (1 ∷ replicate 7 0) ++ (0 ∷ 0 ∷ 1 ∷ 0 ∷ 1 ∷ 0 ∷ 1 ∷ 0 ∷ 1 ∷ 0 ∷ [])
    ++ (r ∷ 0 ∷ r ∷ 0 ∷ r ∷ 0 ∷ [])

-- "one task, A 5, W 5"
abbrev pub no_jobs : File
no_jobs = one_task 5 1 1 5

-- ---- the table

pub record BenchCases : Type 0 where
  -- "C/P 2/8, 1/4: responses 3 and 1."
  pub P1 : read_answer (p1_table 8 0) ≡ reads_as (3 ∷ 1 ∷ replicate 6 0) 3
  -- "2/8, 3/4: 8 and 3, accepted."
  pub P2 : read_answer (two_tasks 8 2 8 0 3 4 0) ≡ reads_as (8 ∷ 3 ∷ replicate 6 0) 3
  -- "3/8, 3/4: 10 (R passes 8 at 9)."
  pub P3 : read_answer (two_tasks 8 3 8 0 3 4 0) ≡ read_refused 10 1
  -- "3,000,000,000/4,000,000,000 and 1,500,000,000/3,000,000,000: 10"
  pub P4 : read_answer (two_tasks 8 3_000_000_000 4_000_000_000 0 1_500_000_000 3_000_000_000 0) ≡ read_refused 10 1
  -- "one task 1/1, A 0: W 32 gives 32 jobs, W 33 gives 11."
  pub P5 : (read_answer (one_task 32 1 1 0) ≡ reads_as (1 ∷ replicate 7 0) 32)
      × (read_answer (one_task 33 1 1 0) ≡ read_refused 11 0)
  -- "P1 with A 0 and 1, W 8: job 1 may preempt job 0; jobs 0 and 1 come before job 2."
  pub P6 : preempts (p1_table 8 1) 1 0 × comes_before (p1_table 8 1) 0 2 × comes_before (p1_table 8 1) 1 2
  -- "P1, W 4, job 0 at 0, task 1's A 0: its job comes before job 0; A 2: may preempt it; A 3: job 0 before it."
  pub P7 : comes_before (p1_table 4 0) 1 0 × preempts (p1_table 4 2) 1 0 × comes_before (p1_table 4 3) 0 1
  -- "X's order above: variable 0 ends 1, failed job 0."
  pub P8 : replay_answer table_x order_x ≡ ends_as store_x failed_x 0
  -- "X, order 0 16 16 0: 30 at 3."
  pub P9 : replay_answer table_x (0 ∷ 16 ∷ 16 ∷ 0 ∷ []) ≡ run_refused 30 3
  -- "X, plan of 33 bytes: ..: accepted as P8."
  pub P10 : plan_answer table_x (plan_x 0) ≡ ends_as store_x failed_x 0
  -- "P10 with job 1 in rounds 1 1 1: 43 at 0."
  pub P11 : plan_answer table_x (plan_x 1) ≡ run_refused 43 0
  -- "one task, A 5, W 5: no jobs, holds with count 0, empty order, plan the byte 0."
  pub P12 : (walk_answer no_jobs 0 (lent 512)
      ≡ record { number = 0; place = 0; verdict = Holds; count = 0; length = 0; store = no_store; failed = no_flags })
      × (walk_after no_jobs 0 (lent 512) ≡ replicate 512 0)
      × (replay_answer no_jobs [] ≡ ends_as no_store no_flags 0)
      × (order_to_plan_answer no_jobs [] (lent 1281) ≡ ends_as no_store no_flags 1)
      × (order_to_plan_after no_jobs [] (lent 1281) ≡ 0 ∷ replicate 1280 0)
      × (plan_to_order_answer no_jobs (0 ∷ []) (lent 512) ≡ ends_as no_store no_flags 0)
      × (plan_to_order_after no_jobs (0 ∷ []) (lent 512) ≡ replicate 512 0)
  -- "X with allowance 23: fails; 22: 21."
  pub P13 : (walk_answer table_x 23 (lent 512)
      ≡ record { number = 0; place = 0; verdict = Fails; count = 23; length = 8; store = store_x; failed = failed_x })
      × (walk_after table_x 23 (lent 512) ≡ order_x ++ replicate 504 0)
      × (walk_answer table_x 22 (lent 512) ≡ refusal 21 0)
      × (walk_after table_x 22 (lent 512) ≡ replicate 512 0)

-- ---- the theorem

pub bench : BenchCases
unfolding all_opened response_of of_table
bench =
    record {
      P1 = refl;
      P2 = refl;
      P3 = refl;
      P4 = p4;
      P5 = (refl, refl);
      P6 = (refl, refl, refl);
      P7 = (refl, refl, refl);
      P8 = refl;
      P9 = refl;
      P10 = refl;
      P11 = refl;
      P12 = (refl, refl, refl, refl, refl, refl, refl);
      P13 = (refl, refl, refl, refl);
    }
