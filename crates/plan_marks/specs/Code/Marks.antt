-- What a plan's run is kept in. The stores of 32 rounds stand in 256 bytes, eight each. The marks of the steps stand in
-- an array of 512: at 16 times the job and the step's position the step's round, its value and the job's priority after
-- it. Beside them stands how many steps each job has.
-- Assumes nothing.
use Rattle.std.specs.Prelude.{ℕ, ◌+◌, ◌*◌, ◌<◌, List, map, get_or, set, replicate}
use Rattle.std.proofs.Math.Decide.{dec_lt}
use Rattle.std.proofs.Math.Seq.{paste}
use Rattle.notation.specs.Lists.{up_to, bytes_at}
use Rattle.machine.specs.Ends.{Flags}
use Rattle.machine.specs.Instructions.{Store}
use Rattle.plan.specs.declared.Round.{Round}
use Rattle.plan.specs.Runs.{Step, RunState, first_round}
use Rattle.taskfile.specs.Chains.{most_instructions}
use Rattle.timing.specs.Accepted.{most_jobs}
use Rattle.plan_marks.specs.declared.Marks.{Marks}
use Rattle.plan_marks.specs.declared.StepMark.{StepMark}
use Rattle.plan_marks.specs.Code.IsMarks.{none_are, one_more}

-- ---- the stores of the rounds

-- the store of round r
unfoldable pub store_at : List ℕ → ℕ → Store
store_at stores r = bytes_at stores (8 * r) 8

-- the stores of the first k rounds
unfoldable pub stores_in : List ℕ → ℕ → List Store
stores_in stores k = map (store_at stores) (up_to k)

-- the stores with that of round r replaced
unfoldable pub with_store : List ℕ → ℕ → Store → List ℕ
with_store stores r store = paste stores (8 * r) store 8

-- where a run of k rounds stands
unfoldable pub run_state_in : ℕ → List ℕ → Flags → ℕ → RunState
run_state_in k stores failed offset = record { offset = offset; stores = stores_in stores k; failed = failed }

-- ---- the marks of the steps

-- the step that a mark says, and the mark that says it
abbrev pub step_of : StepMark → Step
step_of mark = record { round = mark.round; value = mark.value; priority_after = mark.priority }

abbrev pub mark_for : Step → StepMark
mark_for step = record { round = step.round; value = step.value; priority = step.priority_after }

abbrev pub no_mark : StepMark
no_mark = record { round = first_round; value = 0; priority = 0 }

-- step n of job x
unfoldable pub step_marked : Marks → ℕ → ℕ → Step
step_marked marks x n = step_of (get_or marks.steps (16 * x + n) no_mark)

-- how many steps job x has
unfoldable pub step_count : Marks → ℕ → ℕ
step_count marks x = get_or marks.counts x 0

-- the steps of job x, and their rounds
unfoldable pub steps_marked : Marks → ℕ → List Step
steps_marked marks x = map (step_marked marks x) (up_to (step_count marks x))

unfoldable pub rounds_in : Marks → ℕ → List Round
rounds_in marks x = map (λ step. step.round) (steps_marked marks x)

-- the steps of job x in arrays of any marks
unfoldable pub steps_listed : List ℕ → List StepMark → ℕ → List Step
steps_listed counts steps x = map (λ n. step_of (get_or steps (16 * x + n) no_mark)) (up_to (get_or counts x 0))

-- the steps of the first k jobs
unfoldable pub steps_in : Marks → ℕ → List (List Step)
steps_in marks k = map (steps_marked marks) (up_to k)

-- the marks where no job has a step
abbrev pub no_marks : Marks
no_marks = record {
  counts = replicate most_jobs 0;
  steps = replicate (most_jobs * most_instructions) no_mark;
  is_marks = none_are no_mark;
}

-- the marks with step n of job x as its last, if there is a place for it
unfoldable pub marked_if : Marks → (x n : ℕ) → Step → Dec (n < most_instructions) → Marks
marked_if marks x n step (yes room) = record {
  counts = set marks.counts x (n + 1);
  steps = set marks.steps (16 * x + n) (mark_for step);
  is_marks = one_more marks.is_marks x n (mark_for step) room;
}
marked_if marks x n step (no full) = marks

unfoldable pub with_mark : Marks → ℕ → ℕ → Step → Marks
with_mark marks x n step = marked_if marks x n step (dec_lt n most_instructions)

-- the array of the rounds' stores: eight bytes for each round
abbrev pub stores_bytes : ℕ
stores_bytes = 256
