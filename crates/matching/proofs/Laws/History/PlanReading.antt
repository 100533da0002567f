-- A plan as its guesses and its history: the bytes that a history takes in a plan, and which histories are runs of
-- every job to its End. Document 01, "Round plans": "k; then k stores of 8 bytes, the guessed start of each round;
-- then for each job in number order, for each of its steps, two bytes: round, Pick value or 0."
-- Assumes nothing.
use Rattle.std.specs.Prelude.{◌≡◌, ◌⊎◌, ℕ, suc, ◌+◌, ◌*◌, ◌≤◌, ◌<◌, true, false, List, [], ◌∷◌, ◌++◌, map, length, get_or}
use Rattle.taskfile.specs.Judgement.{instruction_of}
use Rattle.notation.specs.Lists.{member, each}
use Rattle.taskfile.specs.Tables.{ceilings_of}
use Rattle.timing.specs.Accepted.{Accepted}
use Rattle.timing.specs.Relations.{base, job_at}
use Rattle.machine.specs.declared.Effect.{Effect}
use Rattle.machine.specs.Ends.{Flags, no_flags, flagged}
use Rattle.machine.specs.Held.{priority}
use Rattle.machine.specs.Instructions.{Store, values}
use Rattle.plan.specs.Runs as runs
use Rattle.plan.specs.Runs.{Plan, Step, JobRuns, job_total, round_numbers, guess}
use Rattle.matching.proofs.Laws.History.Histories.{Mark, Marks, JobColumn, ColumnRun, job, unbegun, mark_step, run_marks, columns_from}

-- "for each of its steps, two bytes: round, Pick value or 0"
unfoldable pub marks_bytes : List Mark → List ℕ
marks_bytes ms = each ms (λ m. m.round ∷ m.value ∷ [])

-- the plan with these guesses and this history
unfoldable pub written : Accepted → List Store → Marks → Plan
written a guesses h = job_total a ∷ (each guesses (λ store. store) ++ each h marks_bytes)

-- the guesses of a plan
unfoldable pub guesses_of : Accepted → Plan → List Store
guesses_of a plan = map (guess plan) (round_numbers a)

-- each guess has 8 bytes
abbrev pub Eights : List Store → Type 0
Eights guesses = (r : ℕ) → r < length guesses → length (get_or guesses r []) ≡ 8

-- where the run of a plan with these guesses starts
unfoldable pub guessed : Accepted → List Store → runs.RunState
guessed a guesses = record { offset = 1 + 8 * job_total a; stores = guesses; failed = no_flags }

-- a step's mark
unfoldable pub mark_of : Step → Mark
mark_of step = record { round = step.round.0; value = step.value }

-- the step that a mark makes
unfoldable pub step_of : Accepted → ℕ → Mark → Effect → Step
step_of a x m effect =
    record {
      round = record { 0 = m.round };
      value = m.value;
      priority_after = priority (ceilings_of a.table) (base a (job x)) effect.local.held;
    }

-- the marks of a plan's run
unfoldable pub marks_of : JobRuns → Marks
marks_of all = map (map mark_of) all.steps

-- the step of job x in c may have this mark: a round of the plan, not before the previous one, and a value on offer
pub record Allowed (a : Accepted) (x previous : ℕ) (m : Mark) (c : ColumnRun) : Type 0 where
  pub in_plan : m.round < job_total a
  pub in_order : previous ≤ m.round
  pub on_offer : member m.value (values (instruction_of a.table (job_at a (job x)).task c.column.local.next))
      ≡ true

-- the marks of job x from here on are a run to its End
abbrev pub Whole : Accepted → ℕ → ℕ → List Mark → ColumnRun → Type 0
Whole a x previous [] c = ⊥
Whole a x previous (m ∷ ms) c =
    Allowed a x previous m c
    × ((((mark_step a x m c).column.ended ≡ true) × (ms ≡ []))
    ⊎ (((mark_step a x m c).column.ended ≡ false) × Whole a x m.round ms (mark_step a x m c)))

-- the jobs from number x on are each such a run, on the stores that those before them left
abbrev pub AllWhole : Accepted → ℕ → Marks → List Store → Type 0
AllWhole a x [] stores = Unit {0}
AllWhole a x (ms ∷ h) stores =
    Whole a x 0 ms (record { column = unbegun; stores = stores })
    × AllWhole a (suc x) h (run_marks a x ms (record { column = unbegun; stores = stores })).stores

-- where a plan's run stands with the stores of c
abbrev pub standing : ℕ → Flags → ColumnRun → runs.RunState
standing o flags c = record { offset = o; stores = c.stores; failed = flags }

-- the flags with those of the failed columns raised, the first of them being number x
unfoldable pub flags_from : ℕ → List JobColumn → Flags → Flags
flags_from x [] flags = flags
flags_from x (c ∷ cs) flags = flags_from (suc x) cs (flagged c.failed x flags)

-- the run of the jobs from number x on, read by columns: from an offset, each round's store and the failed jobs on
unfoldable pub columns_run : Accepted → ℕ → Marks → runs.RunState → JobRuns
columns_run a x h running =
    let read = columns_from a x h running.stores in
    record {
      steps = map (λ c. c.steps) read.jobs;
      running =
          record {
            offset = running.offset + length (each h marks_bytes);
            stores = read.stores;
            failed = flags_from x read.jobs running.failed;
          };
    }
