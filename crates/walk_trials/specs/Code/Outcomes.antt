-- The outcomes of a walk, as its functions yield them, and what they answer.
-- Assumes nothing.
use Rattle.std.specs.Prelude.{ℕ, ◌<◌, ◌^◌}
use Rattle.std.specs.Prelude.{if◌then◌else◌}
use Rattle.notation.specs.Lists.{any}
use Rattle.machine.specs.Ends.{no_store, no_flags}
use Rattle.machine.specs.declared.End.{End}
use Rattle.order_states.specs.Code.Snapshots.{Snapshot}
use Rattle.walk.specs.declared.Verdict.TheVariants.{Holds, Fails}
use Rattle.walk.specs.declared.WalkAnswer.{WalkAnswer}
use Rattle.walk.specs.WalkEntry.{refusal}
use Rattle.walk_trials.specs.declared.Outcome as whole
use Rattle.walk_trials.specs.declared.Outcome.{Outcome}
use Rattle.walk_trials.specs.declared.Reached.{Reached}
use Rattle.walk_trials.specs.declared.Trial as trying
use Rattle.walk_trials.specs.declared.Trial.{Trial}

-- how a snapshot's order ends
abbrev pub end_in : Snapshot → End
end_in p = record { store = p.store; failed = p.failed }

-- what a walk comes to at a complete order of this length: the order is found, if a job has failed
unfoldable pub ended_at : Snapshot → ℕ → Trial
ended_at p at = if any (λ flag. flag) p.failed then trying.TheVariants.Found at else trying.TheVariants.Held

-- what a walk comes to whose trial came to this after so many moves, and left this snapshot, in which an order found
-- ends
abbrev pub outcome_of : Trial → ℕ → Snapshot → Outcome
outcome_of trying.TheVariants.Held count p = whole.TheVariants.Held count
outcome_of trying.TheVariants.Stopped count p = whole.TheVariants.Stopped
outcome_of (trying.TheVariants.Found length) count p = whole.TheVariants.Found count length (end_in p)

-- the same, with the moves made and the end of the snapshot left, whatever the walk comes to
abbrev pub reached : Trial → ℕ → Snapshot → Reached
reached r count p = record { outcome = outcome_of r count p; count = count; end = end_in p }

-- the length of an order found fits an answer
abbrev pub Short : Outcome → Type 0
Short whole.TheVariants.Stopped = Unit {0}
Short (whole.TheVariants.Held count) = Unit {0}
Short (whole.TheVariants.Found count length end) = length < 2 ^ 32

-- what an outcome answers
unfoldable pub answer_of : Outcome → WalkAnswer
answer_of whole.TheVariants.Stopped = refusal 21 0
answer_of (whole.TheVariants.Held count) =
    record { number = 0; place = 0; verdict = Holds; count = count; length = 0; store = no_store; failed = no_flags }
answer_of (whole.TheVariants.Found count length end) =
    record {
      number = 0;
      place = 0;
      verdict = Fails;
      count = count;
      length = length;
      store = end.store;
      failed = end.failed;
    }

-- how many bytes of the buffer are an order to show
unfoldable pub shown_length : Outcome → ℕ
shown_length whole.TheVariants.Stopped = 0
shown_length (whole.TheVariants.Held count) = 0
shown_length (whole.TheVariants.Found count length end) = length
