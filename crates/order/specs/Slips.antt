-- Which part of a step was wrong. Document 02, E1: "They want to hear whether the task doesn't exist, the job has no
-- turn, or the chosen value isn't on offer." `SlipLaws` proves it. "An order is accepted exactly as before": exactly
-- the complete orders are, by `CompleteLaws`.
-- Assumes nothing.
use Rattle.std.specs.Prelude.{◌≡◌, ◌↔◌, ℕ, ◌<◌, true, false, List, [], ◌∷◌, length, get_or, take}
use Rattle.std.proofs.Math.Option.{none, some}
use Rattle.notation.specs.Checked.{refused}
use Rattle.std.specs.Prelude.{if◌then◌else◌}
use Rattle.notation.specs.Lists.{member}
use Rattle.timing.specs.Accepted.{Accepted}
use Rattle.order.specs.OrderBytes.{task_of_byte}
use Rattle.order.specs.Orders.{turn_of, step, run}
use Rattle.order.specs.Replay.{is_task, replay}
use Rattle.order.specs.States.{State, initial, all_ended}

-- the number of a byte that is no step: "33 for a task number outside the table, then 30 for a job with no turn, then
-- 34 for a value"
unfoldable pub slip_of : Accepted → State → ℕ → ℕ
slip_of a s byte =
    if is_task a (task_of_byte byte)
    then elim (turn_of a s (task_of_byte byte)) [ none ↦ 30 | some turn ↦ 34 ]
    else 33

-- the three numbers
abbrev pub slips : List ℕ
slips = 33 ∷ 30 ∷ 34 ∷ []

-- the byte at this index is the first that is no step, and slips so: the bytes before it lead to a state in which not
-- all jobs have ended, and it is no allowed step from there
pub record SlipsAt (a : Accepted) (start : State) (order : List ℕ) (index number : ℕ) : Type 0 where
  pub inside : index < length order
  pub reached : State
  pub allowed : run a start (take index order) ≡ some reached
  pub unended : all_ended a reached ≡ false
  pub wrong : step a reached (get_or order index 0) ≡ none
  pub named : slip_of a reached (get_or order index 0) ≡ number

-- of an accepted table: the replay refuses an order by one of the three numbers exactly where a byte slips so
pub record SlipDemand (a : Accepted) : Type 0 where
  pub refuses : (order : List ℕ) (number index : ℕ)
      → ((replay a order ≡ refused number index) × (member number slips ≡ true))
      ↔ SlipsAt a (initial a) order index number
