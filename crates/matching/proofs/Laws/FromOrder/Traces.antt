-- An order so far, beside the history that it makes: what holds of both after each step. The history's reading by
-- rows is the order; its reading by columns gives each active job's own state, which jobs have ended and failed, and
-- the stores that the rounds left.
-- Assumes nothing.
use Rattle.std.specs.Prelude.{◌≡◌, ℕ, suc, ◌+◌, ◌<◌, true, false, List, [], length, get_or}
use Rattle.timing.specs.Accepted.{Accepted}
use Rattle.machine.specs.Ends.{no_store}
use Rattle.machine.specs.Instructions.{Store}
use Rattle.order.specs.declared.Frame.{Frame}
use Rattle.order.specs.Code.Invariant.{has_begun}
use Rattle.order.specs.States.{State, has_ended, is_active}
use Rattle.plan.specs.Runs.{job_total}
use Rattle.matching.proofs.Laws.History.Histories.{Marks, job, in_round, rows, unbegun, columns}
use Rattle.order.specs.OrderSteps.{ended_count}

-- after the steps `done`, in round r, with the guesses so far
pub record Traced (a : Accepted) (s : State) (r : ℕ) (guesses : List Store) (h : Marks) (done : List ℕ) : Type 0 where
  pub listed : length h ≡ job_total a
  pub guessed : length guesses ≡ job_total a
  pub wide : length s.failed ≡ 32
  -- a round ends with a job's End
  pub ends : ended_count a s ≡ r
  pub by_rows : rows a (job_total a) h ≡ done
  -- each active job's own state, and which jobs have ended and failed
  pub locals : (k : ℕ) (d : Frame) → k < length s.active
      → (get_or (columns a h guesses).jobs (get_or s.active k d).job.0 unbegun).local ≡ (get_or s.active k d).local
  pub endings : (x : ℕ) → x < job_total a → (get_or (columns a h guesses).jobs x unbegun).ended ≡ has_ended s (job x)
  pub failures : (x : ℕ) → x < job_total a
      → (get_or (columns a h guesses).jobs x unbegun).failed ≡ get_or s.failed x false
  pub none_yet : (x : ℕ) → x < job_total a → has_begun s (job x) ≡ false → get_or h x [] ≡ []
  -- the store of this round, those that earlier rounds left, and the last
  pub present : r < job_total a → get_or (columns a h guesses).stores r no_store ≡ s.store
  pub past : (q : ℕ) → q < r → q + 1 < job_total a
      → get_or (columns a h guesses).stores q no_store ≡ get_or guesses (q + 1) no_store
  pub final : (q : ℕ) → suc q ≡ r → r ≡ job_total a → get_or (columns a h guesses).stores q no_store ≡ s.store
  -- no step is in a later round, and the jobs with a step in this one are active
  pub later : (y q : ℕ) → r < q → in_round q (get_or h y []) ≡ []
  pub here : (y : ℕ) → (in_round r (get_or h y []) ≡ [] → ⊥) → is_active s (job y) ≡ true
