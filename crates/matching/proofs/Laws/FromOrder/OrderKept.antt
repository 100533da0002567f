-- What holds of an order so far and its trace together: the trace is that of the order, its jobs' runs are allowed as
-- far as they have gone, and its steps are paired as the order's are. It holds where an order starts.
-- Assumes nothing.
use Rattle.std.specs.Prelude.{◌≡◌, ℕ, ◌≤◌, ◌<◌, Bool, false, List, [], length, get_or, replicate}
use Rattle.std.proofs.Common.{sym, ap, subst, ◌∙◌, arith}
use Rattle.timing.specs.Accepted.{Accepted}
use Rattle.timing.specs.Code.IsAccepted.{IsAccepted}
use Rattle.machine.specs.Ends.{no_flags}
use Rattle.machine.specs.Instructions.{Store}
use Rattle.order.specs.States.{State, initial, has_ended}
use Rattle.order.proofs.Laws.StepLaws.{no_flag}
use Rattle.plan.specs.Runs.{job_total}
use Rattle.matching.proofs.Laws.History.Histories.{Marks, job, unbegun, columns, JobColumn}
use Rattle.matching.proofs.Laws.TwoJobs.PairedLaws.{paired_initial}
use Rattle.matching.proofs.Laws.TwoJobs.Pairings.{Made, Paired}
use Rattle.matching.proofs.Laws.History.PartLaws.{parts_none}
use Rattle.matching.proofs.Laws.History.Parts.{Part, Parts}
use Rattle.matching.proofs.Laws.FromOrder.TraceLaws.{traced_initial, start_column}
use Rattle.matching.proofs.Laws.FromOrder.TraceStepLaws.{guess_length, first_guess_lem}
use Rattle.matching.proofs.Laws.FromOrder.TraceSteps.{Trace, first_guess, start_trace}
use Rattle.matching.proofs.Laws.FromOrder.Traces.{Traced}

-- each job's steps, by the columns of a history
abbrev pub steps_by : Accepted → Marks → List Store → Made
steps_by a h guesses = λ x. (get_or (columns a h guesses).jobs x unbegun).steps

-- after the steps `done`, in round r, with the trace t
pub record OrderKept (a : Accepted) (s : State) (r : ℕ) (t : Trace) (done : List ℕ) : Type 0 where
  pub follows : Traced a s r t.guesses t.marks done
  pub parts : Parts a t.marks t.guesses (λ x. has_ended s (job x))
  pub pairs : Paired a s r (steps_by a t.marks t.guesses)
  -- a store has 8 bytes, and so has each guess so far
  pub eight : length s.store ≡ 8
  pub eights : (q : ℕ) → q ≤ r → q < job_total a → length (get_or t.guesses q []) ≡ 8
  -- no flag is raised but those of the jobs
  pub unraised : (x : ℕ) → job_total a ≤ x → get_or s.failed x false ≡ false

-- runs of which another test says the same
pub parts_same : (a : Accepted) (h : Marks) (S : List Store) (before after : ℕ → Bool)
    → ((x : ℕ) → x < length h → after x ≡ before x) → Parts a h S before → Parts a h S after
parts_same a h S before after same parts x below = subst (Part a h S x) (sym (same x below)) (parts x below)

-- ---- where an order starts

-- no job has made a step
start_steps : (a : Accepted) (guesses : List Store) (x : ℕ) → steps_by a (replicate (job_total a) []) guesses x ≡ []
unfolding unbegun
start_steps a guesses x = ap (λ (c : JobColumn). c.steps) (start_column a guesses x)

start_ended : (a : Accepted) (x : ℕ) → has_ended (initial a) (job x) ≡ false
unfolding initial has_ended no_flags job
start_ended a x = no_flag 32 x

pub kept_initial : {a : Accepted} → IsAccepted a → OrderKept a (initial a) 0 (start_trace a) []
unfolding start_trace initial no_flags
kept_initial {a} ok =
    let guesses : List Store = first_guess a.table.store (job_total a) in
    let none : Marks = replicate (job_total a) [] in
    record {
      follows = traced_initial ok guesses (guess_length a.table.store (job_total a)) (first_guess_lem a.table.store (job_total a) _);
      parts = parts_same a none guesses (λ x. false) (λ x. has_ended (initial a) (job x)) (λ x below. start_ended a x) (parts_none a (job_total a) guesses);
      pairs = subst (Paired a (initial a) 0) (λ i x. sym (start_steps a guesses x) i) (paired_initial a);
      eight = ok.is_made.store;
      eights = λ q le lt.
          (let place : q ≡ 0 = omega arith in
          ap (λ (k : ℕ). length (get_or guesses k [])) place
          ∙ ap length (first_guess_lem a.table.store (job_total a) [] (omega arith))
          ∙ ok.is_made.store);
      unraised = λ x le. no_flag 32 x;
    }
