-- An order's trace holds where the order starts, and every step keeps it.
-- Assumes nothing.
use Rattle.std.specs.Prelude.{◌≡◌, ◌⊎◌, ℕ, suc, ◌+◌, ◌*◌, ◌<◌, true, false, List, [], ◌∷◌, ◌++◌, length, get_or, set, replicate}
use Rattle.std.proofs.Math.Path.{refl, subst}
use Rattle.std.proofs.Common.{sym, ap, ◌∙◌, arith}
use Rattle.std.proofs.Math.Option.{some}
use Rattle.std.proofs.lemmas.List.{length-replicate}
use Rattle.notation.specs.Lists.{only}
use Rattle.timing.specs.declared.Job.{Job}
use Rattle.timing.specs.Accepted.{Accepted}
use Rattle.timing.specs.Code.IsAccepted.{IsAccepted}
use Rattle.timing.specs.Relations.{base}
use Rattle.machine.specs.declared.Effect.{Effect}
use Rattle.machine.specs.Ends.{no_store, no_flags}
use Rattle.machine.specs.Instructions.{Store, perform}
use Rattle.order.specs.OrderBytes.{task_of_byte, value_of_byte}
use Rattle.order.specs.Code.Invariant.{Invariant}
use Rattle.order.specs.Orders.{next_of, step}
use Rattle.order.specs.States.{State, initial, has_ended}
use Rattle.order.proofs.Laws.StepLaws.{GoodTurn, no_flag, good_turn, after_effect, AllowedStep, step_says}
use Rattle.plan.specs.Runs.{job_total}
use Rattle.matching.proofs.Laws.History.ColumnLaws.{columns_none}
use Rattle.matching.proofs.Laws.FromOrder.EndedLaws.{ended_none}
use Rattle.matching.proofs.Laws.History.Histories.{Mark, Marks, job, marked, in_round, JobColumn, unbegun, Columns, columns}
use Rattle.notation.specs.Laws.ElementLaws.{replicate_any}
use Rattle.matching.proofs.Laws.FromOrder.MovedLaws.{mark_at, moved_ended}
use Rattle.matching.proofs.Laws.History.RowLaws.{rows_none}
use Rattle.matching.proofs.Laws.FromOrder.Traces.{Traced}
use Rattle.matching.proofs.Laws.FromOrder.TurnTraceLaws.{GoesOn, Starts, turn_kind, step_after}
use Rattle.matching.proofs.Laws.FromOrder.TraceCases.{goes_traced, ends_traced}

-- ---- where an order starts

-- no job has a step
none_in : (n y q : ℕ) → in_round q (get_or (replicate n []) y []) ≡ []
unfolding in_round only
none_in n y q = ap (in_round q) (replicate_any {A = List Mark} n y [])

-- the columns are those of jobs not begun
pub start_column : (a : Accepted) (guesses : List Store) (x : ℕ)
    → get_or (columns a (replicate (job_total a) []) guesses).jobs x unbegun ≡ unbegun
start_column a guesses x =
    ap (λ (c : Columns). get_or c.jobs x unbegun) (columns_none a (job_total a) guesses) ∙ replicate_any (job_total a) x unbegun

-- with no step made, round 0 begins with the initial store
pub traced_initial : {a : Accepted} → IsAccepted a → (guesses : List Store) → length guesses ≡ job_total a
    → (0 < job_total a → get_or guesses 0 no_store ≡ a.table.store)
    → Traced a (initial a) 0 guesses (replicate (job_total a) []) []
unfolding initial has_ended no_flags unbegun job
traced_initial {a} ok guesses long starts = record {
  listed = length-replicate (job_total a) [];
  guessed = long;
  wide = refl;
  ends = ended_none a;
  by_rows = rows_none a (job_total a) (job_total a);
  locals = λ k d lt. absurd (omega arith);
  endings = λ x lt. ap (λ (c : JobColumn). c.ended) (start_column a guesses x) ∙ sym (no_flag 32 x);
  failures = λ x lt. ap (λ (c : JobColumn). c.failed) (start_column a guesses x) ∙ sym (no_flag 32 x);
  none_yet = λ x lt e. replicate_any (job_total a) x [];
  present = λ lt. ap (λ (c : Columns). get_or c.stores 0 no_store) (columns_none a (job_total a) guesses) ∙ starts lt;
  past = λ q lt inside. absurd (omega arith);
  final = λ q next whole. absurd (omega arith);
  later = λ y q lt. none_in (job_total a) y q;
  here = λ y made. absurd (made (none_in (job_total a) y 0));
}

-- ---- every step

-- "An order byte is 16 × task + value"
byte_parts : (byte task : ℕ) → task ≡ task_of_byte byte → 16 * task + value_of_byte byte ≡ byte
byte_parts byte task e = omega arith

module _ {a : Accepted} (ok : IsAccepted a) {s : State} (inv : Invariant a s) {r : ℕ} {guesses : List Store} {h : Marks} {done : List ℕ}
    (t : Traced a s r guesses h done) {byte : ℕ} {after : State} (made : AllowedStep a s byte after) where
  abbrev pub step_job : Job
  step_job = made.turn.frame.job

  abbrev pub step_marks : Marks
  step_marks = marked h step_job.0 (mark_at r (value_of_byte byte))

  abbrev effect : Effect
  effect = perform (next_of a made.turn.frame) (value_of_byte byte) made.turn.frame.local s.store

  kind : GoesOn s made.turn ⊎ Starts s made.turn
  kind = turn_kind a s (task_of_byte byte) made.due

  good : GoodTurn a s made.turn × (base a step_job ≡ task_of_byte byte)
  good = good_turn ok inv (task_of_byte byte) made.due

  -- its job has ended if the step was an End
  pub effect_ended : has_ended after step_job ≡ effect.ended
  effect_ended =
      ap (λ (next : State). has_ended next step_job) (sym (step_after made)) ∙ moved_ended ok inv t good.0 kind (value_of_byte byte) effect refl

  -- where the step's job has ended, the next round begins with the store left
  pub step_ends_lem : has_ended after step_job ≡ true
      → Traced a after (suc r) (set guesses (suc r) after.store) step_marks (done ++ (byte ∷ []))
  unfolding after_effect
  step_ends_lem ended =
      subst (λ (next : State). Traced a next (suc r) (set guesses (suc r) next.store) step_marks (done ++ (byte ∷ []))) (step_after made)
      (ends_traced ok inv t good.0 kind (value_of_byte byte) effect refl (sym effect_ended ∙ ended) byte (byte_parts byte _ good.1))

  -- else the round goes on
  pub step_goes : has_ended after step_job ≡ false → Traced a after r guesses step_marks (done ++ (byte ∷ []))
  step_goes goes =
      subst (λ (next : State). Traced a next r guesses step_marks (done ++ (byte ∷ []))) (step_after made)
      (goes_traced ok inv t good.0 kind (value_of_byte byte) effect refl (sym effect_ended ∙ goes) byte (byte_parts byte _ good.1))

-- every step keeps the trace
pub traced_step : {a : Accepted} → IsAccepted a → {s : State} → Invariant a s → {r : ℕ} {guesses : List Store} {h : Marks} {done : List ℕ}
    → Traced a s r guesses h done → (byte : ℕ) {after : State} → (e : step a s byte ≡ some after)
    → let x = (step_says a s byte e).turn.frame.job.0 in
    let more = marked h x (record { round = r; value = value_of_byte byte }) in
    (has_ended after (job x) ≡ true → Traced a after (suc r) (set guesses (suc r) after.store) more (done ++ (byte ∷ [])))
    × (has_ended after (job x) ≡ false → Traced a after r guesses more (done ++ (byte ∷ [])))
unfolding job
traced_step {a} ok {s} inv t byte e =
    let made = step_says a s byte e in
    (step_ends_lem ok inv t made, step_goes ok inv t made)
