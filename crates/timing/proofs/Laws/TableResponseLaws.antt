-- Laws of the search for all response times, from the highest task down: what is known of the tasks from task i on.
-- Assumes nothing.
use Rattle.std.specs.Prelude.{◌≡◌, refl, ℕ, zero, suc, ◌-◌, ◌≤◌, ◌<◌, Bool, true, ◌&&◌, List, [], ◌∷◌, length, drop, set, replicate, Option, Some, None}
use Rattle.std.proofs.Common.{sym, ap, ◌∙◌, le_refl, add-one, arith, drop_of_length-le, drop-cons, drop-set-lt, get_or-set_same}
use Rattle.std.proofs.Math.Numerals.{unary_clauses}
use Rattle.std.proofs.Math.Option as Math
use Rattle.std.proofs.Math.ListN.{length-set}
use Rattle.taskfile.specs.declared.Site.TheVariants.{AtTask}
use Rattle.taskfile.specs.declared.Table.{Table}
use Rattle.taskfile.specs.declared.Task.{Task}
use Rattle.notation.specs.Checked.{refused, passed, given, ◌>>=◌}
use Rattle.taskfile.specs.Judgement.{numbered, task_numbers}
use Rattle.taskfile.specs.Code.JudgingParts.{Shaped}
use Rattle.notation.specs.Lists.{padded}
use Rattle.notation.specs.Laws.PaddedLaws.{padded_cons, padded_nil}
use Rattle.notation.specs.Laws.TestLaws.{and_both}
use Rattle.taskfile.proofs.Laws.TableLaws.{task_numbers_length, task_numbers_at}
use Rattle.taskfile.specs.Tables.{tasks_of, task_of}
use Rattle.timing.specs.Accepted.{responses_of}
use Rattle.timing.specs.Response.{tasks_above, response_of}
use Rattle.timing.specs.Code.ResponseParts.{Timeable, bound_of, Fits, AllFit, fits_alone}
use Rattle.timing.proofs.Laws.FitLaws.{fits_easier, fits_decided}
use Rattle.timing.proofs.Laws.HalvingLaws.{response_done}
use Rattle.timing.proofs.Laws.TimeableLaws.{tasks_next, times_end, need_least, need_positive}
use Rattle.taskfile.proofs.Laws.JudgingLaws.{tasks_length}

-- ---- one task

bound_some : (o : Math.Option ℕ) {R : ℕ} → bound_of o ≡ Some R → o ≡ Math.some R
unfolding bound_of
bound_some Math.none e = cc
bound_some (Math.some Q) e = cc

bound_none : (o : Math.Option ℕ) → bound_of o ≡ None → o ≡ Math.none
unfolding bound_of
bound_none Math.none e = refl
bound_none (Math.some Q) e = cc

-- task i is the first of the tasks from i on
numbers_next : {t : Table} → Shaped t → (i : ℕ) → i < t.tasks
    → drop i (task_numbers t) ≡ numbered i ∷ drop (suc i) (task_numbers t)
numbers_next {t} shaped i lt =
    let below : i < length (task_numbers t) = omega (arith, task_numbers_length t, tasks_length _ shaped) in
    rw (drop-cons (task_numbers t) i (numbered i), task_numbers_at t (numbered i) (numbered i) (omega (arith, tasks_length _ shaped)))

-- ---- the tasks from task i on

-- all of them have response times, which the array holds from place i on
pub record AllFound (t : Table) (i : ℕ) (times : List ℕ) : Type 0 where
  pub Rs : List ℕ
  pub outcome : responses_of t (drop i (task_numbers t)) ≡ passed Rs
  pub full : length times ≡ 8
  pub held : drop i times ≡ padded (8 - i) 0 Rs

-- Either so, or the lowest of them that has no response time is known. Apart from that, `fit` tells that all of them
-- meet their periods where none waits for a lock.
pub record FoundFrom (t : Table) (i : ℕ) (times : List ℕ) (fit : Bool) (late : Option Task) : Type 0 where
  pub fits : fit ≡ true → AllFit (drop i (tasks_of t))
  pub all : late ≡ None → AllFound t i times
  pub lacking : (lowest : Task) → late ≡ Some lowest → responses_of t (drop i (task_numbers t)) ≡ refused 10 (AtTask lowest)

drop_replicate : (i n x : ℕ) → drop i (replicate n x) ≡ replicate (n - i) x
drop_replicate zero n x = simp unary_clauses
drop_replicate (suc i) zero x = let none : 0 - suc i ≡ 0 = omega arith in rw none
drop_replicate (suc i) (suc n) x = simp unary_clauses (drop_replicate i n x)

-- past the last task there is nothing to find
pub found_none : {t : Table} → Timeable t → FoundFrom t t.tasks (replicate 8 0) true None
unfolding responses_of
found_none {t} timeable =
    let shaped = timeable.shaped in
    let past : length (task_numbers t) ≤ t.tasks = omega (arith, task_numbers_length t, tasks_length _ shaped) in
    record {
      fits = λ e. rw (times_end shaped t.tasks (omega arith)) tt;
      all = λ e.
          record {
            Rs = [];
            outcome = rw (drop_of_length-le (task_numbers t) past);
            full = refl;
            held = drop_replicate t.tasks 8 0 ∙ sym (padded_nil (8 - t.tasks) 0);
          };
      lacking = λ lowest e. cc;
    }

-- the place of task i holds its response time, and the places after it are as they were
held_more : (i R : ℕ) (times Rs : List ℕ) → i < 8 → length times ≡ 8 → drop (suc i) times ≡ padded (8 - suc i) 0 Rs
    → drop i (set times i R) ≡ padded (8 - i) 0 (R ∷ Rs)
held_more i R times Rs lt full held =
    let inside : i < length (set times i R) = simp length-set (omega arith) in
    let short : i < length times = omega arith in
    let room : 8 - i ≡ suc (8 - suc i) = omega arith in
    rw (drop-cons (set times i R) i 0, get_or-set_same times i R 0, drop-set-lt (suc i) times i R (omega arith), room, padded_cons)
    (ap (λ (l : List ℕ). R ∷ l) held)

module _ {t : Table} (timeable : Timeable t) {i : ℕ} (lt : i < t.tasks) {times : List ℕ} {fit : Bool}
    {late : Option Task} (found : FoundFrom t (suc i) times fit late) where
  -- the tasks above task i meet their periods where none waits
  pub found_fit : fit ≡ true → AllFit (tasks_above t (numbered i))
  unfolding tasks_above
  found_fit e = found.fits e

  -- task i does, too
  abbrev Alone : Type 0
  Alone = let e = task_of t (numbered i) in Fits (tasks_above t (numbered i)) e.execution e.period

  found_alone : Alone → AllFit (tasks_above t (numbered i)) → AllFit (drop i (tasks_of t))
  unfolding tasks_above
  found_alone alone above = rw (tasks_next timeable.shaped i lt, add-one) (alone, above)

  -- so it does where it has a response time
  done_alone : {R : ℕ} → response_of t (numbered i) ≡ Math.some R → Alone
  done_alone response =
      let k = numbered i in
      fits_easier (response_done t k (need_positive timeable k lt) response) (need_least t k) (le_refl _)

  -- where task i has a response time
  pub found_more : {R : ℕ} → bound_of (response_of t (numbered i)) ≡ Some R
      → FoundFrom t i (set times i R) fit late
  unfolding responses_of given ◌>>=◌
  found_more {R} b =
      let response = bound_some _ b in
      record {
        fits = λ e. found_alone (done_alone response) (found_fit e);
        all = λ e.
            let above = found.all e in
            record {
              Rs = R ∷ above.Rs;
              outcome = rw (numbers_next timeable.shaped i lt, response, above.outcome);
              full = simp length-set above.full;
              held = held_more i R times above.Rs (omega (arith, timeable.shaped.tasks_within)) above.full above.held;
            };
        lacking = λ lowest e. rw (numbers_next timeable.shaped i lt, response, found.lacking lowest e);
      }

  -- where it has none, it is the lowest so far; whether it meets its period where it need not wait is tested
  pub found_refused : {alone : Bool} → bound_of (response_of t (numbered i)) ≡ None
      → alone ≡ (fit && fits_alone t (numbered i)) → FoundFrom t i times alone (Some (numbered i))
  unfolding responses_of given ◌>>=◌ fits_alone
  found_refused b tested =
      record {
        fits = λ e.
            let both = and_both fit _ (sym tested ∙ e) in
            let above = found_fit both.0 in
            found_alone ((fits_decided _ above _ _ (timeable.positive (numbered i) lt)).0 both.1) above;
        all = λ e. cc;
        lacking = λ lowest e.
            let here : numbered i ≡ lowest = cc in
            rw (numbers_next timeable.shaped i lt, bound_none _ b) (ap (λ (k : Task). refused 10 (AtTask k)) here);
      }
