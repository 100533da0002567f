-- A complete order is a legal plan with the same end, and that plan is the order again.
-- Assumes nothing.
use Rattle.std.specs.Prelude.{◌≡◌, true, length}
use Rattle.std.proofs.Math.Path.{refl, sym, ap, ap₂}
use Rattle.std.proofs.Common.{◌∙◌}
use Prim.Native.Nat.{ℕ, zero, suc, ◌+◌, ◌<◌}
use native.Mathlib.Omega.{arith}
use mathlib.Core.List.{List, []}
use Rattle.std.proofs.Math.ListN.{get_or}
use Rattle.notation.specs.Checked.{passed}
use Rattle.notation.specs.Laws.CheckedLaws.{bind_goes, then_goes}
use Rattle.notation.specs.Laws.ListLaws.{get_or_any}
use Rattle.notation.specs.Laws.QuantifierLaws.{map_length, map_at}
use Rattle.timing.specs.Accepted.{Accepted}
use Rattle.timing.specs.Code.IsAccepted.{IsAccepted}
use Rattle.timing.proofs.Laws.JobNumberLaws.{all_jobs}
use Rattle.machine.specs.Ends.{Flags, no_store}
use Rattle.machine.specs.Instructions.{Store}
use Rattle.order.specs.Orders as orders
use Rattle.order.specs.Orders.{Complete}
use Rattle.order.specs.States.{State, has_ended, all_ended}
use Rattle.plan.specs.Legality.{due_store}
use Rattle.plan.specs.Plans.{legal_run, plan_end, Legal}
use Rattle.plan.specs.Runs.{Plan, JobRuns, guess, job_total, run_plan}
use Rattle.matching.proofs.Laws.History.ColumnLaws.{columns_jobs}
use Rattle.matching.specs.Conversions.{plan_of, order_of}
use Rattle.matching.proofs.Laws.History.Histories.{Marks, job, round, rows, JobColumn, unbegun, columns}
use Rattle.matching.proofs.Laws.FromOrder.OrderKept.{steps_by, OrderKept, parts_same}
use Rattle.matching.proofs.Laws.FromOrder.OrderRuns.{kept_complete, complete_traced}
use Rattle.matching.proofs.Laws.TwoJobs.PairedLegal.{SameSteps, paired_legal}
use Rattle.matching.proofs.Laws.History.PartLaws.{parts_all}
use Rattle.matching.proofs.Laws.History.PlanReading.{written, Eights, guessed, AllWhole, columns_run}
use Rattle.matching.proofs.Laws.History.PlanReadingLaws.{guesses_back, plan_runs, marks_back}
use Rattle.matching.proofs.Laws.History.RoundLaws.{guess_of}
use Rattle.matching.proofs.Laws.History.RowLaws.{rows_order}
use Rattle.matching.proofs.Laws.FromOrder.TraceEnds.{last_store, failed_flags}
use Rattle.matching.proofs.Laws.FromOrder.TraceStepLaws.{traced_whole, guesses_whole, marks_whole, first_guess_lem}
use Rattle.matching.proofs.Laws.FromOrder.TraceSteps.{start_trace, trace_of}

-- ---- the plan of a complete order

-- the run of the plan that an order is written as
unfoldable pub runs_of : Accepted → List ℕ → JobRuns
runs_of a order = columns_run a 0 (trace_of a order).marks (guessed a (trace_of a order).guesses)

-- an order's plan: its bytes, that it is legal, its end and the order that it is again
pub record Planned (a : Accepted) (order : List ℕ) (s : State) : Type 0 where
  pub is_written : plan_of a order ≡ written a (trace_of a order).guesses (trace_of a order).marks
  pub legal : Legal a (plan_of a order) (runs_of a order)
  pub ends : plan_end a (runs_of a order) ≡ orders.order_end s
  pub back : order_of a (runs_of a order) ≡ order

module _ {a : Accepted} (ok : IsAccepted a) {order : List ℕ} {s : State} (complete : Complete a order s) where
  abbrev guesses : List Store
  guesses = (trace_of a order).guesses

  abbrev h : Marks
  h = (trace_of a order).marks

  abbrev plan : Plan
  plan = written a guesses h

  abbrev runs : JobRuns
  runs = runs_of a order

  kept : OrderKept a s (job_total a) (trace_of a order) order
  kept = kept_complete ok complete

  order_written : plan_of a order ≡ plan
  order_written = complete_traced ok complete

  -- ---- its run

  -- each guess has 8 bytes, and each job has come to its End
  eights : Eights guesses
  eights r lt = kept.eights r (omega (arith, guesses_whole a order)) (omega (arith, guesses_whole a order))

  all_ended_lem : (x : ℕ) → x < length h → true ≡ has_ended s (job x)
  unfolding all_ended job job_total
  all_ended_lem x lt = sym (all_jobs a (has_ended s) complete.finished (job x) (omega (arith, marks_whole a order)))

  whole : AllWhole a 0 h guesses
  whole = parts_all a h guesses (parts_same a h guesses (λ x. has_ended s (job x)) (λ x. true) all_ended_lem kept.parts)

  plan_run : run_plan a plan ≡ passed runs
  unfolding runs_of
  plan_run = plan_runs ok guesses h (guesses_whole a order) eights (marks_whole a order) whole

  -- ---- it is legal

  column_count : length (columns a h guesses).jobs ≡ job_total a
  unfolding columns
  column_count = columns_jobs a 0 h guesses ∙ marks_whole a order

  same_steps : SameSteps a runs (steps_by a h guesses)
  unfolding runs_of columns_run guessed columns job_total
  same_steps x isJob = map_at (λ (c : JobColumn). c.steps) (columns a h guesses).jobs x.0 unbegun [] (omega (arith, column_count))

  run_stores : runs.running.stores ≡ (columns a h guesses).stores
  unfolding runs_of columns_run guessed columns
  run_stores = refl

  -- the plan's guesses are the trace's, the first of which is the initial store
  guess_is : (q : ℕ) → q < job_total a → guess plan (round q) ≡ get_or guesses q []
  guess_is q lt =
      sym (guess_of a plan q [] lt)
      ∙ ap (λ (l : List Store). get_or l q []) (guesses_back a guesses h (guesses_whole a order) eights)

  guess_zero : 0 < job_total a → get_or guesses 0 [] ≡ a.table.store
  unfolding start_trace
  guess_zero lt = (traced_whole a order).kept 0 (omega arith) ∙ first_guess_lem a.table.store (job_total a) [] lt

  -- and each later one the store that the round before left
  guess_due : (q : ℕ) → q < job_total a → guess plan (round q) ≡ due_store a runs (round q)
  unfolding due_store
  guess_due zero lt = guess_is 0 lt ∙ guess_zero lt
  guess_due (suc q) lt =
      let place : suc q ≡ q + 1 = omega arith in
      guess_is (suc q) lt
      ∙ get_or_any guesses (suc q) [] no_store (omega (arith, guesses_whole a order))
      ∙ ap (λ (k : ℕ). get_or guesses k no_store) place
      ∙ sym (kept.follows.past q (omega arith) (omega arith))
      ∙ ap (λ (l : List Store). get_or l q no_store) (sym run_stores)

  plan_legal : Legal a plan runs
  unfolding legal_run
  plan_legal =
      let fair = paired_legal a runs (steps_by a h guesses) same_steps kept.pairs complete.finished plan
      (λ r lt. guess_due r.0 lt) in
      bind_goes _ plan_run ∙ then_goes _ fair

  -- ---- its end

  same_end : plan_end a runs ≡ orders.order_end s
  unfolding plan_end orders.order_end runs_of columns_run guessed columns
  same_end =
      ap₂ (λ (S : Store) (F : Flags). record { store = S; failed = F })
      (last_store ok kept.follows order complete.allowed refl)
      (failed_flags ok kept.follows kept.unraised)

  -- ---- the way back

  order_back : order_of a runs ≡ order
  unfolding runs_of columns_run guessed columns
  order_back =
      rows_order a runs (map_length (λ (c : JobColumn). c.steps) (columns a h guesses).jobs ∙ column_count)
      ∙ ap (rows a (job_total a)) (marks_back a h 0 (guessed a guesses))
      ∙ kept.follows.by_rows

  pub order_planned : Planned a order s
  order_planned = record {
    is_written = order_written;
    legal = ap (legal_run a) order_written ∙ plan_legal;
    ends = same_end;
    back = order_back;
  }
