-- One step more of an order keeps its trace, by the effect of its instruction: within the round while the step's job
-- goes on, and into the next round, whose guess is the store left, when the job has ended.
-- Assumes nothing.
use Rattle.std.specs.Prelude.{◌≡◌, ◌⊎◌, true, false, length, set}
use Rattle.std.proofs.Common.{sym, ◌∙◌, get_or-set_same, eq-eqb}
use Rattle.std.proofs.Math.Path.{ap}
use Rattle.std.proofs.Math.Logic.{inl, inr}
use Prim.Native.Nat.{ℕ, suc, ◌+◌, ◌<◌}
use Rattle.std.proofs.Math.Decide.{ℕ_discrete}
use native.Mathlib.Omega.{arith}
use mathlib.Core.List.{List, [], ◌∷◌, ◌++◌}
use Rattle.std.proofs.Math.ListN.{get_or, length-set}
use Rattle.std.proofs.Math.Dec.{eqb}
use Rattle.std.proofs.Math.Seq.{get_or-set_other}
use Rattle.notation.specs.Lists.{any}
use Rattle.notation.specs.Laws.TestLaws.{or_left, or_right, test_decided, not_both}
use Rattle.timing.specs.Accepted.{Accepted}
use Rattle.timing.specs.Code.IsAccepted.{IsAccepted}
use Rattle.timing.specs.Relations.{base}
use Rattle.machine.specs.declared.Effect.{Effect}
use Rattle.machine.specs.Ends.{no_store}
use Rattle.machine.specs.Instructions.{Store, perform}
use Rattle.order.specs.OrderBytes.{order_byte}
use Rattle.order.specs.Code.Invariant.{Invariant, has_begun}
use Rattle.order.specs.Orders.{Turn, next_of}
use Rattle.order.specs.States.{State, has_ended, is_active}
use Rattle.order.proofs.Laws.StepLaws.{GoodTurn, flag_length, after_effect, ended_other, begun_stays, begun_here, active_goes}
use Rattle.plan.specs.Runs.{job_total}
use Rattle.matching.proofs.Laws.History.ColumnLaws.{all_stored, columns_frame}
use Rattle.matching.proofs.Laws.FromOrder.EndedLaws.{ended_same, ended_more}
use Rattle.matching.proofs.Laws.History.Histories.{Marks, job, marked, in_round, rows, unbegun, Columns, columns}
use Rattle.matching.proofs.Laws.FromOrder.MovedLaws.{mark_at, round_open, moved_listed, stores_all, moved_above}
use Rattle.matching.proofs.Laws.FromOrder.MovedLaws.{moved, columns_moved, moved_locals, moved_ended}
use Rattle.matching.proofs.Laws.FromOrder.MovedLaws.{moved_endings, moved_failures, moved_present, moved_past}
use Rattle.matching.proofs.Laws.History.RowLaws.{marked_keeps, rows_marked}
use Rattle.matching.proofs.Laws.FromOrder.Traces.{Traced}
use Rattle.order.specs.OrderSteps.{ended_count}
use Rattle.matching.proofs.Laws.FromOrder.TurnTraceLaws.{GoesOn, Starts}

module _ {a : Accepted} (ok : IsAccepted a) {s : State} (inv : Invariant a s) {r : ℕ} {guesses : List Store} {h : Marks} {done : List ℕ}
    (t : Traced a s r guesses h done) {turn : Turn} (good : GoodTurn a s turn) (kind : GoesOn s turn ⊎ Starts s turn)
    (v : ℕ) (effect : Effect) (is : perform (next_of a turn.frame) v turn.frame.local s.store ≡ effect) where
  abbrev x : ℕ
  x = turn.frame.job.0

  abbrev more : Marks
  more = marked h x (mark_at r v)

  abbrev after : State
  after = after_effect s turn effect

  abbrev now : Columns
  now = moved ok inv t good kind v effect is

  -- ---- the history with the step

  more_listed : length more ≡ job_total a
  unfolding marked
  more_listed = length-set h x _ ∙ t.listed

  after_wide : length after.failed ≡ 32
  unfolding after_effect
  after_wide = flag_length effect.failed x s.failed ∙ t.wide

  more_rows : (byte : ℕ) → order_byte (base a turn.frame.job) v ≡ byte → rows a (job_total a) more ≡ done ++ (byte ∷ [])
  unfolding job
  more_rows byte e =
      rows_marked a (job_total a) h x r v (moved_listed ok inv t good kind) (round_open ok inv t good kind) (moved_above ok inv t good kind) t.later
      ∙ ap (λ (l : List ℕ). l ++ ((order_byte (base a turn.frame.job) v) ∷ [])) t.by_rows
      ∙ ap (λ (n : ℕ). done ++ (n ∷ [])) e

  -- no step is in a later round
  more_later : (y q : ℕ) → r < q → in_round q (get_or more y []) ≡ []
  more_later y q lt = marked_keeps q h x y (mark_at r v) (λ e. omega arith) ∙ t.later y q lt

  -- a job that has not begun by then has no step
  not_begun : (y : ℕ) → (y ≡ x → ⊥) → has_begun after (job y) ≡ false → has_begun s (job y) ≡ false
  unfolding job
  not_begun y apart e = elim (test_decided (has_begun s (job y))) [
    | inl begun ↦ absurd (not_both (has_begun after (job y)) (begun_stays ok inv good effect (job y) apart begun) e)
    | inr none ↦ none
  ]

  more_none : (y : ℕ) → y < job_total a → has_begun after (job y) ≡ false → get_or more y [] ≡ []
  unfolding marked job
  more_none y lt e = elim (ℕ_discrete y x) [
    | yes same ↦
        absurd (not_both (has_begun after turn.frame.job) (begun_here ok inv good effect) (ap (λ (n : ℕ). has_begun after (job n)) (sym same) ∙ e))
    | no apart ↦ get_or-set_other h x y _ [] apart ∙ t.none_yet y lt (not_begun y apart e)
  ]

  -- ---- the job goes on

  -- a job with a step in this round is active
  still_active : effect.ended ≡ false → (y : ℕ) → (in_round r (get_or more y []) ≡ [] → ⊥) → is_active after (job y) ≡ true
  unfolding is_active any job marked
  still_active goes y made =
      ap (any (λ f. eqb f.job.0 y)) (active_goes ok inv good effect goes)
      ∙ elim (ℕ_discrete y x) [
        | yes same ↦ or_left (eqb x y) (any (λ f. eqb f.job.0 y) turn.under) (eq-eqb x y (sym same))
        | no apart ↦
            or_right (eqb x y) (any (λ f. eqb f.job.0 y) turn.under)
            (good.kept (job y) apart (t.here y (λ none. made (ap (in_round r) (get_or-set_other h x y _ [] apart) ∙ none))))
      ]

  goes_count : effect.ended ≡ false → ended_count a after ≡ ended_count a s
  goes_count goes = ended_same a s after (λ y isJob. elim (ℕ_discrete y.0 x) [
    | yes same ↦
        ap (λ (n : ℕ). has_ended after (record { 0 = n })) same
        ∙ moved_ended ok inv t good kind v effect is
        ∙ goes
        ∙ sym good.running.unended
        ∙ ap (λ (n : ℕ). has_ended s (record { 0 = n })) (sym same)
    | no apart ↦ ended_other ok inv good effect y apart
  ])

  pub goes_traced : effect.ended ≡ false → (byte : ℕ) → order_byte (base a turn.frame.job) v ≡ byte
      → Traced a after r guesses more (done ++ (byte ∷ []))
  unfolding after_effect
  goes_traced goes byte e =
      let says = columns_moved ok inv t good kind v effect is in
      record {
        listed = more_listed;
        guessed = t.guessed;
        wide = after_wide;
        ends = goes_count goes ∙ t.ends;
        by_rows = more_rows byte e;
        locals = λ k d lt.
            ap (λ (c : Columns). (get_or c.jobs (get_or after.active k d).job.0 unbegun).local) says
            ∙ moved_locals ok inv t good kind v effect is k d lt;
        endings = λ y lt. ap (λ (c : Columns). (get_or c.jobs y unbegun).ended) says ∙ moved_endings ok inv t good kind v effect is y lt;
        failures = λ y lt. ap (λ (c : Columns). (get_or c.jobs y unbegun).failed) says ∙ moved_failures ok inv t good kind v effect is y lt;
        none_yet = more_none;
        present = λ lt. ap (λ (c : Columns). get_or c.stores r no_store) says ∙ moved_present ok inv t good kind v effect is;
        past = λ q lt inside. ap (λ (c : Columns). get_or c.stores q no_store) says ∙ moved_past ok inv t good kind v effect is q lt inside;
        final = λ q next whole. absurd (omega (arith, round_open ok inv t good kind));
        later = more_later;
        here = still_active goes;
      }

  -- ---- the job has ended

  abbrev opened : List Store
  opened = set guesses (suc r) effect.store

  -- the next round's guess changes its store alone
  columns_opened : columns a more opened ≡ all_stored (suc r) effect.store now
  unfolding columns
  columns_opened =
      columns_frame a 0 (suc r) effect.store more guesses (λ y. more_later y (suc r) (omega arith))
      ∙ ap (all_stored (suc r) effect.store) (columns_moved ok inv t good kind v effect is)

  ends_count : effect.ended ≡ true → ended_count a after ≡ suc (ended_count a s)
  ends_count ends =
      ended_more a s after turn.frame.job good.running.job good.running.unended (moved_ended ok inv t good kind v effect is ∙ ends)
      (λ y isJob apart. ended_other ok inv good effect y apart)

  -- the stores after it: the round's that ended, the next round's, and those of earlier rounds
  left_store : get_or (columns a more opened).stores r no_store ≡ effect.store
  left_store =
      ap (λ (c : Columns). get_or c.stores r no_store) columns_opened
      ∙ get_or-set_other now.stores (suc r) r effect.store no_store (λ e. omega arith)
      ∙ moved_present ok inv t good kind v effect is

  next_store : suc r < job_total a → get_or (columns a more opened).stores (suc r) no_store ≡ effect.store
  next_store lt =
      ap (λ (c : Columns). get_or c.stores (suc r) no_store) columns_opened
      ∙ get_or-set_same now.stores (suc r) effect.store no_store
      (omega (arith, lt, length-set (columns a h guesses).stores r effect.store, stores_all ok inv t good kind))

  past_store : (q : ℕ) → q < suc r → q + 1 < job_total a
      → get_or (columns a more opened).stores q no_store ≡ get_or opened (q + 1) no_store
  past_store q lt inside = elim (ℕ_discrete q r) [
    | yes same ↦
        let place : suc r ≡ q + 1 = omega arith in
        ap (λ (n : ℕ). get_or (columns a more opened).stores n no_store) same
        ∙ left_store
        ∙ sym (get_or-set_same guesses (suc r) effect.store no_store (omega (arith, t.guessed)))
        ∙ ap (λ (n : ℕ). get_or opened n no_store) place
    | no apart ↦
        ap (λ (c : Columns). get_or c.stores q no_store) columns_opened
        ∙ get_or-set_other now.stores (suc r) q effect.store no_store (λ e. omega arith)
        ∙ moved_past ok inv t good kind v effect is q (omega arith) inside
        ∙ sym (get_or-set_other guesses (suc r) (q + 1) effect.store no_store (λ e. omega arith))
  ]

  pub ends_traced : effect.ended ≡ true → (byte : ℕ) → order_byte (base a turn.frame.job) v ≡ byte
      → Traced a after (suc r) opened more (done ++ (byte ∷ []))
  unfolding after_effect
  ends_traced ends byte e = record {
    listed = more_listed;
    guessed = length-set guesses (suc r) effect.store ∙ t.guessed;
    wide = after_wide;
    ends = ends_count ends ∙ ap suc t.ends;
    by_rows = more_rows byte e;
    locals = λ k d lt.
        ap (λ (c : Columns). (get_or c.jobs (get_or after.active k d).job.0 unbegun).local) columns_opened
        ∙ moved_locals ok inv t good kind v effect is k d lt;
    endings = λ y lt. ap (λ (c : Columns). (get_or c.jobs y unbegun).ended) columns_opened ∙ moved_endings ok inv t good kind v effect is y lt;
    failures = λ y lt. ap (λ (c : Columns). (get_or c.jobs y unbegun).failed) columns_opened ∙ moved_failures ok inv t good kind v effect is y lt;
    none_yet = more_none;
    present = next_store;
    past = past_store;
    final = λ q next whole. (let same : q ≡ r = omega arith in ap (λ (n : ℕ). get_or (columns a more opened).stores n no_store) same ∙ left_store);
    later = λ y q lt. more_later y q (omega arith);
    here = λ y made. absurd (made (more_later y (suc r) (omega arith)));
  }
