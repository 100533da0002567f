-- Every step of an order keeps what `OrderKept` says of the order so far and its trace.
-- Assumes nothing.
use Rattle.std.specs.Prelude.{◌≡◌, refl, ◌⊎◌, Bool, true, false, get_or, set}
use Rattle.std.proofs.Math.Path.{sym, ap, subst}
use Rattle.std.proofs.Common.{◌∙◌, arith, get_or-set_same, get_or-set_other}
use Prim.Native.Nat.{ℕ, suc, ◌≤◌, ◌<◌}
use Rattle.std.proofs.Math.Decide.{dec_le, ℕ_discrete}
use mathlib.Core.List.{List, [], ◌∷◌, ◌++◌}
use Rattle.std.proofs.Math.Option.{some}
use Rattle.std.proofs.Math.ListN.{length, length-set}
use Rattle.taskfile.specs.Judgement.{instruction_of}
use Rattle.std.specs.Prelude.{if◌then◌else◌}
use Rattle.notation.specs.Lists.{member, last_or}
use Rattle.timing.specs.declared.Job.{Job}
use Rattle.timing.specs.Accepted.{Accepted}
use Rattle.timing.specs.Code.IsAccepted.{IsAccepted}
use Rattle.timing.specs.Relations.{job_at}
use Rattle.machine.specs.declared.Effect.{Effect}
use Rattle.machine.specs.declared.Local.{Local}
use Rattle.machine.specs.Instructions.{Store, values, perform}
use Rattle.order.specs.OrderBytes.{task_of_byte, value_of_byte}
use Rattle.order.specs.Code.Invariant.{Invariant}
use Rattle.order.specs.Orders.{next_of, step}
use Rattle.order.specs.States.{State, has_ended}
use Rattle.order.proofs.Laws.StepLaws.{GoodTurn, good_turn, after_effect, AllowedStep, step_says}
use Rattle.plan.specs.Runs.{job_total}
use Rattle.matching.proofs.Laws.TwoJobs.AdvanceLaws.{turn_step, round_advanced, made_after}
use Rattle.matching.proofs.Laws.History.ColumnLaws.{round_elsewhere, run_snoc, columns_frame}
use Rattle.machine.proofs.Laws.InstructionLaws.{perform_length}
use Rattle.matching.proofs.Laws.History.Histories.{Mark, Marks, job, marked, in_round, JobColumn, unbegun}
use Rattle.matching.proofs.Laws.History.Histories.{ColumnRun, stepped, mark_step, run_marks, Columns, columns}
use Rattle.matching.proofs.Laws.TwoJobs.MadeLaws.{made_here, made_other}
use Rattle.matching.proofs.Laws.FromOrder.MovedLaws.{mark_at, round_open, moved_listed, has_column, moved_above, agree_turn, own_column, columns_moved}
use Rattle.matching.proofs.Laws.FromOrder.OrderKept.{steps_by, OrderKept}
use Rattle.matching.proofs.Laws.TwoJobs.PairedLaws.{turn_effect, paired_turn}
use Rattle.matching.proofs.Laws.TwoJobs.Pairings.{Made, Paired}
use Rattle.matching.proofs.Laws.History.PartLaws.{before_upto, parts_guess, parts_marked, column_at}
use Rattle.matching.proofs.Laws.History.Parts.{last_round, beginning, Parts}
use Rattle.matching.proofs.Laws.History.PlanReading.{Allowed}
use Rattle.matching.proofs.Laws.History.RowLaws.{marked_keeps}
use Rattle.matching.proofs.Laws.FromOrder.TraceLaws.{step_ends_lem, step_goes, effect_ended}
use Rattle.matching.proofs.Laws.FromOrder.TraceMore.{others_same}
use Rattle.matching.proofs.Laws.FromOrder.TraceSteps.{Trace, traced}
use Rattle.matching.proofs.Laws.FromOrder.TurnTraceLaws.{GoesOn, Starts, turn_kind, step_after, step_failed}

-- ---- one instruction, one job's rounds

-- a step is in a round up to r where none is in a later one
round_within : (r : ℕ) (m : Mark) (ms : List Mark) → ((q : ℕ) → r < q → in_round q (m ∷ ms) ≡ []) → m.round ≤ r
round_within r m ms none =
    elim (dec_le m.round r) [
      | yes within ↦ within
      | no later ↦ absurd ((round_elsewhere m.round m ms (none m.round (omega arith))).0 refl)
    ]

-- and so is the last
last_within : (r p : ℕ) (ms : List Mark) → p ≤ r → ((q : ℕ) → r < q → in_round q ms ≡ []) → last_round p ms ≤ r
unfolding last_round last_or
last_within r p [] le none = le
last_within r p (m ∷ ms) le none =
    last_within r m.round ms (round_within r m ms none) (λ q lt. (round_elsewhere q m ms (none q lt)).1)

-- ---- one step

module _ {a : Accepted} (ok : IsAccepted a) {s : State} (inv : Invariant a s) {r : ℕ} {t : Trace} {done : List ℕ} (kept : OrderKept a s r t done)
    {byte : ℕ} {after : State} (said : AllowedStep a s byte after) where
  abbrev x : Job
  x = said.turn.frame.job

  abbrev v : ℕ
  v = value_of_byte byte

  abbrev h : Marks
  h = t.marks

  abbrev guesses : List Store
  guesses = t.guesses

  abbrev m : Mark
  m = mark_at r v

  abbrev more : Marks
  more = marked h x.0 m

  abbrev effect : Effect
  effect = perform (next_of a said.turn.frame) v said.turn.frame.local s.store

  kind : GoesOn s said.turn ⊎ Starts s said.turn
  kind = turn_kind a s (task_of_byte byte) said.due

  good : GoodTurn a s said.turn
  good = (good_turn ok inv (task_of_byte byte) said.due).0

  -- the step's job has a place, and no step is in a later round
  listed : x.0 < length h
  listed = moved_listed ok inv kept.follows good kind

  more_listed : x.0 < length more
  unfolding marked
  more_listed = omega (arith, listed, length-set h x.0 (get_or h x.0 [] ++ (m ∷ [])))

  more_later : (y : ℕ) → in_round (suc r) (get_or more y []) ≡ []
  more_later y = marked_keeps (suc r) h x.0 y m (λ e. omega arith) ∙ kept.follows.later y (suc r) (omega arith)

  -- which jobs have ended after it
  pub ended_is : has_ended after x ≡ effect.ended
  ended_is = effect_ended ok inv kept.follows said

  ended_others : (y : ℕ) → (y ≡ x.0 → ⊥) → has_ended after (job y) ≡ has_ended s (job y)
  unfolding job
  ended_others y apart = others_same ok inv said (job y) apart

  -- ---- the columns

  -- the job where it stands before the step
  abbrev standing : ColumnRun
  standing = run_marks a x.0 (get_or h x.0 []) (beginning a h guesses x.0)

  own_local : standing.column.local ≡ said.turn.frame.local
  own_local =
      ap (λ (c : JobColumn). c.local) (sym (column_at a h x.0 guesses listed)) ∙ agree_turn ok inv kept.follows good kind

  -- the step's own column, and another's
  own_column_lem : get_or (columns a more guesses).jobs x.0 unbegun ≡ own_column ok inv kept.follows good kind v
      effect refl
  own_column_lem =
      ap (λ (c : Columns). get_or c.jobs x.0 unbegun) (columns_moved ok inv kept.follows good kind v effect refl)
      ∙ get_or-set_same (columns a h guesses).jobs x.0 _ unbegun (has_column ok inv kept.follows good kind)

  other_column : (y : ℕ) → (y ≡ x.0 → ⊥)
      → get_or (columns a more guesses).jobs y unbegun ≡ get_or (columns a h guesses).jobs y unbegun
  other_column y apart =
      ap (λ (c : Columns). get_or c.jobs y unbegun) (columns_moved ok inv kept.follows good kind v effect refl)
      ∙ get_or-set_other (columns a h guesses).jobs x.0 y _ unbegun apart

  -- its column is the job's after the mark
  own_marked : get_or (columns a more guesses).jobs x.0 unbegun ≡ (mark_step a x.0 m standing).column
  unfolding marked
  own_marked =
      column_at a more x.0 guesses more_listed
      ∙ ap (λ (ms : List Mark). (run_marks a x.0 ms (beginning a more guesses x.0)).column)
      (get_or-set_same h x.0 (get_or h x.0 [] ++ (m ∷ [])) [] listed)
      ∙ ap (λ (S : List Store). (run_marks a x.0 (get_or h x.0 [] ++ (m ∷ [])) (record { column = unbegun; stores = S })).column)
      (before_upto a h x.0 m guesses x.0 (omega arith))
      ∙ ap (λ (c : ColumnRun). c.column) (run_snoc a x.0 (get_or h x.0 []) m (beginning a h guesses x.0))

  own_ended : has_ended after (job x.0) ≡ (mark_step a x.0 m standing).column.ended
  unfolding job stepped
  own_ended = ended_is ∙ ap (λ (c : JobColumn). c.ended) (sym own_column_lem ∙ own_marked)

  -- ---- the jobs' runs

  step_allowed : Allowed a x.0 (last_round 0 (get_or h x.0 [])) m standing
  unfolding next_of job
  step_allowed = record {
    in_plan = round_open ok inv kept.follows good kind;
    in_order = last_within r 0 (get_or h x.0 []) (omega arith) (λ q lt. kept.follows.later x.0 q lt);
    on_offer =
        ap (λ (l : Local). member v (values (instruction_of a.table (job_at a x).task l.next))) own_local ∙ said.offered;
  }

  parts_after : Parts a more guesses (λ y. has_ended after (job y))
  unfolding job
  parts_after =
      parts_marked a h x.0 m guesses (λ y. has_ended s (job y)) (λ y. has_ended after (job y)) listed good.running.unended
      (moved_above ok inv kept.follows good kind) step_allowed ended_others own_ended kept.parts

  parts_opened : Parts a more (set guesses (suc r) after.store) (λ y. has_ended after (job y))
  parts_opened = parts_guess a more guesses (suc r) after.store (λ y. has_ended after (job y)) more_later parts_after

  -- ---- the steps made

  abbrev before : Made
  before = steps_by a h guesses

  steps_after : (y : ℕ)
      → made_after a r v said.turn (turn_effect a s v said.turn) before y ≡ steps_by a more guesses y
  unfolding made_after turn_effect turn_step stepped job
  steps_after y =
      elim (ℕ_discrete y x.0) [
        | yes same ↦
            ap (λ (n : ℕ). made_after a r v said.turn effect before n) same
            ∙ made_here before x.0 (turn_step a r v said.turn effect)
            ∙ sym (ap (λ (c : JobColumn). c.steps) own_column_lem)
            ∙ ap (λ (n : ℕ). steps_by a more guesses n) (sym same)
        | no apart ↦
            made_other before x.0 (turn_step a r v said.turn effect) y apart
            ∙ sym (ap (λ (c : JobColumn). c.steps) (other_column y apart))
      ]

  steps_opened : (y : ℕ) → steps_by a more (set guesses (suc r) after.store) y ≡ steps_by a more guesses y
  unfolding columns
  steps_opened y =
      ap (λ (c : Columns). (get_or c.jobs y unbegun).steps) (columns_frame a 0 (suc r) after.store more guesses more_later)

  round_is : round_advanced r (turn_effect a s v said.turn) ≡ (if has_ended after x then suc r else r)
  unfolding round_advanced turn_effect
  round_is = ap (λ (b : Bool). if b then suc r else r) (sym ended_is)

  pairs_after : Paired a after (if has_ended after x then suc r else r) (steps_by a more guesses)
  pairs_after =
      subst (λ (made : Made). Paired a after (if has_ended after x then suc r else r) made) (λ i y. steps_after y i)
      (subst (λ (n : ℕ). Paired a after n (made_after a r v said.turn (turn_effect a s v said.turn) before)) round_is
      (paired_turn ok inv kept.pairs byte said))

  -- ---- the store and the guesses

  eight_after : length after.store ≡ 8
  unfolding after_effect
  eight_after =
      ap (λ (next : State). length next.store) (sym (step_after said))
      ∙ perform_length (next_of a said.turn.frame) v said.turn.frame.local s.store ∙ kept.eight

  eights_opened : (q : ℕ) → q ≤ suc r → q < job_total a → length (get_or (set guesses (suc r) after.store) q []) ≡ 8
  eights_opened q le lt =
      elim (ℕ_discrete q (suc r)) [
        | yes same ↦
            ap (λ (n : ℕ). length (get_or (set guesses (suc r) after.store) n [])) same
            ∙ ap length (get_or-set_same guesses (suc r) after.store [] (omega (arith, kept.follows.guessed)))
            ∙ eight_after
        | no apart ↦
            ap length (get_or-set_other guesses (suc r) q after.store [] apart) ∙ kept.eights q (omega arith) lt
      ]

  unraised_after : (y : ℕ) → job_total a ≤ y → get_or after.failed y false ≡ false
  unfolding job_total
  unraised_after y le = step_failed said y (λ e. omega (arith, good.running.job)) ∙ kept.unraised y le

  -- ---- all of it

  abbrev Next : Bool → Type 0
  Next ends = OrderKept a after (if ends then suc r else r) (traced r x.0 v ends after.store t) (done ++ (byte ∷ []))

  kept_ends : has_ended after x ≡ true → Next true
  unfolding traced
  kept_ends e = record {
    follows = step_ends_lem ok inv kept.follows said e;
    parts = parts_opened;
    pairs = subst (λ (made : Made). Paired a after (suc r) made) (λ i y. sym (steps_opened y) i) (rw e at pairs_after);
    eight = eight_after;
    eights = eights_opened;
    unraised = unraised_after;
  }

  kept_goes : has_ended after x ≡ false → Next false
  unfolding traced
  kept_goes e = record {
    follows = step_goes ok inv kept.follows said e;
    parts = parts_after;
    pairs = rw e at pairs_after;
    eight = eight_after;
    eights = kept.eights;
    unraised = unraised_after;
  }

  pub kept_turn : Next (has_ended after x)
  kept_turn = go (has_ended after x) refl
    where
      go : (b : Bool) → has_ended after x ≡ b → Next b
      go true e = kept_ends e
      go false e = kept_goes e

-- every step keeps it, with the trace that the step makes
pub kept_step : {a : Accepted} → IsAccepted a → {s : State} → Invariant a s → {r : ℕ} {t : Trace} {done : List ℕ} → OrderKept a s r t done
    → (byte : ℕ) {after : State} → (e : step a s byte ≡ some after)
    → let x = (step_says a s byte e).turn.frame.job in
    let ends : Bool = has_ended after x in
    OrderKept a after (if ends then suc r else r) (traced r x.0 (value_of_byte byte) ends after.store t) (done ++ (byte ∷ []))
kept_step {a} ok {s} inv kept byte e = kept_turn ok inv kept (step_says a s byte e)
