-- The step on a snapshot is the step of `Orders`: a byte leads from it to a snapshot that shows the state after that
-- step, or is no step of either; and a snapshot is at the end exactly if the state is.
-- Assumes nothing.
use Rattle.std.specs.Prelude.{◌≡◌, ℕ, ◌+◌, ◌≤◌, ◌<◌, Bool, length, set, take, eqb, Option, Some, None}
use Rattle.std.proofs.Math.Path.{refl, sym, ap, subst}
use Rattle.std.proofs.Common.{◌∙◌, add-one, true≢false, get_or-set_other, take-suc-set}
use Rattle.std.proofs.Math.Logic.{inl, inr}
use Rattle.std.proofs.Math.Decide.{ℕ_discrete, dec_lt}
use native.Mathlib.Omega.{arith}
use Rattle.std.proofs.Math.Bool.{true, false, not}
use mathlib.Core.List.{List, [], ◌∷◌, reverse, reverse-append}
use Rattle.std.proofs.Math.Option.{none, some, bind}
use Rattle.std.proofs.Math.ListN.{get_or, length-set}
use Rattle.std.proofs.Math.Dec.{ltb}
use Rattle.std.proofs.Math.Seq.{get_or-set_same}
use Rattle.std.proofs.lemmas.List.{take-set-le}
use borrow.Author.Tests.{eqb-true, eq-eqb, lt-ltb, le-ltb, not-true}
use Rattle.taskfile.specs.declared.Ceilings.{Ceilings}
use Rattle.notation.specs.Laws.ListLaws.{get_or_up_to}
use Rattle.std.specs.Prelude.{if◌then◌else◌}
use Rattle.notation.specs.Lists.{member, from, up_to}
use Rattle.notation.specs.Ordered.{Every}
use Rattle.notation.specs.Laws.TestLaws.{and_both, and_holds, or_left, test_decided, not_both, not_true_false, both_ways}
use Rattle.timing.specs.declared.Job.{Job}
use Rattle.timing.specs.Accepted.{Accepted}
use Rattle.timing.specs.Relations.{IsJob, job_at, base}
use Rattle.machine.specs.declared.Effect.{Effect}
use Rattle.machine.specs.Ends.{flagged}
use Rattle.machine.specs.Instructions.{perform, values}
use Rattle.order_states.specs.declared.Due.{Due}
use Rattle.order.specs.OrderBytes.{task_of_byte, value_of_byte}
use Rattle.order.specs.declared.Frame.{Frame}
use Rattle.order_states.specs.Code.Snapshots.{Snapshot, Stepped}
use Rattle.order.specs.Code.Invariant.{IsRunning, has_begun, Invariant}
use Rattle.timing.proofs.Laws.JobFacts.{job_task, same_task}
use Rattle.order.proofs.Laws.LengthLaws.{body_short}
use Rattle.order.specs.Orders.{Turn, turn_of, next_of, performed, step_with, step}
use Rattle.notation.specs.Laws.QuantifierLaws.{none_at, at_none}
use Rattle.timing.proofs.Laws.JobNumberLaws.{all_jobs, jobs_all}
use Rattle.order_states.proofs.Laws.ShowLaws.{active_top, unended, owned_shown, job_owned, first_unended, first_open}
use Rattle.timing.proofs.Laws.BaseLaws.{base_rises, base_small}
use Rattle.order_states.specs.Code.Shows.{Lends, Shows}
use Rattle.order_states.specs.Code.SnapshotSteps.{instruction_in, owned_by, stack_of, top_of, turn_in, after_in}
use Rattle.order_states.specs.Code.SnapshotSteps.{offered_in, made_in, step_with_in, due_step, step_in, has_unended}
use Rattle.order_states.specs.Code.SnapshotSteps.{finished_in}
use Rattle.timing.specs.Code.IsAccepted.{IsAccepted}
use Rattle.order.specs.States.{State, has_ended, all_ended}
use Rattle.order.proofs.Laws.StepLaws.{GoodTurn, good_turn, after_effect, performed_is, ended_here, ended_stays}
use Rattle.order.proofs.Laws.StepLaws.{ended_other, unended_here, active_ended, active_goes}
use Rattle.order_states.proofs.Laws.TurnAgreed.{Turned, turn_turned}

-- ---- the step

module _ {a : Accepted} (ok : IsAccepted a) {program waits : List ℕ} {locks : Ceilings} (lends : Lends a program waits locks)
    {p : Snapshot} {s : State} (inv : Invariant a s) (shows : Shows a p s) where
  module _ {turn : Turn} (good : GoodTurn a s turn) (i : ℕ) (task : base a turn.frame.job ≡ i) (under : ℕ)
      (below : turn.under ≡ reverse (take under p.stack)) (room : under < 8) where
    abbrev x : Job
    x = turn.frame.job

    is_x : IsJob a x
    is_x = good.running.job

    small : i < 8
    small = omega (arith, base_small ok x is_x)

    -- its next instruction is the lent one
    pub instruction_lent : (turn.frame.local.next < 16)
        × (instruction_in program i turn.frame.local.next ≡ next_of a turn.frame)
    unfolding next_of base
    instruction_lent =
        let owner = (job_at a x).task in
        let known = job_task ok.is_timed x is_x in
        let inside = good.running.inside in (
          omega (arith, inside, body_short ok.is_made.shaped owner known),
          ap (λ (k : ℕ). instruction_in program k turn.frame.local.next) (sym task) ∙ lends.table.body owner turn.frame.local.next known inside,
        )

    module _ (effect : Effect) where
      abbrev p' : Snapshot
      p' = after_in p x under i effect

      abbrev s' : State
      s' = after_effect s turn effect

      -- the turn's job is active on, or has ended
      stack_shown : (b : Bool) → effect.ended ≡ b → s'.active ≡ reverse (stack_of p')
      unfolding stack_of after_in
      stack_shown true e =
          active_ended ok inv good effect e ∙ below
          ∙ ap reverse (sym (take-set-le under p.stack under (record { job = x; local = effect.local }) (omega arith))) ∙ rw e refl
      stack_shown false e =
          active_goes ok inv good effect e
          ∙ ap (λ (fs : List Frame). record { job = x; local = effect.local } ∷ fs) below
          ∙ sym (reverse-append (take under p.stack) (record { job = x; local = effect.local } ∷ []))
          ∙ ap reverse (sym (take-suc-set p.stack under (record { job = x; local = effect.local }) (omega (arith, shows.full))))
          ∙ rw (e, add-one) refl

      depth_shown : (b : Bool) → (if b then under else under + 1) ≤ 8
      depth_shown true = omega arith
      depth_shown false = omega arith

      -- the first jobs not yet ended, by whether the turn's job has
      abbrev unended_by : Bool → List ℕ
      unended_by b = if b then set p.unended i (x.0 + 1) else p.unended

      places_shown : (b : Bool) → length (unended_by b) ≡ 8
      places_shown true = length-set p.unended i (x.0 + 1) ∙ shows.places
      places_shown false = shows.places

      -- a job of the turn's task has ended with that if its number is no higher
      ended_task : effect.ended ≡ true → (y : Job) → IsJob a y → base a y ≡ i
          → has_ended s' y ≡ ltb y.0 (x.0 + 1)
      unfolding has_begun
      ended_task e y isY same =
          elim (ℕ_discrete y.0 x.0) [
            | yes equal ↦
                ap (λ (n : ℕ). has_ended s' (record { 0 = n })) equal ∙ ended_here ok inv good effect e
                ∙ sym (lt-ltb y.0 (x.0 + 1) (omega arith))
            | no apart ↦ elim (dec_lt y.0 x.0) [
              | yes lower ↦
                  ended_stays ok inv good effect y (good.preceded y isY (same_task ok.is_timed y x lower is_x (same ∙ sym task)))
                  ∙ sym (lt-ltb y.0 (x.0 + 1) (omega arith))
              | no higher ↦
                  ended_other ok inv good effect y apart
                  ∙ not_true_false _ (λ ended.
                  not_both _ (inv.preceded x y is_x isY (same_task ok.is_timed x y (omega arith) isY (task ∙ sym same)) (or_left (has_ended s y) _ ended))
                  good.running.unended)
                  ∙ sym (le-ltb y.0 (x.0 + 1) (omega arith))
            ]
          ]

      -- where it goes on, the same jobs have ended as before
      ended_kept : effect.ended ≡ false → (y : Job) → has_ended s' y ≡ has_ended s y
      ended_kept e y =
          elim (ℕ_discrete y.0 x.0) [
            | yes equal ↦
                ap (λ (n : ℕ). has_ended s' (record { 0 = n })) equal ∙ unended_here ok inv good effect e
                ∙ sym (ap (λ (n : ℕ). has_ended s (record { 0 = n })) equal ∙ good.running.unended)
            | no apart ↦ ended_other ok inv good effect y apart
          ]

      ended_shown : (b : Bool) → effect.ended ≡ b → (y : Job) → IsJob a y
          → has_ended s' y ≡ ltb y.0 (get_or (unended_by b) (base a y) 0)
      ended_shown false e y isY = ended_kept e y ∙ shows.ended y isY
      ended_shown true e y isY =
          elim (ℕ_discrete (base a y) i) [
            | yes same ↦
                ended_task e y isY same
                ∙ ap (λ (n : ℕ). ltb y.0 n) (sym (get_or-set_same p.unended i (x.0 + 1) 0 (omega (arith, shows.places, small))))
                ∙ ap (λ (k : ℕ). ltb y.0 (get_or (set p.unended i (x.0 + 1)) k 0)) (sym same)
            | no apart ↦
                ended_other ok inv good effect y (λ equal. apart (ap (λ (n : ℕ). base a (record { 0 = n })) equal ∙ task))
                ∙ shows.ended y isY
                ∙ ap (λ (n : ℕ). ltb y.0 n) (sym (get_or-set_other p.unended i (base a y) (x.0 + 1) 0 apart))
          ]

      lowest_shown : (b : Bool) (k : ℕ) (y : Job) → k < 8 → IsJob a y → base a y < k → y.0 < get_or (unended_by b) k 0
      lowest_shown false k y lt isY low = shows.lowest k y lt isY low
      lowest_shown true k y lt isY low =
          elim (ℕ_discrete k i) [
            | yes same ↦
                let lower : x.0 ≤ y.0 → ⊥ = λ le. omega (arith, base_rises ok x y le isY) in
                let stored : get_or (set p.unended i (x.0 + 1)) k 0 ≡ x.0 + 1 =
                ap (λ (n : ℕ). get_or (set p.unended i (x.0 + 1)) n 0) same ∙ get_or-set_same p.unended i
                (x.0 + 1) 0 (omega (arith, shows.places, small)) in
                omega arith
            | no apart ↦ rw (get_or-set_other p.unended i k (x.0 + 1) 0 apart) (shows.lowest k y lt isY low)
          ]

      -- the snapshot after its effect shows the state after it
      pub after_shown : Shows a p' s'
      unfolding after_in after_effect
      after_shown = record {
        store = refl;
        failed = ap (flagged effect.failed x.0) shows.failed;
        active = stack_shown effect.ended refl;
        depth = depth_shown effect.ended;
        full = length-set p.stack under _ ∙ shows.full;
        places = places_shown effect.ended;
        ended = ended_shown effect.ended refl;
        lowest = lowest_shown effect.ended;
      }

  -- what the code makes of a byte is what the definition makes of it
  abbrev Agreed : ℕ → Stepped → Type 0
  Agreed byte r =
      (r.allowed ≡ true → (after : State) × (step a s byte ≡ some after) × Shows a r.state after)
      × (r.allowed ≡ false → step a s byte ≡ none)

  module _ (byte : ℕ) (turn : Turn) (due : turn_of a s (task_of_byte byte) ≡ some turn) (under : ℕ)
      (below : turn.under ≡ reverse (take under p.stack)) (room : under < 8) where
    abbrev good : GoodTurn a s turn × (base a turn.frame.job ≡ task_of_byte byte)
    good = good_turn ok inv (task_of_byte byte) due

    abbrev offered : Bool
    offered = member (value_of_byte byte) (values (next_of a turn.frame))

    step_of : step a s byte ≡ (if offered then some (performed a s (value_of_byte byte) turn) else none)
    unfolding step step_with bind
    step_of = rw due refl

    with_of : step_with_in program p turn.frame under (task_of_byte byte) (value_of_byte byte)
        ≡ (if offered
        then record {
          allowed = true;
          state =
              after_in p turn.frame.job under (task_of_byte byte)
              (perform (next_of a turn.frame) (value_of_byte byte) turn.frame.local s.store);
        }
        else record { allowed = false; state = p })
    unfolding step_with_in offered_in made_in
    with_of =
        let lent = instruction_lent good.0 (task_of_byte byte) good.1 under below room in
        rw (lent.1, lt-ltb turn.frame.local.next 16 lent.0, shows.store) refl

    pub with_agreed : Agreed byte (step_with_in program p turn.frame under (task_of_byte byte) (value_of_byte byte))
    with_agreed =
        elim (test_decided offered) [
          | inl e ↦
              let effect = perform (next_of a turn.frame) (value_of_byte byte) turn.frame.local s.store in
              let is : step_with_in program p turn.frame under (task_of_byte byte) (value_of_byte byte)
              ≡ record { allowed = true; state = after_in p turn.frame.job under (task_of_byte byte) effect } = with_of ∙ rw e refl in
              let steps : step a s byte ≡ some (after_effect s turn effect) = step_of ∙ rw e (ap some (performed_is a s (value_of_byte byte) turn)) in
              subst (Agreed byte) (sym is) (
                λ h. (after_effect s turn effect, steps, after_shown good.0 (task_of_byte byte) good.1 under below room effect),
                λ h. absurd (true≢false h),
              )
          | inr e ↦
              let is : step_with_in program p turn.frame under (task_of_byte byte) (value_of_byte byte) ≡ record
              { allowed = false; state = p } = with_of ∙ rw e refl in
              subst (Agreed byte) (sym is) (λ h. absurd (true≢false (sym h)), λ h. step_of ∙ rw e refl)
        ]

  due_agreed : (byte : ℕ) (o : Option Due) → Turned ok lends inv shows (task_of_byte byte) o
      → Agreed byte (due_step program p (task_of_byte byte) (value_of_byte byte) o)
  unfolding due_step step bind
  due_agreed byte None turned = (λ h. absurd (true≢false (sym h)), λ h. rw turned refl)
  due_agreed byte (Some d) shown =
      let is : step_with_in program p shown.turn.frame d.under (task_of_byte byte) (value_of_byte byte) ≡
      due_step program p (task_of_byte byte) (value_of_byte byte) (Some d) =
      rw shown.frame refl in
      subst (Agreed byte) is (with_agreed byte shown.turn shown.due d.under shown.under shown.room)

  -- a byte is an allowed step of the snapshot exactly if it is one of the state, and then leads to what shows the
  -- state after it
  pub step_agreed : (byte : ℕ) → Agreed byte (step_in program waits locks p byte)
  unfolding step_in
  step_agreed byte = due_agreed byte (turn_in program waits locks p (task_of_byte byte)) (turn_turned ok lends inv shows (task_of_byte byte))

  -- ---- the end

  module _ (finished : finished_in program p ≡ true) where
    depth_none : p.depth ≡ 0
    unfolding finished_in
    depth_none = eqb-true p.depth 0 (and_both (eqb p.depth 0) _ finished).0

    none_unended : (k : ℕ) → k < 8 → has_unended program p.unended k ≡ false
    unfolding finished_in up_to from
    none_unended k lt =
        ap (has_unended program p.unended) (sym (get_or_up_to 8 k 0 lt))
        ∙ none_at (has_unended program p.unended) (up_to 8) k 0 (not-true _ (and_both (eqb p.depth 0) _ finished).1) lt

    -- a job that has not ended is one of its task's
    finished_ended : (x : Job) → IsJob a x → has_ended s x ≡ true
    unfolding has_unended
    finished_ended x is_x = elim (test_decided (has_ended s x)) [
      | inl ended ↦ ended
      | inr running ↦
          let first = first_unended ok shows x is_x running in
          let owned = ap (λ (k : ℕ). owned_by program k (unended ok shows (base a x)).0) (sym first.2)
          ∙ job_owned lends.table ok (unended ok shows (base a x)) first.1 in
          absurd (not_both _ owned (none_unended (base a x) (base_small ok x is_x)))
    ]

  module _ (ended : (x : Job) → IsJob a x → has_ended s x ≡ true) where
    ended_flat : p.depth ≡ 0
    ended_flat = elim (dec_lt 0 p.depth) [
      | yes deeper ↦
          let top = (subst (Every (IsRunning a s)) (active_top shows deeper) inv.running).0 in
          absurd (not_both _ (ended (top_of p).job top.job) top.unended)
      | no flat ↦ omega arith
    ]

    ended_unended : (k : ℕ) → k < 8 → has_unended program p.unended k ≡ false
    unfolding has_unended
    ended_unended k lt = not_true_false _ (λ h.
        (let owned = owned_shown lends.table k _ lt h in
        first_open ok shows k owned.0 owned.1 (ended _ owned.0)))

    ended_finished : finished_in program p ≡ true
    unfolding finished_in up_to from
    ended_finished =
        and_holds (eqb p.depth 0) _ (eq-eqb _ _ ended_flat)
        (ap not (at_none (has_unended program p.unended) (up_to 8) 0
        (λ k lt. ap (has_unended program p.unended) (get_or_up_to 8 k 0 lt) ∙ ended_unended k lt)))

  -- all jobs have ended exactly if none is active and no task has one not yet ended
  pub finished_agreed : finished_in program p ≡ all_ended a s
  unfolding all_ended
  finished_agreed =
      both_ways _ _ (λ h. jobs_all a (has_ended s) (finished_ended h)) (λ h. ended_finished (all_jobs a (has_ended s) h))
