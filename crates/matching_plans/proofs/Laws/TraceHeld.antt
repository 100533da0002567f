-- The arrays of a traced order hold its trace: its steps in their rounds, and the store where each round begins. It
-- holds after each step.
-- Assumes nothing.
use Rattle.std.specs.Prelude.{◌≡◌, ℕ, suc, ◌+◌, ◌≤◌, ◌<◌, Bool, set}
use Rattle.std.proofs.Math.Path.{refl, sym, ap}
use Rattle.std.proofs.Common.{◌∙◌, add-one, arith, get_or-set_same, get_or-set_other, lt-ltb, le-ltb}
use Rattle.std.proofs.Math.Decide.{ℕ_discrete, dec_lt}
use Rattle.std.proofs.Math.Bool.{true, false}
use mathlib.Core.List.{List, [], ◌∷◌, ◌++◌, map}
use Rattle.std.proofs.Math.ListN.{length, get_or}
use Rattle.std.specs.Prelude.{if◌then◌else◌}
use Rattle.notation.specs.Laws.ListLaws.{map_snoc}
use Rattle.notation.specs.Laws.QuantifierLaws.{map_length}
use Rattle.notation.specs.Laws.TabulateLaws.{values_length}
use Rattle.timing.specs.Accepted.{Accepted}
use Rattle.machine.specs.Instructions.{Store}
use Rattle.order.specs.States.{State}
use Rattle.plan.specs.Runs.{job_total}
use Rattle.order_states.specs.Code.Shows.{Shows}
use Rattle.order_states.specs.Code.Snapshots.{Snapshot}
use Rattle.matching.proofs.Laws.History.Histories.{Mark, marked}
use Rattle.matching.proofs.Laws.History.PlanReading.{mark_of}
use Rattle.matching.proofs.Laws.FromOrder.TraceSteps.{Trace, traced}
use Rattle.plan_marks.specs.declared.Marks.{Marks}
use Rattle.plan_marks.specs.Code.Marks.{store_at, with_store, step_count, steps_marked}
use Rattle.plan_marks.specs.Laws.MarkLaws.{mark_added, mark_others}
use Rattle.plan_marks.specs.Laws.StoreLaws.{put_here, put_other}
use Rattle.matching_plans.specs.Code.Tracing.{TraceState, note_in, guess_in, round_in}
use Rattle.matching_plans.proofs.Laws.NotingLaws.{guess_room}

-- the marks of job x as a trace has them
unfoldable pub marks_read : Marks → ℕ → List Mark
marks_read marks x = map mark_of (steps_marked marks x)

-- at a state, in round r
pub record HeldTrace (a : Accepted) (s : State) (r : ℕ) (t : Trace) (n : TraceState) : Type 0 where
  pub shows : Shows a n.state s
  pub round : r < 32 → n.round ≡ r
  pub room : length n.guesses ≡ 256
  pub marks : (x : ℕ) → x < job_total a → marks_read n.marks x ≡ get_or t.marks x []
  pub guesses : (q : ℕ) → q < job_total a → q ≤ r → store_at n.guesses q ≡ get_or t.guesses q []

-- ---- the marks

-- as many as are counted
marks_counted : (marks : Marks) (x : ℕ) → length (marks_read marks x) ≡ step_count marks x
unfolding marks_read steps_marked
marks_counted marks x = map_length mark_of (steps_marked marks x) ∙ values_length _ (step_count marks x)

module _ (marks : Marks) (x : ℕ) (is_x : x < 32) (room : step_count marks x < 16) (r v : ℕ) where
  -- one more of job x, and those of another
  note_here : marks_read (note_in marks x (record { 0 = r }) v) x
      ≡ marks_read marks x ++ (record { round = r; value = v } ∷ [])
  unfolding marks_read note_in steps_marked mark_of
  note_here =
      rw (lt-ltb (step_count marks x) 16 room)
      (ap (map mark_of) (mark_added marks x (step_count marks x) is_x room _) ∙ map_snoc mark_of (steps_marked marks x) _)

  note_other : (y : ℕ) → (y ≡ x → ⊥) → marks_read (note_in marks x (record { 0 = r }) v) y ≡ marks_read marks y
  unfolding marks_read note_in
  note_other y apart =
      rw (lt-ltb (step_count marks x) 16 room)
      (ap (map mark_of) (mark_others marks x (step_count marks x) is_x room _ y apart))

-- ---- the guesses

module _ (guesses : List ℕ) (room : length guesses ≡ 256) (store : Store) (eight : length store ≡ 8) (r : ℕ) where
  guess_here : r < 31 → store_at (guess_in guesses r store) (suc r) ≡ store
  unfolding guess_in
  guess_here lt =
      rw (lt-ltb r 31 lt)
      (ap (store_at (with_store guesses (r + 1) store)) (sym (add-one r)) ∙ put_here guesses room (r + 1) (omega arith) store eight)

  guess_other : (q : ℕ) → q < 32 → (q ≡ suc r → ⊥) → store_at (guess_in guesses r store) q ≡ store_at guesses q
  unfolding guess_in
  guess_other q isQ apart =
      elim (dec_lt r 31) [
        | yes lt ↦ rw (lt-ltb r 31 lt) (put_other guesses room (r + 1) (omega arith) store eight q isQ (λ e. apart (omega arith)))
        | no le ↦ rw (le-ltb r 31 (omega arith)) refl
      ]

-- ---- a step

-- what a step leaves, which may be its job's End
unfoldable pub after_step : Snapshot → ℕ → ℕ → Bool → TraceState → TraceState
after_step p x v ends n =
    record {
      state = p;
      round = if ends then round_in n.round else n.round;
      marks = note_in n.marks x (record { 0 = n.round }) v;
      guesses = if ends then guess_in n.guesses n.round p.store else n.guesses;
    }

module _ {a : Accepted} (few : job_total a ≤ 32) {s : State} {r : ℕ} {t : Trace} {n : TraceState} (held : HeldTrace a s r t n)
    (listed : length t.marks ≡ job_total a) (guessed : length t.guesses ≡ job_total a) (ongoing : r < job_total a)
    (x : ℕ) (is_x : x < job_total a) (v : ℕ) (short : length (get_or t.marks x []) < 16) {p : Snapshot} {next : State}
    (shows : Shows a p next) (eight : length next.store ≡ 8) where
  round_is : n.round ≡ r
  round_is = held.round (omega arith)

  mark : Mark
  mark = record { round = r; value = v }

  counted : step_count n.marks x < 16
  counted = omega (arith, marks_counted n.marks x, ap length (held.marks x is_x))

  abbrev noted : Marks
  noted = note_in n.marks x (record { 0 = n.round }) v

  noted_is : noted ≡ note_in n.marks x (record { 0 = r }) v
  noted_is = ap (λ (k : ℕ). note_in n.marks x (record { 0 = k }) v) round_is

  marks_after : (y : ℕ) → y < job_total a
      → marks_read noted y ≡ get_or (marked t.marks x (record { round = r; value = v })) y []
  unfolding marked
  marks_after y isY =
      elim (ℕ_discrete y x) [
        | yes same ↦
            ap (λ (k : ℕ). marks_read noted k) same
            ∙ ap (λ (l : Marks). marks_read l x) noted_is
            ∙ note_here n.marks x (omega arith) counted r v
            ∙ ap (λ (l : List Mark). l ++ (record { round = r; value = v } ∷ [])) (held.marks x is_x)
            ∙ sym (get_or-set_same t.marks x _ [] (omega arith))
            ∙ ap (λ (k : ℕ). get_or (marked t.marks x (record { round = r; value = v })) k []) (sym same)
        | no apart ↦
            ap (λ (l : Marks). marks_read l y) noted_is
            ∙ note_other n.marks x (omega arith) counted r v y apart
            ∙ held.marks y isY
            ∙ sym (get_or-set_other t.marks x y _ [] apart)
      ]

  guessed_is : guess_in n.guesses n.round p.store ≡ guess_in n.guesses r next.store
  guessed_is =
      ap (λ (k : ℕ). guess_in n.guesses k p.store) round_is ∙ ap (guess_in n.guesses r) shows.store

  guesses_after : (q : ℕ) → q < job_total a → q ≤ suc r
      → store_at (guess_in n.guesses r next.store) q ≡ get_or (set t.guesses (suc r) next.store) q []
  guesses_after q isQ le =
      elim (ℕ_discrete q (suc r)) [
        | yes same ↦
            ap (store_at (guess_in n.guesses r next.store)) same
            ∙ guess_here n.guesses held.room next.store eight r (omega arith)
            ∙ sym (get_or-set_same t.guesses (suc r) next.store [] (omega arith))
            ∙ ap (λ (k : ℕ). get_or (set t.guesses (suc r) next.store) k []) (sym same)
        | no apart ↦
            guess_other n.guesses held.room next.store eight r q (omega arith) apart
            ∙ held.guesses q isQ (omega arith)
            ∙ sym (get_or-set_other t.guesses (suc r) q next.store [] apart)
      ]

  round_after_lem : suc r < 32 → round_in n.round ≡ suc r
  unfolding round_in
  round_after_lem lt = ap round_in round_is ∙ rw (lt-ltb r 31 (omega arith)) (add-one r)

  -- the arrays hold the trace after it
  pub step_held : (ends : Bool)
      → HeldTrace a next (if ends then suc r else r) (traced r x v ends next.store t) (after_step p x v ends n)
  unfolding traced after_step
  step_held true = record {
    shows = shows;
    round = round_after_lem;
    room = ap length guessed_is ∙ guess_room n.guesses held.room r next.store eight;
    marks = marks_after;
    guesses = λ q isQ le. ap (λ (l : List ℕ). store_at l q) guessed_is ∙ guesses_after q isQ le;
  }
  step_held false = record {
    shows = shows;
    round = λ lt. round_is;
    room = held.room;
    marks = marks_after;
    guesses = held.guesses;
  }
