-- The answers of the code of the trial and of the walk: each outcome, with what is left in the buffer, is as the
-- contract says. And whose turn a move is.
-- Assumes nothing.
use Rattle.order.specs.OrderBytes.{task_of_byte, value_of_byte}
use Rattle.std.specs.Prelude.{◌≡◌, ℕ, ◌+◌, ◌-◌, ◌*◌, ◌≤◌, ◌<◌, true, false, List, length, set, eqb, Option, None, Some}
use Rattle.std.proofs.Math.Path.{refl, ap, subst}
use Rattle.std.proofs.Common.{sym, ◌∙◌, arith, length-set, eqb-true}
use Rattle.std.proofs.Math.Logic.{inl, inr}
use Rattle.std.proofs.lemmas.Bool.{eqb-false}
use Rattle.taskfile.specs.declared.Ceilings.{Ceilings}
use Rattle.notation.specs.Laws.TestLaws.{test_decided}
use Rattle.order_states.specs.Code.Snapshots.{Snapshot, Stepped}
use Rattle.order_states.specs.Code.SnapshotSteps.{finished_in, level_in, turn_in, step_in}
use Rattle.order_states.specs.Code.SnapshotWithin.{AllWithin}
use Rattle.order_states.proofs.Laws.SnapshotWithinLaws.{due_within}
use Rattle.order_states.proofs.Laws.TurnLaws.{due_bounds, step_due}
use Rattle.order_states.proofs.Laws.StepPartLaws.{offered_inside, with_offered}
use Rattle.order_steps.specs.Code.Moving.{Steppable, mover_in, moved_in}
use Rattle.walk_moves.specs.Code.MoveParts.{NextStep, FirstStart, running_task, FoundBelow}
use Rattle.walk_moves.specs.Laws.AllowedLaws.{allowed_offered, allowed_top, allowed_deep, allowed_start}
use Rattle.walk_trials.specs.declared.Outcome.{Outcome}
use Rattle.walk_trials.specs.declared.Outcome.TheVariants.{Stopped, Held}
use Rattle.walk_trials.specs.declared.Trial as tried
use Rattle.walk_trials.specs.declared.Trial.{Trial}
use Rattle.walk_trials.specs.Code.Outcomes.{ended_at, outcome_of}
use Rattle.walk_trials.specs.Laws.TrialLaws.{path_kept}
use Rattle.walk_trials.specs.Laws.TryingLaws.{Trying, TryingAt, trying_starts, trying_skips, trying_ends, trying_stops}
use Rattle.walk_trials.specs.Laws.TryingLaws.{trying_finds, trying_cut, trying_on}
use Rattle.walk_trials.specs.Code.Trials.{Left, WalksAs, TriesAs}
use Rattle.walk_trials.specs.Laws.WalkStateLaws.{walk_ended, walk_none_left, walk_tried}

-- ---- whose turn a move is

module _ (program waits : List ℕ) (locks : Ceilings) (p : Snapshot) {top : ℕ} (byte : ℕ)
    (running : top ≡ running_task program p) (small : byte < 128)
    (allowed : (step_in program waits locks p byte).allowed ≡ true) where
  mover_turn : Some (mover_in p top (task_of_byte byte)) ≡ turn_in program waits locks p (task_of_byte byte)
  unfolding mover_in
  mover_turn =
      elim (test_decided (eqb (task_of_byte byte) top)) [
        | inl h ↦ rw h (allowed_top program waits locks p byte allowed small running (eqb-true _ _ h))
        | inr h ↦ rw h (allowed_start program waits locks p byte allowed small running (eqb-false _ _ h))
      ]

  -- its numbers have a place in the arrays, and it holds no more than it can by then
  pub mover_bounds : p.depth ≤ 8 → AllWithin p
      → (task_of_byte byte ≡ top → 1 ≤ p.depth) × ((mover_in p top (task_of_byte byte)).under < 8)
      × Steppable (mover_in p top (task_of_byte byte)).frame
  mover_bounds few all =
      let bounds = due_bounds program waits locks p (task_of_byte byte) mover_turn few in
      let offered = allowed_offered program waits locks p byte allowed mover_turn in (
        allowed_deep program waits locks p byte allowed small running,
        bounds.0,
        (
          bounds.1,
          offered_inside program (mover_in p top (task_of_byte byte)).frame (task_of_byte byte) (value_of_byte byte) offered,
          due_within program waits locks p (task_of_byte byte) all mover_turn,
        ),
      )

  -- what it makes is the step
  move_made : moved_in program p top byte ≡ (step_in program waits locks p byte).state
  unfolding moved_in
  move_made =
      let d = mover_in p top (task_of_byte byte) in
      ap (λ (r : Stepped). r.state)
      (sym (with_offered program p d.frame d.under (task_of_byte byte) (value_of_byte byte) (allowed_offered program waits locks p byte allowed mover_turn))
      ∙ step_due program waits locks p byte mover_turn refl)

-- ---- the trial's answers

-- the search from the level on finds the first start
pub first_start : (program waits : List ℕ) (locks : Ceilings) (p : Snapshot) {low : ℕ} (start : Option ℕ)
    → low ≡ level_in program locks p
    → ((ls : Ceilings) → low ≡ level_in program ls p → low ≤ low
    → FoundBelow 128 (λ m. NextStep program waits ls p (16 * low) m) start)
    → FoundBelow 128 (λ m. FirstStart program waits locks p m) start
first_start program waits locks p {low} start level found =
    subst (λ (n : ℕ). FoundBelow 128 (λ m. NextStep program waits locks p (16 * n) m) start) level
    (found locks level (omega arith))

-- the first move is where the trial starts
pub first_answer : {program waits : List ℕ} {locks : Ceilings} {p : Snapshot} {left count allowance m : ℕ}
    {buffer : List ℕ} → count ≤ allowance → NextStep program waits locks p 0 m
    → TryingAt program waits locks p left count count allowance buffer buffer m
first_answer le next = (trying_skips next.ahead next.below next.none_before (trying_starts le), next.allowed)

-- where there is one
pub first_answers : (program waits : List ℕ) (locks : Ceilings) (p : Snapshot) (left : ℕ) {count allowance : ℕ}
    (buffer : List ℕ) → count ≤ allowance → (o : Option ℕ) → FoundBelow 128 (λ m. NextStep program waits locks p 0 m) o
    → FoundBelow 128 (λ m. TryingAt program waits locks p left count count allowance buffer buffer m) o
first_answers program waits locks p left buffer le None next = first_answer le next
first_answers program waits locks p left buffer le (Some m) next = (next.0, first_answer le next.1)

-- no move is left
pub ends_answer : {program waits : List ℕ} {locks : Ceilings} {p : Snapshot} {left count allowance made byte : ℕ}
    {before now : List ℕ} {r : Outcome} → left < 512
    → Trying program waits locks p left count made allowance byte before now → r ≡ Held made → 128 ≤ byte
    → Left (511 - left) allowance before now made × TriesAs program waits locks p left count allowance before now r
ends_answer few trying is past = (
  (trying.same, trying.within, trying.path),
  trying_ends few trying past is,
)

-- at a move
module _ {program waits : List ℕ} {locks : Ceilings} {p : Snapshot} {left count allowance made byte : ℕ}
    {before now : List ℕ} (few : left < 512)
    (trying : Trying program waits locks p left count made allowance byte before now) (lt : byte < 128)
    (allowed : (step_in program waits locks p byte).allowed ≡ true) where
  -- the allowance is spent
  pub stops_answer : {r : Outcome} → r ≡ Stopped → allowance ≤ made
      → Left (511 - left) allowance before now made × TriesAs program waits locks p left count allowance before now r
  stops_answer is spent = (
    (trying.same, trying.within, trying.path),
    trying_stops few trying lt allowed spent is,
  )

  module _ (room : 512 ≤ length before) {top : ℕ} (running : top ≡ running_task program p) {below : Snapshot}
      (step : below ≡ moved_in program p top byte) (out : List ℕ) (m : ℕ) (q : Snapshot) where
    -- what the walk below left, and came to
    abbrev Child : Trial → Type 0
    Child r =
        Left (512 - left) allowance (set now (511 - left) byte) out m
        × WalksAs program waits locks below left (made + 1) allowance (set now (511 - left) byte) out (outcome_of r m q)

    -- and what this trial leaves, and comes to
    abbrev Whole : Trial → Type 0
    Whole r =
        Left (511 - left) allowance before out m
        × TriesAs program waits locks p left count allowance before out (outcome_of r m q)

    -- the walk below is that of the state after the step
    walked_below : (r : Trial) → Child r → WalksAs program waits locks (step_in program waits locks p byte).state left
        (made + 1) allowance (set now (511 - left) byte) out (outcome_of r m q)
    walked_below r child =
        subst
        (λ (b : Snapshot). WalksAs program waits locks b left (made + 1) allowance (set now (511 - left) byte) out (outcome_of r m q))
        (step ∙ move_made program waits locks p byte running lt allowed) child.1

    -- the buffer has room for the byte, and the walk below leaves the path to the state as it was
    room_now : 512 ≤ length now
    room_now = omega (arith, trying.same)

    left_on : (r : Trial) → Child r → Left (511 - left) allowance before out m
    left_on r child = (
      child.0.0 ∙ length-set now (511 - left) byte ∙ trying.same,
      child.0.1,
      path_kept left byte few room_now trying.path child.0.2,
    )

    -- an order was found below
    pub found_answer : {n : ℕ} → Child (tried.TheVariants.Found n) → Whole (tried.TheVariants.Found n)
    found_answer {n} child =
        let r = tried.TheVariants.Found n in
        (left_on r child, trying_finds few trying lt allowed room_now (walked_below r child) refl)

    -- or the allowance was spent there
    pub cut_answer : Child tried.TheVariants.Stopped → Whole tried.TheVariants.Stopped
    cut_answer child =
        let r = tried.TheVariants.Stopped in
        (left_on r child, trying_cut few trying lt allowed room_now (walked_below r child) refl)

    module _ {after : ℕ} (next : NextStep program waits locks p (byte + 1) after) where
      -- neither: the trial goes on at the next move
      pub on_answer : Child tried.TheVariants.Held
          → TryingAt program waits locks p left count m allowance before out after
      on_answer child =
          let r = tried.TheVariants.Held in (
            trying_skips next.ahead next.below next.none_before
                (trying_on few trying lt allowed room_now (walked_below r child) refl (left_on r child)),
            next.allowed,
          )

      -- what the last move comes to is what the trial does
      pub last_answer : (r : Trial) → Child r → 128 ≤ after → Whole r
      last_answer (tried.TheVariants.Found n) child past = found_answer child
      last_answer tried.TheVariants.Stopped child past = cut_answer child
      last_answer tried.TheVariants.Held child past = ends_answer few (on_answer child).0 refl past

    -- where there is one
    pub on_answers : (o : Option ℕ) → FoundBelow 128 (λ after. NextStep program waits locks p (byte + 1) after) o
        → Child tried.TheVariants.Held
        → FoundBelow 128 (λ after. TryingAt program waits locks p left count m allowance before out after) o
    on_answers None next child = on_answer next child
    on_answers (Some after) next child = (next.0, on_answer next.1 child)

-- ---- the walk's answers

unchanged : (at count allowance : ℕ) (buffer : List ℕ) → count ≤ allowance → Left at allowance buffer buffer count
unchanged at count allowance buffer le = (refl, le, record { kept = refl })

module _ {program waits : List ℕ} {locks : Ceilings} {p : Snapshot} (left : ℕ) {count allowance : ℕ}
    (buffer : List ℕ) (le : count ≤ allowance) where
  pub ended_answer : finished_in program p ≡ true → {r : Trial} → r ≡ ended_at p (512 - left)
      → Left (512 - left) allowance buffer buffer count
      × WalksAs program waits locks p left count allowance buffer buffer (outcome_of r count p)
  ended_answer finished {r} is = (
    unchanged (512 - left) count allowance buffer le,
    subst (λ (n : Trial). WalksAs program waits locks p left count allowance buffer buffer (outcome_of n count p)) (sym is)
        (walk_ended left count allowance buffer le finished),
  )

  pub none_left_answer : finished_in program p ≡ false → left ≡ 0
      → Left (512 - left) allowance buffer buffer count
      × WalksAs program waits locks p left count allowance buffer buffer (Held count)
  none_left_answer going empty = (
    unchanged (512 - left) count allowance buffer le,
    walk_none_left left count allowance buffer le going empty refl,
  )

pub tried_answer : {program waits : List ℕ} {locks : Ceilings} {p : Snapshot} {left count allowance made : ℕ}
    {before after : List ℕ} {r : Outcome} → finished_in program p ≡ false → (left ≡ 0 → ⊥) → left ≤ 512
    → Left (511 - (left - 1)) allowance before after made × TriesAs program waits locks p (left - 1) count allowance
    before after r
    → Left (512 - left) allowance before after made × WalksAs program waits locks p left count allowance before after r
tried_answer {left = left} {allowance = allowance} {made = made} {before} {after} going some_left few answer =
    let one : 1 ≤ left = omega arith in
    let place : ◌≡◌ {A = ℕ} (511 - (left - 1)) (512 - left) = omega arith in
    (subst (λ (n : ℕ). Left n allowance before after made) place answer.0, walk_tried going one few answer.1)
