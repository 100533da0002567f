-- The walk at one snapshot: what its answers come to, a complete order fails if a job has, nothing is found where no
-- steps are left, and else the moves are tried.
-- Assumes nothing.
use Rattle.std.specs.Prelude.{◌≡◌, refl, ◌⊎◌, ℕ, suc, ◌+◌, ◌-◌, ◌≤◌, true, false, List, [], ◌++◌, take}
use Rattle.std.proofs.Common.{sym, ap, subst, ◌∙◌, arith, append-nil}
use Rattle.std.proofs.Math.Logic.{inl, inr}
use Rattle.std.proofs.Math.Option.{Option, none, some}
use Rattle.taskfile.specs.declared.Ceilings.{Ceilings}
use Rattle.notation.specs.Lists.{any}
use Rattle.notation.specs.Laws.TestLaws.{test_decided}
use Rattle.order_states.specs.Code.Snapshots.{Snapshot}
use Rattle.order.specs.Orders.{order_end}
use Rattle.order_states.proofs.Laws.SnapshotLaws.{finished_agreed}
use Rattle.order_states.specs.Code.SnapshotSteps.{finished_in}
use Rattle.order.specs.States.{State}
use Rattle.walk.proofs.Laws.CaseLaws.{walk_end, walk_cut, walk_on}
use Rattle.walk_trials.specs.declared.Outcome.{Outcome}
use Rattle.walk_trials.specs.declared.Outcome.TheVariants.{Stopped, Held, Found}
use Rattle.walk_trials.specs.declared.Trial as trying
use Rattle.walk_trials.specs.declared.Trial.{Trial}
use Rattle.walk.specs.Moves.{moves}
use Rattle.walk_trials.specs.Code.Outcomes.{end_in, ended_at, outcome_of}
use Rattle.walk_trials.specs.Code.Trials.{WalkEndsAs, Came, WalksAs, TriesAs}
use Rattle.walk.specs.Code.FromState.{walk_from, trial}
use Rattle.walk.specs.Walks.{EndedOrder, Walked, fails, at_end}

-- what the walk comes to whose trial came to this
module _ (count : ℕ) (p : Snapshot) where
  -- no order failed
  pub outcome_held : {r : Trial} → r ≡ trying.TheVariants.Held → outcome_of r count p ≡ Held count
  outcome_held is = ap (λ (r : Trial). outcome_of r count p) is

  -- the allowance did not suffice
  pub outcome_stopped : {r : Trial} → r ≡ trying.TheVariants.Stopped → outcome_of r count p ≡ Stopped
  outcome_stopped is = ap (λ (r : Trial). outcome_of r count p) is

  -- else an order was found, or the allowance did not suffice
  pub outcome_other : (r : Trial) → (r ≡ trying.TheVariants.Held → ⊥)
      → ((n : ℕ) × (outcome_of r count p ≡ Found count n (end_in p))) ⊎ (outcome_of r count p ≡ Stopped)
  outcome_other trying.TheVariants.Held other = absurd (other refl)
  outcome_other trying.TheVariants.Stopped other = inr refl
  outcome_other (trying.TheVariants.Found n) other = inl (n, refl)

-- nothing found, and nothing changed
came_held : (count allowance at : ℕ) (buffer : List ℕ) → count ≤ allowance → (walked : Walked)
    → walked.failing ≡ none → walked.count ≡ 0 → {r : Outcome} → r ≡ Held count
    → Came walked count allowance at buffer buffer r
came_held count allowance at buffer le walked nothing zero-moves {r} is =
    record {
      kept = refl;
      cut = λ over. absurd (omega arith);
      whole = λ within.
          let all : count ≡ count + walked.count = omega arith in
          subst (λ (o : Option EndedOrder). WalkEndsAs o (count + walked.count) at buffer r) (sym nothing)
          (is ∙ ap (λ (n : ℕ). Held n) all);
    }

-- a complete order fails if a job has
ended_came : (p : Snapshot) (s : State) → p.store ≡ s.store → p.failed ≡ s.failed
    → (count allowance at : ℕ) (buffer : List ℕ) → count ≤ allowance
    → Came (at_end s) count allowance at buffer buffer (outcome_of (ended_at p at) count p)
unfolding ended_at at_end fails order_end
ended_came p s store failed count allowance at buffer le =
    elim (test_decided (any (λ flag. flag) s.failed)) [
      | inl bad ↦
          let ended : at_end s ≡ record { failing = some (record { bytes = []; ending = order_end s }); count = 0 } = rw bad refl in
          let is : ended_at p at ≡ trying.TheVariants.Found at = rw (ap (any (λ flag. flag)) failed ∙ bad) refl in
          let none_more : at + 0 ≡ at = omega arith in
          let same : take (at + 0) buffer ≡ take at buffer ++ [] = ap (λ (n : ℕ). take n buffer) none_more ∙ sym (append-nil (take at buffer)) in
          subst (λ (w : Walked). Came w count allowance at buffer buffer (outcome_of (ended_at p at) count p)) (sym ended)
          (subst (λ (r : Trial). Came (record { failing = some (record { bytes = []; ending = order_end s }); count = 0 })
          count allowance at buffer buffer (outcome_of r count p)) (sym is)
          (record {
            kept = refl;
            cut = λ over. absurd (omega arith);
            whole = λ within.
                let all : count ≡ count + 0 = omega arith in
                ((λ t. Found (all t) (sym none_more t) (record { store = store t; failed = failed t })), same);
          }))
      | inr good ↦
          let is : ended_at p at ≡ trying.TheVariants.Held = rw (ap (any (λ flag. flag)) failed ∙ good) refl in
          came_held count allowance at buffer le (at_end s) (rw good refl) refl (ap (λ (r : Trial). outcome_of r count p) is)
    ]

module _ {program waits : List ℕ} {locks : Ceilings} {p : Snapshot} (left count allowance : ℕ) (buffer : List ℕ) (le : count ≤ allowance) where
  -- a complete order fails if a job has
  pub walk_ended : finished_in program p ≡ true
      → WalksAs program waits locks p left count allowance buffer buffer (outcome_of (ended_at p (512 - left)) count p)
  walk_ended finished a s ok lends inv shows =
      let ended = sym (finished_agreed ok lends inv shows) ∙ finished in
      subst (λ (w : Walked). Came w count allowance (512 - left) buffer buffer (outcome_of (ended_at p (512 - left)) count p)) (sym (walk_end a s left ended))
      (ended_came p s shows.store shows.failed count allowance (512 - left) buffer le)

  pub walk_none_left : finished_in program p ≡ false → left ≡ 0 → {r : Outcome} → r ≡ Held count
      → WalksAs program waits locks p left count allowance buffer buffer r
  walk_none_left going empty {r} held a s ok lends inv shows =
      let unended = sym (finished_agreed ok lends inv shows) ∙ going in
      let is : walk_from a left s ≡ record { failing = none; count = 0 } = ap (λ (n : ℕ). walk_from a n s) empty ∙ walk_cut a s unended in
      subst (λ (w : Walked). Came w count allowance (512 - left) buffer buffer r) (sym is)
      (came_held count allowance (512 - left) buffer le _ refl refl held)

-- where jobs are left, the walk is the trial of the moves
pub walk_tried : {program waits : List ℕ} {locks : Ceilings} {p : Snapshot} {left count allowance : ℕ}
    {before after : List ℕ} {r : Outcome} → finished_in program p ≡ false → 1 ≤ left → left ≤ 512
    → TriesAs program waits locks p (left - 1) count allowance before after r
    → WalksAs program waits locks p left count allowance before after r
walk_tried {left = left} {count} {allowance} {before} {after} {r} going some_left few tries a s ok lends inv shows =
    let unended = sym (finished_agreed ok lends inv shows) ∙ going in
    let less : left ≡ suc (left - 1) = omega arith in
    let is : walk_from a left s ≡ trial (walk_from a (left - 1)) (moves a s) = ap (λ (n : ℕ). walk_from a n s) less ∙ walk_on a s (left - 1) unended in
    let place : ◌≡◌ {A = ℕ} (511 - (left - 1)) (512 - left) = omega arith in
    subst (λ (w : Walked). Came w count allowance (512 - left) before after r) (sym is)
    (subst (λ (n : ℕ). Came (trial (walk_from a (left - 1)) (moves a s)) count allowance n before after r) place (tries a s ok lends inv shows))
