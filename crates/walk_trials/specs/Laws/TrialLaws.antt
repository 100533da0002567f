-- The trial of the moves of a state, one after the other: what is left of it at a byte, and what it comes to by what
-- the walk below finds.
-- Assumes nothing.
use Rattle.std.specs.Prelude.{◌≡◌, refl, set}
use Rattle.std.proofs.Common.{sym, ◌∙◌, add-one, take-suc-set, length-take-le, take-take, take_at}
use Rattle.std.proofs.Math.Path.{ap, subst}
use Prim.Native.Nat.{ℕ, suc, ◌+◌, ◌-◌, ◌≤◌, ◌<◌}
use Rattle.std.proofs.Math.Decide.{dec_le}
use native.Mathlib.Omega.{arith}
use mathlib.Core.List.{List, [], ◌∷◌, ◌++◌, append_assoc}
use Rattle.std.proofs.Math.Option.{Option, none, some}
use Rattle.std.proofs.Math.ListN.{length, take}
use Rattle.timing.specs.Accepted.{Accepted}
use Rattle.timing.specs.Code.IsAccepted.{IsAccepted}
use Rattle.order.specs.Code.Invariant.{Invariant}
use Rattle.order.specs.Orders.{step}
use Rattle.order.specs.States.{State}
use Rattle.walk.proofs.Laws.ByteLaws.{steps_from, moves_steps, steps_skip, steps_some}
use Rattle.machine.specs.declared.End.{End}
use Rattle.walk_trials.specs.declared.Outcome.{Outcome}
use Rattle.walk_trials.specs.declared.Outcome.TheVariants.{Stopped, Held, Found}
use Rattle.walk.specs.Moves.{Move, moves}
use Rattle.walk_trials.specs.Code.Trials.{Path, WalkEndsAs, Came}
use Rattle.walk.specs.Code.FromState.{walk_from, trial}
use Rattle.walk.specs.Walks.{EndedOrder, Walked, starting, after_move}

-- the moves from a byte on are what is left of all moves: nothing failed before, and `made` moves were made with
-- `count` before the trial
pub record Rest (a : Accepted) (s : State) (left count made byte : ℕ) : Type 0 where
  pub failing : (trial (walk_from a left) (moves a s)).failing ≡ (trial (walk_from a left)
      (steps_from a s byte (128 - byte))).failing
  pub total : count + (trial (walk_from a left) (moves a s)).count ≡ made + (trial (walk_from a left)
      (steps_from a s byte (128 - byte))).count

-- before the first byte all are left
pub rest_all : {a : Accepted} → IsAccepted a → {s : State} → Invariant a s → (left count : ℕ)
    → Rest a s left count count 0
rest_all {a} ok {s} inv left count =
    let same = moves_steps ok inv in
    record {
      failing = ap (λ (ms : List Move). (trial (walk_from a left) ms).failing) same;
      total =
          ap (λ (ms : List Move). count + (trial (walk_from a left) ms).count) same;
    }

-- bytes that are no steps are passed over
pub rest_skip : {a : Accepted} {s : State} {left count made : ℕ} (byte next : ℕ) → byte ≤ next → next ≤ 128
    → ((k : ℕ) → byte ≤ k → k < next → step a s k ≡ none) → Rest a s left count made byte
    → Rest a s left count made next
rest_skip {a} {s} {left} {count} {made} byte next le few idle rest =
    let whole : 128 - byte ≡ (next - byte) + (128 - next) = omega arith in
    let further : byte + (next - byte) ≡ next = omega arith in
    let same : steps_from a s byte (128 - byte) ≡ steps_from a s next (128 - next) =
    ap (steps_from a s byte) whole ∙ steps_skip a s byte (next - byte) (128 - next) (λ k least most. idle k least (omega arith))
    ∙ ap (λ (b : ℕ). steps_from a s b (128 - next)) further in
    record {
      failing = rest.failing ∙ ap (λ (ms : List Move). (trial (walk_from a left) ms).failing) same;
      total = rest.total ∙ ap (λ (ms : List Move). made + (trial (walk_from a left) ms).count) same;
    }

-- at a byte that is a step, the rest is that move, what is below it, and the moves after it
rest_here : {a : Accepted} {s : State} {left count made : ℕ} (byte : ℕ) → byte < 128 → {after : State}
    → step a s byte ≡ some after → Rest a s left count made byte
    → ((trial (walk_from a left) (moves a s)).failing ≡ (after_move byte (walk_from a left after)
    (trial (walk_from a left) (steps_from a s (byte + 1) (128 - (byte + 1))))).failing) × (count + (trial
    (walk_from a left) (moves a s)).count ≡ made + (after_move byte (walk_from a left after)
    (trial (walk_from a left) (steps_from a s (byte + 1) (128 - (byte + 1))))).count)
unfolding trial
rest_here {a} {s} {left} {count} {made} byte lt {after} e rest =
    let more : 128 - byte ≡ suc (128 - (byte + 1)) = omega arith in
    let same : steps_from a s byte (128 - byte) ≡ record { byte = byte; after = after } ∷ steps_from a s (byte + 1) (128 - (byte + 1)) =
    ap (steps_from a s byte) more ∙ steps_some a s byte (128 - (byte + 1)) e
    ∙ ap (λ (b : ℕ). record { byte = byte; after = after } ∷ steps_from a s b (128 - (byte + 1))) (sym (add-one byte)) in (
      rest.failing ∙ ap (λ (ms : List Move). (trial (walk_from a left) ms).failing) same,
      rest.total ∙ ap (λ (ms : List Move). made + (trial (walk_from a left) ms).count) same,
    )

-- what a move comes to: none below it failed, or one did
move_holds : (byte : ℕ) (below others : Walked) → below.failing ≡ none
    → ((after_move byte below others).failing ≡ others.failing)
    × ((after_move byte below others).count ≡ 1 + below.count + others.count)
unfolding after_move
move_holds byte below others e = rw (e, after_move) (refl, refl)

move_fails : (byte : ℕ) (below others : Walked) {f : EndedOrder} → below.failing ≡ some f
    → ((after_move byte below others).failing ≡ some (starting byte f))
    × ((after_move byte below others).count ≡ 1 + below.count)
unfolding after_move
move_fails byte below others e = rw (e, after_move) (refl, refl)

-- it counts itself and all below it
move_counts : (byte : ℕ) (below others : Walked) (o : Option EndedOrder) → below.failing ≡ o
    → 1 + below.count ≤ (after_move byte below others).count
move_counts byte below others none e = omega (arith, (move_holds byte below others e).1)
move_counts byte below others (some f) e = omega (arith, (move_fails byte below others e).1)

place : (left : ℕ) → left < 512 → ◌≡◌ {A = ℕ} (512 - left) (suc (511 - left))
place left few = omega arith

-- the path to a state is kept by what goes on from a byte more
module _ (left byte : ℕ) {before now out : List ℕ} (few : left < 512) (room : 512 ≤ length now) (path : Path (511 - left) before now)
    (child : Path (512 - left) (set now (511 - left) byte) out) where
  -- the path goes on with the byte
  path_on : take (suc (511 - left)) out ≡ take (511 - left) now ++ (byte ∷ [])
  path_on =
      ap (λ (n : ℕ). take n out) (sym (place left few)) ∙ child.kept ∙ ap (λ (n : ℕ). take n (set now (511 - left) byte)) (place left few)
      ∙ take-suc-set now (511 - left) byte (omega arith)

  path_front : take (511 - left) out ≡ take (511 - left) now
  path_front =
      let at = 511 - left in
      sym (take-take at (suc at) out (omega arith)) ∙ ap (take at) path_on
      ∙ take_at (take at now) (byte ∷ []) at (length-take-le at now (omega arith))

  pub path_kept : Path (511 - left) before out
  path_kept = record {
    kept = path_front ∙ path.kept;
  }

module _ {a : Accepted} {s : State} {left count made allowance byte : ℕ} (few : left < 512) (within : made ≤ allowance) (rest : Rest a s left count made byte)
    {before now : List ℕ} (path : Path (511 - left) before now) where
  abbrev whole : Walked
  whole = trial (walk_from a left) (moves a s)

  -- no byte is left
  pub trial_ends : 128 ≤ byte → {r : Outcome} → r ≡ Held made → Came whole count allowance (511 - left) before now r
  unfolding trial steps_from
  trial_ends past {r} is =
      let none_left : 128 - byte ≡ 0 = omega arith in
      let nothing : whole.failing ≡ none = rest.failing ∙ ap (λ (n : ℕ). (trial (walk_from a left) (steps_from a s byte n)).failing) none_left in
      let made_all : count + whole.count ≡ made + 0 = rest.total ∙ ap (λ (n : ℕ). made + (trial (walk_from a left) (steps_from a s byte n)).count) none_left in
      record {
        kept = path.kept;
        cut = λ over. absurd (omega arith);
        whole = λ fits.
            let all : made ≡ count + whole.count = omega arith in
            subst (λ (o : Option EndedOrder). WalkEndsAs o (count + whole.count) (511 - left) now r) (sym nothing)
            (is ∙ ap (λ (n : ℕ). Held n) all);
      }

  module _ (lt : byte < 128) {after : State} (steps : step a s byte ≡ some after) where
    abbrev below : Walked
    below = walk_from a left after

    abbrev others : Walked
    others = trial (walk_from a left) (steps_from a s (byte + 1) (128 - (byte + 1)))

    here : (whole.failing ≡ (after_move byte below others).failing)
        × (count + whole.count ≡ made + (after_move byte below others).count)
    here = rest_here byte lt steps rest

    counts : 1 + below.count ≤ (after_move byte below others).count
    counts = move_counts byte below others below.failing refl

    -- the allowance is spent
    pub trial_stops : allowance ≤ made → {r : Outcome} → r ≡ Stopped
        → Came whole count allowance (511 - left) before now r
    trial_stops spent is = record {
      kept = path.kept;
      cut = λ over. is;
      whole = λ fits. absurd (omega (arith, here.1, counts));
    }

    module _ {out : List ℕ} {r : Outcome} (room : 512 ≤ length now)
        (child : Came below (made + 1) allowance (512 - left) (set now (511 - left) byte) out r) where
      child_path : Path (512 - left) (set now (511 - left) byte) out
      child_path = record { kept = child.kept }

      onward : Path (511 - left) before out
      onward = path_kept left byte few room path child_path

      -- the order found below goes on from the byte
      found_on : (o : Option EndedOrder) → below.failing ≡ o → made + 1 + below.count ≤ allowance
          → WalkEndsAs o (made + 1 + below.count) (512 - left) out r → {n l : ℕ} {end : End} → r ≡ Found n l end
          → (count + whole.count ≡ made + 1 + below.count) × WalkEndsAs whole.failing (count + whole.count)
          (511 - left) out r
      unfolding starting
      found_on none e fits ends {n} {l} {end} found =
          let clash : Held (made + 1 + below.count) ≡ Found n l end = sym ends ∙ found in cc
      found_on (some f) e fits ends found =
          let moved = move_fails byte below others e in
          let total : count + whole.count ≡ made + 1 + below.count = omega (arith, here.1, moved.1) in
          let longer : (512 - left) + length f.bytes ≡ (511 - left) + suc (length f.bytes) = omega arith in
          let shown : take ((511 - left) + suc (length f.bytes)) out ≡ take (511 - left) out ++ (byte ∷ f.bytes) =
          ap (λ (n : ℕ). take n out) (sym longer) ∙ ends.1 ∙ ap (λ (n : ℕ). take n out ++ f.bytes) (place left few)
          ∙ ap (λ (xs : List ℕ). xs ++ f.bytes)
          (path_on left byte few room path child_path ∙ ap (λ (xs : List ℕ). xs ++ (byte ∷ []))
          (sym (path_front left byte few room path child_path)))
          ∙ append_assoc (take (511 - left) out) (byte ∷ []) f.bytes in (
            total,
            subst (λ (o : Option EndedOrder). WalkEndsAs o (count + whole.count) (511 - left) out r) (sym (here.0 ∙ moved.0))
                (ends.0 ∙ (λ t. Found (sym total t) (longer t) f.ending), shown),
          )

      pub trial_finds : {n l : ℕ} {end : End} → r ≡ Found n l end → Came whole count allowance (511 - left) before out r
      trial_finds {n} {l} {end} found =
          elim (dec_le (made + 1 + below.count) allowance) [
            | yes fits ↦
                let ended = child.whole fits in
                let on = found_on below.failing refl fits ended found in
                record {
                  kept = onward.kept;
                  cut = λ over. absurd (omega (arith, on.0));
                  whole = λ within-it. on.1;
                }
            | no over ↦ let clash : Stopped ≡ Found n l end = sym (child.cut (omega arith)) ∙ found in cc
          ]

      -- a walk that the allowance sufficed for was not stopped
      ends_whole : (o : Option EndedOrder) (total at : ℕ) → WalkEndsAs o total at out r → r ≡ Stopped → ⊥
      ends_whole none total at ends stopped = let clash : Held total ≡ Stopped = sym ends ∙ stopped in cc
      ends_whole (some f) total at ends stopped =
          let clash : Found total (at + length f.bytes) f.ending ≡ Stopped = sym ends.0 ∙ stopped in cc

      pub trial_cut : r ≡ Stopped → Came whole count allowance (511 - left) before out r
      trial_cut stopped =
          elim (dec_le (made + 1 + below.count) allowance) [
            | yes fits ↦ absurd (ends_whole below.failing _ _ (child.whole fits) stopped)
            | no over ↦
                record {
                  kept = onward.kept;
                  cut = λ over-it. child.cut (omega arith);
                  whole = λ fits. absurd (omega (arith, here.1, counts));
                }
          ]

      held_on : (o : Option EndedOrder) → below.failing ≡ o → made + 1 + below.count ≤ allowance
          → WalkEndsAs o (made + 1 + below.count) (512 - left) out r → {n : ℕ} → r ≡ Held n
          → Rest a s left count n (byte + 1)
      held_on none e fits ends {n} held =
          let moved = move_holds byte below others e in
          let same : Held n ≡ Held (made + 1 + below.count) = sym held ∙ ends in
          let all : n ≡ made + 1 + below.count = cc in
          record { failing = here.0 ∙ moved.0; total = omega (arith, here.1, moved.1, all) }
      held_on (some f) e fits ends {n} held =
          let clash : Held n ≡ Found (made + 1 + below.count) ((512 - left) + length f.bytes) f.ending =
          sym held ∙ ends.0 in cc

      -- nothing failed below: the moves after it are left
      pub trial_on : {n : ℕ} → r ≡ Held n → Rest a s left count n (byte + 1)
      trial_on {n} held =
          elim (dec_le (made + 1 + below.count) allowance) [
            | yes fits ↦ held_on below.failing refl fits (child.whole fits) held
            | no over ↦ let clash : Stopped ≡ Held n = sym (child.cut (omega arith)) ∙ held in cc
          ]
