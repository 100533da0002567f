-- The laws of the tree's moves behind the theorem of demand 2: their paths are exactly the beginnings of orders, and
-- depth first each path comes sooner than all later ones. Each goes by the steps that may still come, for every state
-- that an order can reach.
-- Assumes nothing.
use Rattle.std.specs.Prelude.{◌≡◌, ◌⊎◌}
use Rattle.std.proofs.Math.Path.{refl, sym, subst}
use Rattle.std.proofs.Common.{ap, length-append}
use Rattle.std.proofs.Math.Logic.{inl, inr}
use Prim.Native.Nat.{ℕ, zero, suc, ◌≤◌, ◌<◌}
use native.Mathlib.Omega.{arith}
use mathlib.Core.List.Memᴰ
use mathlib.Core.List.{List, [], ◌∷◌, map, Memᴰ}
use Rattle.std.proofs.Math.Option.{some}
use Rattle.std.proofs.Math.ListN.{length}
use Rattle.notation.specs.Laws.PairLaws.{every_of, every_imp, every_map, every_append, ordered_imp, ordered_map, ordered_append, every_listed}
use Rattle.notation.specs.Ordered.{Every, Ordered}
use Rattle.notation.specs.Laws.TestLaws as tests
use Rattle.timing.specs.Accepted.{Accepted}
use Rattle.timing.specs.Code.IsAccepted.{IsAccepted}
use Rattle.timing.proofs.Laws.JobFacts.{jobs_few}
use Rattle.order.specs.Code.Invariant.{Invariant}
use Rattle.order.proofs.Laws.LengthLaws.{order_short}
use Rattle.order.specs.Orders.{run, most_steps}
use Rattle.order.specs.States.{State, initial, all_ended}
use Rattle.order.proofs.Laws.StepLaws.{step_keeps, initial_invariant}
use Rattle.walk.proofs.Laws.CaseLaws.{paths_end, paths_cut, paths_on, end_steps, run_first, run_on}
use Rattle.walk.proofs.Laws.ListedLaws.{branch_apart, branch_first, branch_later}
use Rattle.walk.proofs.Laws.MoveLaws.{moves_ascend, move_is_step, step_is_move}
use Rattle.walk.specs.Moves.{Move, moves}
use Rattle.walk.specs.Code.FromState.{paths_from, paths_through}
use Rattle.walk.specs.Paths.{Begun, Sooner, paths}

-- ---- the beginnings of orders are the paths

module _ (below : State → List (List ℕ)) where
  -- each move has its own path
  through_move_lem : (ms : List Move) {m : Move} → Memᴰ m ms → Memᴰ (m.byte ∷ []) (paths_through below ms)
  unfolding paths_through
  through_move_lem [] here = absurd (Memᴰ.not-nil here)
  through_move_lem (n ∷ ns) here =
      elim (Memᴰ.cases_cons here) [
        | inl same ↦ Memᴰ.head (ap (λ (k : Move). k.byte ∷ []) same)
        | inr later ↦ Memᴰ.tail (Memᴰ.append_right (map (λ path. n.byte ∷ path) (below n.after)) (through_move_lem ns later))
      ]

  -- and the paths below it, with its byte in front
  through_below : (ms : List Move) {m : Move} {path : List ℕ} → Memᴰ m ms → Memᴰ path (below m.after)
      → Memᴰ (m.byte ∷ path) (paths_through below ms)
  unfolding paths_through
  through_below [] here deeper = absurd (Memᴰ.not-nil here)
  through_below (n ∷ ns) {m} {path} here deeper =
      elim (Memᴰ.cases_cons here) [
        | inl same ↦
            Memᴰ.tail (Memᴰ.append_left (paths_through below ns)
            (subst (λ (k : Move). Memᴰ (m.byte ∷ path) (map (λ rest. k.byte ∷ rest) (below k.after))) same
            (Memᴰ.map (λ rest. m.byte ∷ rest) deeper)))
        | inr later ↦
            Memᴰ.tail (Memᴰ.append_right (map (λ rest. n.byte ∷ rest) (below n.after)) (through_below ns later deeper))
      ]

  -- and there are no others
  below_through : (ms : List Move) {path : List ℕ} → Memᴰ path (paths_through below ms)
      → (m : Move) × (rest : List ℕ) × Memᴰ m ms × ((rest ≡ []) ⊎ Memᴰ rest (below m.after))
      × (m.byte ∷ rest ≡ path)
  unfolding paths_through
  below_through [] here = absurd (Memᴰ.not-nil here)
  below_through (n ∷ ns) here =
      elim (Memᴰ.cases_cons here) [
        | inl same ↦ (n, [], Memᴰ.head refl, inl refl, sym same)
        | inr later ↦
            elim (Memᴰ.append_cases (map (λ rest. n.byte ∷ rest) (below n.after)) later) [
              | inl deeper ↦ let at = Memᴰ.of_map _ (below n.after) deeper in (n, at.0, Memᴰ.head refl, inr at.1, at.2)
              | inr others ↦ let at = below_through ns others in (at.0, at.1, Memᴰ.tail at.2, at.3, at.4)
            ]
      ]

module _ {a : Accepted} (ok : IsAccepted a) where
  -- one or more allowed steps, no more than may come, are listed
  from_moved : (n : ℕ) {s : State} → Invariant a s → (byte : ℕ) (bytes : List ℕ) {after : State} → length bytes < n
      → run a s (byte ∷ bytes) ≡ some after → Memᴰ (byte ∷ bytes) (paths_from a n s)
  from_moved zero inv byte bytes short e = absurd (omega arith)
  from_moved (suc n) {s} inv byte [] short e =
      let first = run_first a s byte [] e in
      elim (tests.test_decided (all_ended a s)) [
        | inl ended ↦ absurd (end_steps ok inv ended byte first.1)
        | inr goes ↦ rw (paths_on a s n goes) (through_move_lem (paths_from a n) (moves a s) (step_is_move ok inv byte first.1))
      ]
  from_moved (suc n) {s} inv byte (second ∷ bytes) short e =
      let first = run_first a s byte (second ∷ bytes) e in
      let below = from_moved n (step_keeps ok inv byte first.1) second bytes (omega arith) first.2 in
      elim (tests.test_decided (all_ended a s)) [
        | inl ended ↦ absurd (end_steps ok inv ended byte first.1)
        | inr goes ↦ rw (paths_on a s n goes) (through_below (paths_from a n) (moves a s) (step_is_move ok inv byte first.1) below)
      ]

  -- no order has more steps than may come, so every beginning of one is listed
  pub path_listed : (bytes : List ℕ) {s : State} → run a (initial a) bytes ≡ some s → 1 ≤ length bytes
      → Memᴰ bytes (paths a)
  unfolding paths paths_from
  path_listed [] e filled = absurd (omega arith)
  path_listed (byte ∷ bytes) e filled =
      let short = order_short ok (byte ∷ bytes) e in
      from_moved most_steps (initial_invariant a) byte bytes (omega (arith, short, jobs_few ok.is_timed)) e

  -- nothing else is listed
  pub listed_path : (n : ℕ) {s : State} → Invariant a s → {path : List ℕ} → Memᴰ path (paths_from a n s)
      → Begun a s path
  unfolding run
  listed_path zero {s} inv here = absurd (Memᴰ.not-nil (rw (paths_cut a s) at here))
  listed_path (suc n) {s} inv here =
      elim (tests.test_decided (all_ended a s)) [
        | inl ended ↦ absurd (Memᴰ.not-nil (rw (paths_end a s (suc n) ended) at here))
        | inr goes ↦
            let at = below_through (paths_from a n) (moves a s) (rw (paths_on a s n goes) at here) in
            let one = move_is_step ok inv at.2 in
            subst (Begun a s) at.4
            (elim at.3 [
              | inl last ↦
                  record {
                    after = at.0.after;
                    allowed = run_on a s at.0.byte at.1 one (ap (run a at.0.after) last);
                    filled = omega arith;
                  }
              | inr deeper ↦
                  let below = listed_path n (step_keeps ok inv _ one) deeper in
                  record { after = below.after; allowed = run_on a s at.0.byte at.1 one below.allowed; filled = omega arith }
            ])
      ]

-- ---- each once

-- a path does not come sooner than itself, so where each comes sooner than all later ones no path stands twice
pub sooner_apart : (xs : List ℕ) → Sooner xs xs → ⊥
sooner_apart xs (inl begins) =
    omega (arith, ap (λ (l : List ℕ). length l) begins.parts, length-append xs (begins.next ∷ begins.rest))
sooner_apart xs (inr branch) = branch_apart xs branch

sooner_later : (x : ℕ) {xs ys : List ℕ} → Sooner xs ys → Sooner (x ∷ xs) (x ∷ ys)
sooner_later x (inl begins) =
    inl (record { next = begins.next; rest = begins.rest; parts = ap (λ (l : List ℕ). x ∷ l) begins.parts })
sooner_later x (inr branch) = inr (branch_later x branch)

-- a move comes sooner than those below it
sooner_below : (x : ℕ) (ys : List ℕ) → 1 ≤ length ys → Sooner (x ∷ []) (x ∷ ys)
sooner_below x [] filled = absurd (omega arith)
sooner_below x (y ∷ ys) filled = inl (record { next = y; rest = ys; parts = refl })

module _ (below : State → List (List ℕ)) where
  -- a path that begins with a byte comes sooner than those through moves with higher ones
  through_sooner : (byte : ℕ) (bytes : List ℕ) (ms : List Move) → Every (λ m. byte < m.byte) ms
      → Every (Sooner (byte ∷ bytes)) (paths_through below ms)
  unfolding paths_through
  through_sooner byte bytes [] above = tt
  through_sooner byte bytes (m ∷ ms) above = (
    inr (branch_first above.0),
    every_append (Sooner (byte ∷ bytes)) (map (λ path. m.byte ∷ path) (below m.after)) (paths_through below ms)
        (every_map (Sooner (byte ∷ bytes)) (λ path. m.byte ∷ path) (below m.after)
        (every_of _ (λ path. inr (branch_first above.0)) (below m.after)))
        (through_sooner byte bytes ms above.1),
  )

  -- moves that ascend, with paths below each that are so ordered and not empty, make paths that are so ordered
  through_once : (ms : List Move) → Ordered (λ m n. m.byte < n.byte) ms
      → Every (λ m. Ordered Sooner (below m.after) × Every (λ path. 1 ≤ length path) (below m.after)) ms
      → Ordered Sooner (paths_through below ms)
  unfolding paths_through
  through_once [] rise each = tt
  through_once (m ∷ ms) rise each = (
    every_append (Sooner (m.byte ∷ [])) (map (λ path. m.byte ∷ path) (below m.after)) (paths_through below ms)
        (every_map (Sooner (m.byte ∷ [])) (λ path. m.byte ∷ path) (below m.after)
        (every_imp (λ path. 1 ≤ length path) _ (λ path filled. sooner_below m.byte path filled) (below m.after) each.0.1))
        (through_sooner m.byte [] ms rise.0),
    ordered_append Sooner (map (λ path. m.byte ∷ path) (below m.after)) (paths_through below ms)
        (ordered_map Sooner (λ path. m.byte ∷ path) (below m.after)
        (ordered_imp Sooner _ (λ p q sooner. sooner_later m.byte sooner) (below m.after) each.0.0))
        (through_once ms rise.1 each.1)
        (every_map _ (λ path. m.byte ∷ path) (below m.after)
        (every_of _ (λ path. through_sooner m.byte path ms rise.0) (below m.after))),
  )

-- the paths listed from a state on stand so that each comes sooner than all later ones
pub from_once : {a : Accepted} → IsAccepted a → (n : ℕ) {s : State} → Invariant a s → Ordered Sooner (paths_from a n s)
from_once {a} ok zero {s} inv = rw (paths_cut a s) tt
from_once {a} ok (suc n) {s} inv =
    elim (tests.test_decided (all_ended a s)) [
      | inl ended ↦ rw (paths_end a s (suc n) ended) tt
      | inr goes ↦
          rw (paths_on a s n goes)
          (through_once (paths_from a n) (moves a s) (moves_ascend ok inv)
          (every_listed (λ m. Ordered Sooner (paths_from a n m.after) × Every (λ path. 1 ≤ length path) (paths_from a n m.after)) (moves a s)
          (λ m here.
          let kept = step_keeps ok inv m.byte (move_is_step ok inv here) in
          (from_once ok n kept, every_listed (λ path. 1 ≤ length path) (paths_from a n m.after) (λ path at. (listed_path ok n kept at).filled)))))
    ]
