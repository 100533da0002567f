-- Laws behind the theorem of demand 2: what the tree lists from a state that an order can reach. These are the
-- complete orders from there within the steps that may still come, no others, and they ascend.
-- Assumes nothing.
use Rattle.notation.specs.Laws.TestLaws as tests
use Rattle.std.specs.Prelude.{◌≡◌, refl, true, length}
use Rattle.std.proofs.Common.{sym, ap, ◌∙◌, arith}
use Rattle.std.proofs.Math.Path.{subst}
use Rattle.std.proofs.Math.Logic.{inl, inr}
use Prim.Native.Nat.{ℕ, zero, suc, ◌≤◌, ◌<◌}
use mathlib.Core.List.Memᴰ
use mathlib.Core.List.{List, [], ◌∷◌, ◌++◌, map, Memᴰ}
use Rattle.std.proofs.Math.Option.{some}
use Rattle.notation.specs.Laws.PairLaws.{every_of, every_map, every_append, ordered_imp, ordered_map, ordered_append, every_listed}
use Rattle.notation.specs.Ordered.{Every, Ordered}
use Rattle.timing.specs.Accepted.{Accepted}
use Rattle.timing.specs.Code.IsAccepted.{IsAccepted}
use Rattle.order.specs.Code.Invariant.{Invariant}
use Rattle.order.specs.Orders.{run, order_end}
use Rattle.order.specs.States.{State, all_ended}
use Rattle.order.proofs.Laws.StepLaws.{step_keeps}
use Rattle.walk.proofs.Laws.CaseLaws.{orders_end, orders_cut, orders_on, end_steps, run_first, run_on}
use Rattle.walk.proofs.Laws.MoveLaws.{moves_ascend, move_is_step, step_is_move}
use Rattle.walk.specs.Moves.{Move, moves}
use Rattle.walk.specs.Paths.{BranchesLower}
use Rattle.walk.specs.Code.FromState.{orders_from, orders_through}
use Rattle.walk.specs.Walks.{EndedOrder, starting}

-- ---- the complete orders are listed

-- what is listed below a move is listed through the moves, with the move's byte in front
through_member : (below : State → List EndedOrder) (ms : List Move) {m : Move} {f : EndedOrder} → Memᴰ m ms
    → Memᴰ f (below m.after) → Memᴰ (starting m.byte f) (orders_through below ms)
unfolding orders_through
through_member below [] here found = absurd (Memᴰ.not-nil here)
through_member below (n ∷ ns) {m} {f} here found =
    elim (Memᴰ.cases_cons here) [
      | inl same ↦
          Memᴰ.append_left (orders_through below ns)
          (subst (λ (k : Move). Memᴰ (starting m.byte f) (map (starting k.byte) (below k.after))) same (Memᴰ.map (starting m.byte) found))
      | inr later ↦ Memᴰ.append_right (map (starting n.byte) (below n.after)) (through_member below ns later found)
    ]

-- and it has no others
member_through : (below : State → List EndedOrder) (ms : List Move) {f : EndedOrder}
    → Memᴰ f (orders_through below ms)
    → (m : Move) × (g : EndedOrder) × Memᴰ m ms × Memᴰ g (below m.after) × (starting m.byte g ≡ f)
unfolding orders_through
member_through below [] here = absurd (Memᴰ.not-nil here)
member_through below (n ∷ ns) here =
    elim (Memᴰ.append_cases (map (starting n.byte) (below n.after)) here) [
      | inl first ↦ let at = Memᴰ.of_map _ (below n.after) first in (n, at.0, Memᴰ.head refl, at.1, at.2)
      | inr later ↦ let at = member_through below ns later in (at.0, at.1, Memᴰ.tail at.2, at.3, at.4)
    ]

module _ {a : Accepted} (ok : IsAccepted a) where
  -- an order that ends all jobs within the steps that may come is listed
  pub from_listed : (n : ℕ) {s : State} → Invariant a s → (bytes : List ℕ) {after : State} → length bytes ≤ n
      → run a s bytes ≡ some after → all_ended a after ≡ true
      → Memᴰ (record { bytes = bytes; ending = order_end after }) (orders_from a n s)
  unfolding run starting
  from_listed n {s} inv [] {after} short e done =
      let same : after ≡ s = cc in
      rw (orders_end a s n (subst (λ (t : State). all_ended a t ≡ true) same done))
      (Memᴰ.head (ap (λ (t : State). record { bytes = []; ending = order_end t }) same))
  from_listed zero inv (byte ∷ bytes) short e done = absurd (omega arith)
  from_listed (suc n) {s} inv (byte ∷ bytes) {after} short e done =
      let first = run_first a s byte bytes e in
      let below = from_listed n (step_keeps ok inv byte first.1) bytes (omega arith) first.2 done in
      elim (tests.test_decided (all_ended a s)) [
        | inl ended ↦ absurd (end_steps ok inv ended byte first.1)
        | inr goes ↦ rw (orders_on a s n goes) (through_member (orders_from a n) (moves a s) (step_is_move ok inv byte first.1) below)
      ]

-- an order that is listed from a state on: its bytes lead to a state where all jobs have ended, within the steps that
-- may come
pub record Ends (a : Accepted) (n : ℕ) (s : State) (f : EndedOrder) : Type 0 where
  pub after : State
  pub allowed : run a s f.bytes ≡ some after
  pub finished : all_ended a after ≡ true
  pub short : length f.bytes ≤ n
  pub ending : f.ending ≡ order_end after

-- at an end the empty order is such an order
ends_here : (a : Accepted) (n : ℕ) (s : State) → all_ended a s ≡ true → {f : EndedOrder}
    → Memᴰ f (orders_from a n s) → Ends a n s f
unfolding run
ends_here a n s done {f} here =
    let same : f ≡ record { bytes = []; ending = order_end s } = Memᴰ.eq_of_singleton (rw (orders_end a s n done) at here) in
    subst (Ends a n s) (sym same) (record { after = s; allowed = refl; finished = done; short = omega arith; ending = refl })

module _ {a : Accepted} (ok : IsAccepted a) where
  -- nothing else is listed
  pub listed_from : (n : ℕ) {s : State} → Invariant a s → {f : EndedOrder} → Memᴰ f (orders_from a n s)
      → Ends a n s f
  unfolding starting
  listed_from zero {s} inv here =
      elim (tests.test_decided (all_ended a s)) [
        | inl ended ↦ ends_here a zero s ended here
        | inr goes ↦ absurd (Memᴰ.not-nil (rw (orders_cut a s goes) at here))
      ]
  listed_from (suc n) {s} inv here =
      elim (tests.test_decided (all_ended a s)) [
        | inl ended ↦ ends_here a (suc n) s ended here
        | inr goes ↦
            let at = member_through (orders_from a n) (moves a s) (rw (orders_on a s n goes) at here) in
            let one = move_is_step ok inv at.2 in
            let below = listed_from n (step_keeps ok inv _ one) at.3 in
            subst (Ends a (suc n) s) at.4
            (record {
              after = below.after;
              allowed = run_on a s _ _ one below.allowed;
              finished = below.finished;
              short = omega (arith, below.short);
              ending = below.ending;
            })
      ]

-- ---- in ascending order

-- a list does not come before itself, so a list that ascends has each element once
pub branch_apart : (xs : List ℕ) → BranchesLower xs xs → ⊥
branch_apart xs branch = go branch.common (sym branch.first ∙ branch.second)
  where
    go : (ys : List ℕ) → ys ++ (branch.lower ∷ branch.rest_lower) ≡ ys ++ (branch.higher ∷ branch.rest_higher) → ⊥
    go [] e = let same : branch.lower ≡ branch.higher = cc in omega (arith, branch.smaller)
    go (y ∷ ys) e = go ys (cc)

pub branch_first : {x y : ℕ} {xs ys : List ℕ} → x < y → BranchesLower (x ∷ xs) (y ∷ ys)
branch_first {x} {y} {xs} {ys} lt =
    record { common = []; lower = x; higher = y; rest_lower = xs; rest_higher = ys; first = refl; second = refl; smaller = lt }

pub branch_later : (x : ℕ) {xs ys : List ℕ} → BranchesLower xs ys → BranchesLower (x ∷ xs) (x ∷ ys)
branch_later x branch =
    record {
      common = x ∷ branch.common;
      lower = branch.lower;
      higher = branch.higher;
      rest_lower = branch.rest_lower;
      rest_higher = branch.rest_higher;
      first = ap (λ (l : List ℕ). x ∷ l) branch.first;
      second = ap (λ (l : List ℕ). x ∷ l) branch.second;
      smaller = branch.smaller;
    }

abbrev Before : EndedOrder → EndedOrder → Type 0
Before f g = BranchesLower f.bytes g.bytes

module _ (below : State → List EndedOrder) where
  -- an order that begins with a byte comes before those through moves with higher ones
  through_above : (byte : ℕ) (bytes : List ℕ) (ms : List Move) → Every (λ m. byte < m.byte) ms
      → Every (λ g. BranchesLower (byte ∷ bytes) g.bytes) (orders_through below ms)
  unfolding orders_through starting
  through_above byte bytes [] above = tt
  through_above byte bytes (m ∷ ms) above =
      every_append (λ g. BranchesLower (byte ∷ bytes) g.bytes) (map (starting m.byte) (below m.after)) (orders_through below ms)
      (every_map _ (starting m.byte) (below m.after) (every_of _ (λ g. branch_first above.0) (below m.after)))
      (through_above byte bytes ms above.1)

  -- moves that ascend, with orders below each that ascend, make orders that ascend
  through_ascends : (ms : List Move) → Ordered (λ m n. m.byte < n.byte) ms
      → Every (λ m. Ordered Before (below m.after)) ms → Ordered Before (orders_through below ms)
  unfolding orders_through starting
  through_ascends [] rise each = tt
  through_ascends (m ∷ ms) rise each =
      ordered_append Before (map (starting m.byte) (below m.after)) (orders_through below ms)
      (ordered_map Before (starting m.byte) (below m.after)
      (ordered_imp Before _ (λ f g branch. branch_later m.byte branch) (below m.after) each.0))
      (through_ascends ms rise.1 each.1)
      (every_map _ (starting m.byte) (below m.after)
      (every_of _ (λ f. through_above m.byte f.bytes ms rise.0) (below m.after)))

-- the orders listed from a state on ascend
pub from_ascends : {a : Accepted} → IsAccepted a → (n : ℕ) {s : State} → Invariant a s
    → Ordered Before (orders_from a n s)
from_ascends {a} ok zero {s} inv =
    elim (tests.test_decided (all_ended a s)) [
      | inl ended ↦ rw (orders_end a s zero ended) (tt, tt)
      | inr goes ↦ rw (orders_cut a s goes) tt
    ]
from_ascends {a} ok (suc n) {s} inv =
    elim (tests.test_decided (all_ended a s)) [
      | inl ended ↦ rw (orders_end a s (suc n) ended) (tt, tt)
      | inr goes ↦
          rw (orders_on a s n goes)
          (through_ascends (orders_from a n) (moves a s) (moves_ascend ok inv)
          (every_listed (λ m. Ordered Before (orders_from a n m.after)) (moves a s)
          (λ m here. from_ascends ok n (step_keeps ok inv m.byte (move_is_step ok inv here)))))
    ]
