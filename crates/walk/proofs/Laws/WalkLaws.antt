-- Laws behind the theorem of demand 2: the walk from a state on finds the first of the orders listed from there that
-- fails, and 21 is answered exactly where the count of its moves exceeds the allowance.
-- Assumes nothing.
use Rattle.std.specs.Prelude.{◌≡◌, ◌↔◌, ℕ, zero, suc, ◌<◌, Bool, leb}
use Rattle.std.proofs.Math.Path.{refl}
use Rattle.std.proofs.Common.{sym, ap, ◌∙◌, inl, inr, arith, leb-true, leb-false}
use Rattle.std.proofs.Math.Bool.{true, false}
use mathlib.Core.List.{List, [], ◌∷◌, ◌++◌, map}
use Rattle.std.proofs.Math.Option
use Rattle.std.proofs.Math.Option.{Option, none, some, none-ne-some, some-ne-none}
use Rattle.notation.specs.Checked.{passed, require, ◌>>◌}
use Rattle.std.specs.Prelude.{if◌then◌else◌}
use Rattle.notation.specs.Lists.{first_with}
use Rattle.notation.specs.Laws.TestLaws as tests
use Rattle.timing.specs.Accepted.{Accepted}
use Rattle.order.specs.Orders.{order_end}
use Rattle.order.specs.States.{State, all_ended}
use Rattle.walk.proofs.Laws.CaseLaws.{orders_end, orders_cut, orders_on, walk_end, walk_cut, walk_on, after_none, after_some}
use Rattle.walk.specs.Moves.{Move, moves}
use Rattle.walk.specs.WalkEntry.{decided, decided_answer, verdict_of, refusal}
use Rattle.walk.specs.Code.FromState.{orders_from, orders_through, walk_from, trial}
use Rattle.walk.specs.Walks.{EndedOrder, Walked, fails, starting, after_move, at_end}

-- ---- the first that fails

module _ {A : Type 0} (test : A → Bool) where
  -- where the test holds of none of a list, the first of two lists joined is the first of the second
  first_skips : (xs ys : List A) → first_with test xs ≡ none → first_with test (xs ++ ys) ≡ first_with test ys
  unfolding first_with
  first_skips [] ys h = refl
  first_skips (x ∷ xs) ys h = go (test x) h (λ rest. first_skips xs ys rest)
    where
      go : (b : Bool) → (if b then some x else first_with test xs) ≡ none
          → (first_with test xs ≡ none → first_with test (xs ++ ys) ≡ first_with test ys)
          → (if b then some x else first_with test (xs ++ ys)) ≡ first_with test ys
      go true e later = absurd (some-ne-none x e)
      go false e later = later e

  -- and the first of the first list is the first of both
  first_stays : (xs ys : List A) {y : A} → first_with test xs ≡ some y → first_with test (xs ++ ys) ≡ some y
  unfolding first_with
  first_stays [] ys {y} h = absurd (none-ne-some y h)
  first_stays (x ∷ xs) ys {y} h = go (test x) h (λ rest. first_stays xs ys rest)
    where
      go : (b : Bool) → (if b then some x else first_with test xs) ≡ some y
          → (first_with test xs ≡ some y → first_with test (xs ++ ys) ≡ some y)
          → (if b then some x else first_with test (xs ++ ys)) ≡ some y
      go true e later = e
      go false e later = later e

abbrev first_failing : List EndedOrder → Option EndedOrder
first_failing fs = first_with (λ f. fails f.ending) fs

-- a byte in front changes no end
first_starting : (byte : ℕ) (fs : List EndedOrder)
    → first_failing (map (starting byte) fs) ≡ Option.map (starting byte) (first_failing fs)
unfolding first_with starting
first_starting byte [] = refl
first_starting byte (f ∷ fs) = go (fails f.ending) (first_starting byte fs)
  where
    go : (b : Bool) → first_failing (map (starting byte) fs) ≡ Option.map (starting byte) (first_failing fs)
        → (if b then some (starting byte f) else first_failing (map (starting byte) fs)) ≡ Option.map (starting byte)
        (if b then some f else first_failing fs)
    go true later = refl
    go false later = later

-- trials find the first failing order through the moves, if the walk below finds it below
through_first : (below : State → Walked) (listed : State → List EndedOrder)
    → ((s : State) → (below s).failing ≡ first_failing (listed s)) → (ms : List Move)
    → (trial below ms).failing ≡ first_failing (orders_through listed ms)
unfolding trial orders_through first_with
through_first below listed finds [] = refl
through_first below listed finds (m ∷ ms) = go (below m.after).failing refl (through_first below listed finds ms)
  where
    front : first_failing (map (starting m.byte) (listed m.after)) ≡ Option.map (starting m.byte)
        (below m.after).failing
    front = first_starting m.byte (listed m.after) ∙ ap (Option.map (starting m.byte)) (sym (finds m.after))

    go : (o : Option EndedOrder) → (below m.after).failing ≡ o
        → (trial below ms).failing ≡ first_failing (orders_through listed ms)
        → (after_move m.byte (below m.after) (trial below ms)).failing ≡ first_failing
        (map (starting m.byte) (listed m.after) ++ orders_through listed ms)
    go none e later =
        ap (λ (w : Walked). w.failing) (after_none m.byte (below m.after) (trial below ms) e)
        ∙ later ∙ sym (first_skips (λ f. fails f.ending) (map (starting m.byte) (listed m.after))
        (orders_through listed ms) (front ∙ ap (Option.map (starting m.byte)) e))
    go (some f) e later =
        ap (λ (w : Walked). w.failing) (after_some m.byte (below m.after) (trial below ms) e)
        ∙ sym (first_stays (λ f. fails f.ending) (map (starting m.byte) (listed m.after))
        (orders_through listed ms) (front ∙ ap (Option.map (starting m.byte)) e))

end_first : (s : State) → (at_end s).failing ≡ first_failing (record { bytes = []; ending = order_end s } ∷ [])
unfolding at_end first_with
end_first s = refl

-- the walk from a state on finds the first of the orders listed from there that fails
pub walk_from_first : (a : Accepted) (n : ℕ) (s : State) → (walk_from a n s).failing ≡ first_failing (orders_from a n s)
unfolding first_with
walk_from_first a zero s =
    elim (tests.test_decided (all_ended a s)) [
      | inl ended ↦ rw (walk_end a s zero ended, orders_end a s zero ended) (end_first s)
      | inr goes ↦ rw (walk_cut a s goes, orders_cut a s goes) refl
    ]
walk_from_first a (suc n) s =
    elim (tests.test_decided (all_ended a s)) [
      | inl ended ↦ rw (walk_end a s (suc n) ended, orders_end a s (suc n) ended) (end_first s)
      | inr goes ↦ rw (walk_on a s n goes, orders_on a s n goes) (through_first (walk_from a n) (orders_from a n) (walk_from_first a n) (moves a s))
    ]

-- ---- undecided

verdict_number_lem : (count : ℕ) (o : Option EndedOrder) → (verdict_of count o).number ≡ 0
unfolding verdict_of
verdict_number_lem count none = refl
verdict_number_lem count (some f) = refl

-- 21 is answered exactly where the count exceeds the allowance
pub undecided_when : (allowance : ℕ) (w : Walked)
    → ((decided_answer (decided allowance w)).number ≡ 21) ↔ (allowance < w.count)
unfolding decided decided_answer require refusal ◌>>◌
undecided_when allowance w = go (leb w.count allowance) refl
  where
    go : (b : Bool) → leb w.count allowance ≡ b
        → ((decided_answer (◌>>◌ (require b 21 0) (passed w))).number ≡ 21) ↔ (allowance < w.count)
    go true e = (
      λ same. absurd (omega (arith, verdict_number_lem w.count w.failing)),
      λ more. absurd (omega (arith, leb-true w.count allowance e)),
    )
    go false e = (λ same. leb-false w.count allowance e, λ more. refl)
