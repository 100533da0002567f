-- Laws behind the theorem of demand 2: the tree lists exactly the complete orders, the walk's failing order is the
-- first of those that fail, and there is one if any fails.
-- Assumes nothing.
use Rattle.std.proofs.Math.Path.{◌≡◌, refl, sym, ap, subst}
use Rattle.std.proofs.Common.{◌∙◌}
use Rattle.std.specs.Prelude.{◌⊎◌, ℕ, ◌≤◌, Bool, length}
use Rattle.std.proofs.Math.Logic.{inl, inr}
use native.Mathlib.Omega.{arith}
use Rattle.std.proofs.Math.Bool.{true, false}
use mathlib.Core.List.Memᴰ
use mathlib.Core.List.{List, [], ◌∷◌, Memᴰ}
use Rattle.std.proofs.Math.Option.{none, some}
use Rattle.std.specs.Prelude.{if◌then◌else◌}
use Rattle.notation.specs.Lists.{first_with}
use Rattle.notation.specs.Ordered.{Ordered}
use Rattle.notation.specs.Laws.TestLaws.{not_both}
use Rattle.timing.specs.Accepted.{Accepted}
use Rattle.timing.specs.Code.IsAccepted.{IsAccepted}
use Rattle.machine.specs.declared.End.{End}
use Rattle.order.specs.Orders.{OrderEnds, most_steps}
use Rattle.order.specs.States.{initial}
use Rattle.order.proofs.Laws.StepLaws.{initial_invariant}
use Rattle.walk.specs.Code.FromState.{orders_from, walk_from}
use Rattle.walk.specs.FailingOrders.{SomeFails, FirstFailing}
use Rattle.walk.proofs.Laws.ListedLaws.{from_listed, listed_from, from_ascends}
use Rattle.walk.specs.Paths.{BranchesLower}
use Rattle.walk.proofs.Laws.WalkLaws.{walk_from_first}
use Rattle.walk.specs.Walks.{EndedOrder, fails, orders, walk}
use Rattle.notation.specs.Laws.PairLaws.{every_member}

module _ {A : Type 0} (test : A → Bool) where
  -- the first element of which the test holds is an element, and the test holds of it
  first_member : (xs : List A) {y : A} → first_with test xs ≡ some y → Memᴰ y xs × (test y ≡ true)
  unfolding first_with
  first_member [] e = absurd (let z : ◌≡◌ {A = ℕ} 0 1 = cc in omega arith)
  first_member (x ∷ xs) {y} e = go (test x) refl e (λ rest. first_member xs rest)
    where
      go : (b : Bool) → test x ≡ b → (if b then some x else first_with test xs) ≡ some y
          → (first_with test xs ≡ some y → Memᴰ y xs × (test y ≡ true)) → Memᴰ y (x ∷ xs) × (test y ≡ true)
      go true holds e later = let same : y ≡ x = cc in (Memᴰ.head same, ap test same ∙ holds)
      go false lacks e later = let found = later e in (Memᴰ.tail found.0, found.1)

  -- where there is none, the test holds of no element
  first_lacks : (xs : List A) → first_with test xs ≡ none → {x : A} → Memᴰ x xs → test x ≡ true → ⊥
  unfolding first_with
  first_lacks [] e here holds = Memᴰ.not-nil here
  first_lacks (y ∷ xs) e {x} here holds = go (test y) refl e (λ rest behind. first_lacks xs rest behind holds)
    where
      go : (b : Bool) → test y ≡ b → (if b then some y else first_with test xs) ≡ none
          → (first_with test xs ≡ none → Memᴰ x xs → ⊥) → ⊥
      go true found e later = let z : ◌≡◌ {A = ℕ} 0 1 = cc in omega arith
      go false lacks e later =
          elim (Memᴰ.cases_cons here) [
            | inl same ↦ not_both (test y) (ap test (sym same) ∙ holds) lacks
            | inr behind ↦ later e behind
          ]

  -- in a list whose elements are each related to the later ones, it is related to every other of which the test holds
  first_related : (R : A → A → Type 0) (xs : List A) → Ordered R xs → {y : A} → first_with test xs ≡ some y
      → {x : A} → Memᴰ x xs → test x ≡ true → (y ≡ x) ⊎ R y x
  unfolding first_with
  first_related R [] rise e here holds = absurd (Memᴰ.not-nil here)
  first_related R (w ∷ xs) rise {y} e {x} here holds =
      go (test w) refl e (Memᴰ.cases_cons here) (λ rest behind. first_related R xs rise.1 rest behind holds)
    where
      go : (b : Bool) → test w ≡ b → (if b then some w else first_with test xs) ≡ some y → (x ≡ w) ⊎ Memᴰ x xs
          → (first_with test xs ≡ some y → Memᴰ x xs → (y ≡ x) ⊎ R y x) → (y ≡ x) ⊎ R y x
      go true found e (inl same) later = inl cc
      go true found e (inr behind) later =
          let same : w ≡ y = cc in
          inr (subst (λ (v : A). R v x) same (every_member (R w) xs rise.0 behind))
      go false lacks e (inl same) later = absurd (not_both (test w) (ap test (sym same) ∙ holds) lacks)
      go false lacks e (inr behind) later = later e behind

-- ---- the walk's failing order

module _ {a : Accepted} (ok : IsAccepted a) where
  -- a complete order is listed, with its end
  pub order_listed : {order : List ℕ} {end : End} → OrderEnds a order end
      → Memᴰ (record { bytes = order; ending = end }) (orders a)
  unfolding orders orders_from
  order_listed {order} {end} whole =
      let full = whole.complete in
      subst (λ (e : End). Memᴰ (record { bytes = order; ending = e }) (orders a)) whole.ends
      (from_listed ok most_steps (initial_invariant a) order full.short full.allowed full.finished)

  -- whatever is listed is a complete order, with its end
  pub listed_complete : (f : EndedOrder) → Memᴰ f (orders a) → OrderEnds a f.bytes f.ending
  unfolding orders orders_from
  listed_complete f here =
      let ends = listed_from ok most_steps (initial_invariant a) here in
      record {
        after = ends.after;
        complete = record { allowed = ends.allowed; finished = ends.finished; short = ends.short };
        ends = sym ends.ending;
      }

  -- the walk's failing order is the first of the complete orders that fail
  pub walk_first : (f : EndedOrder) → (walk a).failing ≡ some f → FirstFailing a f.bytes f.ending
  unfolding walk orders walk_from orders_from
  walk_first f e =
      let is = sym (walk_from_first a most_steps (initial a)) ∙ e in
      let found = first_member (λ g. fails g.ending) (orders a) is in
      record {
        failing = record { complete = listed_complete f found.0; failed = found.1 };
        first = λ other end fails'.
            elim (first_related (λ g. fails g.ending) (λ g h. BranchesLower g.bytes h.bytes) (orders a)
            (from_ascends ok most_steps (initial_invariant a)) is (order_listed fails'.complete) fails'.failed) [
              | inl same ↦ inl (ap (λ (g : EndedOrder). g.bytes) same)
              | inr later ↦ inr later
            ];
      }

  -- it is no longer than an order may be
  pub walk_short : (f : EndedOrder) → (walk a).failing ≡ some f → length f.bytes ≤ most_steps
  walk_short f e = (walk_first f e).failing.complete.complete.short

  -- where the walk finds one, some complete order fails
  pub walk_fails : (f : EndedOrder) → (walk a).failing ≡ some f → SomeFails a
  walk_fails f e = record { order = f.bytes; end = f.ending; failing = (walk_first f e).failing }

  -- where it finds none, no complete order fails
  pub walk_holds : (walk a).failing ≡ none → SomeFails a → ⊥
  unfolding walk orders walk_from orders_from
  walk_holds e some' =
      first_lacks (λ g. fails g.ending) (orders a) (sym (walk_from_first a most_steps (initial a)) ∙ e)
      (order_listed some'.failing.complete) some'.failing.failed
