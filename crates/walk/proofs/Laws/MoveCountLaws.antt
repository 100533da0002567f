-- Laws behind the theorem of demand 2: how many moves the walk makes from a state with no failed flag. These are all
-- moves of the tree from there, or those up to the failing order.
-- Assumes nothing.
use Rattle.std.specs.Prelude.{◌≡◌, refl, ◌⊎◌, ℕ, zero, suc, ◌+◌, Bool, true, false, length}
use Rattle.std.proofs.Common.{sym, ap, ◌∙◌, arith, length-append}
use Rattle.std.proofs.Math.Path.{subst}
use Rattle.std.proofs.Math.Logic.{inl, inr}
use mathlib.Core.List.{List, [], ◌∷◌, ◌++◌, map, map-append, append_assoc}
use Rattle.std.proofs.Math.Option.{Option, none, some, none-ne-some, some-ne-none, some-injective}
use Rattle.std.specs.Prelude.{if◌then◌else◌}
use Rattle.notation.specs.Lists.{any}
use Rattle.notation.specs.Laws.QuantifierLaws.{map_length}
use Rattle.notation.specs.Laws.TestLaws as tests
use Rattle.timing.specs.Accepted.{Accepted}
use Rattle.machine.specs.Ends.{no_flags}
use Rattle.order.specs.Orders.{order_end}
use Rattle.order.specs.States.{State, initial, all_ended}
use Rattle.walk.proofs.Laws.CaseLaws.{walk_end, walk_cut, walk_on, after_none, after_some, paths_end, paths_cut, paths_on}
use Rattle.walk.specs.Moves.{Move, moves}
use Rattle.walk.specs.Code.FromState.{paths_from, paths_through, walk_from, trial}
use Rattle.walk.specs.Paths.{UpTo}
use Rattle.walk.specs.Walks.{EndedOrder, Walked, fails, starting, after_move, at_end}

-- a walk over the listed paths made all their moves, or those up to the failing order
pub record Counted (w : Walked) (listed : List (List ℕ)) : Type 0 where
  pub all : w.failing ≡ none → w.count ≡ length listed
  pub found : (f : EndedOrder) → w.failing ≡ some f → UpTo w.count listed f.bytes

-- and below a move it may stand at a failing end, and have made none
record Made (w : Walked) (listed : List (List ℕ)) : Type 0 where
  all : w.failing ≡ none → w.count ≡ length listed
  found : (f : EndedOrder) → w.failing ≡ some f
      → ((f.bytes ≡ []) × (w.count ≡ 0)) ⊎ UpTo w.count listed f.bytes

counted_made : {w : Walked} {listed : List (List ℕ)} → Counted w listed → Made w listed
counted_made c = record { all = c.all; found = λ f e. inr (c.found f e) }

-- the paths through a move: its own, those below it with its byte in front, and those through the other moves
module _ (byte : ℕ) (listed others : List (List ℕ)) where
  abbrev longer : List ℕ → List ℕ
  longer path = byte ∷ path

  abbrev through_move : List (List ℕ)
  through_move = (byte ∷ []) ∷ (map longer listed ++ others)

  move_length : length through_move ≡ 1 + length listed + length others
  move_length = omega (arith, length-append (map longer listed) others, map_length longer listed)

  -- an order that fails right after the move
  upto_here : UpTo 1 through_move (byte ∷ [])
  upto_here = record { earlier = []; later = map longer listed ++ others; parts = refl; counted = refl }

  -- one that fails below it
  upto_below : {count : ℕ} {bytes : List ℕ} → UpTo count listed bytes → UpTo (1 + count) through_move (byte ∷ bytes)
  upto_below {count} {bytes} below =
      record {
        earlier = (byte ∷ []) ∷ map longer below.earlier;
        later = map longer below.later ++ others;
        parts = ap (λ (l : List (List ℕ)). (byte ∷ []) ∷ l)
            (ap (λ (l : List (List ℕ)). map longer l ++ others) below.parts
            ∙ ap (λ (l : List (List ℕ)). l ++ others) (map-append longer below.earlier (bytes ∷ below.later))
            ∙ append_assoc (map longer below.earlier) (map longer (bytes ∷ below.later)) others);
        counted = omega (arith, below.counted, map_length longer below.earlier);
      }

  -- and one that fails after a later move
  upto_later : {count : ℕ} {bytes : List ℕ} → UpTo count others bytes
      → UpTo (1 + length listed + count) through_move bytes
  upto_later {count} {bytes} later =
      record {
        earlier = (byte ∷ []) ∷ (map longer listed ++ later.earlier);
        later = later.later;
        parts = ap (λ (l : List (List ℕ)). (byte ∷ []) ∷ l)
            (ap (λ (l : List (List ℕ)). map longer listed ++ l) later.parts
            ∙ sym (append_assoc (map longer listed) later.earlier (bytes ∷ later.later)));
        counted = omega (arith, later.counted, length-append (map longer listed) later.earlier, map_length longer listed);
      }

-- a move, then the walk below it, then the others
module _ (byte : ℕ) {below others : Walked} {listed rest : List (List ℕ)} (made : Made below listed) (counted : Counted others rest) where
  move_counted : (o : Option EndedOrder) → below.failing ≡ o
      → Counted (after_move byte below others) (through_move byte listed rest)
  unfolding starting
  move_counted none e =
      rw (after_none byte below others e)
      (record {
        all = λ h. omega (arith, made.all e, counted.all h, move_length byte listed rest);
        found = λ f h.
            subst (λ (n : ℕ). UpTo (1 + n + others.count) (through_move byte listed rest) f.bytes) (sym (made.all e))
            (upto_later byte listed rest (counted.found f h));
      })
  move_counted (some g) e =
      rw (after_some byte below others e)
      (record {
        all = λ e. absurd (some-ne-none _ e);
        found = λ f h.
            subst (λ (h : EndedOrder). UpTo (1 + below.count) (through_move byte listed rest) h.bytes) (some-injective _ f h)
            (elim (made.found g e) [
              | inl here ↦
                  subst (λ (l : List ℕ). UpTo (1 + below.count) (through_move byte listed rest) (byte ∷ l)) (sym here.0)
                  (subst (λ (n : ℕ). UpTo (1 + n) (through_move byte listed rest) (byte ∷ [])) (sym here.1) (upto_here byte listed rest))
              | inr deeper ↦ upto_below byte listed rest deeper
            ]);
      })

trial_counted : (below : State → Walked) (listed : State → List (List ℕ)) → ((s : State) → Made (below s) (listed s))
    → (ms : List Move) → Counted (trial below ms) (paths_through listed ms)
unfolding trial paths_through
trial_counted below listed made [] = record { all = λ e. refl; found = λ f e. absurd (none-ne-some f e) }
trial_counted below listed made (m ∷ ms) =
    move_counted m.byte (made m.after) (trial_counted below listed made ms) (below m.after).failing refl

-- at an end
end_made : (s : State) → Made (at_end s) []
unfolding at_end
end_made s = record { all = λ e. refl; found = λ f e. inl (go (fails (order_end s)) f e, refl) }
  where
    go : (b : Bool) (f : EndedOrder)
        → (if b then some (record { bytes = []; ending = order_end s }) else none) ≡ some f → f.bytes ≡ []
    go true f e = ap (λ (g : EndedOrder). g.bytes) (sym (some-injective _ f e))
    go false f e = absurd (none-ne-some f e)

-- where the tree is cut
cut_made : Made (record { failing = none; count = 0 }) []
cut_made = record { all = λ e. refl; found = λ f e. absurd (none-ne-some f e) }

-- the walk from a state on makes all moves of the tree from there, or those up to the failing order
from_made : (a : Accepted) (n : ℕ) (s : State) → Made (walk_from a n s) (paths_from a n s)
from_made a zero s =
    elim (tests.test_decided (all_ended a s)) [
      | inl ended ↦ rw (walk_end a s zero ended, paths_end a s zero ended) (end_made s)
      | inr goes ↦ rw (walk_cut a s goes, paths_cut a s) cut_made
    ]
from_made a (suc n) s =
    elim (tests.test_decided (all_ended a s)) [
      | inl ended ↦ rw (walk_end a s (suc n) ended, paths_end a s (suc n) ended) (end_made s)
      | inr goes ↦
          rw (walk_on a s n goes, paths_on a s n goes)
          (counted_made (trial_counted (walk_from a n) (paths_from a n) (from_made a n) (moves a s)))
    ]

-- an order found through moves begins with a move's byte
trial_found : (below : State → Walked) (ms : List Move) (f : EndedOrder) → (trial below ms).failing ≡ some f
    → f.bytes ≡ [] → ⊥
unfolding trial starting
trial_found below [] f e empty = none-ne-some f e
trial_found below (m ∷ ms) f e empty = go (below m.after).failing refl (λ rest. trial_found below ms f rest empty)
  where
    go : (o : Option EndedOrder) → (below m.after).failing ≡ o → ((trial below ms).failing ≡ some f → ⊥) → ⊥
    go none h later = later (ap (λ (w : Walked). w.failing) (sym (after_none m.byte (below m.after) (trial below ms) h)) ∙ e)
    go (some g) h later =
        let same = ap (λ (w : Walked). w.failing) (sym (after_some m.byte (below m.after) (trial below ms) h)) ∙ e in
        let bytes : m.byte ∷ g.bytes ≡ [] = ap (λ (k : EndedOrder). k.bytes) (some-injective _ f same) ∙ empty in
        let z : ◌≡◌ {A = ℕ} 0 1 = cc in
        omega arith

-- nothing is found at an end with no failed flag
end_sound : (s : State) → fails (order_end s) ≡ false → (at_end s).failing ≡ none
unfolding at_end
end_sound s sound = rw sound refl

-- so from a state with no failed flag the order that is found is not empty
pub from_found : (a : Accepted) (n : ℕ) (s : State) → fails (order_end s) ≡ false → (f : EndedOrder)
    → (walk_from a n s).failing ≡ some f → f.bytes ≡ [] → ⊥
from_found a zero s sound f e empty =
    elim (tests.test_decided (all_ended a s)) [
      | inl ended ↦ none-ne-some f (sym (end_sound s sound) ∙ rw (walk_end a s zero ended) at e)
      | inr goes ↦ none-ne-some f (rw (walk_cut a s goes) at e)
    ]
from_found a (suc n) s sound f e empty =
    elim (tests.test_decided (all_ended a s)) [
      | inl ended ↦ none-ne-some f (sym (end_sound s sound) ∙ rw (walk_end a s (suc n) ended) at e)
      | inr goes ↦ trial_found (walk_from a n) (moves a s) f (rw (walk_on a s n goes) at e) empty
    ]

-- and the count is as said
pub from_counted : (a : Accepted) (n : ℕ) (s : State) → fails (order_end s) ≡ false
    → Counted (walk_from a n s) (paths_from a n s)
from_counted a n s sound =
    let made = from_made a n s in
    record {
      all = made.all;
      found = λ f e. elim (made.found f e) [ inl here ↦ absurd (from_found a n s sound f e here.0) | inr up_to ↦ up_to ];
    }

-- an order starts from such a state
pub initial_sound : (a : Accepted) → fails (order_end (initial a)) ≡ false
unfolding fails order_end initial no_flags any
initial_sound a = refl
