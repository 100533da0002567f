-- Laws of the bytes of a state that are written: what a list holds where it was replaced, and that elsewhere it holds
-- what it held.
-- Assumes nothing.
use Rattle.std.specs.Prelude.{◌≡◌, refl, ℕ, ◌+◌, ◌≤◌, ◌<◌, List, length, get_or, set, take}
use Rattle.std.proofs.Common.{sym, ap, subst, ◌∙◌, inl, inr, arith, length-set, get_or-set_same, get_or-set_other, get_or-take, length-take-le, take_all}
use Rattle.std.proofs.Math.Decide.{ℕ_discrete}
use Rattle.order_states.specs.Code.StateBytes.{Replaced}
use Rattle.notation.specs.Lists.{bytes_at}
use Rattle.notation.specs.Laws.TabulateLaws.{values_of, same_values, set_values}

-- the first k bytes of `new` written, and then the next
pub written_next : (before now : List ℕ) (at : ℕ) (new : List ℕ) (k : ℕ) → Replaced before now at (take k new)
    → k < length new → at + k < length before → Replaced before (set now (at + k) (get_or new k 0)) at (take (k + 1) new)
written_next before now at new k done lt room = record {
  same = length-set now (at + k) (get_or new k 0) ∙ done.same;
  inside = inside;
  outside = λ j away. elim away [
    | inl low ↦ get_or-set_other now (at + k) j _ 0 (λ same. omega arith) ∙ done.outside j (inl low)
    | inr high ↦ get_or-set_other now (at + k) j _ 0 (λ same. omega (arith, more)) ∙ done.outside j (inr (omega (arith, more, taken)))
  ];
}
  where
    taken : length (take k new) ≡ k
    taken = length-take-le k new (omega arith)

    more : length (take (k + 1) new) ≡ k + 1
    more = length-take-le (k + 1) new (omega arith)

    inside : (j : ℕ) → j < length (take (k + 1) new)
        → get_or (set now (at + k) (get_or new k 0)) (at + j) 0 ≡ get_or (take (k + 1) new) j 0
    inside j few =
        elim (ℕ_discrete j k) [
          | yes same ↦
              ap (λ (m : ℕ). get_or (set now (at + k) (get_or new k 0)) (at + m) 0) same
              ∙ get_or-set_same now (at + k) (get_or new k 0) 0 (omega (arith, done.same))
              ∙ ap (λ (m : ℕ). get_or new m 0) (sym same)
              ∙ sym (get_or-take (k + 1) new j 0 (omega arith))
          | no apart ↦
              get_or-set_other now (at + k) (at + j) _ 0 (λ same. apart (omega arith))
              ∙ done.inside j (omega (arith, more, taken))
              ∙ get_or-take k new j 0 (omega (arith, more))
              ∙ sym (get_or-take (k + 1) new j 0 (omega (arith, more)))
        ]

-- none of them
pub written_none : (before : List ℕ) (at : ℕ) (new : List ℕ) → Replaced before before at (take 0 new)
written_none before at new = record { same = refl; inside = λ k few. absurd (omega arith); outside = λ k away. refl }

-- and all of them
pub written_all : (before now : List ℕ) (at : ℕ) (new : List ℕ) (k : ℕ) → Replaced before now at (take k new)
    → length new ≤ k → Replaced before now at new
written_all before now at new k done all = subst (Replaced before now at) (take_all k new all) done

-- ---- what stands where

-- the new bytes stand where they were written
pub bytes_new : (before after : List ℕ) (at : ℕ) (new : List ℕ) (n : ℕ) → length new ≡ n
    → Replaced before after at new → bytes_at after at n ≡ new
unfolding bytes_at
bytes_new before after at new n whole done =
    same_values (λ k. get_or after (at + k) 0) (λ k. get_or new k 0) n (λ k lt. done.inside k (omega arith)) ∙ values_of new n whole

-- bytes that are the same are read the same
pub bytes_same : (before after : List ℕ) (at n : ℕ) → ((k : ℕ) → at ≤ k → k < at + n → get_or after k 0 ≡ get_or before k 0)
    → bytes_at after at n ≡ bytes_at before at n
unfolding bytes_at
bytes_same before after at n same =
    same_values (λ k. get_or after (at + k) 0) (λ k. get_or before (at + k) 0) n (λ k lt. same (at + k) (omega arith) (omega arith))

-- one byte of them written
pub bytes_set : (before after : List ℕ) (at n i v : ℕ) → get_or after (at + i) 0 ≡ v
    → ((k : ℕ) → at ≤ k → k < at + n → (k ≡ at + i → ⊥) → get_or after k 0 ≡ get_or before k 0)
    → bytes_at after at n ≡ set (bytes_at before at n) i v
unfolding bytes_at
bytes_set before after at n i v here same =
    set_values (λ k. get_or after (at + k) 0) (λ k. get_or before (at + k) 0) n i v here
    (λ k lt apart. same (at + k) (omega arith) (omega arith) (λ e. apart (omega arith)))
