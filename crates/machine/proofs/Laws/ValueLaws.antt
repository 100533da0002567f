-- Laws of the values on offer: they run from the lowest to the highest, ascending.
-- Assumes nothing.
use Rattle.std.specs.Prelude.{◌≡◌, refl, ℕ, suc, ◌+◌, ◌-◌, ◌≤◌, ◌<◌, true, false, ◌&&◌, [], ◌∷◌, leb}
use Rattle.std.proofs.Common.{sym, ap, subst, ◌∙◌, inl, inr, arith, le-leb, leb-true}
use Rattle.std.proofs.lemmas.Bool.{lt-leb}
use Rattle.taskfile.specs.declared.Instruction.{Instruction}
use Rattle.taskfile.specs.Code.Choices.{lowest, highest, Chooses}
use Rattle.taskfile.specs.Records.{is_pick}
use Rattle.std.specs.Prelude.{if◌then◌else◌}
use Rattle.notation.specs.Lists.{from, up_to, from_to, member}
use Rattle.notation.specs.Ordered.{Every, Ordered}
use Rattle.machine.specs.Instructions.{values}
use Rattle.notation.specs.Laws.TestLaws.{and_both, and_first, and_second, and_last, test_decided}
use Rattle.notation.specs.Laws.MemberLaws.{member_between}
use Rattle.notation.specs.Laws.PairLaws.{every_imp, from_within, from_rises}

-- they run from the lowest to the highest
values_between : (i : Instruction) → values i ≡ from_to (lowest i) (highest i)
unfolding values lowest highest from_to from
values_between i = elim (test_decided (is_pick i)) [ inl e ↦ rw e refl | inr e ↦ rw e refl ]

-- where c is zero, as in every file before document 02's E7, they are those of document 01: 0 to b of a Pick, else 0
pub values_unlifted : (i : Instruction) → i.c ≡ 0
    → values i ≡ (if is_pick i then up_to (suc i.b) else 0 ∷ [])
unfolding values from_to up_to
values_unlifted i zero =
    let whole : suc i.b - 0 ≡ suc i.b = omega arith in
    rw (zero, whole) refl

-- ascending
pub values_rise : (i : Instruction) → Ordered ◌<◌ (values i)
unfolding from_to
values_rise i =
    subst (Ordered ◌<◌) (sym (values_between i)) (from_rises (lowest i) (suc (highest i) - lowest i))

-- and below 16, where the highest is
pub values_small : (i : Instruction) → Chooses i → Every (λ v. v < 16) (values i)
unfolding from_to
values_small i made =
    let n = suc (highest i) - lowest i in
    subst (Every (λ v. v < 16)) (sym (values_between i))
    (every_imp (λ v. (lowest i ≤ v) × (v < lowest i + n)) (λ v. v < 16) (λ v h. omega (arith, made.some, made.few))
    (from (lowest i) n) (from_within (lowest i) n))

module _ (i : Instruction) (v : ℕ) where
  -- a value is on offer if it is neither below the lowest nor above the highest
  offered_tested : (leb (lowest i) v && leb v (highest i)) ≡ member v (values i)
  offered_tested = sym (ap (member v) (values_between i) ∙ member_between v (lowest i) (highest i))

  pub offered_from : lowest i ≤ v → leb v (highest i) ≡ member v (values i)
  offered_from low = sym (and_second _ _ (le-leb (lowest i) v low)) ∙ offered_tested

  pub offered_within : lowest i ≤ v → v ≤ highest i → member v (values i) ≡ true
  offered_within low high = sym (offered_from low) ∙ le-leb v (highest i) high

  pub offered_below : v < lowest i → member v (values i) ≡ false
  offered_below lt = sym offered_tested ∙ and_first _ _ (lt-leb (lowest i) v lt)

  pub offered_above : highest i < v → member v (values i) ≡ false
  offered_above lt = sym offered_tested ∙ and_last (leb (lowest i) v) _ (lt-leb v (highest i) lt)

  pub offered_says : member v (values i) ≡ true → (lowest i ≤ v) × (v ≤ highest i)
  offered_says offered =
      let both = and_both (leb (lowest i) v) _ (offered_tested ∙ offered) in
      (leb-true _ _ both.0, leb-true _ _ both.1)

-- the lowest is on offer, where there is one
pub lowest_offered : (i : Instruction) → Chooses i → member (lowest i) (values i) ≡ true
lowest_offered i made = offered_within i (lowest i) (omega arith) made.some
