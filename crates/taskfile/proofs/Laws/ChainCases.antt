-- Laws of the walk of records: what each of its checks comes to, by the tests that decide it.
-- Assumes nothing.
use Rattle.std.specs.Prelude.{◌≡◌, Bool, true, false, not, List, [], ◌∷◌, ◌++◌, get_or, ltb}
use Rattle.std.proofs.Math.Path.{refl}
use Rattle.std.proofs.Common.{sym, ap, ◌∙◌, arith, sub-one, ltb→lt, eq-eqb, ne_eqb, lt-ltb, le-ltb}
use Prim.Native.Nat.{ℕ, zero, suc, ◌-◌, ◌≤◌, ◌<◌}
use Rattle.std.proofs.Math.Bool.{and-false}
use Rattle.taskfile.specs.declared.Kind.{Kind}
use Rattle.taskfile.specs.declared.Kind.TheVariants.{TaskRecord}
use Rattle.taskfile.specs.Chains.{record_of, follow, chain, body_chain, task_chains}
use Rattle.taskfile.proofs.Laws.CheckSteps.{none_of_up_to, none_of_up_to_none}
use Rattle.notation.specs.Laws.CheckedLaws.{require_holds, require_fails, then_passed, require_passed}
use Rattle.notation.specs.Checked.{refused, passed, require, none_of, ◌>>=◌, ◌>>◌}
use Rattle.notation.specs.Lists.{up_to, member}
use Rattle.taskfile.proofs.Laws.SeenLaws.{seen_at}
use Rattle.taskfile.specs.Code.Reading.{seen_of}
use Rattle.taskfile.specs.Records.{File, kind_number, records, byte_at, next, tidy, in_range}

-- 6: the flags of the records below n say which of them was never reached
module _ (seen : List Bool) (reached : List ℕ) (marked : seen ≡ seen_of reached) where
  reached_at : (k : ℕ) (b : Bool) → k < 256 → get_or seen k false ≡ b → not (member k reached) ≡ not b
  reached_at k b h e = ap not (sym (seen_at reached k h) ∙ ap (λ l. get_or l k false) (sym marked) ∙ e)

  module _ (n : ℕ) (few : n ≤ 256) where
    pub record_stray : (r : ℕ) → r < n → ((k : ℕ) → k < r → get_or seen k false ≡ true) → get_or seen r false ≡ false
        → none_of 6 (λ k. not (member k reached)) (up_to n) ≡ refused 6 r
    record_stray r below before here =
        none_of_up_to 6 (λ k. not (member k reached)) n r below (λ k h. reached_at k true (omega arith) (before k h))
        (reached_at r false (omega arith) here)

    pub stray_none : ((k : ℕ) → k < n → get_or seen k false ≡ true)
        → none_of 6 (λ k. not (member k reached)) (up_to n) ≡ passed tt
    stray_none all =
        none_of_up_to_none 6 (λ k. not (member k reached)) n (λ k h. reached_at k true (omega arith) (all k h))

-- 2 and 4 at a record
module _ (kind : Kind) (f : File) (r : ℕ) where
  pub wrong_kind : (byte_at f r 0 ≡ kind_number kind → ⊥) → record_of kind f r ≡ refused 2 r
  unfolding record_of
  wrong_kind other = require_fails _ 2 r _ (ne_eqb _ _ other)

  module _ (same : byte_at f r 0 ≡ kind_number kind) where
    pub record_untidy : tidy f r kind ≡ false → record_of kind f r ≡ refused 4 r
    unfolding record_of require
    record_untidy e = require_holds _ 2 r _ (eq-eqb _ _ same) ∙ rw e

    pub out_of_range : in_range f r kind ≡ false → record_of kind f r ≡ refused 4 r
    unfolding record_of require
    out_of_range e = require_holds _ 2 r _ (eq-eqb _ _ same) ∙ rw (e, and-false)

    pub record_passes : tidy f r kind ≡ true → in_range f r kind ≡ true → record_of kind f r ≡ passed tt
    unfolding record_of require
    record_passes e h = require_holds _ 2 r _ (eq-eqb _ _ same) ∙ rw (e, h)

-- following an index
module _ (kind : Kind) (allowed : ℕ) (f : File) (again : Bool) (holder index : ℕ) where
  pub follow_outside : records f ≤ index → follow kind allowed f again holder index ≡ refused 3 holder
  unfolding follow
  follow_outside above = require_fails _ 3 holder _ (rw (le-ltb index (records f) above))

  module _ (inside : index < records f) where
    pub follow_again : again ≡ true → follow kind allowed f again holder index ≡ refused 3 holder
    unfolding follow
    follow_again e = require_fails _ 3 holder _ (rw (lt-ltb index (records f) inside, e))

    follow_inside : again ≡ false
        → follow kind allowed f again holder index ≡ ◌>>◌ (require (ltb 0 allowed) 5 index) (record_of kind f index)
    unfolding follow
    follow_inside e = require_holds _ 3 holder _ (rw (lt-ltb index (records f) inside, e))

    module _ (first : again ≡ false) where
      pub follow_many : allowed ≡ 0 → follow kind allowed f again holder index ≡ refused 5 index
      follow_many e = follow_inside first ∙ require_fails _ 5 index _ (le-ltb 0 allowed (omega arith))

      pub follow_record : (allowed ≡ 0 → ⊥) → follow kind allowed f again holder index ≡ record_of kind f index
      follow_record more = follow_inside first ∙ require_holds _ 5 index _ (lt-ltb 0 allowed (omega (arith, more)))

-- what passed on following an index was among the records allowed
pub follow_allowed : (kind : Kind) (allowed : ℕ) (f : File) (again : Bool) (holder index : ℕ) {u : Unit {0}}
    → follow kind allowed f again holder index ≡ passed u → 0 < allowed
unfolding follow
follow_allowed kind allowed f again holder index e =
    ltb→lt 0 allowed (require_passed _ 5 index (then_passed _ _ (then_passed _ _ e).2).1)

-- A chain from an index: it ends at 0, it is refused where the index may not be followed, and else it goes on at the
-- next index.
module _ (kind : Kind) (f : File) (reached : List ℕ) (holder : ℕ) where
  pub chain_ends : (allowed : ℕ) → chain kind allowed f reached holder 0 ≡ passed []
  unfolding chain
  chain_ends zero = refl
  chain_ends (suc allowed) = refl

  pub chain_refused : (allowed index : ℕ) {number place : ℕ} → (index ≡ 0 → ⊥)
      → follow kind allowed f (member index reached) holder index ≡ refused number place
      → chain kind allowed f reached holder index ≡ refused number place
  unfolding chain ◌>>◌
  chain_refused allowed zero some e = absurd (some refl)
  chain_refused zero (suc i) some e = rw e
  chain_refused (suc allowed) (suc i) some e = rw e

  pub chain_goes : (allowed index : ℕ) {u : Unit {0}} → (index ≡ 0 → ⊥)
      → follow kind allowed f (member index reached) holder index ≡ passed u
      → chain kind allowed f reached holder index
      ≡ ◌>>=◌ (chain kind (allowed - 1) f (index ∷ reached) index (next f index)) (λ others. passed (index ∷ others))
  unfolding chain ◌>>◌
  chain_goes allowed zero some e = absurd (some refl)
  chain_goes zero (suc i) some e = absurd (omega (arith, follow_allowed kind 0 f _ holder (suc i) e))
  chain_goes (suc allowed) (suc i) some e = rw (e, sub-one)

-- The tasks' chain from an index, by the same cases as a chain of one kind.
module _ (f : File) (reached : List ℕ) (holder : ℕ) where
  pub tasks_end : (allowed : ℕ) → task_chains allowed f reached holder 0 ≡ passed []
  unfolding task_chains
  tasks_end zero = refl
  tasks_end (suc allowed) = refl

  pub tasks_refused : (allowed index : ℕ) {number place : ℕ} → (index ≡ 0 → ⊥)
      → follow TaskRecord allowed f (member index reached) holder index ≡ refused number place
      → task_chains allowed f reached holder index ≡ refused number place
  unfolding task_chains ◌>>◌
  tasks_refused allowed zero some e = absurd (some refl)
  tasks_refused zero (suc i) some e = rw e
  tasks_refused (suc allowed) (suc i) some e = rw e

  pub tasks_go : (allowed index : ℕ) {u : Unit {0}} → (index ≡ 0 → ⊥)
      → follow TaskRecord allowed f (member index reached) holder index ≡ passed u
      → task_chains allowed f reached holder index
      ≡ ◌>>=◌ (body_chain f (index ∷ reached) index) (λ body.
      ◌>>=◌ (task_chains (allowed - 1) f (index ∷ body ++ reached) index (next f index)) (λ others.
      passed (record { task_record = index; body = body } ∷ others)))
  unfolding task_chains ◌>>◌
  tasks_go allowed zero some e = absurd (some refl)
  tasks_go zero (suc i) some e = absurd (omega (arith, follow_allowed TaskRecord 0 f _ holder (suc i) e))
  tasks_go (suc allowed) (suc i) some e = rw (e, sub-one)
