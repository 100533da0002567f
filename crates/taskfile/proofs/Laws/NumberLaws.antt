-- The numbers that loading a file refuses by: 1 to 9, and so never a number of the times or of an entry.
-- Assumes nothing.
use Rattle.std.specs.Prelude.{◌≡◌, refl, ℕ, zero, suc, ◌≤◌, Bool, true, false, List, [], ◌∷◌, ◌++◌}
use Rattle.std.proofs.Common.{arith}
use Rattle.taskfile.specs.declared.Kind.{Kind}
use Rattle.taskfile.specs.declared.Table.{Table}
use Rattle.taskfile.specs.Chains.{record_of, follow, chain, body_chain, task_chains, no_stray, chains_of}
use Rattle.notation.specs.Checked.{Checked, refused, passed, require, none_of, placed_by, ◌>>=◌, ◌>>◌}
use Rattle.taskfile.specs.File.{load}
use Rattle.taskfile.specs.Judgement.{judged}
use Rattle.std.specs.Prelude.{if◌then◌else◌}
use Rattle.taskfile.specs.Records.{File, next}

-- the numbers by which a check refuses are at most 9
record UpToNine {P A : Type 0} (c : Checked P A) : Type 0 where
  most : {number : ℕ} {place : P} → c ≡ refused number place → number ≤ 9

-- ---- the steps of a check

passed_nine : {P A : Type 0} (x : A) → UpToNine {P = P} (passed x)
passed_nine x = record { most = λ e. absurd (let z : ◌≡◌ {A = ℕ} 0 1 = cc in omega arith) }

refused_nine : {P A : Type 0} (n : ℕ) (p : P) → n ≤ 9 → UpToNine {A = A} (refused n p)
refused_nine n p few = record { most = λ {number} e. let same : n ≡ number = cc in omega arith }

require_nine : {P : Type 0} (test : Bool) (n : ℕ) (p : P) → n ≤ 9 → UpToNine (require test n p)
unfolding require
require_nine true n p few = passed_nine tt
require_nine false n p few = refused_nine n p few

none_of_nine : {P : Type 0} (n : ℕ) (fault : P → Bool) (places : List P) → n ≤ 9 → UpToNine (none_of n fault places)
unfolding none_of
none_of_nine n fault [] few = passed_nine tt
none_of_nine n fault (p ∷ places) few = go (fault p) (none_of_nine n fault places few)
  where
    go : (b : Bool) → UpToNine (none_of n fault places) → UpToNine (if b then refused n p else none_of n fault places)
    go true later = refused_nine n p few
    go false later = later

bind_nine : {P A B : Type 0} (c : Checked P A) (k : A → Checked P B) → UpToNine c → ((x : A) → UpToNine (k x))
    → UpToNine (◌>>=◌ c k)
unfolding ◌>>=◌
bind_nine (refused n p) k one later = refused_nine n p (one.most refl)
bind_nine (passed x) k one later = later x

then_nine : {P A B : Type 0} (c : Checked P A) (d : Checked P B) → UpToNine c → UpToNine d → UpToNine (◌>>◌ c d)
unfolding ◌>>◌
then_nine (refused n p) d one later = refused_nine n p (one.most refl)
then_nine (passed x) d one later = later

placed_nine : {P Q A : Type 0} (g : P → Q) (c : Checked P A) → UpToNine c → UpToNine (placed_by g c)
unfolding placed_by
placed_nine g (refused n p) one = refused_nine n (g p) (one.most refl)
placed_nine g (passed x) one = passed_nine x

-- ---- the walk of records

record_nine : (kind : Kind) (f : File) (r : ℕ) → UpToNine (record_of kind f r)
unfolding record_of
record_nine kind f r = then_nine _ _ (require_nine _ 2 r (omega arith)) (require_nine _ 4 r (omega arith))

follow_nine : (kind : Kind) (allowed : ℕ) (f : File) (again : Bool) (holder index : ℕ)
    → UpToNine (follow kind allowed f again holder index)
unfolding follow
follow_nine kind allowed f again holder index =
    then_nine _ _ (require_nine _ 3 holder (omega arith))
    (then_nine _ _ (require_nine _ 5 index (omega arith)) (record_nine kind f index))

chain_nine : (kind : Kind) (allowed : ℕ) (f : File) (reached : List ℕ) (holder index : ℕ)
    → UpToNine (chain kind allowed f reached holder index)
unfolding chain
chain_nine kind zero f reached holder zero = passed_nine _
chain_nine kind zero f reached holder (suc i) = then_nine _ _ (follow_nine kind 0 f _ holder (suc i)) (passed_nine _)
chain_nine kind (suc allowed) f reached holder zero = passed_nine _
chain_nine kind (suc allowed) f reached holder (suc i) =
    then_nine _ _ (follow_nine kind (suc allowed) f _ holder (suc i))
    (bind_nine _ _ (chain_nine kind allowed f (suc i ∷ reached) (suc i) (next f (suc i))) (λ others. passed_nine _))

body_nine : (f : File) (reached : List ℕ) (holder : ℕ) → UpToNine (body_chain f reached holder)
unfolding body_chain
body_nine f reached holder = then_nine _ _ (require_nine _ 5 holder (omega arith)) (chain_nine _ _ f reached holder _)

tasks_nine : (allowed : ℕ) (f : File) (reached : List ℕ) (holder index : ℕ)
    → UpToNine (task_chains allowed f reached holder index)
unfolding task_chains
tasks_nine zero f reached holder zero = passed_nine _
tasks_nine zero f reached holder (suc i) = then_nine _ _ (follow_nine _ 0 f _ holder (suc i)) (passed_nine _)
tasks_nine (suc allowed) f reached holder zero = passed_nine _
tasks_nine (suc allowed) f reached holder (suc i) =
    then_nine _ _ (follow_nine _ (suc allowed) f _ holder (suc i))
    (bind_nine _ _ (body_nine f (suc i ∷ reached) (suc i))
    (λ body.
    bind_nine _ _ (tasks_nine allowed f (suc i ∷ body ++ reached) (suc i) (next f (suc i))) (λ others. passed_nine _)))

chains_nine : (f : File) → UpToNine (chains_of f)
unfolding chains_of no_stray
chains_nine f =
    then_nine _ _ (record_nine _ f 0)
    (then_nine _ _ (require_nine _ 5 0 (omega arith))
    (bind_nine _ _ (tasks_nine _ f _ 0 _)
    (λ tasks.
    bind_nine _ _ (chain_nine _ _ f _ 0 _)
    (λ locks. then_nine _ _ (none_of_nine 6 _ _ (omega arith)) (passed_nine _)))))

-- ---- the whole

judged_nine : (t : Table) → UpToNine (judged t)
unfolding judged
judged_nine t =
    then_nine _ _ (none_of_nine 7 _ _ (omega arith))
    (then_nine _ _ (none_of_nine 8 _ _ (omega arith)) (none_of_nine 9 _ _ (omega arith)))

load_nine : (f : File) → UpToNine (load f)
unfolding load
load_nine f =
    then_nine _ _ (require_nine _ 1 0 (omega arith))
    (bind_nine _ _ (chains_nine f) (λ chains. then_nine _ _ (placed_nine _ _ (judged_nine _)) (passed_nine _)))

-- a file that is not loaded is refused by a number of at most 9
pub load_number : (f : File) {number place : ℕ} → load f ≡ refused number place → number ≤ 9
load_number f e = (load_nine f).most e
