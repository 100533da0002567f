-- The columns of a history of which some steps are made: where no job has made a step in a round in which a job
-- before it has one left, the steps made do what they do in the whole history.
-- Assumes nothing.
use Rattle.std.specs.Prelude.{◌≡◌, ◌⊎◌, length, get_or, take, set}
use Rattle.std.proofs.Math.Path.{refl, sym, ap, subst}
use Rattle.std.proofs.Common.{◌∙◌, length-set}
use Rattle.std.proofs.Math.Logic.{inl, inr}
use Prim.Native.Nat.{ℕ, zero, suc, ◌+◌, ◌<◌}
use Rattle.std.proofs.Math.Decide.{dec_lt}
use native.Mathlib.Omega.{arith}
use mathlib.Core.List.{List, [], ◌∷◌, ◌++◌}
use Rattle.notation.specs.Lists.{only}
use Rattle.timing.specs.Accepted.{Accepted}
use Rattle.machine.specs.declared.Effect.{Effect}
use Rattle.machine.specs.Ends.{no_store}
use Rattle.machine.specs.Instructions.{Store}
use Rattle.matching.proofs.Laws.History.ColumnLaws.{round_elsewhere, run_stays, run_length, columns_stays}
use Rattle.matching.proofs.Laws.FromPlan.Cuts.{Cut}
use Rattle.matching.proofs.Laws.History.Histories.{Mark, Marks, in_round, JobColumn, unbegun, ColumnRun, effect_of}
use Rattle.matching.proofs.Laws.History.Histories.{stepped, mark_step, run_marks, columns_from, columns}
use Rattle.notation.specs.Laws.ElementLaws.{nothing_left}
use Rattle.matching.proofs.Laws.History.Parts.{stores_before, beginning}

-- ---- stores

-- round q's store is the same in both
abbrev pub Alike : ℕ → List Store → List Store → Type 0
Alike q S R = get_or S q no_store ≡ get_or R q no_store

-- it still is when both have the same new store for a round
set_alike : (q r : ℕ) (s : Store) (S R : List Store) → length S ≡ length R → Alike q S R
    → Alike q (set S r s) (set R r s)
set_alike q r s [] [] long e = refl
set_alike q r s [] (t ∷ R) long e = absurd (omega arith)
set_alike q r s (t ∷ S) [] long e = absurd (omega arith)
set_alike zero zero s (t ∷ S) (u ∷ R) long e = refl
set_alike (suc q) zero s (t ∷ S) (u ∷ R) long e = e
set_alike zero (suc r) s (t ∷ S) (u ∷ R) long e = e
set_alike (suc q) (suc r) s (t ∷ S) (u ∷ R) long e = set_alike q r s S R (omega arith) e

-- ---- a job's steps

nothing_in : (q : ℕ) → in_round q [] ≡ []
unfolding in_round only
nothing_in q = refl

none_within_lem : (q : ℕ) (ms ns : List Mark) → [] ≡ ms ++ ns → in_round q ms ≡ []
none_within_lem q ms ns e = ap (in_round q) (nothing_left ms ns (sym e)).0 ∙ nothing_in q

-- stores that are the same in each round in which there is a step: so in that of the first step
here_alike : (m : Mark) (ms : List Mark) (S R : List Store) → ((q : ℕ) → (in_round q (m ∷ ms) ≡ []) ⊎ Alike q S R)
    → Alike m.round S R
here_alike m ms S R same = elim (same m.round) [
  | inl none ↦ absurd ((round_elsewhere m.round m ms none).0 refl)
  | inr e ↦ e
]

-- and after it in those of the others
onward_alike : (m : Mark) (ms : List Mark) (s : Store) (S R : List Store) → length S ≡ length R
    → ((q : ℕ) → (in_round q (m ∷ ms) ≡ []) ⊎ Alike q S R) → (q : ℕ)
    → (in_round q ms ≡ []) ⊎ Alike q (set S m.round s) (set R m.round s)
onward_alike m ms s S R long same q = elim (same q) [
  | inl none ↦ inl (round_elsewhere q m ms none).1
  | inr e ↦ inr (set_alike q m.round s S R long e)
]

-- two runs of the same steps, from the stores S and R
record Agreed (p o : ColumnRun) (S R : List Store) : Type 0 where
  column : p.column ≡ o.column
  stores : (q : ℕ) → Alike q S R → Alike q p.stores o.stores

-- the start of a job's run
abbrev pub begin : List Store → ColumnRun
begin S = record { column = unbegun; stores = S }

module _ (a : Accepted) where
  -- a step where its round's store is the same
  step_same : (x : ℕ) (m : Mark) (c : JobColumn) (S R : List Store) → Alike m.round S R
      → effect_of a x m (record { column = c; stores = S }) ≡ effect_of a x m (record { column = c; stores = R })
  unfolding effect_of
  step_same x m c S R e = rw e refl

  -- steps from stores that are the same in each round in which there is a step
  run_agrees : (x : ℕ) (ms : List Mark) (c : JobColumn) (S R : List Store) → length S ≡ length R
      → ((q : ℕ) → (in_round q ms ≡ []) ⊎ Alike q S R)
      → Agreed (run_marks a x ms (record { column = c; stores = S }))
      (run_marks a x ms (record { column = c; stores = R })) S R
  unfolding run_marks mark_step stepped
  run_agrees x [] c S R long same = record { column = refl; stores = λ q e. e }
  run_agrees x (m ∷ ms) c S R long same =
      let effect = effect_of a x m (record { column = c; stores = S }) in
      let later =
      run_agrees x ms (stepped a x m effect (record { column = c; stores = S })).column (set S m.round effect.store)
      (set R m.round effect.store) (length-set S _ _ ∙ long ∙ sym (length-set R _ _)) (onward_alike m ms effect.store S R long same) in
      subst (λ (e : Effect). Agreed (run_marks a x (m ∷ ms) (record { column = c; stores = S }))
      (run_marks a x ms (stepped a x m e (record { column = c; stores = R }))) S R)
      (step_same x m c S R (here_alike m ms S R same))
      (record { column = later.column; stores = λ q e. later.stores q (set_alike q m.round effect.store S R long e) })

  -- the run of two parts is that of the second after that of the first
  pub run_append : (x : ℕ) (ms ns : List Mark) (c : ColumnRun)
      → run_marks a x (ms ++ ns) c ≡ run_marks a x ns (run_marks a x ms c)
  unfolding run_marks
  run_append x [] ns c = refl
  run_append x (m ∷ ms) ns c = run_append x ms ns (mark_step a x m c)

  -- a job that has made the steps ms, and the same job with the steps ns more
  run_both : (x : ℕ) (ms ns all : List Mark) (S R : List Store) → all ≡ ms ++ ns → length S ≡ length R
      → ((q : ℕ) → (in_round q ms ≡ []) ⊎ Alike q S R) → (q : ℕ) → in_round q ns ≡ [] → Alike q S R
      → Alike q (run_marks a x ms (begin S)).stores (run_marks a x all (begin R)).stores
  run_both x ms ns all S R parts long same q none e =
      (run_agrees x ms unbegun S R long same).stores q e
      ∙ sym (run_stays a x q ns (run_marks a x ms (begin R)) none)
      ∙ ap (λ (c : ColumnRun). get_or c.stores q no_store) (sym (run_append x ms ns (begin R)) ∙ ap (λ (l : List Mark). run_marks a x l (begin R)) (sym parts))

-- ---- the jobs from number n on

-- for each job y and round q: y has made no step in q, or q's store is the same in S and R and no job before y has a
-- step left in q
abbrev Settled : Marks → (ℕ → List Mark) → List Store → List Store → Type 0
Settled now rest S R = (y q : ℕ) → (in_round q (get_or now y []) ≡ []) ⊎ (Alike q S R × ((z : ℕ) → z < y → in_round q (rest z) ≡ []))

-- each job's steps are those made and those left
abbrev Parts : Marks → Marks → (ℕ → List Mark) → Type 0
Parts h now rest = (y : ℕ) → get_or h y [] ≡ get_or now y [] ++ rest y

first_settled : (now : Marks) (rest : ℕ → List Mark) (S R : List Store) → Settled now rest S R → (q : ℕ)
    → (in_round q (get_or now 0 []) ≡ []) ⊎ Alike q S R
first_settled now rest S R settled q = elim (settled 0 q) [
  | inl none ↦ inl none
  | inr same ↦ inr same.0
]

module _ (a : Accepted) where
  -- after the first job
  next_settled : (n : ℕ) (ms ns : List Mark) (now : Marks) (rest : ℕ → List Mark) (S R : List Store)
      → length S ≡ length R → ns ≡ ms ++ rest 0 → Settled (ms ∷ now) rest S R
      → Settled now (λ y. rest (suc y)) (run_marks a n ms (begin S)).stores (run_marks a n ns (begin R)).stores
  next_settled n ms ns now rest S R long parts settled y q = elim (settled (suc y) q) [
    | inl none ↦ inl none
    | inr same ↦
        inr (
          run_both a n ms (rest 0) ns S R parts long (first_settled (ms ∷ now) rest S R settled) q (same.1 0 (omega arith)) same.0,
          λ z lt. same.1 (suc z) (omega arith),
        )
  ]

  still_long : (n : ℕ) (ms ns : List Mark) (S R : List Store) → length S ≡ length R
      → length (run_marks a n ms (begin S)).stores ≡ length (run_marks a n ns (begin R)).stores
  still_long n ms ns S R long = run_length a n ms (begin S) ∙ long ∙ sym (run_length a n ns (begin R))

  -- the column of a job is that of its steps made on what the jobs before it leave in the whole history
  columns_from_made : (n : ℕ) (h now : Marks) (rest : ℕ → List Mark) (S R : List Store) → length now ≡ length h
      → length S ≡ length R → Parts h now rest → Settled now rest S R → (y : ℕ) → y < length h
      → get_or (columns_from a n now S).jobs y unbegun ≡ (run_marks a (n + y) (get_or now y [])
      (begin (columns_from a n (take y h) R).stores)).column
  unfolding columns_from
  columns_from_made n [] now rest S R as_long long parts settled y inside = absurd (omega arith)
  columns_from_made n (ns ∷ h) [] rest S R as_long long parts settled y inside = absurd (omega arith)
  columns_from_made n (ns ∷ h) (ms ∷ now) rest S R as_long long parts settled zero inside =
      (run_agrees a n ms unbegun S R long (first_settled (ms ∷ now) rest S R settled)).column
      ∙ ap (λ (k : ℕ). (run_marks a k ms (begin R)).column) (omega arith)
  columns_from_made n (ns ∷ h) (ms ∷ now) rest S R as_long long parts settled (suc y) inside =
      columns_from_made (suc n) h now (λ z. rest (suc z)) _ (run_marks a n ns (begin R)).stores (omega arith) (still_long n ms ns S R long) (λ z. parts (suc z))
      (next_settled n ms ns now rest S R long (parts 0) settled) y (omega arith)
      ∙ ap
      (λ (k : ℕ). (run_marks a k (get_or now y []) (begin (columns_from a (suc n) (take y h) (run_marks a n ns (begin R)).stores).stores)).column)
      (omega arith)

  -- a round with no step left has the store of the whole history
  columns_from_left : (n : ℕ) (h now : Marks) (rest : ℕ → List Mark) (S R : List Store) → length S ≡ length R
      → Parts h now rest → Settled now rest S R → (q : ℕ) → Alike q S R → ((y : ℕ) → in_round q (rest y) ≡ [])
      → Alike q (columns_from a n now S).stores (columns_from a n h R).stores
  unfolding columns_from
  columns_from_left n [] [] rest S R long parts settled q e none = e
  columns_from_left n [] (ms ∷ now) rest S R long parts settled q e none =
      columns_stays a n q (ms ∷ now) S (λ y. none_within_lem q (get_or (ms ∷ now) y []) (rest y) (parts y)) ∙ e
  columns_from_left n (ns ∷ h) [] rest S R long parts settled q e none =
      e ∙ sym (columns_stays a n q (ns ∷ h) R (λ y. ap (in_round q) (parts y) ∙ none y))
  columns_from_left n (ns ∷ h) (ms ∷ now) rest S R long parts settled q e none =
      columns_from_left (suc n) h now (λ z. rest (suc z)) _ _ (still_long n ms ns S R long) (λ z. parts (suc z))
      (next_settled n ms ns now rest S R long (parts 0) settled) q
      (run_both a n ms (rest 0) ns S R (parts 0) long (first_settled (ms ∷ now) rest S R settled) q (none 0) e) (λ y. none (suc y))

-- ---- a cut history

cut_settled : {h now : Marks} {x : ℕ} {m : Mark} (cut : Cut h now x m) (S : List Store) → Settled now cut.rest S S
cut_settled {h} {now} {x} {m} cut S y q = elim (dec_lt q m.round) [
  | yes below ↦ inr (refl, λ z lt. cut.left z q below)
  | no up ↦ elim (dec_lt m.round q) [
    | yes above ↦ inl (cut.made y q above)
    | no down ↦
        (let same : m.round ≡ q = omega arith in
        subst (λ (r : ℕ). (in_round r (get_or now y []) ≡ []) ⊎ (Alike r S S × ((z : ℕ) → z < y → in_round r (cut.rest z) ≡ []))) same
        (elim (dec_lt x y) [
          | yes after ↦ inl (cut.row_made y after)
          | no upto ↦ inr (refl, λ z lt. cut.row_left z (omega arith))
        ]))
  ]
]

module _ (a : Accepted) (S : List Store) where
  -- the column of job y is the same whether the jobs before it have made all their steps or only those of now
  pub made_same : {h now : Marks} {x : ℕ} {m : Mark} → Cut h now x m → (y : ℕ) → y < length h
      → get_or (columns a now S).jobs y unbegun ≡ (run_marks a y (get_or now y []) (beginning a h S y)).column
  unfolding columns stores_before
  made_same {h} {now} cut y inside =
      columns_from_made a 0 h now cut.rest S S cut.same refl cut.whole (cut_settled cut S) y inside
      ∙ ap (λ (k : ℕ). (run_marks a k (get_or now y []) (beginning a h S y)).column) (omega arith)

  -- round r's store is that of the whole history, where of the rounds up to r all steps are made, and of those after
  -- it none
  pub store_left : (h now : Marks) (rest : ℕ → List Mark) (r : ℕ) → ((y : ℕ) → get_or h y [] ≡ get_or now y [] ++ rest y)
      → ((y : ℕ) → in_round r (rest y) ≡ []) → ((y q : ℕ) → r < q → in_round q (get_or now y []) ≡ [])
      → ((y q : ℕ) → q < r → in_round q (rest y) ≡ [])
      → get_or (columns a now S).stores r no_store ≡ get_or (columns a h S).stores r no_store
  unfolding columns
  store_left h now rest r parts here later earlier = columns_from_left a 0 h now rest S S refl parts settled r refl here
    where
      settled : Settled now rest S S
      settled y q = elim (dec_lt r q) [
        | yes above ↦ inl (later y q above)
        | no upto ↦ elim (dec_lt q r) [
          | yes below ↦ inr (refl, λ z lt. earlier z q below)
          | no same ↦ (let alike : r ≡ q = omega arith in inr (refl, λ z lt. ap (λ (k : ℕ). in_round k (rest z)) (sym alike) ∙ here z))
        ]
      ]
