-- Laws of the runs of a history's jobs as far as they have gone: a guess for a round without steps and one allowed
-- step more keep them, and where every job has ended the history is whole.
-- Assumes nothing.
use Rattle.std.specs.Prelude.{◌≡◌, refl, ◌≢◌, Bool, true, false, get_or, take, replicate}
use Rattle.std.proofs.Common.{sym, ◌∙◌, get_or-take}
use Rattle.std.proofs.Math.Path.{ap, subst}
use Rattle.std.proofs.Math.Logic.{inl, inr}
use Prim.Native.Nat.{ℕ, zero, suc, ◌+◌, ◌≤◌, ◌<◌}
use Rattle.std.proofs.Math.Decide.{dec_le, ℕ_discrete}
use native.Mathlib.Omega.{arith}
use mathlib.Core.List.{List, [], ◌∷◌, ◌++◌}
use Rattle.std.proofs.Math.ListN.{length, set, length-set}
use Rattle.std.proofs.lemmas.List.{length-replicate, get_or-replicate, take-set-le}
use Rattle.std.proofs.Math.Seq.{length-take-le, get_or-set_same, get_or-set_other, take-set-lt}
use Rattle.notation.specs.Lists.{only, last_or}
use Rattle.timing.specs.Accepted.{Accepted}
use Rattle.machine.specs.Instructions.{Store}
use Rattle.matching.proofs.Laws.History.ColumnLaws.{round_elsewhere, stored, step_frame, columns_frame, columns_from_marked}
use Rattle.matching.proofs.Laws.History.Histories.{Mark, Marks, marked, in_round, unbegun, ColumnRun, stepped}
use Rattle.matching.proofs.Laws.History.Histories.{mark_step, run_marks, Columns, columns_from, columns}
use Rattle.matching.proofs.Laws.History.PlanReading.{Allowed, Whole, AllWhole}
use Rattle.matching.proofs.Laws.History.PlanReadingLaws.{at_whole}
use Rattle.matching.proofs.Laws.History.Parts.{last_round, Going, stores_before, beginning, RunsTo, Part, Parts}

-- a job with no step in round q has none in the history of the first x jobs
none_before : (q x : ℕ) (h : Marks) (y : ℕ) → in_round q (get_or h y []) ≡ [] → in_round q (get_or (take x h) y []) ≡ []
unfolding in_round only
none_before q zero h y none = refl
none_before q (suc x) [] y none = refl
none_before q (suc x) (ms ∷ h) zero none = none
none_before q (suc x) (ms ∷ h) (suc y) none = none_before q x h y none

module _ (a : Accepted) where
  -- ---- one step more of a job

  module _ (x : ℕ) (m : Mark) where
    -- a step that does not end the job
    pub going_more : (ms : List Mark) (p : ℕ) (c : ColumnRun) → Going a x p ms c
        → Allowed a x (last_round p ms) m (run_marks a x ms c)
        → (mark_step a x m (run_marks a x ms c)).column.ended ≡ false → Going a x p (ms ++ (m ∷ [])) c
    unfolding run_marks last_round last_or
    going_more [] p c going allowed goes = (allowed, goes, tt)
    going_more (n ∷ ms) p c going allowed goes =
        (going.0, going.1, going_more ms n.round (mark_step a x n c) going.2 allowed goes)

    -- and its End
    pub going_ends : (ms : List Mark) (p : ℕ) (c : ColumnRun) → Going a x p ms c
        → Allowed a x (last_round p ms) m (run_marks a x ms c)
        → (mark_step a x m (run_marks a x ms c)).column.ended ≡ true → Whole a x p (ms ++ (m ∷ [])) c
    unfolding run_marks last_round last_or
    going_ends [] p c going allowed ends = (allowed, inl (ends, refl))
    going_ends (n ∷ ms) p c going allowed ends =
        (going.0, inr (going.1, going_ends ms n.round (mark_step a x n c) going.2 allowed ends))

  -- ---- another store of a round without steps

  module _ (x q : ℕ) (s : Store) where
    -- what a step may be does not turn on the stores
    allowed_frame : (p : ℕ) (m : Mark) (c : ColumnRun) → Allowed a x p m c → Allowed a x p m (stored q s c)
    allowed_frame p m c allowed =
        record { in_plan = allowed.in_plan; in_order = allowed.in_order; on_offer = allowed.on_offer }

    ended_frame : (m : Mark) (c : ColumnRun) (b : Bool) → m.round ≢ q → (mark_step a x m c).column.ended ≡ b
        → (mark_step a x m (stored q s c)).column.ended ≡ b
    ended_frame m c b other e = ap (λ (r : ColumnRun). r.column.ended) (step_frame a x m q s c other) ∙ e

    pub going_frame : (ms : List Mark) (p : ℕ) (c : ColumnRun) → in_round q ms ≡ [] → Going a x p ms c
        → Going a x p ms (stored q s c)
    going_frame [] p c none going = tt
    going_frame (m ∷ ms) p c none going =
        let apart = round_elsewhere q m ms none in (
          allowed_frame p m c going.0,
          ended_frame m c false apart.0 going.1,
          subst (Going a x m.round ms) (sym (step_frame a x m q s c apart.0))
              (going_frame ms m.round (mark_step a x m c) apart.1 going.2),
        )

    pub whole_frame : (ms : List Mark) (p : ℕ) (c : ColumnRun) → in_round q ms ≡ [] → Whole a x p ms c
        → Whole a x p ms (stored q s c)
    whole_frame [] p c none whole = whole
    whole_frame (m ∷ ms) p c none whole =
        let apart = round_elsewhere q m ms none in (
          allowed_frame p m c whole.0,
          elim whole.1 [
            | inl last ↦ inl (ended_frame m c true apart.0 last.0, last.1)
            | inr on ↦ inr (
              ended_frame m c false apart.0 on.0,
              subst (Whole a x m.round ms) (sym (step_frame a x m q s c apart.0))
                  (whole_frame ms m.round (mark_step a x m c) apart.1 on.1),
            )
          ],
        )

  -- ---- to its End or not

  -- one step more, and another store, whether the job ends or not
  reached_more : (x : ℕ) (m : Mark) (ms : List Mark) (c : ColumnRun) (b : Bool) → Going a x 0 ms c
      → Allowed a x (last_round 0 ms) m (run_marks a x ms c) → (mark_step a x m (run_marks a x ms c)).column.ended ≡ b
      → RunsTo a x (ms ++ (m ∷ [])) c b
  reached_more x m ms c true going allowed e = going_ends x m ms 0 c going allowed e
  reached_more x m ms c false going allowed e = going_more x m ms 0 c going allowed e

  reached_frame : (x q : ℕ) (s : Store) (ms : List Mark) (c : ColumnRun) (b : Bool) → in_round q ms ≡ []
      → RunsTo a x ms c b → RunsTo a x ms (stored q s c) b
  reached_frame x q s ms c true none reached = whole_frame x q s ms 0 c none reached
  reached_frame x q s ms c false none reached = going_frame x q s ms 0 c none reached

  -- a run over a job's steps on the stores before it
  part_of : (h : Marks) (S : List Store) (x : ℕ) (b : Bool) (ms : List Mark) (T : List Store) → ms ≡ get_or h x []
      → T ≡ stores_before a h S x → RunsTo a x ms (record { column = unbegun; stores = T }) b → Part a h S x b
  part_of h S x b ms T steps stores reached =
      subst (λ (l : List Mark). RunsTo a x l (beginning a h S x) b) steps
      (subst (λ (R : List Store). RunsTo a x ms (record { column = unbegun; stores = R }) b) stores reached)

  -- ---- no steps, and a guess

  pub parts_none : (k : ℕ) (S : List Store) → Parts a (replicate k []) S (λ x. false)
  parts_none k S x below =
      let inside : x < k = omega (arith, length-replicate {A = List Mark} k []) in
      part_of (replicate k []) S x false [] _ (sym (get_or-replicate k x [] [] inside)) refl tt

  -- the jobs before x, where no job has a step in round q
  pub before_guess : (h : Marks) (S : List Store) (q : ℕ) (s : Store) → ((y : ℕ) → in_round q (get_or h y []) ≡ [])
      → (x : ℕ) → stores_before a h (set S q s) x ≡ set (stores_before a h S x) q s
  unfolding stores_before
  before_guess h S q s none x =
      ap (λ (c : Columns). c.stores) (columns_frame a 0 q s (take x h) S (λ y. none_before q x h y (none y)))

  -- another guess for a round in which no job has a step
  pub parts_guess : (h : Marks) (S : List Store) (q : ℕ) (s : Store) (ended : ℕ → Bool)
      → ((y : ℕ) → in_round q (get_or h y []) ≡ []) → Parts a h S ended → Parts a h (set S q s) ended
  parts_guess h S q s ended none parts x below =
      part_of h (set S q s) x (ended x) (get_or h x []) (set (stores_before a h S x) q s) refl (sym (before_guess h S q s none x))
      (reached_frame x q s (get_or h x []) (beginning a h S x) (ended x) (none x) (parts x below))

  -- ---- one step more in a history

  module _ (h : Marks) (x : ℕ) (m : Mark) (S : List Store) where
    -- the steps of the job, of another job, and what stands before the jobs up to x
    own_steps : x < length h → get_or (marked h x m) x [] ≡ get_or h x [] ++ (m ∷ [])
    unfolding marked
    own_steps inside = get_or-set_same h x (get_or h x [] ++ (m ∷ [])) [] inside

    other_steps : (y : ℕ) → y ≢ x → get_or (marked h x m) y [] ≡ get_or h y []
    unfolding marked
    other_steps y other = get_or-set_other h x y (get_or h x [] ++ (m ∷ [])) [] other

    pub before_upto : (y : ℕ) → y ≤ x → stores_before a (marked h x m) S y ≡ stores_before a h S y
    unfolding marked stores_before
    before_upto y upto =
        ap (λ (l : Marks). (columns_from a 0 l S).stores) (take-set-le y h x (get_or h x [] ++ (m ∷ [])) upto)

    -- the jobs before a later job y, with the step
    take_marked : (y : ℕ) → x < y → take y (marked h x m) ≡ marked (take y h) x m
    unfolding marked
    take_marked y later =
        take-set-lt y h x (get_or h x [] ++ (m ∷ [])) later
        ∙ ap (λ (l : List Mark). set (take y h) x (l ++ (m ∷ []))) (sym (get_or-take y h x [] later))

    -- so before y the store of the step's round alone is another
    pub before_later : (y : ℕ) → x < y → y < length h → ((z : ℕ) → x < z → in_round m.round (get_or h z []) ≡ [])
        → (s : Store) × (stores_before a (marked h x m) S y ≡ set (stores_before a h S y) m.round s)
    unfolding stores_before mark_step stepped
    before_later y later below none =
        let inside : x < length (take y h) = omega (arith, length-take-le y h (omega arith)) in (
          _,
          ap (λ (l : Marks). (columns_from a 0 l S).stores) (take_marked y later)
              ∙ ap (λ (c : Columns). c.stores)
              (columns_from_marked a 0 (take y h) x m S inside (λ z above. none_before m.round y h z (none z above))),
        )

    -- job x, one step further
    part_gains : (b : Bool) → x < length h → Part a h S x false
        → Allowed a x (last_round 0 (get_or h x [])) m (run_marks a x (get_or h x []) (beginning a h S x))
        → (mark_step a x m (run_marks a x (get_or h x []) (beginning a h S x))).column.ended ≡ b
        → Part a (marked h x m) S x b
    part_gains b inside part allowed e =
        part_of (marked h x m) S x b (get_or h x [] ++ (m ∷ [])) (stores_before a h S x) (sym (own_steps inside)) (sym (before_upto x (omega arith)))
        (reached_more x m (get_or h x []) (beginning a h S x) b part allowed e)

    -- another job, whose steps and stores of its rounds stay
    part_stays : (y : ℕ) (b : Bool) → y ≢ x → y < length h → ((z : ℕ) → x < z → in_round m.round (get_or h z []) ≡ [])
        → Part a h S y b → Part a (marked h x m) S y b
    part_stays y b other below none part =
        elim (dec_le y x) [
          | yes upto ↦ part_of (marked h x m) S y b (get_or h y []) (stores_before a h S y) steps (sym (before_upto y upto)) part
          | no later ↦
              (let above : x < y = omega arith in
              let changed = before_later y above below none in
              part_of (marked h x m) S y b (get_or h y []) (set (stores_before a h S y) m.round changed.0) steps (sym changed.1)
              (reached_frame y m.round changed.0 (get_or h y []) (beginning a h S y) b (none y above) part))
        ]
      where
        steps : get_or h y [] ≡ get_or (marked h x m) y []
        steps = sym (other_steps y other)

    -- An allowed step more of a job that has not ended, in a round in which no later job has a step.
    pub parts_marked : (before after : ℕ → Bool) → x < length h → before x ≡ false
        → ((y : ℕ) → x < y → in_round m.round (get_or h y []) ≡ [])
        → Allowed a x (last_round 0 (get_or h x [])) m (run_marks a x (get_or h x []) (beginning a h S x))
        → ((y : ℕ) → y ≢ x → after y ≡ before y)
        → after x ≡ (mark_step a x m (run_marks a x (get_or h x []) (beginning a h S x))).column.ended
        → Parts a h S before → Parts a (marked h x m) S after
    unfolding marked
    parts_marked before after inside goes none allowed others own parts y below =
        elim (ℕ_discrete y x) [
          | yes same ↦ subst (λ (k : ℕ). Part a (marked h x m) S k (after k)) (sym same)
              (part_gains (after x) inside (subst (Part a h S x) goes (parts x inside)) allowed (sym own))
          | no other ↦ subst (Part a (marked h x m) S y) (sym (others y other))
              (part_stays y (before y) other in_h none (parts y in_h))
        ]
      where
        in_h : y < length h
        in_h = omega (arith, length-set h x (get_or h x [] ++ (m ∷ [])))

  -- ---- every job at its End

  pub parts_all : (h : Marks) (S : List Store) → Parts a h S (λ x. true) → AllWhole a 0 h S
  unfolding stores_before
  parts_all h S parts =
      let place : (k : ℕ) → k ≡ 0 + k = λ k. omega arith in
      at_whole a h 0 S (λ k below. subst (λ (n : ℕ). Whole a n 0 (get_or h k []) (beginning a h S k)) (place k) (parts k below))

  -- ---- the columns

  -- the column of the job at place x is its run on the stores that those before it leave
  column_from_at : (h : Marks) (n x : ℕ) (S : List Store) → x < length h
      → get_or (columns_from a n h S).jobs x unbegun ≡ (run_marks a (n + x) (get_or h x [])
      (record { column = unbegun; stores = (columns_from a n (take x h) S).stores })).column
  unfolding columns_from
  column_from_at [] n x S below = absurd (omega arith)
  column_from_at (ms ∷ h) n zero S below =
      ap (λ (k : ℕ). (run_marks a k ms (record { column = unbegun; stores = S })).column) (omega arith)
  column_from_at (ms ∷ h) n (suc x) S below =
      let next = (run_marks a n ms (record { column = unbegun; stores = S })).stores in
      let start : ColumnRun = record { column = unbegun; stores = (columns_from a (suc n) (take x h) next).stores } in
      column_from_at h (suc n) x next (omega arith)
      ∙ ap (λ (k : ℕ). (run_marks a k (get_or h x []) start).column) (omega arith)

  pub column_at : (h : Marks) (x : ℕ) (S : List Store) → x < length h
      → get_or (columns a h S).jobs x unbegun ≡ (run_marks a x (get_or h x []) (beginning a h S x)).column
  unfolding columns stores_before
  column_at h x S below =
      let place : 0 + x ≡ x = omega arith in
      column_from_at h 0 x S below ∙ ap (λ (k : ℕ). (run_marks a k (get_or h x []) (beginning a h S x)).column) place
