-- Laws of the reading by columns: a step acts on its round's store alone, and one step more of a job changes no other
-- column where no job after it has a step in that round.
-- Assumes nothing.
use Rattle.std.specs.Prelude.{◌≡◌, ◌≢◌, Bool, true, false, length, get_or, set, replicate, eqb}
use Rattle.std.proofs.Math.Path.{refl, ap}
use Rattle.std.proofs.Common.{sym, ◌∙◌, suc-ne-zero, arith, eq-eqb}
use Prim.Native.Nat.{ℕ, zero, suc, ◌+◌, ◌<◌}
use mathlib.Core.List.{List, [], ◌∷◌, ◌++◌}
use Rattle.std.proofs.Math.ListN.{length-set}
use Rattle.std.proofs.Math.Seq.{get_or-set_other}
use Rattle.std.proofs.lemmas.List.{set_comm}
use Rattle.std.specs.Prelude.{if◌then◌else◌}
use Rattle.notation.specs.Lists.{only}
use Rattle.notation.specs.Laws.TestLaws.{not_both}
use Rattle.timing.specs.Accepted.{Accepted}
use Rattle.machine.specs.declared.Effect.{Effect}
use Rattle.machine.specs.Ends.{no_store}
use Rattle.machine.specs.Instructions.{Store}
use Rattle.matching.proofs.Laws.History.Histories.{Mark, Marks, marked, in_round, JobColumn, unbegun, ColumnRun}
use Rattle.matching.proofs.Laws.History.Histories.{effect_of, stepped, mark_step, run_marks, Columns, columns_from}
use Rattle.matching.proofs.Laws.History.Histories.{columns}

-- of steps with none in round q, the first is in another round and the rest have none
pub round_elsewhere : (q : ℕ) (m : Mark) (ms : List Mark) → in_round q (m ∷ ms) ≡ []
    → (m.round ≢ q) × (in_round q ms ≡ [])
unfolding in_round only
round_elsewhere q m ms none = go (eqb m.round q) refl none
  where
    go : (b : Bool) → eqb m.round q ≡ b → (if b then m ∷ in_round q ms else in_round q ms) ≡ []
        → (m.round ≢ q) × (in_round q ms ≡ [])
    go true e none = absurd (suc-ne-zero (length (in_round q ms)) (ap length none))
    go false e none = (λ same. not_both (eqb m.round q) (eq-eqb m.round q same) e, none)

-- the same with s for round q's store
abbrev pub stored : ℕ → Store → ColumnRun → ColumnRun
stored q s c = record { column = c.column; stores = set c.stores q s }

abbrev pub all_stored : ℕ → Store → Columns → Columns
all_stored q s c = record { jobs = c.jobs; stores = set c.stores q s }

-- a job's column before those of the jobs after it
abbrev pub ahead : JobColumn → Columns → Columns
ahead one others = record { jobs = one ∷ others.jobs; stores = others.stores }

-- one step more of the job at place x, whose number is n, after all that these columns did
abbrev pub one_more : Accepted → ℕ → ℕ → Mark → Columns → Columns
one_more a n x m now =
    let one = mark_step a n m (record { column = get_or now.jobs x unbegun; stores = now.stores }) in
    record { jobs = set now.jobs x one.column; stores = one.stores }

module _ (a : Accepted) where
  -- ---- one step

  -- of the stores a step reads its round's alone
  effect_frame : (x : ℕ) (m : Mark) (c : JobColumn) (S R : List Store)
      → get_or S m.round no_store ≡ get_or R m.round no_store
      → effect_of a x m (record { column = c; stores = S }) ≡ effect_of a x m (record { column = c; stores = R })
  unfolding effect_of
  effect_frame x m c S R e = rw e

  -- the same effect, where another round's store is another
  stepped_frame : (x : ℕ) (m : Mark) (q : ℕ) (s : Store) (effect : Effect) (c : ColumnRun) → m.round ≢ q
      → stepped a x m effect (stored q s c) ≡ stored q s (stepped a x m effect c)
  unfolding stepped
  stepped_frame x m q s effect c other =
      ap (λ (S : List Store). record { column = (stepped a x m effect c).column; stores = S })
      (set_comm c.stores q m.round s effect.store (λ e. other (sym e)))

  -- a step neither reads nor changes another round's store
  pub step_frame : (x : ℕ) (m : Mark) (q : ℕ) (s : Store) (c : ColumnRun) → m.round ≢ q
      → mark_step a x m (stored q s c) ≡ stored q s (mark_step a x m c)
  unfolding mark_step
  step_frame x m q s c other =
      ap (λ (effect : Effect). stepped a x m effect (stored q s c))
      (effect_frame x m c.column (set c.stores q s) c.stores (get_or-set_other c.stores q m.round s no_store other))
      ∙ stepped_frame x m q s (effect_of a x m c) c other

  -- so another round's store stays, and so does the number of stores
  step_stays : (x : ℕ) (m : Mark) (q : ℕ) (c : ColumnRun) → m.round ≢ q
      → get_or (mark_step a x m c).stores q no_store ≡ get_or c.stores q no_store
  unfolding mark_step stepped
  step_stays x m q c other = get_or-set_other c.stores m.round q (effect_of a x m c).store no_store (λ e. other (sym e))

  step_length : (x : ℕ) (m : Mark) (c : ColumnRun) → length (mark_step a x m c).stores ≡ length c.stores
  unfolding mark_step stepped
  step_length x m c = length-set c.stores m.round (effect_of a x m c).store

  -- ---- a job's steps

  -- one step more at the end is made last
  pub run_snoc : (x : ℕ) (ms : List Mark) (m : Mark) (c : ColumnRun)
      → run_marks a x (ms ++ (m ∷ [])) c ≡ mark_step a x m (run_marks a x ms c)
  unfolding run_marks
  run_snoc x [] m c = refl
  run_snoc x (n ∷ ms) m c = run_snoc x ms m (mark_step a x n c)

  -- steps with none in round q neither read nor change its store
  pub run_frame : (x q : ℕ) (s : Store) (ms : List Mark) (c : ColumnRun) → in_round q ms ≡ []
      → run_marks a x ms (stored q s c) ≡ stored q s (run_marks a x ms c)
  unfolding run_marks
  run_frame x q s [] c none = refl
  run_frame x q s (m ∷ ms) c none =
      ap (run_marks a x ms) (step_frame x m q s c (round_elsewhere q m ms none).0)
      ∙ run_frame x q s ms (mark_step a x m c) (round_elsewhere q m ms none).1

  -- so round q's store stays; the number of stores stays in any case
  pub run_stays : (x q : ℕ) (ms : List Mark) (c : ColumnRun) → in_round q ms ≡ []
      → get_or (run_marks a x ms c).stores q no_store ≡ get_or c.stores q no_store
  unfolding run_marks
  run_stays x q [] c none = refl
  run_stays x q (m ∷ ms) c none =
      run_stays x q ms (mark_step a x m c) (round_elsewhere q m ms none).1 ∙ step_stays x m q c (round_elsewhere q m ms none).0

  pub run_length : (x : ℕ) (ms : List Mark) (c : ColumnRun) → length (run_marks a x ms c).stores ≡ length c.stores
  unfolding run_marks
  run_length x [] c = refl
  run_length x (m ∷ ms) c = run_length x ms (mark_step a x m c) ∙ step_length x m c

  -- ---- the jobs from number x on

  -- a job after these steps, from its start on the stores S
  abbrev begun : ℕ → List Mark → List Store → ColumnRun
  begun x ms S = run_marks a x ms (record { column = unbegun; stores = S })

  -- a column for each job, and as many stores as before
  pub columns_jobs : (x : ℕ) (h : Marks) (S : List Store) → length (columns_from a x h S).jobs ≡ length h
  unfolding columns_from
  columns_jobs x [] S = refl
  columns_jobs x (ms ∷ h) S = ap suc (columns_jobs (suc x) h (begun x ms S).stores)

  pub columns_length : (x : ℕ) (h : Marks) (S : List Store) → length (columns_from a x h S).stores ≡ length S
  unfolding columns_from
  columns_length x [] S = refl
  columns_length x (ms ∷ h) S =
      columns_length (suc x) h (begun x ms S).stores ∙ run_length x ms (record { column = unbegun; stores = S })

  -- jobs with no step in round q neither read nor change its store
  pub columns_frame : (x q : ℕ) (s : Store) (h : Marks) (S : List Store) → ((y : ℕ) → in_round q (get_or h y []) ≡ [])
      → columns_from a x h (set S q s) ≡ all_stored q s (columns_from a x h S)
  unfolding columns_from
  columns_frame x q s [] S none = refl
  columns_frame x q s (ms ∷ h) S none =
      ap (λ (c : ColumnRun). ahead c.column (columns_from a (suc x) h c.stores))
      (run_frame x q s ms (record { column = unbegun; stores = S }) (none 0))
      ∙ ap (ahead (begun x ms S).column) (columns_frame (suc x) q s h (begun x ms S).stores (λ y. none (suc y)))

  -- so that store stays
  pub columns_stays : (x q : ℕ) (h : Marks) (S : List Store) → ((y : ℕ) → in_round q (get_or h y []) ≡ [])
      → get_or (columns_from a x h S).stores q no_store ≡ get_or S q no_store
  unfolding columns_from
  columns_stays x q [] S none = refl
  columns_stays x q (ms ∷ h) S none =
      columns_stays (suc x) q h (begun x ms S).stores (λ y. none (suc y))
      ∙ run_stays x q ms (record { column = unbegun; stores = S }) (none 0)

  -- ---- one step more

  -- the step may as well be made after the later jobs, which do not touch its round
  after_others : (n : ℕ) (h : Marks) (m : Mark) (r : ColumnRun) → ((y : ℕ) → in_round m.round (get_or h y []) ≡ [])
      → ahead (mark_step a n m r).column (columns_from a (suc n) h (mark_step a n m r).stores)
      ≡ one_more a n 0 m (ahead r.column (columns_from a (suc n) h r.stores))
  unfolding mark_step stepped
  after_others n h m r none =
      let others = columns_from a (suc n) h r.stores in
      ap (ahead (mark_step a n m r).column) (columns_frame (suc n) m.round (effect_of a n m r).store h r.stores none)
      ∙ ap (λ (e : Effect). ahead (stepped a n m e r).column (all_stored m.round e.store others))
      (effect_frame n m r.column r.stores others.stores (sym (columns_stays (suc n) m.round h r.stores none)))

  -- the jobs from number n on, with one step more of the job at place x
  pub columns_from_marked : (n : ℕ) (h : Marks) (x : ℕ) (m : Mark) (S : List Store) → x < length h
      → ((y : ℕ) → x < y → in_round m.round (get_or h y []) ≡ [])
      → columns_from a n (marked h x m) S ≡ one_more a (n + x) x m (columns_from a n h S)
  unfolding columns_from marked
  columns_from_marked n [] x m S below none = absurd (omega arith)
  columns_from_marked n (ms ∷ h) zero m S below none =
      ap (λ (c : ColumnRun). ahead c.column (columns_from a (suc n) h c.stores))
      (run_snoc n ms m (record { column = unbegun; stores = S }))
      ∙ after_others n h m (begun n ms S) (λ y. none (suc y) (omega arith))
      ∙ ap (λ (k : ℕ). one_more a k 0 m (columns_from a n (ms ∷ h) S)) (omega arith)
  columns_from_marked n (ms ∷ h) (suc x) m S below none =
      ap (ahead (begun n ms S).column)
      (columns_from_marked (suc n) h x m (begun n ms S).stores (omega arith) (λ y later. none (suc y) (omega arith)))
      ∙ ap (λ (k : ℕ). one_more a k (suc x) m (columns_from a n (ms ∷ h) S)) (omega arith)

  -- one step more of job x changes its column and its round's store alone
  pub columns_marked : (h : Marks) (x : ℕ) (m : Mark) (S : List Store) → x < length h
      → ((y : ℕ) → x < y → in_round m.round (get_or h y []) ≡ [])
      → columns a (marked h x m) S ≡ one_more a x x m (columns a h S)
  unfolding columns
  columns_marked h x m S below none =
      columns_from_marked 0 h x m S below none ∙ ap (λ (k : ℕ). one_more a k x m (columns_from a 0 h S)) (omega arith)

  -- ---- no steps

  columns_from_none : (n k : ℕ) (S : List Store)
      → columns_from a n (replicate k []) S ≡ record { jobs = replicate k unbegun; stores = S }
  unfolding columns_from run_marks
  columns_from_none n zero S = refl
  columns_from_none n (suc k) S = ap (ahead unbegun) (columns_from_none (suc n) k S)

  pub columns_none : (k : ℕ) (S : List Store)
      → columns a (replicate k []) S ≡ record { jobs = replicate k unbegun; stores = S }
  unfolding columns
  columns_none k S = columns_from_none 0 k S
