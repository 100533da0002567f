-- Laws of the reading by rows: which bytes one step more adds to it, that empty rounds add none, and that the order
-- of a plan's run is the run's steps read by rows.
-- Assumes nothing.
use Rattle.order.specs.OrderBytes.{order_byte}
use Rattle.std.specs.Prelude.{◌≡◌, ◌≢◌, Bool, length, get_or, replicate, eqb}
use Rattle.std.proofs.Math.Path.{refl, sym, ap}
use Rattle.std.proofs.Common.{◌∙◌, length-set, eq-eqb, ne_eqb}
use Prim.Native.Nat.{ℕ, zero, suc, ◌+◌, ◌*◌, ◌≤◌, ◌<◌}
use Rattle.std.proofs.Math.Decide.{dec_le}
use native.Mathlib.Omega.{arith}
use Rattle.std.proofs.Math.Bool.{true, false}
use mathlib.Core.List.{List, [], ◌∷◌, ◌++◌, map, append_assoc, append-nil}
use Rattle.std.proofs.lemmas.List.{length-map}
use Rattle.std.proofs.Math.ListN.{get_or-map}
use Rattle.notation.specs.Laws.ListLaws.{map_snoc, each_map}
use Rattle.std.specs.Prelude.{if◌then◌else◌}
use Rattle.notation.specs.Lists.{from, up_to, only, each}
use Rattle.timing.specs.Accepted.{Accepted}
use Rattle.timing.specs.Relations.{base, job_numbers}
use Rattle.plan.specs.Legality.{steps_of}
use Rattle.plan.specs.Runs.{Step, JobRuns, job_total}
use Rattle.matching.specs.Conversions.{step_bytes_in, order_of}
use Rattle.matching.proofs.Laws.History.Histories.{Mark, Marks, job, marked, bytes_of, in_round, row_from, rows}
use Rattle.notation.specs.Laws.ElementLaws.{only_append, each_snoc, each_same}
use Rattle.matching.proofs.Laws.History.PlanReading.{mark_of, marks_of}

-- ---- a job's steps in a round

pub in_round_append : (r : ℕ) (xs ys : List Mark) → in_round r (xs ++ ys) ≡ in_round r xs ++ in_round r ys
unfolding in_round
in_round_append r xs ys = only_append (λ m. eqb m.round r) xs ys

-- a step is in its round and in no other
pub in_round_own : (m : Mark) → in_round m.round (m ∷ []) ≡ m ∷ []
unfolding in_round only
in_round_own m = rw (eq-eqb m.round m.round refl) refl

pub in_round_other : (r : ℕ) (m : Mark) → m.round ≢ r → in_round r (m ∷ []) ≡ []
unfolding in_round only
in_round_other r m apart = rw (ne_eqb m.round r apart) refl

-- one step more, in the round or not
pub in_round_gains : (ms : List Mark) (m : Mark)
    → in_round m.round (ms ++ (m ∷ [])) ≡ in_round m.round ms ++ (m ∷ [])
in_round_gains ms m =
    in_round_append m.round ms (m ∷ []) ∙ ap (λ (l : List Mark). in_round m.round ms ++ l) (in_round_own m)

pub in_round_keeps : (r : ℕ) (ms : List Mark) (m : Mark) → m.round ≢ r → in_round r (ms ++ (m ∷ [])) ≡ in_round r ms
in_round_keeps r ms m apart =
    in_round_append r ms (m ∷ []) ∙ ap (λ (l : List Mark). in_round r ms ++ l) (in_round_other r m apart) ∙ append-nil (in_round r ms)

-- so a job's steps in another round than the new step's are as before
pub marked_keeps : (r : ℕ) (h : Marks) (x y : ℕ) (m : Mark) → m.round ≢ r
    → in_round r (get_or (marked h x m) y []) ≡ in_round r (get_or h y [])
unfolding marked
marked_keeps r [] x y m apart = refl
marked_keeps r (ms ∷ h) zero zero m apart = in_round_keeps r ms m apart
marked_keeps r (ms ∷ h) zero (suc y) m apart = refl
marked_keeps r (ms ∷ h) (suc x) zero m apart = refl
marked_keeps r (ms ∷ h) (suc x) (suc y) m apart = marked_keeps r h x y m apart

-- ---- a row

module _ (a : Accepted) where
  -- the bytes of no steps
  bytes_nothing : (x : ℕ) (ms : List Mark) (t : List ℕ) → ms ≡ [] → bytes_of a x ms ++ t ≡ t
  unfolding bytes_of
  bytes_nothing x ms t e = rw e refl

  -- rows whose jobs have the same steps in the round
  pub row_same : (r x : ℕ) (h g : Marks) → length h ≡ length g
      → ((y : ℕ) → in_round r (get_or h y []) ≡ in_round r (get_or g y [])) → row_from a r x h ≡ row_from a r x g
  unfolding row_from
  row_same r x [] [] e same = refl
  row_same r x [] (ns ∷ g) e same = absurd (omega arith)
  row_same r x (ms ∷ h) [] e same = absurd (omega arith)
  row_same r x (ms ∷ h) (ns ∷ g) e same =
      ap (λ (l : List Mark). bytes_of a x l ++ row_from a r (suc x) h) (same 0)
      ∙ ap (λ (l : List ℕ). bytes_of a x (in_round r ns) ++ l) (row_same r (suc x) h g (omega arith) (λ y. same (suc y)))

  -- a round in which no job has a step
  pub row_nothing : (r x : ℕ) (h : Marks) → ((y : ℕ) → in_round r (get_or h y []) ≡ []) → row_from a r x h ≡ []
  unfolding row_from
  row_nothing r x [] none = refl
  row_nothing r x (ms ∷ h) none =
      bytes_nothing x (in_round r ms) (row_from a r (suc x) h) (none 0) ∙ row_nothing r (suc x) h (λ y. none (suc y))

  -- the row of a round other than the new step's
  pub row_keeps : (r : ℕ) (h : Marks) (x : ℕ) (m : Mark) → m.round ≢ r → row_from a r 0 (marked h x m) ≡ row_from a r 0 h
  unfolding marked
  row_keeps r h x m apart = row_same r 0 (marked h x m) h (length-set h x _) (λ y. marked_keeps r h x y m apart)

  -- a job's bytes in the round of its new step
  bytes_gain : (x : ℕ) (ms : List Mark) (m : Mark)
      → bytes_of a x (in_round m.round (ms ++ (m ∷ []))) ≡ bytes_of a x (in_round m.round ms)
      ++ ((order_byte (base a (job x)) m.value) ∷ [])
  unfolding bytes_of
  bytes_gain x ms m =
      ap (bytes_of a x) (in_round_gains ms m) ∙ map_snoc (λ (n : Mark). order_byte (base a (job x)) n.value) (in_round m.round ms) m

  -- so a row that begins with the job and has nothing behind it gains that byte at its end
  first_gains : (x : ℕ) (ms : List Mark) (h : Marks) (m : Mark) → row_from a m.round (suc x) h ≡ []
      → row_from a m.round x ((ms ++ (m ∷ [])) ∷ h) ≡ row_from a m.round x (ms ∷ h)
      ++ ((order_byte (base a (job x)) m.value) ∷ [])
  unfolding row_from
  first_gains x ms h m none =
      rw none
      (append-nil (bytes_of a x (in_round m.round (ms ++ (m ∷ []))))
      ∙ bytes_gain x ms m
      ∙ ap (λ (l : List ℕ). l ++ ((order_byte (base a (job x)) m.value) ∷ [])) (sym (append-nil (bytes_of a x (in_round m.round ms)))))

  -- the row of the new step's own round gains its byte at the end, if no later job has a step in it
  pub row_gains : (h : Marks) (start x : ℕ) (m : Mark) → x < length h
      → ((y : ℕ) → x < y → in_round m.round (get_or h y []) ≡ [])
      → row_from a m.round start (marked h x m) ≡ row_from a m.round start h
      ++ ((16 * base a (job (start + x)) + m.value) ∷ [])
  unfolding row_from marked
  row_gains [] start x m lt none = absurd (omega arith)
  row_gains (ms ∷ h) start zero m lt none =
      let place : start ≡ start + 0 = omega arith in
      first_gains start ms h m (row_nothing m.round (suc start) h (λ y. none (suc y) (omega arith)))
      ∙ ap (λ (k : ℕ). row_from a m.round start (ms ∷ h) ++ ((order_byte (base a (job k)) m.value) ∷ [])) place
  row_gains (ms ∷ h) start (suc x) m lt none =
      let own : List ℕ = bytes_of a start (in_round m.round ms) in
      let others : List ℕ = row_from a m.round (suc start) h in
      let place : suc start + x ≡ start + suc x = omega arith in
      ap (λ (l : List ℕ). own ++ l) (row_gains h (suc start) x m (omega arith) (λ y above. none (suc y) (omega arith)))
      ∙ sym (append_assoc own others ((16 * base a (job (suc start + x)) + m.value) ∷ []))
      ∙ ap (λ (k : ℕ). own ++ others ++ ((order_byte (base a (job k)) m.value) ∷ [])) place

  -- ---- the rounds, one after the other

  -- where no job has a step there is no byte
  row_none : (r x k : ℕ) → row_from a r x (replicate k []) ≡ []
  unfolding row_from bytes_of in_round only
  row_none r x zero = refl
  row_none r x (suc k) = row_none r (suc x) k

  -- one round more
  pub rows_snoc : (n : ℕ) (h : Marks) → rows a (suc n) h ≡ rows a n h ++ row_from a n 0 h
  unfolding rows
  rows_snoc n h = each_snoc n (λ r. row_from a r 0 h)

  pub rows_none : (n k : ℕ) → rows a n (replicate k []) ≡ []
  unfolding rows up_to from each
  rows_none zero k = refl
  rows_none (suc n) k =
      rows_snoc n (replicate k [])
      ∙ ap (λ (l : List ℕ). l ++ row_from a n 0 (replicate k [])) (rows_none n k)
      ∙ row_none n 0 k

  -- rounds without steps behind the others add nothing
  pub rows_longer : (n m : ℕ) (h : Marks) → ((y q : ℕ) → n ≤ q → in_round q (get_or h y []) ≡ []) → n ≤ m
      → rows a m h ≡ rows a n h
  rows_longer n m h none le = go m le
    where
      go : (k : ℕ) → n ≤ k → rows a k h ≡ rows a n h
      go zero le = ap (λ (i : ℕ). rows a i h) (omega arith)
      go (suc k) le =
          elim (dec_le n k) [
            | yes below ↦
                rows_snoc k h
                ∙ ap (λ (l : List ℕ). rows a k h ++ l) (row_nothing k 0 h (λ y. none y k below))
                ∙ append-nil (rows a k h)
                ∙ go k below
            | no above ↦ ap (λ (i : ℕ). rows a i h) (omega arith)
          ]

  -- the rounds before the new step's are as before
  pub rows_keep : (n : ℕ) (h : Marks) (x : ℕ) (m : Mark) → n ≤ m.round → rows a n (marked h x m) ≡ rows a n h
  unfolding rows
  rows_keep n h x m le =
      each_same n (λ r. row_from a r 0 (marked h x m)) (λ r. row_from a r 0 h) (λ q lt. row_keeps q h x m (λ e. omega arith))

  -- The appending lemma: a step more of job x in the last round that has steps, with no step of a later job in it, is
  -- one byte more at the end.
  pub rows_marked : (n : ℕ) (h : Marks) (x r v : ℕ) → x < length h → r < n
      → ((y : ℕ) → x < y → in_round r (get_or h y []) ≡ []) → ((y q : ℕ) → r < q → in_round q (get_or h y []) ≡ [])
      → rows a n (marked h x (record { round = r; value = v })) ≡ rows a n h ++ ((order_byte (base a (job x)) v) ∷ [])
  rows_marked n h x r v inside below later above =
      let m : Mark = record { round = r; value = v } in
      let byte : List ℕ = (order_byte (base a (job x)) v) ∷ [] in
      let place : 0 + x ≡ x = omega arith in
      let row : row_from a r 0 (marked h x m) ≡ row_from a r 0 h ++ byte = rw place at (row_gains h 0 x m inside later) in
      rows_longer (suc r) n (marked h x m) (λ y q lt. marked_keeps q h x y m (λ e. omega arith) ∙ above y q lt) below
      ∙ rows_snoc r (marked h x m)
      ∙ ap (λ (l : List ℕ). l ++ row_from a r 0 (marked h x m)) (rows_keep r h x m (omega arith))
      ∙ ap (λ (l : List ℕ). rows a r h ++ l) row
      ∙ sym (append_assoc (rows a r h) (row_from a r 0 h) byte)
      ∙ ap (λ (l : List ℕ). l ++ byte) (sym (rows_snoc r h) ∙ sym (rows_longer (suc r) n h above below))

-- ---- a plan's run as a history

module _ (a : Accepted) where
  -- a row, job by job
  row_each : (r start : ℕ) (h : Marks) (f : ℕ → List ℕ)
      → ((y : ℕ) → f (start + y) ≡ bytes_of a (start + y) (in_round r (get_or h y [])))
      → each (from start (length h)) f ≡ row_from a r start h
  unfolding row_from from each
  row_each r start [] f same = refl
  row_each r start (ms ∷ h) f same =
      let first : f start ≡ bytes_of a start (in_round r ms) = rw place at (same 0) in
      ap (λ (l : List ℕ). l ++ each (from (suc start) (length h)) f) first
      ∙ ap (λ (l : List ℕ). bytes_of a start (in_round r ms) ++ l) (row_each r (suc start) h f (λ y. rw (next y) at (same (suc y))))
    where
      place : start + 0 ≡ start
      place = omega arith

      next : (y : ℕ) → start + suc y ≡ suc start + y
      next y = omega arith

  -- one step before others, in the round or not
  step_byte : (x : ℕ) (b : Bool) (step : Step) (steps : List Step) (ms : List Mark)
      → map (λ step. order_byte (base a (job x)) step.value) steps ≡ bytes_of a x ms
      → map (λ step. order_byte (base a (job x)) step.value) (if b then step ∷ steps else steps) ≡ bytes_of a x
      (if b then mark_of step ∷ ms else ms)
  unfolding bytes_of mark_of
  step_byte x true step steps ms e = ap (λ (l : List ℕ). (order_byte (base a (job x)) step.value) ∷ l) e
  step_byte x false step steps ms e = e

  -- a job's bytes in a round are the same by its steps and by their marks
  step_bytes_lem : (x r : ℕ) (steps : List Step)
      → map (λ step. order_byte (base a (job x)) step.value) (only (λ step. eqb step.round.0 r) steps) ≡ bytes_of a x
      (in_round r (map mark_of steps))
  unfolding bytes_of in_round only mark_of
  step_bytes_lem x r [] = refl
  step_bytes_lem x r (step ∷ steps) = step_byte x (eqb step.round.0 r) step _ _ (step_bytes_lem x r steps)

  job_bytes_lem : (runs : JobRuns) (r x : ℕ)
      → step_bytes_in a runs r (job x) ≡ bytes_of a x (in_round r (get_or (marks_of runs) x []))
  unfolding step_bytes_in steps_of marks_of job
  job_bytes_lem runs r x =
      step_bytes_lem x r (get_or runs.steps x [])
      ∙ ap (λ (ms : List Mark). bytes_of a x (in_round r ms)) (sym (get_or-map (map mark_of) runs.steps x []))

  -- a round of the run's order is a row
  run_row : (runs : JobRuns) → length runs.steps ≡ job_total a → (r : ℕ)
      → each (job_numbers a) (step_bytes_in a runs r) ≡ row_from a r 0 (marks_of runs)
  unfolding job_numbers job_total up_to job marks_of
  run_row runs whole r =
      let bytes : ℕ → List ℕ = λ x. step_bytes_in a runs r (job x) in
      each_map job (from 0 (length a.jobs)) (step_bytes_in a runs r)
      ∙ ap (λ (n : ℕ). each (from 0 n) bytes) (sym whole ∙ sym (length-map runs.steps (map mark_of)))
      ∙ row_each r 0 (marks_of runs) bytes (λ y. rw (place y) (job_bytes_lem runs r y))
    where
      place : (y : ℕ) → 0 + y ≡ y
      place y = omega arith

  -- the order of a run is its history read by rows
  pub rows_order : (runs : JobRuns) → length runs.steps ≡ job_total a
      → order_of a runs ≡ rows a (job_total a) (marks_of runs)
  unfolding order_of rows
  rows_order runs whole =
      each_same (job_total a) (λ r. each (job_numbers a) (step_bytes_in a runs r)) (λ r. row_from a r 0 (marks_of runs)) (λ r lt. run_row runs whole r)
