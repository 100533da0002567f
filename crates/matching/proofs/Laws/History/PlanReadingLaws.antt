-- A plan's run is its history read by columns: the plan written from guesses and a history of whole jobs runs, and
-- leaves the steps, stores and failed jobs of that history. `JobReadingLaws` says so of each job.
-- Assumes nothing.
use Rattle.std.specs.Prelude.{◌≡◌, refl, get_or}
use Rattle.std.proofs.Math.Path.{sym, ap, subst}
use Rattle.std.proofs.Common.{◌∙◌, take_at, drop-drop, ext_get_or, lt-ltb, le-leb, eq-eqb}
use Prim.Native.Nat.{ℕ, zero, suc, ◌+◌, ◌*◌, ◌<◌}
use native.Mathlib.Omega.{arith}
use mathlib.Core.List.{List, [], ◌∷◌, ◌++◌, map, map-append, append_assoc, append-nil}
use Rattle.std.proofs.Math.ListN.{length, take, drop, length-append}
use Rattle.std.proofs.Math.Seq.{drop_at, drop-append_seam, drop-append-add}
use Rattle.notation.specs.Checked.{Checked, passed, ◌>>=◌}
use Rattle.notation.specs.Laws.CheckedLaws.{require_holds, bind_goes}
use Rattle.notation.specs.Lists.{from, up_to, each}
use Rattle.notation.specs.Laws.TestLaws.{and_holds}
use Rattle.timing.specs.declared.Job.{Job}
use Rattle.timing.specs.Accepted.{Accepted}
use Rattle.timing.specs.Code.IsAccepted.{IsAccepted}
use Rattle.timing.specs.Relations.{job_numbers}
use Rattle.machine.specs.Ends.{Flags, no_flags}
use Rattle.machine.specs.Instructions.{Store, fresh}
use Rattle.plan.specs.Runs as runs
use Rattle.plan.specs.Runs.{Plan, Step, JobRun, JobRuns, job_total, first_round, guess, run_job, run_jobs, run_start, run_plan}
use Rattle.matching.proofs.Laws.History.Histories.{Mark, Marks, ColumnRun, job, round, unbegun, effect_of, stepped, mark_step, run_marks, columns_from}
use Rattle.matching.proofs.Laws.History.JobReadingLaws.{column_runs, whole_short}
use Rattle.matching.proofs.Laws.History.PlanReading.{marks_bytes, written, mark_of, step_of, Whole, AllWhole}
use Rattle.matching.proofs.Laws.History.PlanReading.{standing, flags_from, columns_run, Eights, guessed, guesses_of}
use Rattle.matching.proofs.Laws.History.PlanReading.{marks_of}
use Rattle.matching.proofs.Laws.History.RoundLaws.{guesses_total, guess_of}

-- ---- all jobs

-- one job's run and that of those after it
jobs_go : (a : Accepted) (plan : Plan) (x : Job) (xs : List Job) (running : runs.RunState) {one : JobRun}
    {others : JobRuns} → run_job a plan x 16 fresh first_round running ≡ passed one
    → run_jobs a plan xs one.running ≡ passed others
    → run_jobs a plan (x ∷ xs) running ≡ passed
    (record { steps = one.steps ∷ others.steps; running = others.running })
unfolding run_jobs ◌>>=◌
jobs_go a plan x xs running first later = rw (first, later) refl

-- equal offsets make equal runs
moved : (steps : List (List Step)) (stores : List Store) (flags : Flags) {o p : ℕ} → o ≡ p
    → ◌≡◌ {A = Checked ℕ JobRuns}
    (passed (record { steps = steps; running = record { offset = o; stores = stores; failed = flags } }))
    (passed (record { steps = steps; running = record { offset = p; stores = stores; failed = flags } }))
moved steps stores flags e = λ i. passed (record { steps = steps; running = record { offset = e i; stores = stores; failed = flags } })

-- what stands in the plan after some bytes that stand there
bytes_after : (plan : Plan) (o : ℕ) (bytes rest : List ℕ) → drop o plan ≡ bytes ++ rest
    → drop (o + length bytes) plan ≡ rest
bytes_after plan o bytes rest e = sym (drop-drop (length bytes) o plan) ∙ ap (drop (length bytes)) e ∙ drop-append_seam bytes rest

module _ (a : Accepted) where
  -- the history's jobs are whole, each at its place, and the other way round
  pub whole_at : (h : Marks) (x : ℕ) (stores : List Store) → AllWhole a x h stores → (k : ℕ) → k < length h
      → Whole a (x + k) 0 (get_or h k [])
      (record { column = unbegun; stores = (columns_from a x (take k h) stores).stores })
  unfolding columns_from
  whole_at [] x stores whole k lt = absurd (omega arith)
  whole_at (ms ∷ h) x stores whole zero lt =
      let here : x ≡ x + 0 = omega arith in
      subst (λ (n : ℕ). Whole a n 0 ms (record { column = unbegun; stores = stores })) here whole.0
  whole_at (ms ∷ h) x stores whole (suc k) lt =
      let on : suc x + k ≡ x + suc k = omega arith in
      subst (λ (n : ℕ). Whole a n 0 (get_or h k []) (record { column = unbegun; stores = (columns_from a x (ms ∷ take k h) stores).stores })) on
      (whole_at h (suc x) _ whole.1 k (omega arith))

  pub at_whole : (h : Marks) (x : ℕ) (stores : List Store)
      → ((k : ℕ) → k < length h → Whole a (x + k) 0 (get_or h k [])
      (record { column = unbegun; stores = (columns_from a x (take k h) stores).stores })) → AllWhole a x h stores
  unfolding columns_from
  at_whole [] x stores every = tt
  at_whole (ms ∷ h) x stores every =
      let here : x + 0 ≡ x = omega arith in
      let on : (k : ℕ) → x + suc k ≡ suc x + k = λ k. omega arith in (
        subst (λ (n : ℕ). Whole a n 0 ms (record { column = unbegun; stores = stores })) here (every 0 (omega arith)),
        at_whole h (suc x) _
            (λ k lt. subst
            (λ (n : ℕ). Whole a n 0 (get_or h k []) (record { column = unbegun; stores = (columns_from a x (ms ∷ take k h) stores).stores }))
            (on k) (every (suc k) (omega arith))),
      )

module _ {a : Accepted} (ok : IsAccepted a) (plan : Plan) where
  -- the jobs from number x on, whose marks stand in the plan and are whole, run over them
  pub jobs_run : (h : Marks) (x : ℕ) (running : runs.RunState) (rest : List ℕ) → x + length h ≡ job_total a
      → AllWhole a x h running.stores → drop running.offset plan ≡ each h marks_bytes ++ rest
      → run_jobs a plan (map job (from x (length h))) running ≡ passed (columns_run a x h running)
  unfolding run_jobs columns_run columns_from flags_from each from
  jobs_run [] x running rest total whole bytes = moved [] running.stores running.failed (omega arith)
  jobs_run (ms ∷ h) x running rest total whole bytes =
      let o : ℕ = running.offset in
      let here : drop o plan ≡ marks_bytes ms ++ (each h marks_bytes ++ rest) = bytes ∙ append_assoc (marks_bytes ms) (each h marks_bytes) rest in
      let short = whole_short ok x (omega arith) ms running.stores whole.0 in
      let first = column_runs a plan x running.stores ms 16 o running.failed (each h marks_bytes ++ rest) whole.0 here short in
      let later = jobs_run h (suc x) _ rest (omega arith) whole.1 (bytes_after plan o (marks_bytes ms) _ here) in
      jobs_go a plan (job x) (map job (from (suc x) (length h))) running first later
      ∙ moved _ _ _ (omega (arith, length-append (marks_bytes ms) (each h marks_bytes)))

-- ---- the guesses

guesses_length : (guesses : List Store) → Eights guesses → length (each guesses (λ store. store)) ≡ 8 * length guesses
unfolding each
guesses_length [] eights = omega arith
guesses_length (s ∷ guesses) eights =
    omega (arith, length-append s (each guesses (λ store. store)), eights 0 (omega arith), guesses_length guesses (λ k lt. eights (suc k) (omega arith)))

-- guess r stands 8 × r bytes after the first
guess_at : (guesses : List Store) (rest : List ℕ) → Eights guesses → (r : ℕ) → r < length guesses
    → take 8 (drop (8 * r) (each guesses (λ store. store) ++ rest)) ≡ get_or guesses r []
unfolding each
guess_at [] rest eights r lt = absurd (omega arith)
guess_at (s ∷ guesses) rest eights zero lt =
    let all = each guesses (λ store. store) in
    let none : 8 * 0 ≡ 0 = omega arith in
    ap (λ (k : ℕ). take 8 (drop k (s ++ all ++ rest))) none ∙ ap (take 8) (append_assoc s all rest)
    ∙ take_at s (all ++ rest) 8 (eights 0 (omega arith))
guess_at (s ∷ guesses) rest eights (suc r) lt =
    let all = each guesses (λ store. store) in
    let on : 8 * suc r ≡ length s + 8 * r = omega (arith, eights 0 (omega arith)) in
    ap (λ (k : ℕ). take 8 (drop k (s ++ all ++ rest))) on
    ∙ ap (λ (l : List ℕ). take 8 (drop (length s + 8 * r) l)) (append_assoc s all rest)
    ∙ ap (take 8) (drop-append-add s (all ++ rest) (8 * r))
    ∙ guess_at guesses rest (λ k lt. eights (suc k) (omega arith)) r (omega arith)

module _ (a : Accepted) (guesses : List Store) (h : Marks) (total : length guesses ≡ job_total a) (eights : Eights guesses) where
  guess_back : (r : ℕ) → r < length guesses → guess (written a guesses h) (round r) ≡ get_or guesses r []
  unfolding guess written
  guess_back r lt =
      let on : 1 + 8 * r ≡ suc (8 * r) = omega arith in
      ap (λ (k : ℕ). take 8 (drop k (written a guesses h))) on ∙ guess_at guesses (each h marks_bytes) eights r lt

  -- the guesses of the written plan are those it was written with
  pub guesses_back : guesses_of a (written a guesses h) ≡ guesses
  guesses_back =
      let long = guesses_total a (written a guesses h) in
      ext_get_or [] _ guesses (long ∙ sym total)
      (λ i lt. guess_of a (written a guesses h) i [] (omega (arith, long)) ∙ guess_back i (omega (arith, long)))

  written_starts : run_start a (written a guesses h) ≡ guessed a guesses
  unfolding run_start guessed guesses_of
  written_starts = λ i. record { offset = 1 + 8 * job_total a; stores = guesses_back i; failed = no_flags }

  -- the history stands after the guesses
  written_after : drop (1 + 8 * job_total a) (written a guesses h) ≡ each h marks_bytes
  unfolding written
  written_after =
      let on : 1 + 8 * job_total a ≡ suc (8 * length guesses) = omega arith in
      ap (λ (k : ℕ). drop k (written a guesses h)) on
      ∙ drop_at (each guesses (λ store. store)) (each h marks_bytes) (8 * length guesses) (guesses_length guesses eights)

  written_length : length (written a guesses h) ≡ 1 + 8 * job_total a + length (each h marks_bytes)
  unfolding written
  written_length =
      omega (arith, total, guesses_length guesses eights, length-append (each guesses (λ store. store)) (each h marks_bytes))

-- ---- a plan

-- the jobs by number
pub numbers_from : (a : Accepted) (n : ℕ) → n ≡ job_total a → job_numbers a ≡ map job (from 0 n)
unfolding job_numbers job_total up_to job
numbers_from a n e = ap (λ (k : ℕ). map job (from 0 k)) (sym e)

module _ {a : Accepted} (ok : IsAccepted a) (guesses : List Store) (h : Marks) where
  -- the plan of a history of whole jobs runs, and its run is the history read by columns
  pub plan_runs : length guesses ≡ job_total a → Eights guesses → length h ≡ job_total a → AllWhole a 0 h guesses
      → run_plan a (written a guesses h) ≡ passed (columns_run a 0 h (guessed a guesses))
  unfolding run_plan guessed columns_run written
  plan_runs total eights full whole =
      let plan : Plan = written a guesses h in
      let long = written_length a guesses h total eights in
      let starts = written_starts a guesses h total eights in
      let after = written_after a guesses h total eights ∙ sym (append-nil (each h marks_bytes)) in
      require_holds _ 40 0 _ (and_holds _ _ (lt-ltb 0 (length plan) (omega arith)) (eq-eqb (get_or plan 0 0) (job_total a) refl))
      ∙ require_holds _ 40 (length plan) _ (le-leb _ (length plan) (omega arith))
      ∙ bind_goes _
      (ap (run_jobs a plan (job_numbers a)) starts
      ∙ ap (λ (xs : List Job). run_jobs a plan xs (guessed a guesses)) (numbers_from a (length h) full)
      ∙ jobs_run ok plan h 0 (guessed a guesses) [] (omega arith) whole after)
      ∙ require_holds _ 40 _ _ (eq-eqb _ _ (sym long))

-- ---- the marks of a history's steps are the history

steps_marks : (a : Accepted) (x : ℕ) (ms : List Mark) (c : ColumnRun)
    → map mark_of (run_marks a x ms c).column.steps ≡ map mark_of c.column.steps ++ ms
unfolding run_marks mark_step stepped step_of mark_of
steps_marks a x [] c = sym (append-nil _)
steps_marks a x (m ∷ ms) c =
    steps_marks a x ms (mark_step a x m c)
    ∙ ap (λ (l : List Mark). l ++ ms) (map-append mark_of c.column.steps (step_of a x m (effect_of a x m c) ∷ []))
    ∙ append_assoc (map mark_of c.column.steps) (m ∷ []) ms

-- so a history is found again in the run of the plan written from it
pub marks_back : (a : Accepted) (h : Marks) (x : ℕ) (running : runs.RunState) → marks_of (columns_run a x h running) ≡ h
unfolding marks_of columns_run columns_from unbegun
marks_back a [] x running = refl
marks_back a (ms ∷ h) x running =
    let c : ColumnRun = record { column = unbegun; stores = running.stores } in
    λ i. steps_marks a x ms c i ∷ marks_back a h (suc x) (standing 0 [] (run_marks a x ms c)) i
