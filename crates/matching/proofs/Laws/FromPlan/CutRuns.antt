-- The jobs of a cut history of whole runs: which of them have ended, that the next step is one that its job may make,
-- and which steps are made.
-- Assumes nothing.
use Rattle.std.specs.Prelude.{◌≡◌, ℕ, ◌+◌, ◌<◌, true, false, get_or}
use Rattle.std.proofs.Math.Path.{refl, sym, ap}
use Rattle.std.proofs.Common.{subst, ◌∙◌, take_at}
use Rattle.std.proofs.Math.Logic.{inl, inr}
use native.Mathlib.Omega.{arith}
use mathlib.Core.List.{List, [], ◌∷◌, ◌++◌, append_assoc, append-nil}
use Rattle.std.proofs.Math.ListN.{length, take, length-append}
use Rattle.taskfile.specs.Judgement.{instruction_of}
use Rattle.notation.specs.Lists.{member, last_or}
use Rattle.timing.specs.Accepted.{Accepted}
use Rattle.timing.specs.Relations.{job_at}
use Rattle.machine.specs.Instructions.{Store, values}
use Rattle.plan.specs.Runs.{Step}
use Rattle.matching.proofs.Laws.FromPlan.CutColumns.{run_append, made_same}
use Rattle.notation.specs.Laws.ElementLaws.{cons_some, nothing_left}
use Rattle.matching.proofs.Laws.History.PartLaws.{column_at}
use Rattle.matching.proofs.Laws.History.Parts.{stores_before, beginning, last_round}
use Rattle.matching.proofs.Laws.FromPlan.Cuts.{Cut}
use Rattle.matching.proofs.Laws.History.Histories.{Mark, Marks, job, JobColumn, unbegun, ColumnRun, effect_of, stepped, mark_step, run_marks, columns}
use Rattle.matching.proofs.Laws.History.PlanReading.{step_of, Allowed, Whole, AllWhole}
use Rattle.matching.proofs.Laws.History.PlanReadingLaws as reading

-- ---- a whole run and its beginnings

module _ (a : Accepted) (x : ℕ) where
  -- a whole run ends
  pub whole_ends : (ms : List Mark) (previous : ℕ) (c : ColumnRun) → Whole a x previous ms c
      → (run_marks a x ms c).column.ended ≡ true
  unfolding run_marks
  whole_ends [] previous c whole = absurd whole
  whole_ends (m ∷ ms) previous c whole = elim whole.1 [
    | inl last ↦ ap (λ (l : List Mark). (run_marks a x l (mark_step a x m c)).column.ended) last.1 ∙ last.0
    | inr on ↦ whole_ends ms m.round (mark_step a x m c) on.1
  ]

  -- no proper beginning of it does
  whole_open : (ms : List Mark) (m : Mark) (more : List Mark) (previous : ℕ) (c : ColumnRun)
      → Whole a x previous (ms ++ m ∷ more) c → c.column.ended ≡ false → (run_marks a x ms c).column.ended ≡ false
  unfolding run_marks
  whole_open [] m more previous c whole going = going
  whole_open (n ∷ ms) m more previous c whole going = elim whole.1 [
    | inl last ↦ absurd (cons_some refl (nothing_left ms (m ∷ more) last.1).1)
    | inr on ↦ whole_open ms m more n.round (mark_step a x n c) on.1 on.0
  ]

  -- and the step after it is allowed
  whole_next : (ms : List Mark) (m : Mark) (more : List Mark) (previous : ℕ) (c : ColumnRun)
      → Whole a x previous (ms ++ m ∷ more) c → Allowed a x (last_round previous ms) m (run_marks a x ms c)
  unfolding run_marks last_round last_or
  whole_next [] m more previous c whole = whole.0
  whole_next (n ∷ ms) m more previous c whole = elim whole.1 [
    | inl last ↦ absurd (cons_some refl (nothing_left ms (m ∷ more) last.1).1)
    | inr on ↦ whole_next ms m more n.round (mark_step a x n c) on.1
  ]

  -- a beginning with something left of the whole
  whole_partly : (ms rest : List Mark) (previous : ℕ) (c : ColumnRun) → Whole a x previous (ms ++ rest) c
      → c.column.ended ≡ false → (rest ≡ [] → ⊥) → (run_marks a x ms c).column.ended ≡ false
  whole_partly ms [] previous c whole going left = absurd (left refl)
  whole_partly ms (m ∷ more) previous c whole going left = whole_open ms m more previous c whole going

  -- ---- the steps that marks make

  -- one for each, after those so far
  run_makes : (ms : List Mark) (c : ColumnRun)
      → length (run_marks a x ms c).column.steps ≡ length c.column.steps + length ms
  unfolding run_marks mark_step stepped step_of
  run_makes [] c = omega arith
  run_makes (m ∷ ms) c =
      let later : length (run_marks a x (m ∷ ms) c).column.steps ≡ length (mark_step a x m c).column.steps + length ms =
      run_makes ms (mark_step a x m c) in
      let one : length (mark_step a x m c).column.steps ≡ length c.column.steps + 1 =
      length-append c.column.steps (step_of a x m (effect_of a x m c) ∷ []) in
      omega arith

  run_keeps : (ms : List Mark) (c : ColumnRun)
      → (more : List Step) × ((run_marks a x ms c).column.steps ≡ c.column.steps ++ more)
  unfolding run_marks mark_step stepped step_of
  run_keeps [] c = ([], sym (append-nil c.column.steps))
  run_keeps (m ∷ ms) c =
      let one : Step = step_of a x m (effect_of a x m c) in
      let later = run_keeps ms (mark_step a x m c) in
      (one ∷ later.0, later.1 ∙ append_assoc c.column.steps (one ∷ []) later.0)

  -- the first of all steps are those of the marks made
  run_takes : (ms ns : List Mark) (c : ColumnRun) → c.column.steps ≡ []
      → (run_marks a x ms c).column.steps ≡ take (length ms) (run_marks a x (ms ++ ns) c).column.steps
  run_takes ms ns c none =
      let made = (run_marks a x ms c).column.steps in
      let more = run_keeps ns (run_marks a x ms c) in
      let long : length made ≡ length ms = run_makes ms c ∙ ap (λ (l : List Step). length l + length ms) none ∙ omega arith in
      sym (take_at made more.0 (length ms) long)
      ∙ ap (take (length ms)) (sym (ap (λ (r : ColumnRun). r.column.steps) (run_append a x ms ns c) ∙ more.1))

-- ---- each job of a history of whole runs

module _ (a : Accepted) where
  pub cut_whole : (h : Marks) (S : List Store) (y : ℕ) → y < length h → AllWhole a 0 h S
      → Whole a y 0 (get_or h y []) (beginning a h S y)
  unfolding stores_before
  cut_whole h S y inside whole = let place : 0 + y ≡ y = omega arith in rw place at (reading.whole_at a h 0 S whole y inside)

  -- ---- a cut history

  module _ {h now : Marks} {x : ℕ} {m : Mark} (S : List Store) (whole : AllWhole a 0 h S) (cut : Cut h now x m) where
    -- the steps made and those left of a job
    whole_parts : (y : ℕ) → y < length h → Whole a y 0 (get_or now y [] ++ cut.rest y) (beginning a h S y)
    whole_parts y inside = subst (λ (ms : List Mark). Whole a y 0 ms (beginning a h S y)) (cut.whole y) (cut_whole h S y inside whole)

    -- a job with no step left has ended
    pub cut_ended : (y : ℕ) → y < length h → cut.rest y ≡ [] → (get_or (columns a now S).jobs y unbegun).ended ≡ true
    cut_ended y inside none =
        let all : get_or now y [] ++ cut.rest y ≡ get_or now y [] = ap (λ (l : List Mark). get_or now y [] ++ l) none ∙ append-nil (get_or now y []) in
        ap (λ (c : JobColumn). c.ended) (made_same a S cut y inside)
        ∙ whole_ends a y (get_or now y []) 0 (beginning a h S y)
        (subst (λ (ms : List Mark). Whole a y 0 ms (beginning a h S y)) all (whole_parts y inside))

    -- one with a step left has not
    pub cut_open : (y : ℕ) → y < length h → (cut.rest y ≡ [] → ⊥)
        → (get_or (columns a now S).jobs y unbegun).ended ≡ false
    unfolding unbegun
    cut_open y inside left =
        ap (λ (c : JobColumn). c.ended) (made_same a S cut y inside)
        ∙ whole_partly a y (get_or now y []) (cut.rest y) 0 (beginning a h S y) (whole_parts y inside) refl left

    -- the job of the next step has one left
    pub next_open : (get_or (columns a now S).jobs x unbegun).ended ≡ false
    next_open = cut_open x cut.known (cons_some cut.next)

    -- its job may make the next step
    pub next_allowed : (c : ColumnRun) → c.column ≡ get_or (columns a now S).jobs x unbegun
        → Allowed a x (last_round 0 (get_or now x [])) m c
    next_allowed c same =
        let here = subst (λ (ms : List Mark). Whole a x 0 (get_or now x [] ++ ms) (beginning a h S x)) cut.next (whole_parts x cut.known) in
        let allowed = whole_next a x (get_or now x []) m cut.more 0 (beginning a h S x) here in
        let column : (run_marks a x (get_or now x []) (beginning a h S x)).column ≡ c.column = sym (made_same a S cut x cut.known) ∙ sym same in
        record {
          in_plan = allowed.in_plan;
          in_order = allowed.in_order;
          on_offer =
              ap (λ (d : JobColumn). member m.value (values (instruction_of a.table (job_at a (job x)).task d.local.next))) (sym column)
              ∙ allowed.on_offer;
        }

    -- so its value is on offer
    pub cut_offered : member m.value (values
        (instruction_of a.table (job_at a (job x)).task (get_or (columns a now S).jobs x unbegun).local.next))
        ≡ true
    cut_offered = (next_allowed (record { column = get_or (columns a now S).jobs x unbegun; stores = [] }) refl).on_offer

    -- a job's steps so far are the first of its steps in the whole history
    pub steps_taken : (y : ℕ) → y < length h
        → (get_or (columns a now S).jobs y unbegun).steps ≡ take (length (get_or now y []))
        (get_or (columns a h S).jobs y unbegun).steps
    unfolding unbegun
    steps_taken y inside =
        let n = length (get_or now y []) in
        ap (λ (c : JobColumn). c.steps) (made_same a S cut y inside)
        ∙ run_takes a y (get_or now y []) (cut.rest y) (beginning a h S y) refl
        ∙ ap (λ (ms : List Mark). take n (run_marks a y ms (beginning a h S y)).column.steps) (sym (cut.whole y))
        ∙ ap (λ (c : JobColumn). take n c.steps) (sym (column_at a h y S inside))
