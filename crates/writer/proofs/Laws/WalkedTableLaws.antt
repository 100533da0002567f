-- A layout whose walk refuses what the table's fields are refused for, and else yields the laid chains, is accepted or
-- refused as its table is.
-- Assumes nothing.
use Rattle.std.specs.Prelude.{◌≡◌, refl, ℕ, Bool, true, false, leb}
use Rattle.std.proofs.Math.Path.{sym, ap}
use Rattle.std.proofs.Common.{subst, ◌∙◌, inl, inr, arith}
use Rattle.notation.specs.Checked.{Checked, refused, passed, require, placed_by, ◌>>◌}
use Rattle.notation.specs.Laws.CheckedLaws.{bind_goes, then_refused, then_goes, bind_refuses, then_refuses}
use Rattle.taskfile.specs.declared.Site.{Site}
use Rattle.taskfile.specs.declared.Site.TheVariants.{AtHeader}
use Rattle.taskfile.specs.declared.Table.{Table}
use Rattle.taskfile.specs.Chains.{chains_of}
use Rattle.taskfile.specs.File.{sized, record_at}
use Rattle.taskfile.specs.Judgement.{judged, task_numbers}
use Rattle.taskfile.proofs.Laws.ChainLaws.{InTable}
use Rattle.taskfile.proofs.Laws.LoadLaws.{task_in, fault_in_table, load_unchained, load_faulty, load_sound}
use Rattle.timing.specs.Accepted.{most_jobs, responses_of, timed, accept}
use Rattle.timing.specs.Jobs.{job_count}
use Rattle.timing.proofs.Laws.AcceptLaws.{accept_refused, responses_refused}
use Rattle.writer.specs.Sites.{index_of}
use Rattle.writer.specs.Covered.{covered}
use Rattle.writer.specs.Values.{Fits}
use Rattle.writer.specs.Fields.{fields, judged_whole, accept_table}
use Rattle.writer.specs.Layout.{layout}
use Rattle.writer.proofs.Laws.Laid.{laid_chains}
use Rattle.writer.proofs.Laws.LaidSiteLaws.{record_laid}
use Rattle.writer.proofs.Laws.LaidTableLaws.{table_laid}

-- ---- 10 and 11 stand at a site of the table

require_refused : {P : Type 0} (test : Bool) (number : ℕ) (place : P) {n : ℕ} {p : P}
    → require test number place ≡ refused n p → p ≡ place
unfolding require
require_refused true number place e = absurd (let z : ◌≡◌ {A = ℕ} 0 1 = cc in omega arith)
require_refused false number place e = cc

pub late_in_table : (t : Table) {n : ℕ} {s : Site} → timed t ≡ refused n s → InTable t s
unfolding timed
late_in_table t {n} {s} e =
    elim (bind_refuses (responses_of t (task_numbers t)) _ e) [
      | inl here ↦
          let task = responses_refused t (task_numbers t) here in
          subst (InTable t) (sym task.2) (task_in t task.0 task.1)
      | inr goes ↦
          elim (then_refuses (require (leb (job_count t) most_jobs) 11 AtHeader) _ goes.1) [
            | inl many ↦ subst (InTable t) (sym (require_refused (leb (job_count t) most_jobs) 11 AtHeader many)) tt
            | inr never ↦ absurd (let z : ◌≡◌ {A = ℕ} 0 1 = cc in omega arith)
          ]
    ]

-- ---- both sides, by the check that decides

-- places that agree where a check is refused
places_agree : {A : Type 0} (g h : Site → ℕ) (c : Checked Site A)
    → ((n : ℕ) (s : Site) → c ≡ refused n s → g s ≡ h s) → placed_by g c ≡ placed_by h c
unfolding placed_by
places_agree g h (refused n s) same = ap (refused n) (same n s refl)
places_agree g h (passed x) same = refl

module _ (t : Table) (fit : Fits t) (right : sized (layout t) ≡ true)
    (walked : chains_of (layout t) ≡ ◌>>◌ (placed_by (index_of t) (fields t)) (passed (laid_chains t))) where
  -- the table's fields are refused
  fields_refused : {n : ℕ} {s : Site} → fields t ≡ refused n s → accept (layout t) ≡ accept_table t
  unfolding accept_table judged_whole placed_by
  fields_refused {n} {s} e =
      accept_refused (layout t)
      (load_unchained (layout t) right (walked ∙ then_refused _ (ap (placed_by (index_of t)) e)))
      ∙ sym (ap (placed_by (index_of t)) (then_refused _ e))

  module _ {u : Unit {0}} (sound : fields t ≡ passed u) where
    chained : chains_of (layout t) ≡ passed (laid_chains t)
    unfolding placed_by
    chained = walked ∙ then_goes _ (ap (placed_by (index_of t)) sound)

    -- 7 to 9 refuse the table
    table_refused : {n : ℕ} {s : Site} → judged (covered t) ≡ refused n s → accept (layout t) ≡ accept_table t
    unfolding accept_table judged_whole placed_by
    table_refused {n} {s} e =
        accept_refused (layout t) (load_faulty (layout t) right chained (ap judged (table_laid t fit sound) ∙ e))
        ∙ ap (refused n) (record_laid t fit sound s (fault_in_table (covered t) e))
        ∙ sym (ap (placed_by (index_of t)) (then_goes _ sound ∙ then_refused _ e))

    -- 10 and 11 are left to decide
    table_sound : {v : Unit {0}} → judged (covered t) ≡ passed v → accept (layout t) ≡ accept_table t
    unfolding accept accept_table judged_whole
    table_sound {v} e =
        bind_goes _ (load_sound (layout t) right chained (ap judged (table_laid t fit sound) ∙ e))
        ∙ ap (λ (x : Table). placed_by (record_at (laid_chains t)) (timed x)) (table_laid t fit sound)
        ∙ places_agree (record_at (laid_chains t)) (index_of t) (timed (covered t))
        (λ n s late. record_laid t fit sound s (late_in_table (covered t) late))
        ∙ sym (ap (placed_by (index_of t)) (then_goes _ sound ∙ then_goes _ e))

    judged_either : (c : Checked Site (Unit {0})) → judged (covered t) ≡ c → accept (layout t) ≡ accept_table t
    judged_either (refused n s) e = table_refused e
    judged_either (passed v) e = table_sound e

  fields_either : (c : Checked Site (Unit {0})) → fields t ≡ c → accept (layout t) ≡ accept_table t
  fields_either (refused n s) e = fields_refused e
  fields_either (passed u) e = judged_either e (judged (covered t)) refl

  -- what the reader says of the layout is what the writer says of the table
  pub accept_walked : accept (layout t) ≡ accept_table t
  accept_walked = fields_either (fields t) refl
