-- Laws of a plan's bytes as they are written: one step, the steps of a job, the three parts.
-- Assumes nothing.
use Rattle.std.specs.Prelude.{◌≡◌, ℕ, ◌*◌, List, [], ◌∷◌, take}
use Rattle.std.proofs.Common.{sym, ap, ◌∙◌}
use Rattle.notation.specs.Lists.{up_to, each}
use Rattle.notation.specs.Laws.ListLaws.{each_map}
use Rattle.plan.specs.Runs.{Step}
use Rattle.plan_marks.specs.declared.Marks.{Marks}
use Rattle.plan_marks.specs.Code.Marks.{step_marked, step_count, steps_marked}
use Rattle.notation_buffers.specs.declared.pages.Page.{Page}
use Rattle.notation_buffers.specs.Code.Pages.{Puts}
use Rattle.notation_buffers.specs.Laws.PageLaws.{PartsTo, puts_same, puts_more}
use Rattle.matching_plans.specs.Code.Columns.{job_column, columns_in, plan_in}

-- the first v bytes of the guesses
unfoldable pub guesses_to : List ℕ → ℕ → List ℕ
guesses_to guesses v = take v guesses

-- a step's two bytes
abbrev two : Step → List ℕ
two step = step.round.0 ∷ step.value ∷ []

-- those of step n of job x
unfoldable pub step_bytes : Marks → ℕ → ℕ → List ℕ
step_bytes marks x n = two (step_marked marks x n)

-- the bytes of a step that was read
pub step_put : {step meant : Step} {before after : Page} → step ≡ meant
    → Puts before (step.round.0 ∷ step.value ∷ []) after → Puts before (two meant) after
step_put read puts = puts_same (ap two read) puts

pub column_put : (marks : Marks) (x : ℕ) {n : ℕ} {before after : Page} → PartsTo (step_bytes marks x) n before after
    → n ≡ step_count marks x → Puts before (job_column marks x) after
unfolding job_column steps_marked step_bytes
column_put marks x parts all =
    puts_same
    (ap (λ (k : ℕ). each (up_to k) (step_bytes marks x)) all
    ∙ sym (each_map (step_marked marks x) (up_to (step_count marks x)) two))
    parts.puts

-- the three parts of a plan, one after the other
pub plan_put : (guesses : List ℕ) (marks : Marks) (k : ℕ) {before first second after : Page} → Puts before (k ∷ []) first
    → Puts first (take (8 * k) guesses) second → Puts second (columns_in marks k) after
    → Puts before (plan_in guesses marks k) after
unfolding plan_in
plan_put guesses marks k one guessed stepped = puts_more (puts_more one guessed) stepped
