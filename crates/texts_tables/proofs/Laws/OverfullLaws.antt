-- Laws of a table whose last body counts one instruction too many: one more changes nothing. And how that is read.
-- Assumes nothing.
use Rattle.std.specs.Prelude.{◌≡◌, refl, ℕ, suc, ◌-◌, ◌≤◌, ◌<◌, true, List, leb, set, length}
use Rattle.std.proofs.Math.Path.{sym, ap}
use Rattle.std.proofs.Common.{subst, ◌∙◌, arith, le-leb, eqb-true}
use Rattle.std.proofs.Math.Decide.{dec_lt}
use Rattle.std.proofs.lemmas.Bool.{lt-leb, false≢true}
use Rattle.std.proofs.Math.Dec.{eqb}
use Rattle.std.proofs.Math.ListN.{get_or}
use Rattle.std.proofs.Math.Seq.{set_out}
use Rattle.std.proofs.lemmas.List.{set-get_or}
use Rattle.notation.specs.Laws.ListLaws.{get_or_any}
use Rattle.notation.specs.Laws.PairLaws.{every_at}
use Rattle.notation.specs.Laws.TestLaws.{or_left, or_second}
use Rattle.taskfile.specs.declared.Instruction.{Instruction}
use Rattle.taskfile.specs.declared.Table.{Table}
use Rattle.taskfile.specs.declared.TaskEntry.{TaskEntry}
use Rattle.taskfile.specs.Chains.{most_tasks, most_instructions}
use Rattle.taskfile.specs.Tables.{no_task}
use Rattle.texts.specs.declared.Form.{Form}
use Rattle.texts.specs.declared.Form.TheVariants.{WindowLine, StartLine, TaskLine, InstructionLine, LockLine}
use Rattle.texts.specs.Code.AddedLines.{add_instruction, add_part, with_tasks, longer_task, counted}
use Rattle.texts.specs.TextTables.{instruction_with}
use Rattle.writer.specs.Values.{Fits, FitsEntry}
use Rattle.texts_tables.specs.Code.Overfull.{body_over, adds_nothing}

-- ---- what is read

module _ (t : Table) (last : ℕ) where
  pub over_past : last ≡ t.tasks - 1 → 8 ≤ last → true ≡ body_over t
  unfolding body_over
  over_past is past = sym (or_left _ _ (le-leb most_tasks (t.tasks - 1) (omega arith)))

  pub over_read : (d : TaskEntry) → Fits t → last ≡ t.tasks - 1 → last < 8
      → eqb (get_or t.entries last d).length (suc most_instructions) ≡ body_over t
  unfolding body_over
  over_read d fit is inside =
      let same = get_or_any t.entries last d no_task (omega (arith, fit.entries_full))
      ∙ ap (λ (n : ℕ). get_or t.entries n no_task) is in
      ap (λ (e : TaskEntry). eqb e.length (suc most_instructions)) same
      ∙ sym (or_second (leb most_tasks (t.tasks - 1)) _ (lt-leb most_tasks (t.tasks - 1) (omega arith)))

-- ---- what one instruction more does

-- a task that is over its limit is not made longer
task_kept : (e : TaskEntry) (i : Instruction) → length e.body ≡ most_instructions
    → e.length ≡ suc most_instructions → longer_task e i ≡ e
unfolding longer_task counted
task_kept e i full over =
    let count : counted most_instructions e.length ≡ e.length = omega arith in
    let body = set_out e.body e.length i (omega arith) in
    λ j. record {
      execution = e.execution;
      period = e.period;
      arrival = e.arrival;
      length = count j;
      body = body j;
    }

-- nor is the table changed in which it came last
pub table_kept : (t : Table) (i : Instruction) (last : ℕ) (d : TaskEntry) → Fits t → last ≡ t.tasks - 1
    → last < length t.entries → (get_or t.entries last d).length ≡ suc most_instructions
    → add_instruction t i ≡ t
unfolding add_instruction with_tasks
table_kept t i last d fit is inside over =
    let at = t.tasks - 1 in
    let here : at < length t.entries = omega arith in
    let e = get_or t.entries at no_task in
    let same : get_or t.entries last d ≡ e =
    get_or_any t.entries last d no_task inside ∙ ap (λ (n : ℕ). get_or t.entries n no_task) is in
    let long = subst (λ (x : TaskEntry). x.length ≡ suc most_instructions) same over in
    let kept = task_kept e i (every_at FitsEntry t.entries at no_task fit.entries here).body long in
    let entries = ap (set t.entries at) kept ∙ set-get_or t.entries at no_task in
    λ j. with_tasks t t.tasks (entries j)

-- nor one that counts more tasks than it holds
pub table_past : (t : Table) (i : Instruction) (last : ℕ) → last ≡ t.tasks - 1 → length t.entries ≤ last
    → add_instruction t i ≡ t
unfolding add_instruction with_tasks
table_past t i last is past =
    let e = longer_task (get_or t.entries (t.tasks - 1) no_task) i in
    let kept = set_out t.entries (t.tasks - 1) e (omega arith) in
    λ j. with_tasks t t.tasks (kept j)

-- ---- what a line does then

pub instruction_kept : (t : Table) → Fits t → body_over t ≡ true → (i : Instruction) → add_instruction t i ≡ t
instruction_kept t fit over i =
    let last = t.tasks - 1 in
    elim (dec_lt last 8) [
      | yes inside ↦
          table_kept t i last no_task fit refl (omega (arith, fit.entries_full))
          (eqb-true _ _ (over_read t last no_task fit refl inside ∙ over))
      | no past ↦ table_past t i last refl (omega (arith, fit.entries_full))
    ]

pub part_kept : (t : Table) → Fits t → (form : Form) → adds_nothing t form ≡ true → (numbers : List ℕ)
    → add_part t form numbers ≡ t
unfolding adds_nothing add_part
part_kept t fit WindowLine over numbers = absurd (false≢true over)
part_kept t fit StartLine over numbers = absurd (false≢true over)
part_kept t fit TaskLine over numbers = absurd (false≢true over)
part_kept t fit (InstructionLine operation) over numbers =
    instruction_kept t fit over (instruction_with operation numbers)
part_kept t fit LockLine over numbers = absurd (false≢true over)
