-- The table that lines of the grammar spell fits its type: each number is below the limit of its field.
-- Assumes nothing.
use Rattle.std.specs.Prelude.{◌≡◌, refl, ℕ, zero, suc, ◌<◌, true, false, List, [], ◌∷◌, map, length, get_or, replicate, ltb, eqb}
use Rattle.std.proofs.Common.{sym, subst, arith, ltb-true, eqb-true}
use Rattle.notation.specs.Laws.ElementLaws.{at_every}
use Rattle.notation.specs.Laws.PaddedLaws.{padded_length, every_padded}
use Rattle.notation.specs.Laws.PairLaws.{every_map}
use Rattle.notation.specs.Laws.TestLaws.{and_both, not_both}
use Rattle.notation.specs.Lists.{all}
use Rattle.notation.specs.Ordered.{Every}
use Rattle.taskfile.specs.declared.Instruction.{Instruction}
use Rattle.taskfile.specs.Chains.{most_tasks, most_locks, most_instructions}
use Rattle.taskfile.specs.Tables.{end_instruction, no_task}
use Rattle.writer.specs.declared.Lock.{Lock}
use Rattle.writer.specs.Values.{ByteFields, FitsEntry, Fits}
use Rattle.writer.proofs.Laws.LaidChainLaws.{no_task_fits}
use Rattle.writer.proofs.Laws.WideBytesLaws.{Wide}
use Rattle.texts.specs.declared.Form.{Form}
use Rattle.texts.specs.declared.Form.TheVariants.{WindowLine, StartLine, TaskLine, InstructionLine, LockLine}
use Rattle.texts.specs.Grammar.{Line, row_of, fits, IsLine, in_order, byte_field, wide_field, at_window}
use Rattle.texts.proofs.Laws.LineReadLaws.{fits_length}
use Rattle.texts.proofs.Laws.OrderLaws.{lines_begun}
use Rattle.texts.proofs.Laws.RowLaws.{used_bytes}
use Rattle.texts.specs.TextTables.{instruction_with, task_with, lock_with, Groups, in_front, grouped, table_of}

-- ---- numbers that fit

-- each number is below its limit
pub fits_at : (limits numbers : List ℕ) (k : ℕ) → fits limits numbers ≡ true → k < length limits
    → get_or numbers k 0 < get_or limits k 0
unfolding fits
fits_at [] numbers k fit lt = absurd (omega (arith, lt))
fits_at (limit ∷ limits) [] k fit lt = absurd (not_both false fit refl)
fits_at (limit ∷ limits) (x ∷ numbers) zero fit lt =
    ltb-true x limit (and_both (ltb x limit) (fits limits numbers) fit).0
fits_at (limit ∷ limits) (x ∷ numbers) (suc k) fit lt =
    fits_at limits numbers k (and_both (ltb x limit) (fits limits numbers) fit).1 (omega (arith, lt))

-- fields that are bytes hold bytes, and past them stand zeros
bytes_at_lem : (limits numbers : List ℕ) (k : ℕ) → all (λ limit. eqb limit byte_field) limits ≡ true
    → fits limits numbers ≡ true → get_or numbers k 0 < 256
unfolding fits all
bytes_at_lem [] [] k bytes fit = omega arith
bytes_at_lem [] (x ∷ numbers) k bytes fit = absurd (not_both false fit refl)
bytes_at_lem (limit ∷ limits) [] k bytes fit = omega arith
bytes_at_lem (limit ∷ limits) (x ∷ numbers) zero bytes fit =
    let both = and_both (eqb limit byte_field) (all (λ l. eqb l byte_field) limits) bytes in
    let below = ltb-true x limit (and_both (ltb x limit) (fits limits numbers) fit).0 in
    omega (arith, below, eqb-true limit byte_field both.0)
bytes_at_lem (limit ∷ limits) (x ∷ numbers) (suc k) bytes fit =
    let both = and_both (eqb limit byte_field) (all (λ l. eqb l byte_field) limits) bytes in
    bytes_at_lem limits numbers k both.1 (and_both (ltb x limit) (fits limits numbers) fit).1

-- ---- the groups of lines that fit

instruction_with_small : (operation : ℕ) (numbers : List ℕ)
    → fits (row_of (InstructionLine operation)).fields numbers ≡ true → ByteFields (instruction_with operation numbers)
unfolding instruction_with
instruction_with_small operation numbers fit =
    let at : (k : ℕ) → get_or numbers k 0 < 256 =
    λ k. bytes_at_lem (row_of (InstructionLine operation)).fields numbers k (used_bytes operation) fit in
    (at 0, at 1, at 2)

with_fits : (numbers : List ℕ) (body : List Instruction) → fits (row_of TaskLine).fields numbers ≡ true
    → Every ByteFields body → FitsEntry (task_with numbers body)
unfolding task_with row_of
with_fits numbers body fit small =
    let at : (k : ℕ) → k < 3 → get_or numbers k 0 < get_or (wide_field ∷ wide_field ∷ wide_field ∷ []) k 0 =
    λ k. fits_at (wide_field ∷ wide_field ∷ wide_field ∷ []) numbers k fit in
    record {
      execution = at 0 (omega arith);
      period = at 1 (omega arith);
      arrival = at 2 (omega arith);
      body = padded_length most_instructions end_instruction body;
      instructions =
          every_padded ByteFields most_instructions end_instruction body (omega arith, omega arith, omega arith) small;
    }

record FitGroups (g : Groups) : Type 0 where
  body : Every ByteFields g.body
  tasks : Every FitsEntry g.tasks
  locks : Every (λ (lock : Lock). Wide lock.holding) g.locks

front_fits : (form : Form) (numbers : List ℕ) (g : Groups) → fits (row_of form).fields numbers ≡ true → FitGroups g
    → FitGroups (in_front form numbers g)
unfolding in_front lock_with row_of
front_fits WindowLine numbers g good fit = fit
front_fits StartLine numbers g good fit = fit
front_fits TaskLine numbers g good fit =
    record { body = tt; tasks = (with_fits numbers g.body good fit.body, fit.tasks); locks = fit.locks }
front_fits (InstructionLine operation) numbers g good fit =
    record {
      body = (instruction_with_small operation numbers good, fit.body);
      tasks = fit.tasks;
      locks = fit.locks;
    }
front_fits LockLine numbers g good fit =
    record {
      body = fit.body;
      tasks = fit.tasks;
      locks = (fits_at (byte_field ∷ wide_field ∷ []) numbers 1 good (omega arith), fit.locks);
    }

groups_fit : (lines : List Line) → Every IsLine lines → FitGroups (grouped lines)
unfolding grouped
groups_fit [] good = record { body = tt; tasks = tt; locks = tt }
groups_fit (l ∷ lines) good =
    front_fits l.form l.numbers (grouped lines) good.0.1 (groups_fit lines good.1)

-- ---- the whole table

pub table_fits : (lines : List Line) → in_order at_window lines ≡ true → Every IsLine lines → Fits (table_of lines)
unfolding table_of row_of all
table_fits lines placed good =
    let b = lines_begun lines placed good in
    let g = grouped b.others in
    let fit = groups_fit b.others b.good in
    subst (λ (l : List Line). Fits (table_of l)) (sym b.is) (record {
      window = fits_at (wide_field ∷ []) b.window 0 b.wide (omega arith);
      store = fits_length (replicate 8 byte_field) b.start b.bytes;
      values =
          at_every (λ (x : ℕ). x < 256) 0 b.start
          (λ k lt. bytes_at_lem (replicate 8 byte_field) b.start k refl b.bytes);
      entries_full = padded_length most_tasks no_task g.tasks;
      entries = every_padded FitsEntry most_tasks no_task g.tasks no_task_fits fit.tasks;
      ceilings = padded_length most_locks 0 (map (λ (lock : Lock). lock.ceiling) g.locks);
      holdings_full = padded_length most_locks 0 (map (λ (lock : Lock). lock.holding) g.locks);
      holdings =
          every_padded Wide most_locks 0 (map (λ (lock : Lock). lock.holding) g.locks) (omega arith)
          (every_map Wide (λ (lock : Lock). lock.holding) g.locks fit.locks);
    })
