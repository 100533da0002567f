-- How long the text of an accepted table can be: 2,091 bytes. Its tasks' execution times together fit the lowest
-- task's period, so not all of them have ten digits.
-- Assumes nothing.
use Rattle.std.specs.Prelude.{◌≡◌, ℕ, suc, ◌+◌, ◌*◌, ◌^◌, ◌≤◌, ◌<◌, get_or, take, drop}
use Rattle.std.proofs.Math.Path.{refl, ap, subst}
use Rattle.std.proofs.Common.{sym, ◌∙◌, mul-le-mul_right, length-append, length-take}
use Rattle.std.proofs.Math.Decide.{dec_lt}
use native.Mathlib.Omega.{arith}
use mathlib.Core.List.{List, [], ◌∷◌, ◌++◌, map, map-map}
use Rattle.std.proofs.Math.ListN.{length}
use Rattle.notation.specs.Checked.{passed}
use Rattle.notation.specs.Laws.CheckedLaws.{bind_passed, placed_passed}
use Rattle.notation.specs.Laws.ElementLaws.{at_every}
use Rattle.notation.specs.Laws.ListLaws.{each_map}
use Rattle.notation.specs.Laws.PaddedLaws.{every_take}
use Rattle.notation.specs.Laws.PairLaws.{every_at, every_imp, every_map}
use Rattle.notation.specs.Laws.QuantifierLaws.{map_length}
use Rattle.notation.specs.Lists.{each, sum}
use Rattle.notation.specs.Ordered.{Every}
use Rattle.notation.specs.Laws.DecimalLaws.{decimal_few}
use Rattle.notation.specs.Laws.TextSizes.{each_most}
use Rattle.notation.specs.Texts.{decimal}
use Rattle.taskfile.specs.declared.Instruction.{Instruction}
use Rattle.taskfile.specs.declared.Table.{Table}
use Rattle.taskfile.specs.declared.Task.{Task}
use Rattle.taskfile.specs.declared.TaskEntry.{TaskEntry}
use Rattle.taskfile.specs.Chains.{Chains, chains_of}
use Rattle.taskfile.specs.File.{load, record_at}
use Rattle.taskfile.specs.Judgement.{numbered, instruction_of, task_numbers}
use Rattle.taskfile.proofs.Laws.JudgementLaws.{last_is_end}
use Rattle.taskfile.proofs.Laws.JudgingLaws.{tasks_length}
use Rattle.taskfile.proofs.Laws.LoadLaws.{load_parts}
use Rattle.taskfile.proofs.Laws.TableLaws.{task_numbers_length, task_numbers_at}
use Rattle.taskfile.specs.Records.{File}
use Rattle.taskfile.specs.Tables.{tasks_of, task_of, body_of, no_task, table_at}
use Rattle.timing.specs.Accepted.{Accepted, accept, timed}
use Rattle.timing.specs.Code.IsAccepted.{Timed, IsAccepted}
use Rattle.timing.proofs.Laws.AcceptedLaws.{file_accepted}
use Rattle.timing.proofs.Laws.JobLaws.{timed_passed, responses_found}
use Rattle.timing.proofs.Laws.ResponseLaws.{rounded_up_positive, response_found}
use Rattle.timing.specs.Response.{IsResponse, rounded_up, tasks_above, interference, need, demand}
use Rattle.writer.specs.declared.Lock.{Lock}
use Rattle.writer.specs.Claims.{lock_array}
use Rattle.writer.specs.Values.{Bytes, ByteFields, FitsEntry, Fits}
use Rattle.writer.specs.Fields.{fields}
use Rattle.writer.proofs.Laws.CheckedTableLaws.{tasks_fit, fields_within}
use Rattle.writer.proofs.Laws.FieldsRead.{fields_read, fits_read}
use Rattle.writer.proofs.Laws.LockLaws.{HoldingFits}
use Rattle.texts.specs.declared.Form.TheVariants.{WindowLine, StartLine}
use Rattle.texts.specs.Grammar.{line_text, line_with, joined}
use Rattle.texts.proofs.Laws.EveryLaws.{every_both}
use Rattle.texts.proofs.Laws.LineSizes.{ShortLine, joined_append, window_line_most, start_line_most}
use Rattle.texts.proofs.Laws.LineSizes.{instruction_line_most, task_lines_most, lock_line_most}
use Rattle.texts.proofs.Laws.SoundTableLaws.{Sound, bodies_sound, locks_low}
use Rattle.texts.specs.TextTables.{task_lines, lock_line, table_lines, text_of}

-- ---- execution times

abbrev execution_of : TaskEntry → ℕ
execution_of e = e.execution

-- every task above runs at least once during a response time
interference_least : (above : List TaskEntry) (R : ℕ) → 1 ≤ R → sum (map execution_of above) ≤ interference above R
unfolding interference sum
interference_least [] R some = omega arith
interference_least (e ∷ above) R some =
    let once : 1 * e.execution ≤ rounded_up R e.period * e.execution =
    mul-le-mul_right e.execution (rounded_up_positive R e.period some) in
    omega (arith, once, interference_least above R some)

-- so a response time is at least the execution times of the task and of those above it
response_covers : {t : Table} {i : Task} {R : ℕ} → IsResponse t i R
    → (task_of t i).execution + sum (map execution_of (tasks_above t i)) ≤ R
unfolding demand need
response_covers {t} {i} {R} is =
    omega (arith, is.solves, interference_least (tasks_above t i) R is.positive)

-- all together fit the lowest task's period
module _ {a : Accepted} (is_timed : Timed a) (fit : Every FitsEntry (tasks_of a.table)) where
  lowest_covers : 0 < length (tasks_of a.table)
      → (task_of a.table (numbered 0)).execution + sum (map execution_of (tasks_above a.table (numbered 0))) < 2 ^ 32
  unfolding task_of
  lowest_covers some =
      let t = a.table in
      let listed : 0 < length (task_numbers t) = omega (arith, task_numbers_length t) in
      let found = responses_found t (task_numbers t) is_timed.found 0 (numbered 0) listed in
      let lowest = rw (task_numbers_at t (numbered 0) (numbered 0) some) at found in
      let response = (response_found t (numbered 0) (get_or a.responses 0 0)).0 lowest in
      omega (
        arith,
        response_covers response.0,
        response.1,
        (every_at FitsEntry (tasks_of t) 0 no_task fit some).period,
      )

  executions_fit : sum (map execution_of (tasks_of a.table)) < 2 ^ 32
  unfolding task_of tasks_above sum
  executions_fit = go (tasks_of a.table) refl
    where
      go : (tasks : List TaskEntry) → tasks_of a.table ≡ tasks → sum (map execution_of tasks) < 2 ^ 32
      go [] is = omega arith
      go (e ∷ above) is =
          let some : 0 < length (tasks_of a.table) = omega (arith, ap length is) in
          subst (λ (l : List TaskEntry). (get_or l 0 no_task).execution + sum (map execution_of (drop 1 l)) < 2 ^ 32) is
          (lowest_covers some)

-- ---- digits

-- so many of the numbers have ten digits, and so many nine
record Digits (numbers : List ℕ) : Type 0 where
  ten : ℕ
  nine : ℕ
  most : sum (map (λ n. length (decimal n)) numbers) ≤ 8 * length numbers + 2 * ten + nine
  large : 1_000_000_000 * ten + 100_000_000 * nine ≤ sum numbers
  few : ten + nine ≤ length numbers

digits_counted : (numbers : List ℕ) → Every (λ (n : ℕ). n < 2 ^ 32) numbers → Digits numbers
unfolding sum
digits_counted [] wide = record { ten = 0; nine = 0; most = omega arith; large = omega arith; few = omega arith }
digits_counted (n ∷ numbers) wide =
    let later = digits_counted numbers wide.1 in
    elim (dec_lt n 100_000_000) [
      | yes eight ↦ record {
        ten = later.ten;
        nine = later.nine;
        most = omega (arith, later.most, decimal_few 8 n (omega arith) (omega arith));
        large = omega (arith, later.large);
        few = omega (arith, later.few);
      }
      | no above ↦
          elim (dec_lt n 1_000_000_000) [
            | yes nine ↦ record {
              ten = later.ten;
              nine = suc later.nine;
              most = omega (arith, later.most, decimal_few 9 n (omega arith) (omega arith));
              large = omega (arith, later.large);
              few = omega (arith, later.few);
            }
            | no over ↦ record {
              ten = suc later.ten;
              nine = later.nine;
              most = omega (arith, later.most, decimal_few 10 n (omega arith) (omega (arith, wide.0)));
              large = omega (arith, later.large);
              few = omega (arith, later.few);
            }
          ]
    ]

-- eight execution times that fit a period have at most 75 digits
executions_digits : (tasks : List TaskEntry) → Every FitsEntry tasks → sum (map execution_of tasks) < 2 ^ 32
    → length tasks ≤ 8 → 227 * length tasks + sum (map (λ e. length (decimal e.execution)) tasks) ≤ 1_891
executions_digits tasks fit small few =
    let counted = digits_counted (map execution_of tasks) (every_map (λ (n : ℕ). n < 2 ^ 32) execution_of tasks
    (every_imp FitsEntry (λ e. e.execution < 2 ^ 32) (λ e h. h.execution) tasks fit)) in
    let same = ap sum (map-map (λ (n : ℕ). length (decimal n)) execution_of tasks) in
    omega (arith, counted.most, counted.large, counted.few, same, map_length execution_of tasks)

-- ---- lists of lines

-- what a task's lines come to
abbrev ShortTask : TaskEntry → Type 0
ShortTask e = length (joined (task_lines e)) ≤ 227 + length (decimal e.execution)

tasks_lines_most : (tasks : List TaskEntry) → Every ShortTask tasks
    → length (joined (each tasks task_lines))
    ≤ 227 * length tasks + sum (map (λ e. length (decimal e.execution)) tasks)
unfolding joined each sum
tasks_lines_most [] short = omega arith
tasks_lines_most (e ∷ tasks) short =
    omega (arith, joined_append (task_lines e) (each tasks task_lines), short.0, tasks_lines_most tasks short.1)

lock_lines_most : (locks : List Lock) → Every (λ lock. length (line_text (lock_line lock)) ≤ 18) locks
    → length (joined (map lock_line locks)) ≤ length locks * 18
unfolding joined
lock_lines_most locks short =
    omega (
      arith,
      ap length (each_map lock_line locks line_text),
      each_most 18 (λ lock. line_text (lock_line lock)) locks short,
    )

-- the two lines of the header, and the others
text_length : (t : Table) → length (text_of t) ≡
    length (line_text (line_with WindowLine (t.window ∷ []))) + length (line_text (line_with StartLine t.store))
    + length (joined (each (tasks_of t) task_lines)) + length (joined (map lock_line (take t.locks (lock_array t))))
unfolding text_of table_lines joined each
text_length t =
    let window = line_text (line_with WindowLine (t.window ∷ [])) in
    let start = line_text (line_with StartLine t.store) in
    let tasks = each (tasks_of t) task_lines in
    let locks = map lock_line (take t.locks (lock_array t)) in
    omega (
      arith,
      length-append window (start ++ joined (tasks ++ locks)),
      length-append start (joined (tasks ++ locks)),
      joined_append tasks locks,
    )

-- ---- an accepted table

lines_short : (body : List Instruction) → Every Sound body → Every ByteFields body → Every ShortLine body
lines_short =
    every_both Sound ByteFields ShortLine (λ i sound small. instruction_line_most i small sound.ranged)

-- the longest text
pub text_longest : {a : Accepted} → IsAccepted a → Fits a.table → {u : Unit {0}} → fields a.table ≡ passed u
    → length (text_of a.table) ≤ 2_091
unfolding task_of instruction_of body_of
text_longest {a} ok fit sound =
    let t = a.table in
    let fitting = tasks_fit t fit in
    let within = fields_within t fit sound in
    let locks = take t.locks (lock_array t) in
    let task : (k : ℕ) → k < length (tasks_of t) → ShortTask (get_or (tasks_of t) k no_task) = λ k lt.
    let e = get_or (tasks_of t) k no_task in
    let fits = every_at FitsEntry (tasks_of t) k no_task fitting lt in
    let bodies = every_at (λ e. Every Sound (body_of e)) (tasks_of t) k no_task (bodies_sound t fit sound) lt in
    task_lines_most e fits
    (lines_short (body_of e) bodies (every_take ByteFields e.length e.body fits.instructions))
    (ok.is_made.bodies (numbered k) lt)
    (λ p last. last_is_end t ok.is_judged (numbered k) lt p last) in
    let few = tasks_length t ok.is_made.shaped in
    omega (
      arith,
      text_length t,
      window_line_most t.window fit.window,
      start_line_most t.store fit.values fit.store,
      tasks_lines_most (tasks_of t) (at_every ShortTask no_task (tasks_of t) task),
      executions_digits (tasks_of t) fitting (executions_fit ok.is_timed fitting) (omega (arith, few, within.0)),
      lock_lines_most locks
          (every_imp (λ (lock : Lock). (lock.ceiling ≤ 7) × HoldingFits lock)
          (λ lock. length (line_text (lock_line lock)) ≤ 18)
          (λ lock low. lock_line_most lock low.0 low.1) locks (locks_low t fit sound)),
      length-take t.locks (lock_array t),
      within.1,
    )

-- ---- an accepted file

-- its table stands in its chains
pub file_read : (f : File) {a : Accepted} → accept f ≡ passed a
    → (c : Chains) × (chains_of f ≡ passed c) × (a.table ≡ table_at f c)
unfolding accept
file_read f e =
    let step = bind_passed (load f) _ e in
    let loaded = step.0 in
    let parts = load_parts f step.1 in
    let passes = placed_passed (record_at loaded.chains) (timed loaded.table) step.2 in
    let same = (timed_passed loaded.table passes).0 in
    (loaded.chains, parts.0, same ∙ parts.1)

pub file_longest : (f : File) → Bytes f → {a : Accepted} → accept f ≡ passed a → length (text_of a.table) ≤ 2_091
file_longest f small e =
    let read = file_read f e in
    text_longest (file_accepted f e) (subst Fits (sym read.2) (fits_read f small read.1))
    (subst (λ (t : Table). fields t ≡ passed tt) (sym read.2) (fields_read f read.1))
