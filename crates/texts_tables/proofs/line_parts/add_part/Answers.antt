-- `texts_tables::line_parts::add_part` meets its contract: each form adds its part.
-- Assumes nothing.
use mathlib.Core.Path.{◌≡◌, sym, ap, subst, ◌∙◌}
use mathlib.Core.List.{List}
use Prim.Native.Nat.{ℕ}
use lib.Dec.{lit<}
use Rattle.taskfile.specs.declared.Table.{Table}
use Rattle.texts.specs.declared.Form.{Form}
use Rattle.texts.specs.declared.Form.TheVariants.{WindowLine}
use Rattle.texts.specs.Grammar.{row_of}
use Rattle.texts.specs.Code.AddedLines.{add_part, with_window, with_store, add_task, add_instruction, add_lock}
use Rattle.texts_tables.specs.Code.PartFields.{part_fields, PartFits}
use Rattle.texts_tables.proofs.Laws.PartFieldLaws.{field_holds}
use Rattle.texts_tables.proofs.line_parts.add_part.Goals as goal

-- the numbers fit, whichever form it is
numbers_held : (form : Form) (numbers : List ℕ) {known : Form} → PartFits form numbers → form ≡ known
    → PartFits known numbers
numbers_held form numbers fits is = subst (λ (f : Form). PartFits f numbers) is fits

-- the part that the form adds is the part that this form adds
part_of : (t : Table) (form : Form) (numbers : List ℕ) {known : Form} → form ≡ known
    → add_part t known numbers ≡ add_part t form numbers
part_of t form numbers is = sym (ap (λ (f : Form). add_part t f numbers) is)

pub overflow_cast-t : goal.overflow_cast-t
unfolding part_fields row_of
overflow_cast-t c =
    let line = c.args.line.now in
    let fits = numbers_held line.form line.numbers c.requires c.in-WindowLine.is in
    record { fits = field_holds (part_fields WindowLine) line.numbers fits 0 (lit< tt) }

pub store_with-t-requires : goal.store_with-t-requires
store_with-t-requires c = numbers_held c.args.line.now.form c.args.line.now.numbers c.requires c.in-StartLine.is

pub task_with-requires : goal.task_with-requires
task_with-requires c = numbers_held c.args.line.now.form c.args.line.now.numbers c.requires c.in-TaskLine.is

pub instruction_with-requires : goal.instruction_with-requires
instruction_with-requires c = numbers_held c.args.line.now.form c.args.line.now.numbers c.requires c.in-InstructionLine.is

pub lock_with-requires : goal.lock_with-requires
lock_with-requires c = numbers_held c.args.line.now.form c.args.line.now.numbers c.requires c.in-LockLine.is

pub returns-in-WindowLine : goal.returns-in-WindowLine
unfolding add_part with_window
returns-in-WindowLine c = part_of c.args.t.now c.args.line.now.form c.args.line.now.numbers c.in-WindowLine.is

pub returns-in-StartLine : goal.returns-in-StartLine
unfolding add_part with_store
returns-in-StartLine c =
    ap (with_store c.args.t.now) c.store_with-t.ensures
    ∙ part_of c.args.t.now c.args.line.now.form c.args.line.now.numbers c.in-StartLine.is

pub returns-in-TaskLine : goal.returns-in-TaskLine
unfolding add_part
returns-in-TaskLine c =
    c.add_task.ensures
    ∙ ap (add_task c.args.t.now) c.task_with.ensures
    ∙ part_of c.args.t.now c.args.line.now.form c.args.line.now.numbers c.in-TaskLine.is

pub returns-in-InstructionLine : goal.returns-in-InstructionLine
unfolding add_part
returns-in-InstructionLine c =
    c.add_instruction.ensures
    ∙ ap (add_instruction c.args.t.now) c.instruction_with.ensures
    ∙ part_of c.args.t.now c.args.line.now.form c.args.line.now.numbers c.in-InstructionLine.is

pub returns-in-LockLine : goal.returns-in-LockLine
unfolding add_part
returns-in-LockLine c =
    c.add_lock.ensures
    ∙ ap (add_lock c.args.t.now) c.lock_with.ensures
    ∙ part_of c.args.t.now c.args.line.now.form c.args.line.now.numbers c.in-LockLine.is
