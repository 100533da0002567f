-- `taskfile_reader::load_file` meets its contract: each return is one case of `load`.
-- Assumes nothing.
use mathlib.Core.Path.{◌≡◌, sym, ◌∙◌}
use Rattle.std.proofs.Common.{rules}
use Rattle.notation.specs.Checked.{refused}
use Rattle.taskfile.proofs.Laws.ChainLaws.{table_shaped}
use Rattle.taskfile.proofs.Laws.LoadLaws.{sized_within, answers_unsized, answers_unchained, answers_faulty, answers_sound}
use Rattle.taskfile.specs.Code.Refusals.{outcome, number_of}
use Rattle.taskfile_reader.proofs.load_file.Goals as goal

pub returns-then-not-is_sized : goal.returns-then-not-is_sized
returns-then-not-is_sized c = rw c.at.ensures (answers_unsized _ (sym c.is_sized.ensures ∙ c.if-not-is_sized.true))

pub read_chains-requires : goal.read_chains-requires
read_chains-requires c = (sized_within _ (sym c.is_sized.ensures ∙ c.if-not-is_sized.false)).1

pub returns-in_err-read_chains : goal.returns-in_err-read_chains
returns-in_err-read_chains c =
    let e = c.in_err-read_chains.field-0.0 in
    let refuses : outcome c.from_residual.result ≡ refused (number_of e.why) e.place = search rules in
    refuses ∙ answers_unchained _ (sym c.is_sized.ensures ∙ c.if-not-is_sized.false) c.in_err-read_chains.ensures

pub table_at-table-requires : goal.table_at-table-requires
table_at-table-requires c = (sized_within _ (sym c.is_sized.ensures ∙ c.if-not-is_sized.false)).0

pub judge-requires : goal.judge-requires
judge-requires c = rw c.table_at-table.ensures (table_shaped _)

pub returns-in-Err : goal.returns-in-Err
returns-in-Err c =
    rw c.at-in-Err.ensures
    (answers_faulty _ (sym c.is_sized.ensures ∙ c.if-not-is_sized.false) c.in_ok-read_chains.ensures
    c.table_at-table.ensures c.in-Err.ensures c.record_at.ensures)

pub returns : goal.returns
returns c =
    answers_sound _ (sym c.is_sized.ensures ∙ c.if-not-is_sized.false) c.in_ok-read_chains.ensures
    c.table_at-table.ensures c.in_default.ensures
