-- `writer_entries::write_file` meets its contract: a table that is refused, a file that is too short, and a table that was written.
-- Assumes nothing.
use Rattle.std.proofs.Common.{◌≡◌, sym, ◌∙◌, arith, rules}
use lib.Seq.{length-take-le}
use Rattle.notation.specs.Checked.{refused}
use Rattle.taskfile.specs.Code.Refusals.{outcome, number_of}
use Rattle.writer.proofs.Laws.FitsLaws.{table_fits}
use Rattle.writer_entries.specs.Laws.WrittenTableLaws.{laying_room, laid_count, laid_within, laid_inside, laid_fits, laid_file, laid_accepted}
use Rattle.writer_entries.specs.Laws.WrittenTableLaws.{write_refused, write_accepts, write_no_room, write_done}
use Rattle.writer_entries.proofs.write_file.Goals as goal

pub slice_bounds-laid-end : goal.slice_bounds-laid-end
slice_bounds-laid-end c =
    omega (arith, laid_within _ (table_fits c.args.t _ c.well_formed.0) c.put_layout-n.ensures)

pub slice_bounds-accept_file-end : goal.slice_bounds-accept_file-end
slice_bounds-accept_file-end c =
    sym (length-take-le _ _ (omega (arith, laid_within _ (table_fits c.args.t _ c.well_formed.0) c.put_layout-n.ensures)))

pub returns-in_err-_accepted : goal.returns-in_err-_accepted
returns-in_err-_accepted c =
    let e = c.in_err-_accepted.field-0.0 in
    let refuses : outcome c.from_residual.result ≡ refused (number_of e.why) e.place = search rules in
    let laid = laid_accepted _ (table_fits c.args.t _ c.well_formed.0) c.put_layout-n.ensures in
    let is = write_refused _ _ _ laid c.in_err-_accepted.ensures in
    record { answer = refuses ∙ is.0; written = is.1 }

pub returns-then-file-lt-FILE_ROOM : goal.returns-then-file-lt-FILE_ROOM
returns-then-file-lt-FILE_ROOM c =
    let laid = laid_accepted _ (table_fits c.args.t _ c.well_formed.0) c.put_layout-n.ensures in
    let is = write_no_room _ _ _ laid c.in_ok-_accepted.ensures c.if-file-lt-FILE_ROOM.true in
    record { answer = rw c.at.ensures is.0; written = is.1 }

pub slice_bounds-laid-end-2 : goal.slice_bounds-laid-end-2
slice_bounds-laid-end-2 c =
    laid_inside _ (table_fits c.args.t _ c.well_formed.0) c.put_layout-n.ensures laying_room

pub slice_bounds-copy_from_slice-end : goal.slice_bounds-copy_from_slice-end
slice_bounds-copy_from_slice-end c =
    let fit = table_fits c.args.t _ c.well_formed.0 in
    let lays = c.put_layout-n.ensures in
    let accepts = write_accepts _ _ (laid_accepted _ fit lays) c.in_ok-_accepted.ensures in
    omega (arith, laid_fits _ fit lays accepts.1)

pub slice_bounds-copy_from_slice-end-2 : goal.slice_bounds-copy_from_slice-end-2
slice_bounds-copy_from_slice-end-2 c =
    let fit = table_fits c.args.t _ c.well_formed.0 in
    let lays = c.put_layout-n.ensures in
    let accepts = write_accepts _ _ (laid_accepted _ fit lays) c.in_ok-_accepted.ensures in
    sym (length-take-le _ _ (omega (arith, laid_fits _ fit lays accepts.1)))

pub copy_from_slice-requires : goal.copy_from_slice-requires
copy_from_slice-requires c =
    let fit = table_fits c.args.t _ c.well_formed.0 in
    let lays = c.put_layout-n.ensures in
    let accepts = write_accepts _ _ (laid_accepted _ fit lays) c.in_ok-_accepted.ensures in
    length-take-le _ _ (omega (arith, laid_fits _ fit lays accepts.1))
    ∙ sym (length-take-le _ _ (laid_inside _ fit lays laying_room))

pub returns : goal.returns
returns c =
    let fit = table_fits c.args.t _ c.well_formed.0 in
    let lays = c.put_layout-n.ensures in
    let count = laid_count _ fit lays in
    let laid = laid_file _ fit lays in
    let is = write_done _ _ _ (laid_accepted _ fit lays) c.in_ok-_accepted.ensures c.if-file-lt-FILE_ROOM.false count in
    record { answer = is.0; written = cc (count, laid, is.1) }
