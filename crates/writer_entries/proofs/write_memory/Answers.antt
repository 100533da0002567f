-- `writer_entries::write_memory` meets its contract: a file that is refused, memory that is too short, and a table that was filled in.
-- Assumes nothing.
use Rattle.std.proofs.Common.{◌≡◌, ◌∙◌, ◌≤◌, length, arith, rules}
use Rattle.notation.specs.Checked.{refused}
use Rattle.notation_buffers.specs.Laws.WritingLaws.{appends_count}
use Rattle.taskfile.specs.Code.Refusals.{outcome, number_of}
use Rattle.writer.specs.Memory.{memory_of, table_bytes}
use Rattle.writer.specs.WriteEntries.{tabled, table_after}
use Rattle.writer_entries.specs.Laws.WrittenTableLaws.{made_refused, made_no_room, made_done}
use Rattle.writer_entries.proofs.write_memory.Goals as goal

pub returns-in_err-accepted : goal.returns-in_err-accepted
unfolding table_after tabled
returns-in_err-accepted c =
    let e = c.in_err-accepted.field-0.0 in
    let refuses : outcome c.from_residual.result ≡ refused (number_of e.why) e.place = search rules in
    let is = made_refused table_bytes memory_of _ _ c.in_err-accepted.ensures in
    record { answer = refuses ∙ is.0; written = is.1 }

pub returns-then-memory-lt-TABLE_ROOM : goal.returns-then-memory-lt-TABLE_ROOM
unfolding table_after tabled
returns-then-memory-lt-TABLE_ROOM c =
    let is = made_no_room table_bytes memory_of _ _ c.in_ok-accepted.ensures c.if-memory-lt-TABLE_ROOM.true in
    record { answer = rw c.at.ensures is.0; written = is.1 }

pub overflow_cast-result : goal.overflow_cast-result
overflow_cast-result c =
    let put = c.put_table-n.ensures in
    record { fits = omega (arith, appends_count put.written (omega (arith, put.whole)), put.whole) }

pub returns : goal.returns
unfolding table_after tabled
returns c =
    let lent = c.args.memory.now in
    let room : table_bytes ≤ length lent = omega (arith, c.if-memory-lt-TABLE_ROOM.false) in
    let is =
    made_done table_bytes memory_of _ _ c.in_ok-accepted.ensures room c.put_table-n.ensures.written
    (omega (arith, c.put_table-n.ensures.whole))
    in
    record { answer = is.0; written = is.1 }
