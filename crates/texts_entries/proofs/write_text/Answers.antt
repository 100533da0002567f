-- `texts_entries::write_text` meets its contract: a file that is refused, a text that is too short, and a text that was
-- written, which has room since it is no longer than the longest.
-- Assumes nothing.
use Rattle.std.proofs.Common.{◌≡◌, ◌∙◌, ◌<◌, arith, rules}
use Rattle.notation.specs.Checked.{refused}
use Rattle.notation.specs.Laws.ElementLaws.{at_every}
use Rattle.notation_buffers.specs.Laws.WritingLaws.{appends_count}
use Rattle.taskfile.specs.Code.Refusals.{outcome, number_of}
use Rattle.texts.specs.TextEntries.{texted, to_text_after, text_room}
use Rattle.texts.specs.TextTables.{text_of}
use Rattle.writer_entries.specs.Laws.WrittenTableLaws.{made_refused, made_no_room, made_done}
use Rattle.texts_entries.specs.Laws.TextEntryLaws.{text_fits}
use Rattle.texts_entries.proofs.write_text.Goals as goal

pub returns-in_err-accepted : goal.returns-in_err-accepted
unfolding to_text_after texted
returns-in_err-accepted c =
    let e = c.in_err-accepted.field-0.0 in
    let refuses : outcome c.from_residual.result ≡ refused (number_of e.why) e.place = search rules in
    let is = made_refused text_room text_of _ _ c.in_err-accepted.ensures in
    record { answer = refuses ∙ is.0; written = is.1 }

pub returns-then-text-lt-TEXT_ROOM : goal.returns-then-text-lt-TEXT_ROOM
unfolding to_text_after texted
returns-then-text-lt-TEXT_ROOM c =
    let is = made_no_room text_room text_of _ _ c.in_ok-accepted.ensures c.if-text-lt-TEXT_ROOM.true in
    record { answer = rw c.at.ensures is.0; written = is.1 }

-- the text that is written is no longer than the longest
pub overflow_cast-result : goal.overflow_cast-result
overflow_cast-result c =
    let bytes = at_every (λ b. b < 256) 0 c.args.file.now (λ k lt. (c.type_inv.file k).fits) in
    let fits = text_fits _ bytes c.in_ok-accepted.ensures in
    let room = c.if-text-lt-TEXT_ROOM.false in
    record { fits = omega (arith, appends_count c.put_text-n.ensures (omega (arith, fits, room)), fits) }

pub returns : goal.returns
unfolding to_text_after texted
returns c =
    let bytes = at_every (λ b. b < 256) 0 c.args.file.now (λ k lt. (c.type_inv.file k).fits) in
    let fits = text_fits _ bytes c.in_ok-accepted.ensures in
    let room = c.if-text-lt-TEXT_ROOM.false in
    let is =
    made_done text_room text_of _ _ c.in_ok-accepted.ensures room c.put_text-n.ensures (omega (arith, fits, room))
    in
    record { answer = is.0; written = is.1 }
