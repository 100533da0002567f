-- Each return of `write_number` is one case of `decimal`: one digit, and one digit after the others.
-- Assumes nothing.
use Rattle.std.proofs.Common.{refl, arith}
use Rattle.notation_buffers.specs.Laws.BytesLaws.{digit_written, digits_written}
use Rattle.notation_buffers.specs.Laws.WritingLaws.{appends_length}
use Rattle.notation_buffers.proofs.+write_number.Goals as goal

pub returns-then-x-lt10 : goal.returns-then-x-lt10
returns-then-x-lt10 t c = digit_written (omega arith) refl c.write_byte.ensures

pub write_byte-requires-2 : goal.write_byte-requires-2
write_byte-requires-2 t c = omega (arith, appends_length c.write_number-next.ensures c.requires, c.requires)

pub returns : goal.returns
returns t c =
    digits_written c.requires (omega arith) (omega arith) refl c.write_number-next.ensures c.write_byte-2.ensures
