-- `texts_tables::text_reader::read_text` meets its contract. The loop's invariant is `TextReadTo`: what is read from here
-- on, after the lines that spell the table so far, is what the whole text comes to. The measure is how many bytes are left.
-- Assumes nothing.
use Rattle.std.proofs.Common.{◌-◌, length}
use Rattle.texts_reading.specs.Code.FormParts.{stage_number}
use Rattle.texts_tables.proofs.Laws.TextReadLaws.{TextReadTo}
use Rattle.texts_tables.proofs.text_reader.read_text.Given as goal

abbrev pub invariant-loop-from : goal.invariant-loop-from
invariant-loop-from l = TextReadTo l.text l.t l.number (stage_number l.stage) l.from

abbrev pub decreases-loop-from : goal.decreases-loop-from
decreases-loop-from l = length l.text - l.from
