-- `writer_entries::fill_table` meets its contract: its answer is that of what was written.
-- Assumes nothing.
use Rattle.std.proofs.Common.{sym}
use Rattle.writer.specs.WriteEntries.{table_answer}
use Rattle.writer_entries.proofs.fill_table.Goals as goal

pub returns-clause-answer : goal.returns-clause-answer
unfolding table_answer
returns-clause-answer c = c.answered.ensures.answer _ (sym c.write_memory.ensures.answer)
