-- `texts_entries::file_to_text` meets its contract: its answer is that of what was written.
-- Assumes nothing.
use Rattle.std.proofs.Common.{sym}
use Rattle.texts.specs.TextEntries.{to_text_answer}
use Rattle.texts_entries.proofs.file_to_text.Goals as goal

pub returns-clause-answer : goal.returns-clause-answer
unfolding to_text_answer
returns-clause-answer c = c.answered.ensures.answer _ (sym c.write_text.ensures.answer)
