-- `adqurim_words::put_write` meets its contract: the three words are an answer of an entry over a table in memory.
-- Assumes nothing.
use Rattle.adqurim_words.specs.Words.{write_words}
use Rattle.adqurim_words.proofs.put_write.Goals as goal

pub returns : goal.returns
unfolding write_words
returns c = c.put_sized.ensures
