-- `adqurim_words::put_sheet_words` meets its contract: the three words are the sheet's answer.
-- Assumes nothing.
use Rattle.adqurim_words.specs.Words.{sheet_words}
use Rattle.adqurim_words.proofs.put_sheet_words.Goals as goal

pub returns : goal.returns
unfolding sheet_words
returns c = c.put_sized.ensures
