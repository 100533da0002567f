-- `adqurim_words::put_read` meets its contract: the words stand one after the other, the response times as a part stored
-- at once.
-- Assumes nothing.
use borrow.Author.Rules.{rules}
use Rattle.adqurim_words.specs.Laws.WordsLaws.{read_stored}
use Rattle.adqurim_words.proofs.put_read.Goals as goal

pub returns : goal.returns
returns c =
    read_stored c.args.a (search rules) c.args.answer.now c.requires c.from.ensures c.from-2.ensures
    c.copy_from_slice.ensures.after c.from-3.ensures
