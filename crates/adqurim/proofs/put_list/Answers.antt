-- `adqurim::put_list` meets its contract.
-- Assumes nothing.
use Rattle.adqurim.specs.Laws.JobWordsLaws.{stays, stores}
use Rattle.adqurim.proofs.put_list.Goals as goal

pub returns-then-answer-lt-LIST_WORDS : goal.returns-then-answer-lt-LIST_WORDS
returns-then-answer-lt-LIST_WORDS c = stays _ _ c.if-answer-lt-LIST_WORDS.true

pub returns : goal.returns
returns c =
    rw (c.from.ensures, c.from-2.ensures, c.from-3.ensures) (stores _ _ c.if-answer-lt-LIST_WORDS.false)
