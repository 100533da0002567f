-- `adqurim::adqurim_jobs` meets its contract: without room for the words nothing changes, and with room the words are those of the
-- answer.
-- Assumes nothing.
use mathlib.Core.Path.{◌∙◌}
use Rattle.adqurim.specs.Laws.JobWordsLaws.{entry_short, entry_long, words_put}
use Rattle.adqurim.proofs.adqurim_jobs.Goals as goal

pub returns-then-words-lt-LIST_WORDS : goal.returns-then-words-lt-LIST_WORDS
returns-then-words-lt-LIST_WORDS c = entry_short _ _ _ c.if-words-lt-LIST_WORDS.true

pub returns : goal.returns
returns c =
    let made = c.list_jobs-listed.ensures in
    let put = c.put_list.ensures in
    (put.0, made.1 ∙ entry_long _ _ _ c.if-words-lt-LIST_WORDS.false, put.1 ∙ words_put _ _ _ made.0)
