-- `texts_program::turn` meets its contract: the line of a refusal, or what was converted.
-- Assumes nothing.
use mathlib.Core.Path.{◌∙◌}
use borrow.Author.Rules.{rules}
use Rattle.notation_buffers.specs.Laws.FrontLaws.{page_puts}
use Rattle.texts_program.specs.Laws.TurnLaws.{shows_bytes, shows_refusal, refusal_within}
use Rattle.texts_program.proofs.turn.Goals as goal

pub returns-then-x-ne0 : goal.returns-then-x-ne0
returns-then-x-ne0 c =
    let page = c.new-page.ensures in
    let line = rw (c.from.ensures, c.from-then-x-ne0.ensures) at c.put_refused.ensures in
    let puts = page_puts page.holds page.front line c.written.ensures.counts (search rules) in
    record {
      printed = shows_refusal _ _ (search rules) c.if-x-ne0.true puts ∙ c.convert-x.ensures.showing;
      within = refusal_within puts;
    }

pub returns : goal.returns
returns c =
    record {
      printed = shows_bytes _ _ c.if-x-ne0.false ∙ c.convert-x.ensures.showing;
      within = c.convert-x.ensures.within;
    }
