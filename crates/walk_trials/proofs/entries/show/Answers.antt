-- The order's bytes are written on a page over the buffer, which is then cleared.
-- Assumes nothing.
use Rattle.std.proofs.Common.{refl, ◌≡◌, ◌∙◌, rules}
use Rattle.notation_buffers.specs.Code.Pages.{Fills}
use Rattle.notation_buffers.specs.Laws.FrontLaws.{page_fills}
use Rattle.walk_trials.proofs.entries.show.Goals as goal

pub returns : goal.returns
returns c =
    let page = c.new-page.ensures in
    let end = c.clear_rest.new.self in
    let made : Fills c.args.out.now c.args.order.now end.bytes.now end.at =
    page_fills page.holds page.front c.put_word.ensures c.clear_rest.ensures refl refl in
    let left : _ ≡ end.bytes.now = search rules in
    left ∙ made.fills
