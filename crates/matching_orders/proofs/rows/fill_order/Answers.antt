-- The rounds are written on a page over the buffer, which is then cleared.
-- Assumes nothing.
use Rattle.std.proofs.Common.{rules}
use Rattle.notation_buffers.specs.Laws.FrontLaws.{page_fills}
use Rattle.matching_orders.proofs.rows.fill_order.Goals as goal

pub returns : goal.returns
returns c =
    let page = c.new-page.ensures in
    page_fills page.holds page.front c.put_rounds.ensures c.clear_rest.ensures c.written.ensures.counts (search rules)
