-- The plan is written on a page over the buffer, which is then cleared.
-- Assumes nothing.
use Rattle.std.proofs.Common.{rules}
use Rattle.notation_buffers.specs.Laws.FrontLaws.{page_fills}
use Rattle.matching_plans.proofs.columns.fill_plan.Goals as goal

pub returns : goal.returns
returns c =
    let page = c.new-page.ensures in
    page_fills page.holds page.front c.put_plan.ensures c.clear_rest.ensures c.written.ensures.counts (search rules)
