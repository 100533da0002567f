-- The order stands at the front of the room, with zeros after it.
-- Assumes nothing.
use Rattle.matching_orders.specs.Laws.WriteLaws.{order_written}
use Rattle.matching_orders.proofs.entries.write_order.Goals as goal

pub returns : goal.returns
returns c = order_written _ c.program_of-program.ensures c.requires c.fill_order.ensures
