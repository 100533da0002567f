-- `matching_orders::entries::plan_to_order` meets its contract: its answer is that of what the plan comes to.
-- Assumes nothing.
use Rattle.matching.specs.ConversionEntries.{plan_to_order_answer}
use Rattle.matching_orders.proofs.entries.plan_to_order.Goals as goal

pub returns : goal.returns
unfolding plan_to_order_answer
returns c = record { answer = c.written_answer.ensures _ c.convert_plan.ensures.answer; buffer = c.convert_plan.ensures.buffer }
