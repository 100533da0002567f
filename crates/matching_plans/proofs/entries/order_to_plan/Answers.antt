-- `matching_plans::entries::order_to_plan` meets its contract: its answer is that of what the order comes to.
-- Assumes nothing.
use Rattle.matching.specs.ConversionEntries.{order_to_plan_answer}
use Rattle.matching_plans.proofs.entries.order_to_plan.Goals as goal

pub returns : goal.returns
unfolding order_to_plan_answer
returns c = record { answer = c.written_answer.ensures _ c.convert_order.ensures.answer; buffer = c.convert_order.ensures.buffer }
