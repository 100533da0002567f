-- One name for all definitions, so that a proof by computing says `unfolding all_opened`. The search for a response
-- time stays shut, since some tables have periods that no computing reaches the end of: where it is wanted, say
-- `unfolding all_opened response_of`.
-- Assumes nothing.
use Rattle.examples.specs.Laws.Opened
use Rattle.order.proofs.Laws.Opened.{orders_opened}
use Rattle.walk.proofs.Laws.Opened.{walks_opened}
use Rattle.plan.proofs.Laws.Opened.{plans_opened}
use Rattle.matching.specs.ConversionEntries
use Rattle.matching.specs.Conversions
use Rattle.bench.specs.Files

unfoldable pub conversions_opened : Unit {0}
unfolding Conversions.job_bytes Conversions.end_stores Conversions.plan_of
    Conversions.order_to_plan Conversions.step_bytes_in Conversions.order_of Conversions.plan_to_order
    ConversionEntries.planned_order ConversionEntries.order_to_plan_answer ConversionEntries.order_to_plan_after
    ConversionEntries.ordered_plan ConversionEntries.plan_to_order_answer ConversionEntries.plan_to_order_after
conversions_opened = tt

unfoldable pub files_opened : Unit {0}
unfolding Files.wide Files.header_record Files.task_record Files.instruction_record Files.end_record Files.one_task
    Files.two_tasks Files.table_x
files_opened = tt

unfoldable pub all_opened : Unit {0}
unfolding Opened.opened orders_opened walks_opened plans_opened conversions_opened files_opened
all_opened = tt
