-- One name for all definitions of orders, so that a proof by computing says `unfolding orders_opened`.
-- Assumes nothing.
use Rattle.std.proofs.Math.Option.{bind}
use Rattle.order.specs.OrderSteps
use Rattle.order.specs.Orders
use Rattle.order.specs.Replay
use Rattle.order.specs.States

unfoldable pub orders_opened : Unit {0}
unfolding bind States.initial States.has_ended States.is_active States.all_ended States.present_priority
    States.may_start Orders.start_of Orders.turn_among Orders.turn_of Orders.next_of Orders.performed Orders.step_with
    Orders.step Orders.run Orders.order_end Replay.is_task Replay.step_at Replay.replay_from Replay.replay Replay.replayed
    Replay.replay_answer OrderSteps.steps_from OrderSteps.order_steps OrderSteps.steps_of_job OrderSteps.steps_made
    OrderSteps.is_end OrderSteps.ended_count
orders_opened = tt
