-- `machine_performing::perform_in` meets its contract: each arm's operation is the definition's of that number, and every
-- other number is End's.
-- Assumes nothing.
use Rattle.std.proofs.Common.{rules}
use Rattle.machine.specs.Instructions.{operation_effects}
use Rattle.machine.proofs.Laws.InstructionLaws.{perform_operation, performed_end}
use Rattle.machine_performing.specs.Laws.PerformedLaws.{done_as}
use Rattle.machine_performing.proofs.perform_in.Goals as goal

pub returns-in-1 : goal.returns-in-1
unfolding operation_effects
returns-in-1 c = let h = done_as c.load_in.ensures (λ l s. perform_operation 1 _ _ l s c.in-1.is) in record { failed = h.0; made = h.1 }

pub returns-in-2 : goal.returns-in-2
unfolding operation_effects
returns-in-2 c = let h = done_as c.store_in.ensures (λ l s. perform_operation 2 _ _ l s c.in-2.is) in record { failed = h.0; made = h.1 }

pub returns-in-3 : goal.returns-in-3
unfolding operation_effects
returns-in-3 c = let h = done_as c.set_in.ensures (λ l s. perform_operation 3 _ _ l s c.in-3.is) in record { failed = h.0; made = h.1 }

pub returns-in-4 : goal.returns-in-4
unfolding operation_effects
returns-in-4 c = let h = done_as c.add_in.ensures (λ l s. perform_operation 4 _ _ l s c.in-4.is) in record { failed = h.0; made = h.1 }

pub returns-in-5 : goal.returns-in-5
unfolding operation_effects
returns-in-5 c = let h = done_as c.subtract_in.ensures (λ l s. perform_operation 5 _ _ l s c.in-5.is) in record { failed = h.0; made = h.1 }

pub returns-in-6 : goal.returns-in-6
unfolding operation_effects
returns-in-6 c = let h = done_as c.skip_less_in.ensures (λ l s. perform_operation 6 _ _ l s c.in-6.is) in record { failed = h.0; made = h.1 }

pub returns-in-7 : goal.returns-in-7
unfolding operation_effects
returns-in-7 c = let h = done_as c.skip_equal_in.ensures (λ l s. perform_operation 7 _ _ l s c.in-7.is) in record { failed = h.0; made = h.1 }

pub returns-in-8 : goal.returns-in-8
unfolding operation_effects
returns-in-8 c = let h = done_as c.pick_in.ensures (λ l s. perform_operation 8 _ _ l s c.in-8.is) in record { failed = h.0; made = h.1 }

pub returns-in-9 : goal.returns-in-9
unfolding operation_effects
returns-in-9 c = let h = done_as c.acquire_in.ensures (λ l s. perform_operation 9 _ _ l s c.in-9.is) in record { failed = h.0; made = h.1 }

pub returns-in-10 : goal.returns-in-10
unfolding operation_effects
returns-in-10 c = let h = done_as c.release_in.ensures (λ l s. perform_operation 10 _ _ l s c.in-10.is) in record { failed = h.0; made = h.1 }

pub returns-in-11 : goal.returns-in-11
unfolding operation_effects
returns-in-11 c = let h = done_as c.assert_in.ensures (λ l s. perform_operation 11 _ _ l s c.in-11.is) in record { failed = h.0; made = h.1 }

pub returns-in_default : goal.returns-in_default
returns-in_default c = let h = done_as c.end_in.ensures (λ l s. performed_end _ _ l s (search rules)) in record { failed = h.0; made = h.1 }
