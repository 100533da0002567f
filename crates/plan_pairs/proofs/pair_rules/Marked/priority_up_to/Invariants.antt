-- `plan_pairs::pair_rules::Marked::priority_up_to` meets its contract. The loop's invariant: the priority asked for is the last one
-- of the steps up to r from n on, or the present one.
-- Assumes nothing.
use Rattle.plan_pairs.specs.Laws.StepLaws.{PriorityFrom}
use Rattle.plan_pairs.proofs.pair_rules.Marked.priority_up_to.Given as goal

abbrev pub invariant-loop-n : goal.invariant-loop-n
invariant-loop-n l = PriorityFrom l.self.marks.now l.initial.priority l.x.number l.r l.count l.priority l.n
