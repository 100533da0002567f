-- The theorem of demand 3 is proved: what an accepted table's orders and plans have to do with each other.
-- Assumes nothing.
use Rattle.std.proofs.Common.{sym, ap, ◌∙◌}
use Rattle.timing.specs.Accepted.{Accepted}
use Rattle.timing.specs.Code.IsAccepted.{IsAccepted}
use Rattle.timing.proofs.Laws.AcceptedLaws.{file_accepted}
use Rattle.matching.specs.Conversions.{plan_of, order_to_plan, order_of, plan_to_order}
use Rattle.matching.specs.Demand3.{Demand3, MatchingDemand}
use Rattle.matching.proofs.Laws.ConversionLaws as conversions
use Rattle.matching.proofs.Laws.FitsLaws as fits
use Rattle.matching.proofs.Laws.FromOrder.PlannedStepLaws.{steps_planned}

-- what holds of an accepted table
matched : {a : Accepted} → IsAccepted a → Demand3 a
matched {a} ok =
    record {
      orders = λ order e. (
        λ made. (conversions.order_ends ok order made.1).0,
        λ full. (plan_of a order, conversions.order_turns ok full),
      );
      plans = λ plan e. (
        λ made. (conversions.plan_ends ok plan made.1).0,
        λ legal. (order_of a legal.runs, conversions.plan_turns ok plan legal),
      );
      order_back = λ order plan e made.
          let says = conversions.order_ends ok order made in
          ap (plan_to_order a) (sym says.1) ∙ conversions.order_back ok says.0;
      plan_back = λ plan order e made.
          let says = conversions.plan_ends ok plan made in
          ap (order_to_plan a) (sym says.1) ∙ conversions.plan_back ok plan says.0;
      same_ends = λ e. (
        λ full. (plan_of a full.0, conversions.order_legal ok full.1),
        λ legal. (order_of a legal.1.runs, conversions.plan_complete ok legal.0 legal.1),
      );
      rounds = λ order plan e made.
          let says = conversions.order_ends ok order made in
          rw says.1 at (steps_planned ok says.0.complete);
      plan_fits = λ order plan e made.
          let says = conversions.order_ends ok order made in
          rw says.1 at (fits.plan_fits ok (plan_of a order) (conversions.order_legal ok says.0).legal);
      order_fits = λ plan order e made.
          let says = conversions.plan_ends ok plan made in
          rw says.1 at (conversions.plan_complete ok plan says.0).complete.short;
    }

pub demand3 : MatchingDemand
demand3 f a e = matched (file_accepted f e)
