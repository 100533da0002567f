-- `timing_jobs::jobs_within` meets its contract: it is a rounded-up quotient, of 0 where the window ends before the first arrival.
-- Assumes nothing.
use mathlib.Core.Path.{ap₂, ◌∙◌}
use native.Mathlib.Omega.{arith}
use Rattle.timing.specs.Jobs.{jobs_within}
use Rattle.timing.proofs.Laws.JobListLaws.{rounded_up_le}
use Rattle.timing.specs.Response.{rounded_up}
use Rattle.timing_jobs.proofs.jobs_within.Goals as goal

pub returns : goal.returns
unfolding jobs_within
returns c = (
  c.rounded_up.ensures ∙ ap₂ rounded_up (c.from.ensures ∙ c.saturating_sub.ensures) c.from-2.ensures,
  omega (arith, rounded_up_le c.from.result c.from-2.result (omega arith)),
)
