-- `texts_tables::line_parts::longer_task` meets its contract: the array and the count are those of the definition.
-- Assumes nothing.
use Rattle.texts.specs.Code.AddedLines.{longer_task}
use Rattle.texts_tables.proofs.line_parts.longer_task.Goals as goal

pub returns : goal.returns
unfolding longer_task
returns c =
    let e = c.args.e.now in
    λ i. record {
      execution = e.execution;
      period = e.period;
      arrival = e.arrival;
      length = c.one_more-e.ensures i;
      body = c.keep.ensures i;
    }
