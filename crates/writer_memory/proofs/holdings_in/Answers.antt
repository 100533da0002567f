-- `writer_memory::holdings_in` meets its contract: each call gives the holding time at its index.
-- Assumes nothing.
use Rattle.std.proofs.Common.{rules}
use Rattle.writer.specs.Memory.{holdings_in}
use Rattle.writer_memory.specs.Laws.TabulatedLaws.{made_of_values}
use Rattle.writer_memory.proofs.holdings_in.Goals as goal

pub returns : goal.returns
unfolding holdings_in
returns c = made_of_values _ _ _ (λ i y f' k. search rules) 8 0 c.from_fn.ensures.items
