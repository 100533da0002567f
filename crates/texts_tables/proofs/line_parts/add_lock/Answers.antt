-- `texts_tables::line_parts::add_lock` meets its contract: the arrays and the count are those of the definition.
-- Assumes nothing.
use Rattle.texts.specs.Code.AddedLines.{add_lock}
use Rattle.texts_tables.proofs.line_parts.add_lock.Goals as goal

pub returns : goal.returns
unfolding add_lock
returns c =
    let t = c.args.t.now in
    λ i. record {
      window = t.window;
      store = t.store;
      tasks = t.tasks;
      entries = t.entries;
      locks = c.one_more-t.ensures i;
      ceilings = c.keep.ensures i;
      holdings = c.keep-2.ensures i;
    }
