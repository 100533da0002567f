-- An entry's `put` meets its contract: its five parts stand one after the other.
-- Assumes nothing.
use Rattle.writer.specs.Memory.{entry_bytes}
use Rattle.writer_memory.specs.Laws.PieceLaws.{five_put}
use Rattle.writer_memory.proofs.TaskEntryInMemory.put.Goals as goal

pub returns : goal.returns
unfolding entry_bytes
returns c =
    five_put c.put.ensures c.put-2.ensures c.put-3.ensures c.put_word.ensures c.put-4.ensures
