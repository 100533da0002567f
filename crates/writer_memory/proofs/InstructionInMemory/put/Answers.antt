-- An instruction's `put` meets its contract: the four bytes are the definition's.
-- Assumes nothing.
use Rattle.writer.specs.Memory.{instruction_bytes}
use Rattle.writer_memory.proofs.InstructionInMemory.put.Goals as goal

pub returns : goal.returns
unfolding instruction_bytes
returns c = c.put_word.ensures
