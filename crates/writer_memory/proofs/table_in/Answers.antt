-- `writer_memory::table_in` meets its contract: each part is the definition's, and each call gives the entry of its task.
-- Assumes nothing.
use Rattle.std.specs.Prelude.{ℕ, ◌+◌, ◌*◌, refl}
use Rattle.std.proofs.Common.{rules}
use Rattle.taskfile.specs.Tables.{no_task}
use Rattle.writer.specs.Memory.{entries_at, entry_size, byte_in, entry_in, table_in}
use Rattle.writer_memory.specs.Laws.TabulatedLaws.{made_of_values}
use Rattle.writer_memory.proofs.table_in.Goals as goal

pub returns : goal.returns
unfolding byte_in table_in
returns c =
    let entry = λ (i : ℕ). entry_in c.args.memory.now (entries_at + entry_size * i) in
    let entries = made_of_values _ _ entry (λ i y f' k. search rules) 8 no_task c.from_fn.ensures.items in
    rw (c.wide_in.ensures, c.bytes_at.ensures, entries, c.bytes_at-2.ensures, c.holdings_in.ensures) refl
