-- `writer_memory::put_table` meets its contract: its six parts stand one after the other.
-- Assumes nothing.
use Rattle.std.proofs.Common.{arith, rules}
use Rattle.notation_buffers.specs.Laws.FrontLaws.{page_puts}
use Rattle.notation_buffers.specs.Laws.PageLaws.{puts_more}
use Rattle.writer.proofs.Laws.FitsLaws.{table_fits}
use Rattle.writer.proofs.Laws.MemoryLaws.{memory_length}
use Rattle.writer.specs.Memory.{memory_of}
use Rattle.writer_layout.specs.Laws.RoomLaws.{appends_within}
use Rattle.writer_memory.specs.Laws.PieceLaws.{five_put}
use Rattle.writer_memory.proofs.put_table.Goals as goal

pub returns : goal.returns
unfolding memory_of
returns c =
    let page = c.new-page.ensures in
    let whole = memory_length _ (table_fits c.args.t _ c.well_formed.0) in
    let puts =
    puts_more
    (five_put c.put.ensures c.put_word.ensures c.put_word-2.ensures c.put_word-3.ensures c.put-2.ensures)
    c.put-3.ensures in
    record {
      written =
          appends_within (omega (arith, whole)) c.requires
          (page_puts page.holds page.front puts c.written.ensures.counts (search rules));
      whole = whole;
    }
