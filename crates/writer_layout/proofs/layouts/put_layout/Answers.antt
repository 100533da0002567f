-- `writer_layout::layouts::put_layout` meets its contract: the header, the tasks and the locks stand one after the other.
-- Assumes nothing.
use Rattle.std.proofs.Common.{rules}
use Rattle.notation_buffers.specs.Laws.FrontLaws.{page_puts}
use Rattle.writer.proofs.Laws.FitsLaws.{table_fits}
use Rattle.writer.proofs.Laws.LayoutSizes.{layout_length}
use Rattle.writer_layout.specs.Laws.RoomLaws.{appends_within}
use Rattle.writer_layout.specs.Laws.LayingLaws.{layout_laid}
use Rattle.writer_layout.proofs.layouts.put_layout.Goals as goal

pub returns : goal.returns
returns c =
    let laid =
    layout_laid c.args.t c.record_total-locks.ensures.0 c.task_count.ensures.0 c.lock_count.ensures.0
    c.link_at-task.ensures c.link_at-lock.ensures c.put_header.ensures c.put_tasks.ensures c.put_locks.ensures in
    let page = c.new-page.ensures in
    appends_within (layout_length c.args.t (table_fits c.args.t _ c.well_formed.0)) c.requires
    (page_puts page.holds page.front laid c.written.ensures.counts (search rules))
