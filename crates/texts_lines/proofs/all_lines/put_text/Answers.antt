-- `texts_lines::all_lines::put_text` meets its contract: the window, the start values, the tasks and the locks stand one after the
-- other.
-- Assumes nothing.
use Rattle.std.proofs.Common.{rules}
use Rattle.notation_buffers.specs.Laws.FrontLaws.{page_puts}
use Rattle.texts_lines.specs.Laws.TextLineLaws.{text_put}
use Rattle.texts_lines.proofs.all_lines.put_text.Goals as goal

pub returns : goal.returns
returns c =
    let puts =
    text_put _ c.put_window_line.ensures c.put_start_line.ensures c.put_tasks_lines.ensures c.put_lock_lines.ensures
    in
    page_puts c.new-page.ensures.holds c.new-page.ensures.front puts c.written.ensures.counts (search rules)
