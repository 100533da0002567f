-- `writer_layout::layouts::put_task` meets its contract: the record and the body stand one after the other.
-- Assumes nothing.
use Rattle.writer_layout.specs.Laws.LayingLaws.{task_laid}
use Rattle.writer_layout.proofs.layouts.put_task.Goals as goal

pub returns : goal.returns
returns c =
    task_laid c.args.e c.args.r c.args.link c.body_count.ensures.0 c.link_at-first.ensures c.put_task_record.ensures
    c.put_body.ensures
