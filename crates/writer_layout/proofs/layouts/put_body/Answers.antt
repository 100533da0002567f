-- `writer_layout::layouts::put_body` meets its contract: the chain of the claimed instructions is the body.
-- Assumes nothing.
use Rattle.std.specs.Prelude.{get_or}
use Rattle.std.proofs.Common.{rules, refl}
use Rattle.taskfile.specs.Tables.{end_instruction}
use Rattle.writer.specs.Claims.{claimed_body}
use Rattle.writer.specs.Layout.{instruction_record}
use Rattle.notation_buffers.specs.Laws.PageLaws.{puts_same}
use Rattle.writer_layout.specs.Laws.ChainLaws.{chain_whole}
use Rattle.writer_layout.specs.Laws.CountedLaws.{body_from}
use Rattle.writer_layout.specs.Laws.LayingLaws.{body_linked}
use Rattle.writer_layout.proofs.layouts.put_body.Goals as goal

pub returns : goal.returns
returns c =
    let part = λ (p : _). get_or c.args.e.body p end_instruction in
    puts_same
    (chain_whole body_linked (claimed_body c.args.e) part (λ p lt. body_from c.args.e p refl lt) c.args.r
    c.body_count.ensures.0)
    (c.put_chain.ensures (λ p link. instruction_record (part p) link) (λ p link before after lt call. search rules))
