-- `writer_layout::layouts::put_locks` meets its contract: the chain of the claimed locks is the definition's.
-- Assumes nothing.
use Rattle.std.specs.Prelude.{get_or}
use Rattle.std.proofs.Common.{rules, refl}
use Rattle.writer.specs.Claims.{lock_array, no_lock, claimed_locks}
use Rattle.writer.specs.Layout.{lock_record}
use Rattle.notation_buffers.specs.Laws.PageLaws.{puts_same}
use Rattle.writer_layout.specs.Laws.ChainLaws.{chain_whole}
use Rattle.writer_layout.specs.Laws.CountedLaws.{locks_from}
use Rattle.writer_layout.specs.Laws.LayingLaws.{locks_linked}
use Rattle.writer_layout.proofs.layouts.put_locks.Goals as goal

pub returns : goal.returns
returns c =
    let lock = λ (l : _). get_or (lock_array c.args.t) l no_lock in
    puts_same
    (chain_whole locks_linked (claimed_locks c.args.t) lock (λ l lt. locks_from c.args.t l refl lt) c.args.r
    c.lock_count.ensures.0)
    (c.put_chain.ensures (λ l link. lock_record (lock l) link) (λ l link before after lt call. search rules))
