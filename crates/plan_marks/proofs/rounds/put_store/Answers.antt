-- `plan_marks::rounds::put_store` meets its contract: eight bytes from the store's place on are those of the store.
-- Assumes nothing.
use native.Mathlib.Omega.{arith}
use Rattle.std.proofs.Common.{◌*◌}
use Rattle.std.proofs.lemmas.Slice.{put_mid-paste}
use Rattle.plan_marks.specs.Code.Marks.{with_store}
use Rattle.plan_marks.proofs.rounds.put_store.Goals as goal

pub returns : goal.returns
unfolding with_store
returns c =
    rw c.from-at.ensures
    (put_mid-paste (8 * c.args.r.0) _ c.args.stores.now _ c.args.store 8 c.copy_from_slice.ensures.after (omega arith) (omega arith))
