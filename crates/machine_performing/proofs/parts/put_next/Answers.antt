-- `machine_performing::parts::put_next` meets its contract: the two bytes that it writes are the position's.
-- Assumes nothing.
use Rattle.std.proofs.Common.{◌≡◌, ◌/◌, ◌%◌, arith, rules}
use Rattle.machine_performing.specs.Laws.PartWrites.{next_put}
use Rattle.machine_performing.proofs.parts.put_next.Goals as goal

pub returns : goal.returns
returns c =
    let small : c.args.next / 256 % 256 ≡ c.args.next / 256 = omega arith in
    rw (c.to_le_bytes-bytes.ensures, small) (next_put _ _ _ (search rules) (search rules))
