-- `machine_performing::parts::go_on` meets its contract: it goes on from the position that it reads.
-- Assumes nothing.
use Rattle.std.proofs.Common.{◌≡◌, rules}
use Rattle.machine_performing.specs.Laws.PerformedLaws.{skipped_on}
use Rattle.machine_performing.proofs.parts.go_on.Goals as goal

pub returns : goal.returns
returns c =
    let skipped : c.from.result ≡ c.args.n = search rules in
    rw skipped at (skipped_on _ _ c.next_in.ensures c.put_next.ensures)
