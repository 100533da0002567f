-- `machine_performing::effects::skip_equal_in` meets its contract: the closure's test is the definition's.
-- Assumes nothing.
use Rattle.std.proofs.Common.{◌≡◌, refl, rules, eqb}
use Rattle.machine.specs.Instructions.{register, skip_equal}
use Rattle.order_states.specs.Code.StateBytes.{frame_in}
use Rattle.machine_performing.proofs.effects.skip_equal_in.Goals as goal

pub returns : goal.returns
unfolding skip_equal
returns c =
    let done = c.skip_if.ensures in
    let own = (frame_in c.args.s.now c.args.k).local in
    let test : done.0 ≡ eqb (register own c.args.o.a) (register own c.args.o.b) = search rules in
    record { failed = refl; made = rw test at done.2 }
