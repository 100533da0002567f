-- `machine_performing::instructions::perform_instruction` meets its contract: what is read of the bytes is the effect of what was performed
-- in them.
-- Assumes nothing.
use Rattle.std.proofs.Common.{arith}
use Rattle.machine_performing.specs.Laws.PlacedLaws.{local_inside, local_within, effect_read}
use Rattle.machine_performing.proofs.instructions.perform_instruction.Goals as goal

pub perform_in-failed-requires : goal.perform_in-failed-requires
perform_in-failed-requires c =
    let put = c.put_frame.ensures in
    let stored = c.put_eight.ensures in
    let eight = c.well_formed.1.1.1.0.1.0.1 in
    (omega arith, local_inside eight stored put c.requires.0, local_within eight stored put c.requires.1)

pub returns : goal.returns
returns c =
    effect_read c.well_formed.1.1.1.0.1.0.1 c.put_eight.ensures c.put_frame.ensures _ _ c.perform_in-failed.ensures.failed
    c.perform_in-failed.ensures.made c.frame_at.ensures c.bytes_at-store.ensures (c.ends.ensures _ _ _)
