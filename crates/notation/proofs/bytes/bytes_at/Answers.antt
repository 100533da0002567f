-- `notation::bytes::bytes_at` meets its contract: the slice's bytes are those at the places.
-- Assumes nothing.
use Rattle.std.proofs.Common.{◌∙◌}
use Rattle.notation.specs.Laws.BytesLaws.{bytes_taken}
use Rattle.notation.proofs.bytes.bytes_at.Goals as goal

pub returns : goal.returns
returns g c = c.copy_from_slice.ensures.after ∙ bytes_taken _ _ _ c.requires
