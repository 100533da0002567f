-- `order_lending::locks_of` meets its contract: its parts are the definition's.
-- Assumes nothing.
use mathlib.Core.Path.{refl}
use Rattle.order_lending.specs.Code.Lending.{locks_of}
use Rattle.order_lending.proofs.locks_of.Goals as goal

pub returns : goal.returns
unfolding locks_of
returns c = refl
