-- The loop's invariant: the numbers up to the index were written.
-- Assumes nothing.
use Rattle.std.proofs.Common.{◌∷◌}
use Rattle.notation.specs.Letters.{space}
use Rattle.notation.specs.Texts.{decimal}
use Rattle.notation_buffers.specs.Laws.PageLaws.{ListedTo}
use Rattle.notation_buffers.proofs.pages.Page.then_numbers.Given as goal

abbrev pub invariant-loop-byte : goal.invariant-loop-byte
invariant-loop-byte l = ListedTo (λ b. space ∷ decimal b) l.bytes l.byte-index l.initial.self l.self
