-- `notation_buffers::write_byte` meets its contract. Assumes nothing.
use borrow.Author.Rules.{rules}
use Rattle.notation_buffers.specs.Laws.WritingLaws.{appends_past, appends_one}
use Rattle.notation_buffers.proofs.write_byte.Goals as goal

pub returns-then-room-at : goal.returns-then-room-at
returns-then-room-at c = appends_past _ _ _ _ (search rules)

pub returns : goal.returns
returns c = appends_one _ _ _ _ (search rules) (search rules)
