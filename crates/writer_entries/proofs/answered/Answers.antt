-- `writer_entries::answered` meets its contract: bytes that were written, and a refusal.
-- Assumes nothing.
use Rattle.std.proofs.Common.{ap, ◌∙◌}
use Rattle.taskfile.specs.Code.Refusals.{outcome}
use Rattle.writer_entries.specs.Laws.WrittenTableLaws.{refusal_answers, done_answers}
use Rattle.writer_entries.proofs.answered.Goals as goal

pub returns-in-Ok-clause-answer : goal.returns-in-Ok-clause-answer
returns-in-Ok-clause-answer c check e = done_answers check (e ∙ ap outcome c.in-Ok.is)

pub returns-in-Err-clause-answer : goal.returns-in-Err-clause-answer
returns-in-Err-clause-answer c check e =
    let told = rw (c.at.ensures, c.from.ensures) at c.refused.ensures in
    told ∙ refusal_answers check (e ∙ ap outcome c.in-Err.is)
