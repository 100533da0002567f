-- `writer_memory::entry_in` meets its contract: each part is the definition's, and each call gives the instruction at its
-- position.
-- Assumes nothing.
use Rattle.std.specs.Prelude.{◌≡◌, ◌+◌, refl}
use Rattle.std.proofs.Common.{arith, rules, ap, ◌∙◌}
use Rattle.taskfile.specs.Tables.{end_instruction}
use Rattle.writer.specs.Memory.{byte_in, wide_in, entry_in}
use Rattle.writer_memory.specs.Laws.TabulatedLaws.{made_of_values}
use Rattle.writer_memory.proofs.entry_in.Goals as goal

pub returns : goal.returns
unfolding byte_in entry_in
returns c =
    let first : c.args.at + 0 ≡ c.args.at = omega arith in
    let time = c.wide_in.ensures ∙ ap (wide_in c.args.memory.now) first in
    let body = made_of_values _ _ _ (λ i y f' k. search rules) 16 end_instruction c.from_fn.ensures.items in
    rw (time, c.wide_in-2.ensures, c.wide_in-3.ensures, body) refl
