-- `texts_tables::line_parts::store_with` meets its contract: eight bytes, stored one after the other.
-- Assumes nothing.
use Rattle.std.proofs.Common.{◌≡◌, ◌≢◌, ◌∙◌, ap, ℕ, ◌<◌, ◌+◌, List, length, get_or, arith, length-set, below_more, get_or-set_same, get_or-set_other}
use Rattle.notation.specs.Lists.{bytes_at}
use Rattle.notation.specs.Laws.TabulateLaws.{values_are}
use Rattle.texts.specs.declared.Form.TheVariants.{StartLine}
use Rattle.texts.specs.Grammar.{row_of}
use Rattle.texts_reading.specs.Laws.RowOfLaws.{limit_start}
use Rattle.texts_tables.specs.Code.PartFields.{part_fields, PartFits}
use Rattle.texts_tables.proofs.Laws.PartFieldLaws.{field_holds}
use Rattle.texts_tables.proofs.line_parts.store_with.Goals as goal

-- each of the eight numbers is a byte
byte_at : (numbers : List ℕ) → PartFits StartLine numbers → (k : ℕ) → k < 8 → get_or numbers k 0 < 256
unfolding part_fields row_of
byte_at numbers fits k below =
    omega (arith, field_holds (part_fields StartLine) numbers fits k below, limit_start k below)

pub overflow_cast-store : goal.overflow_cast-store
overflow_cast-store c = omega (arith, byte_at c.args.numbers c.requires c.loop-v.v (omega arith))

pub loop-v-preserved : goal.loop-v-preserved
loop-v-preserved c =
    let lt : c.loop-v.v < length c.loop-v.store = omega arith in
    record {
      full = length-set c.loop-v.store c.loop-v.v _ ∙ c.loop-v.invariant.full;
      stored =
          below_more _ _
          (λ k h. let ne : k ≢ c.loop-v.v = omega arith in rw get_or-set_other (c.loop-v.invariant.stored k h))
          (rw get_or-set_same);
    }

pub returns : goal.returns
unfolding bytes_at
returns c =
    values_are (λ k. get_or c.args.numbers (0 + k) 0) 8 c.loop-v.store 0 c.loop-v.invariant.full
    (λ k lt.
    let same : k ≡ 0 + k = omega arith in
    c.loop-v.invariant.stored k (omega arith) ∙ ap (λ (j : ℕ). get_or c.args.numbers j 0) same)
