-- How long a table's layout is: at most 172 records, and at most 145 where the table's fields passed.
-- Assumes nothing.
use Rattle.std.specs.Prelude.{◌≡◌, ◌*◌, ◌≤◌, List, [], ◌∷◌, length}
use Rattle.std.proofs.Common.{arith}
use Rattle.notation.specs.Checked.{passed}
use Rattle.notation.specs.Lists.{sum}
use Rattle.notation.specs.Ordered.{Every}
use Rattle.taskfile.specs.declared.Table.{Table}
use Rattle.taskfile.specs.declared.TaskEntry.{TaskEntry}
use Rattle.taskfile.specs.Chains.{most_instructions}
use Rattle.writer.specs.Claims.{claimed_tasks, claimed_body}
use Rattle.writer.specs.Values.{Fits}
use Rattle.writer.specs.Fields.{fields}
use Rattle.writer.specs.Layout.{layout, layout_room}
use Rattle.writer.specs.WriteEntries.{file_room}
use Rattle.writer.proofs.Laws.CheckedTableLaws.{claims_few}
use Rattle.writer.proofs.Laws.LaidChainLaws.{layout_bytes, layout_most}
use Rattle.writer.proofs.Laws.SiteLaws.{record_total, record_total_cons}

pub layout_length : (t : Table) → Fits t → length (layout t) ≤ layout_room
layout_length t fit = omega (arith, layout_bytes t fit, layout_most t fit)

-- tasks with at most 16 instructions
total_few : (tasks : List TaskEntry) → Every (λ e. length (claimed_body e) ≤ most_instructions) tasks
    → record_total tasks ≤ 17 * length tasks
unfolding record_total sum
total_few [] short = omega arith
total_few (e ∷ others) short = omega (arith, record_total_cons e others, total_few others short.1)

-- 1 + 8 × 17 + 8 records
pub layout_fits : (t : Table) → Fits t → {u : Unit {0}} → fields t ≡ passed u → length (layout t) ≤ file_room
layout_fits t fit sound =
    let few = claims_few t sound in
    omega (arith, layout_bytes t fit, total_few (claimed_tasks t) few.2)
