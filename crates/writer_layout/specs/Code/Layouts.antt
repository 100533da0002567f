-- Parts of a table's layout, as they are written: a task's record and its body, and the records of a chain.
-- Assumes nothing.
use Rattle.std.specs.Borrow.{MutBor}
use Rattle.std.specs.Prelude.{ℕ, suc, ◌+◌, ◌<◌, List, ◌++◌}
use Rattle.notation.specs.Lists.{up_to, each}
use Rattle.notation_buffers.specs.declared.pages.Page.{Page}
use Rattle.notation_buffers.specs.Code.Pages.{Puts}
use Rattle.taskfile.specs.declared.TaskEntry.{TaskEntry}
use Rattle.taskfile.specs.Records.{File}
use Rattle.writer.specs.Claims.{claimed_body}
use Rattle.writer.specs.Layout.{link_to, body_records, task_record}
use Rattle.writer_layout.specs.Code.ClaimedParts.{link_at}

-- a task at index r whose next record is at index `link`
unfoldable pub task_part : TaskEntry → ℕ → ℕ → File
task_part e r link = task_record e link (link_to (suc r) (claimed_body e)) ++ body_records (suc r) (claimed_body e)

-- each call that writes part p of `count`, with a link to index `link`, writes its record
abbrev pub WritesParts : (ℕ → ℕ → MutBor Page → Unit {0} → MutBor Page → Type 0) → ℕ → (ℕ → ℕ → List ℕ) → Type 0
WritesParts call count records =
    (p link : ℕ) (before after : MutBor Page) → p < count → call p link before tt after
    → Puts before.now (records p link) after.now

-- the records of the first k of a chain's `count` parts, of which the first is at index r
unfoldable pub chain_records : (ℕ → ℕ → List ℕ) → ℕ → ℕ → ℕ → File
chain_records records r count k = each (up_to k) (λ p. records p (link_at (r + p + 1) (p + 1) count))
