-- `taskfile_tables::tables::entry_at` meets its contract, from what the functions that read the fields and the body ensure.
-- Assumes nothing.
use Prim.Native.Nat.{ℕ}
use mathlib.Core.Path.{◌≡◌, ap, ◌∙◌}
use Rattle.taskfile.specs.declared.Filled.{Filled}
use Rattle.taskfile.specs.declared.Instruction.{Instruction}
use Rattle.taskfile.specs.declared.TaskEntry.{TaskEntry}
use Rattle.taskfile.specs.Code.Reading.{linked_task}
use Rattle.taskfile.specs.Code.ReadingParts.{body_at}
use Rattle.taskfile.specs.Records.{File, byte_at, wide_at}
use Rattle.taskfile.specs.Tables.{entry_at}
use Rattle.taskfile_tables.proofs.tables.entry_at.Goals as goal

entry-parts : (f : File) (r first execution period arrival : ℕ) (read : Filled Instruction 16) → first ≡ byte_at f r 2 → read ≡ body_at f first
    → execution ≡ wide_at f r 4 → period ≡ wide_at f r 8 → arrival ≡ wide_at f r 12
    → ◌≡◌ {A = TaskEntry}
    (record { execution = execution; period = period; arrival = arrival; length = read.count; body = read.items })
    (entry_at f (linked_task f r))
unfolding entry_at linked_task body_at
entry-parts f r first execution period arrival read atFirst atBody atExecution atPeriod atArrival =
    let body = atBody ∙ ap (body_at f) atFirst in
    λ i. record {
      execution = atExecution i;
      period = atPeriod i;
      arrival = atArrival i;
      length = (body i).count;
      body = (body i).items;
    }

pub returns : goal.returns
returns c =
    entry-parts _ _ _ _ _ _ _ c.index_at.ensures
    c.body_at-length.ensures c.wide_at.ensures c.wide_at-2.ensures
    c.wide_at-3.ensures
