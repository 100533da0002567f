-- `taskfile_tables::tables::table_at` meets its contract, from what the functions that read its parts ensure; the tasks' entries are
-- mapped from their records in one step there and in two in the definition.
-- Assumes nothing.
use Prim.Native.Nat.{ℕ, ◌≤◌}
use mathlib.Core.Path.{◌≡◌, sym, ap, ◌∙◌}
use mathlib.Core.List.{List, map-map}
use lib.ListN.{length, length-map}
use Rattle.taskfile.specs.declared.Filled.{Filled}
use Rattle.taskfile.specs.declared.Locks.{Locks}
use Rattle.taskfile.specs.declared.Table.{Table}
use Rattle.taskfile.specs.declared.TaskEntry.{TaskEntry}
use Rattle.taskfile.specs.Chains.{most_tasks}
use Rattle.notation.specs.Lists.{bytes_at, padded}
use Rattle.notation.specs.Laws.BytesLaws.{bytes_taken}
use Rattle.taskfile.specs.Code.Reading.{linked, linked_task, linked_chains}
use Rattle.taskfile.specs.Code.ReadingParts.{entries_at, locks_read}
use Rattle.taskfile.specs.Records.{File, byte_at, wide_at}
use Rattle.taskfile.specs.Tables.{no_task, entry_at, table_at}
use Rattle.taskfile_tables.proofs.tables.table_at.Goals as goal

table-parts : (f : File) (inside : 16 ≤ length f) (firstTask firstLock window : ℕ) (store : List ℕ) (tasks : Filled TaskEntry 8) (locks : Locks)
    → firstTask ≡ byte_at f 0 2 → tasks ≡ entries_at f firstTask → firstLock ≡ byte_at f 0 3 → locks ≡ locks_read f firstLock
    → window ≡ wide_at f 0 4 → store ≡ bytes_at f 8 8
    → ◌≡◌ {A = Table} (
    record {
      window = window;
      store = store;
      tasks = tasks.count;
      entries = tasks.items;
      locks = locks.count;
      ceilings = locks.ceilings;
      holdings = locks.holdings;
    }
    ) (table_at f (linked_chains f))
unfolding table_at linked_chains entries_at locks_read
table-parts f inside firstTask firstLock window store tasks locks atTask at_tasks atLock at_locks at_window atStore =
    let reached = linked f most_tasks (byte_at f 0 2) in
    let read = at_tasks ∙ ap (entries_at f) atTask in
    let held = at_locks ∙ ap (locks_read f) atLock in
    let count = ap (λ e. e.count) read ∙ sym (length-map reached (linked_task f)) in
    let entries =
    ap (λ e. e.items) read ∙ ap (padded most_tasks no_task) (sym (map-map (entry_at f) (linked_task f) reached)) in
    λ i. record {
      window = at_window i;
      store = (atStore ∙ sym (bytes_taken f 8 8 inside)) i;
      tasks = count i;
      entries = entries i;
      locks = (held i).count;
      ceilings = (held i).ceilings;
      holdings = (held i).holdings;
    }

pub returns : goal.returns
returns c =
    table-parts _ c.requires _ _ _ _ _ _ c.index_at.ensures c.entries_at-tasks.ensures
    c.index_at-2.ensures c.locks_at-locks.ensures c.wide_at.ensures c.bytes_at.ensures
