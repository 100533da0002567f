-- The chains of a table's layout: its records stand one after the other, so each chain is a stretch of indices.
-- Assumes nothing.
use Rattle.std.specs.Prelude.{ℕ, suc, List, [], ◌∷◌, length}
use Rattle.notation.specs.Lists.{from}
use Rattle.taskfile.specs.declared.Table.{Table}
use Rattle.taskfile.specs.declared.TaskEntry.{TaskEntry}
use Rattle.taskfile.specs.Chains.{Chains, TaskChain}
use Rattle.writer.specs.Claims.{claimed_tasks, claimed_body, claimed_locks}
use Rattle.writer.specs.Sites.{locks_at}
use Rattle.writer.specs.Layout.{after_task}

-- the task at index r, and its body after it
unfoldable pub laid_task : ℕ → TaskEntry → TaskChain
laid_task r e = record { task_record = r; body = from (suc r) (length (claimed_body e)) }

-- the tasks from index r on
unfoldable pub laid_tasks : ℕ → List TaskEntry → List TaskChain
laid_tasks r [] = []
laid_tasks r (e ∷ others) = laid_task r e ∷ laid_tasks (after_task r e) others

unfoldable pub laid_chains : Table → Chains
laid_chains t =
    record { tasks = laid_tasks 1 (claimed_tasks t); locks = from (locks_at t) (length (claimed_locks t)) }
