-- The table with what stands past its counts made blank, as the reader leaves it: that is no part of the table.
-- Assumes nothing.
use Rattle.std.specs.Prelude.{map}
use Rattle.notation.specs.Lists.{padded}
use Rattle.taskfile.specs.declared.Table.{Table}
use Rattle.taskfile.specs.declared.TaskEntry.{TaskEntry}
use Rattle.taskfile.specs.Chains.{most_tasks, most_locks, most_instructions}
use Rattle.taskfile.specs.Tables.{tasks_of, body_of, ceilings_of, holdings_of, end_instruction, no_task}

unfoldable pub covered_entry : TaskEntry → TaskEntry
covered_entry e =
    record {
      execution = e.execution;
      period = e.period;
      arrival = e.arrival;
      length = e.length;
      body = padded most_instructions end_instruction (body_of e);
    }

unfoldable pub covered : Table → Table
covered t =
    record {
      window = t.window;
      store = t.store;
      tasks = t.tasks;
      entries = padded most_tasks no_task (map covered_entry (tasks_of t));
      locks = t.locks;
      ceilings = padded most_locks 0 (ceilings_of t);
      holdings = padded most_locks 0 (holdings_of t);
    }
