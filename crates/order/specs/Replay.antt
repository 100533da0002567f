-- The replay of an order, numbers 30 to 34, and its entry's answer for every input. Document 01, "Numbers by who causes
-- them": "A replay checks 32, 30 at each byte, 31 at the end." Document 02, E1, sets 33 and 34 beside 30.
-- Assumes nothing.
use Rattle.std.specs.Prelude.{ℕ, suc, Bool, not, List, [], ◌∷◌, length, ltb}
use Rattle.notation.specs.Checked.{Checked, passed, require, given, ◌>>=◌, ◌>>◌}
use Rattle.taskfile.specs.Records.{File}
use Rattle.taskfile.specs.Tables.{tasks_of}
use Rattle.timing.specs.Accepted.{Accepted, accept}
use Rattle.machine.specs.declared.RunAnswer.{RunAnswer}
use Rattle.machine.specs.declared.End.{End}
use Rattle.machine.specs.Buffers.{run_answer, unwritten}
use Rattle.order.specs.OrderBytes.{task_of_byte, value_of_byte}
use Rattle.order.specs.States.{State, initial, all_ended}
use Rattle.order.specs.Orders.{turn_of, is_offered, performed, order_end}

-- is it the number of a task of the table?
unfoldable pub is_task : Accepted → ℕ → Bool
is_task a i = ltb i (length (tasks_of a.table))

-- the state after the byte at `index`. "33 for a task number outside the table, then 30 for a job with no turn, then 34
-- for a value, all at the step's index and after 32." It passes where the byte is a step of `Orders` (`SlipLaws`).
unfoldable pub step_at : Accepted → State → ℕ → ℕ → Checked ℕ State
step_at a s index byte = do
  require (is_task a (task_of_byte byte)) 33 index
  turn ← given (turn_of a s (task_of_byte byte)) 30 index
  require (is_offered a turn (value_of_byte byte)) 34 index
  passed (performed a s (value_of_byte byte) turn)

-- the bytes from `index` on. "32 EXTRA: bytes remain after all jobs ended." "31 SHORT: bytes end with jobs unfinished;
-- place is the length."
unfoldable pub replay_from : Accepted → State → ℕ → List ℕ → Checked ℕ State
replay_from a s index [] = do
  require (all_ended a s) 31 index
  passed s
replay_from a s index (byte ∷ bytes) = do
  require (not (all_ended a s)) 32 index
  next ← step_at a s index byte
  replay_from a next (suc index) bytes

unfoldable pub replay : Accepted → List ℕ → Checked ℕ End
replay a order = do
  s ← replay_from a (initial a) 0 order
  passed (order_end s)

-- the replay's entry: the file's numbers, then the replay's
unfoldable pub replayed : File → List ℕ → Checked ℕ End
replayed f order = do
  a ← accept f
  replay a order

unfoldable pub replay_answer : File → List ℕ → RunAnswer
replay_answer f order = run_answer (unwritten (replayed f order))
