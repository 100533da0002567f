-- The step on a snapshot, as its functions yield it. The step reads an accepted table in lent arrays of numbers: the
-- program, which is four bytes for each of sixteen instructions of each of eight tasks, and from 512 on the task of
-- each job (8 where there is no job); and the wait table, which is eight bytes for each of 32 jobs: the first job of
-- each task that it need not wait for. The wait table is made from the times, which are the arrival of each of 32
-- jobs, and from 32 on each one's latest finish. `SnapshotLaws` says that this is the step of `Orders`.
-- Assumes nothing.
use Rattle.std.specs.Prelude.{ℕ, zero, suc, ◌+◌, ◌-◌, ◌*◌, Bool, true, false, not, ◌&&◌, ◌||◌, List, [], ◌∷◌, map, get_or, set, take, replicate, leb, ltb, eqb}
use Rattle.std.specs.Prelude.{Option, Some, None}
use Rattle.taskfile.specs.declared.Ceilings.{Ceilings}
use Rattle.taskfile.specs.declared.Instruction.{Instruction}
use Rattle.std.specs.Prelude.{if◌then◌else◌}
use Rattle.notation.specs.Checked.{Checked, refused, passed}
use Rattle.notation.specs.Lists.{any, up_to, member}
use Rattle.timing.specs.declared.Job.{Job}
use Rattle.machine.specs.declared.Effect.{Effect}
use Rattle.machine.specs.Ends.{flagged, no_flags}
use Rattle.machine.specs.Held.{priority}
use Rattle.machine.specs.Instructions.{Store, fresh, values, perform}
use Rattle.order_states.specs.declared.Due.{Due}
use Rattle.order.specs.OrderBytes.{task_of_byte, value_of_byte}
use Rattle.order.specs.declared.Frame.{Frame}
use Rattle.order_states.specs.Code.Snapshots.{Snapshot, Stepped}

-- ---- what the lent arrays say

abbrev pub Program : Type 0
Program = List ℕ

abbrev pub LentTimes : Type 0
LentTimes = List ℕ

abbrev pub WaitTable : Type 0
WaitTable = List ℕ

-- the task of job x
unfoldable pub owner_in : Program → ℕ → ℕ
owner_in program x = get_or program (512 + x) 0

unfoldable pub instruction_in : Program → ℕ → ℕ → Instruction
instruction_in program i p =
    record {
      operation = get_or program (64 * i + 4 * p) 0;
      a = get_or program (64 * i + 4 * p + 1) 0;
      b = get_or program (64 * i + 4 * p + 2) 0;
      c = get_or program (64 * i + 4 * p + 3) 0;
    }

unfoldable pub arrival_in : LentTimes → ℕ → ℕ
arrival_in times x = get_or times x 0

unfoldable pub latest_in : LentTimes → ℕ → ℕ
latest_in times x = get_or times (32 + x) 0

-- does job x come before job y, another job?
unfoldable pub before_in : Program → LentTimes → ℕ → ℕ → Bool
before_in program times x y =
    leb (latest_in times x) (arrival_in times y)
    || leb (arrival_in times x) (arrival_in times y) && leb (owner_in program y) (owner_in program x)

-- may job y preempt job x?
unfoldable pub preempts_in : Program → LentTimes → ℕ → ℕ → Bool
preempts_in program times y x =
    ltb (owner_in program x) (owner_in program y)
    && ltb (arrival_in times x) (arrival_in times y)
    && ltb (arrival_in times y) (latest_in times x)

-- the first job of task k that job y need not wait for
unfoldable pub wait_in : WaitTable → ℕ → ℕ → ℕ
wait_in waits y k = get_or waits (8 * y + k) 0

-- ---- who may start

-- is job x one of task k?
unfoldable pub owned_by : Program → ℕ → ℕ → Bool
owned_by program k x = ltb x 32 && eqb (owner_in program x) k

-- must job y wait for a job of task k, whose first job not yet ended is below the first that it need not wait for?
unfoldable pub waits_for : WaitTable → List ℕ → ℕ → ℕ → Bool
waits_for waits unended y k = ltb (get_or unended k 0) (wait_in waits y k)

-- must it wait for any?
unfoldable pub must_wait : WaitTable → List ℕ → ℕ → Bool
must_wait waits unended y = any (waits_for waits unended y) (up_to 8)

unfoldable pub stack_of : Snapshot → List Frame
stack_of p = take p.depth p.stack

-- what stands for a frame that is not there
unfoldable pub no_frame : Frame
no_frame = record { job = record { 0 = 0 }; local = fresh }

-- what a read past the end of the stack gives
unfoldable pub beyond : Frame
beyond = record { job = record { 0 = 0 }; local = record { next = 0; registers = []; held = [] } }

-- the active job started last
unfoldable pub top_of : Snapshot → Frame
top_of p = get_or p.stack (p.depth - 1) beyond

-- the present priority of the active job started last
unfoldable pub bar_in : Program → Ceilings → Snapshot → ℕ
bar_in program locks p =
    let f = top_of p in
    priority (take locks.count locks.ceilings) (owner_in program f.job.0) f.local.held

-- the lowest base that may start over the active jobs: one above that priority, or 8, which no task has
unfoldable pub level_in : Program → Ceilings → Snapshot → ℕ
level_in program locks p =
    let bar = bar_in program locks p in
    if eqb p.depth 0 then 0 else if ltb (top_of p).job.0 32 && ltb bar 8 then bar + 1 else 8

-- it is nobody's turn
abbrev pub nobody : Option Due
nobody = None

-- may task i's first job not yet ended start, if its base is not below the level `low`?
unfoldable pub starts_above : Program → WaitTable → ℕ → Snapshot → ℕ → Bool
starts_above program waits low p i =
    let y = get_or p.unended i 0 in
    ltb i 8
    && leb low i
    && ltb p.depth 8
    && owned_by program i y
    && not (must_wait waits p.unended y)

abbrev pub starts_in : Program → WaitTable → Ceilings → Snapshot → ℕ → Bool
starts_in program waits locks p i = starts_above program waits (level_in program locks p) p i

-- the turn of the job that starts
unfoldable pub start_turn : Snapshot → ℕ → Due
start_turn p i =
    record {
      frame = record { job = record { 0 = get_or p.unended i 0 }; local = fresh };
      under = p.depth;
    }

unfoldable pub start_in : Program → WaitTable → Ceilings → Snapshot → ℕ → Option Due
start_in program waits locks p i =
    if starts_in program waits locks p i then Some (start_turn p i) else None

-- ---- the turn and the step

-- is it one of task i, of the eight?
unfoldable pub runs_in : Program → Snapshot → ℕ → Bool
runs_in program p i = ltb i 8 && ltb 0 p.depth && owned_by program i (top_of p).job.0

-- the turn of the active job started last
unfoldable pub top_turn : Snapshot → Due
top_turn p = record { frame = top_of p; under = p.depth - 1 }

unfoldable pub turn_in : Program → WaitTable → Ceilings → Snapshot → ℕ → Option Due
turn_in program waits locks p i = if runs_in program p i then Some (top_turn p) else start_in program waits locks p i

-- the snapshot after job x of task i has had an effect, with so many active jobs under it
unfoldable pub after_in : Snapshot → Job → ℕ → ℕ → Effect → Snapshot
after_in p x under i effect =
    record {
      store = effect.store;
      unended = if effect.ended then set p.unended i (x.0 + 1) else p.unended;
      failed = flagged effect.failed x.0 p.failed;
      depth = if effect.ended then under else under + 1;
      stack = set p.stack under (record { job = x; local = effect.local });
    }

-- is the value v on offer to the job in the frame, of task i?
unfoldable pub offered_in : Program → Frame → ℕ → ℕ → Bool
offered_in program f i v = ltb f.local.next 16 && member v (values (instruction_in program i f.local.next))

-- the snapshot after its step with that value
unfoldable pub made_in : Program → Snapshot → Frame → ℕ → ℕ → ℕ → Snapshot
made_in program p f under i v =
    after_in p f.job under i (perform (instruction_in program i f.local.next) v f.local p.store)

-- the step, if the value is on offer
unfoldable pub step_with_in : Program → Snapshot → Frame → ℕ → ℕ → ℕ → Stepped
step_with_in program p f under i v =
    if offered_in program f i v
    then record { allowed = true; state = made_in program p f under i v }
    else record { allowed = false; state = p }

-- the step of the job whose turn it is, if it is anyone's
unfoldable pub due_step : Program → Snapshot → ℕ → ℕ → Option Due → Stepped
due_step program p i v None = record { allowed = false; state = p }
due_step program p i v (Some d) = step_with_in program p d.frame d.under i v

unfoldable pub step_in : Program → WaitTable → Ceilings → Snapshot → ℕ → Stepped
step_in program waits locks p byte = due_step program p (task_of_byte byte) (value_of_byte byte) (turn_in program waits locks p (task_of_byte byte))

-- ---- the replay

-- has task k a job not yet ended?
unfoldable pub has_unended : Program → List ℕ → ℕ → Bool
has_unended program unended k = owned_by program k (get_or unended k 0)

unfoldable pub finished_in : Program → Snapshot → Bool
finished_in program p = eqb p.depth 0 && not (any (has_unended program p.unended) (up_to 8))

-- the number of a byte that is no step, in a table with so many tasks: 33 for its task, 30 for its turn, 34 for its
-- value
unfoldable pub slip_in : Program → WaitTable → Ceilings → ℕ → Snapshot → ℕ → ℕ
slip_in program waits locks tasks p byte =
    if ltb (task_of_byte byte) tasks
    then elim (turn_in program waits locks p (task_of_byte byte)) [ None ↦ 30 | Some d ↦ 34 ]
    else 33

-- the bytes from `index` on
unfoldable pub replay_in : Program → WaitTable → Ceilings → ℕ → Snapshot → ℕ → List ℕ → Checked ℕ Snapshot
replay_in program waits locks tasks p index [] = if finished_in program p then passed p else refused 31 index
replay_in program waits locks tasks p index (byte ∷ bytes) =
    let stepped = step_in program waits locks p byte in
    elim (finished_in program p) [
      | true ↦ refused 32 index
      | false ↦
          elim stepped.allowed [
            | true ↦ replay_in program waits locks tasks stepped.state (suc index) bytes
            | false ↦ refused (slip_in program waits locks tasks p byte) index
          ]
    ]

-- ---- the snapshot that an order starts from

-- how many jobs, of n from job x on, stand before the first of task i or above
unfoldable pub first_from : Program → ℕ → ℕ → ℕ → ℕ
first_from program i x zero = x
first_from program i x (suc n) = elim (ltb (owner_in program x) i) [ true ↦ first_from program i (suc x) n | false ↦ x ]

unfoldable pub first_snapshot : Program → Store → Snapshot
first_snapshot program store =
    record {
      store = store;
      unended = map (λ k. first_from program k 0 32) (up_to 8);
      failed = no_flags;
      depth = 0;
      stack = replicate 8 no_frame;
    }
