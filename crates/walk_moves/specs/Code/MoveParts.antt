-- The moves of a snapshot, as their functions yield them: the next byte that is a step, and where it is looked for.
-- Assumes nothing.
use Rattle.std.specs.Prelude.{Some, ◌≡◌, ℕ, ◌+◌, ◌*◌, ◌≤◌, ◌<◌, true, false, ◌&&◌, List, leb, ltb, eqb, Option, None}
use Rattle.taskfile.specs.declared.Ceilings.{Ceilings}
use Rattle.taskfile.specs.declared.Instruction.{Instruction}
use Rattle.taskfile.specs.Code.Choices.{lowest, highest}
use Rattle.std.specs.Prelude.{if◌then◌else◌}
use Rattle.order_states.specs.declared.Due.{Due}
use Rattle.order_states.specs.Code.Snapshots.{Snapshot}
use Rattle.order_states.specs.Code.SnapshotSteps.{owner_in, level_in, top_of, turn_in, step_in}

-- a number below the limit that is found, or the limit where none is
abbrev pub FoundBelow : ℕ → (ℕ → Type 0) → Option ℕ → Type 0
FoundBelow limit Is None = Is limit
FoundBelow limit Is (Some m) = (m < limit) × Is m

-- the byte of a move, or 128 where there is none
abbrev pub move_byte : Option ℕ → ℕ
move_byte None = 128
move_byte (Some m) = m

-- no byte from `first` up to `last` is a step
abbrev pub NoStep : List ℕ → List ℕ → Ceilings → Snapshot → ℕ → ℕ → Type 0
NoStep program waits locks p first last =
    (k : ℕ) → first ≤ k → k < last → (step_in program waits locks p k).allowed ≡ false

-- m is the first byte from `byte` on that is a step, or 128 if none below is
pub record NextStep (program waits : List ℕ) (locks : Ceilings) (p : Snapshot) (byte m : ℕ) : Type 0 where
  pub none_before : NoStep program waits locks p byte m
  pub ahead : byte ≤ m
  pub below : m ≤ 128
  pub allowed : m < 128 → (step_in program waits locks p m).allowed ≡ true

-- the first start: no task below the level has one
abbrev pub FirstStart : List ℕ → List ℕ → Ceilings → Snapshot → ℕ → Type 0
FirstStart program waits locks p start = NextStep program waits locks p (16 * level_in program locks p) start

-- of the bytes of task i from the value v on, where the job whose turn it is stands at this position: the first that
-- is a step, or none is
abbrev pub StepOf : List ℕ → ℕ → ℕ → ℕ → ℕ → Type 0
StepOf program i position v m =
    (waits : List ℕ) (locks : Ceilings) (p : Snapshot) (d : Due) → Some d ≡ turn_in program waits locks p i
    → position ≡ d.frame.local.next
    → (m < 128 → NextStep program waits locks p (16 * i + v) m)
    × (128 ≤ m → NoStep program waits locks p (16 * i + v) (16 * (i + 1)))

-- the task of the active job started last, or 8
unfoldable pub running_task : List ℕ → Snapshot → ℕ
running_task program p =
    let x = (top_of p).job.0 in if ltb 0 p.depth && ltb x 32 then owner_in program x else 8

-- where the job stands whose turn task i's is: the running job, if `top` is that task, or else one that starts
unfoldable pub position_in : Snapshot → ℕ → ℕ → ℕ
position_in p top i = if eqb i top then (top_of p).local.next else 0

-- v, or the lowest value where v is below it
unfoldable pub raised : ℕ → ℕ → ℕ
raised v least = if ltb v least then least else v

-- the first value from v on that is on offer at an instruction, or 16
unfoldable pub first_from : Instruction → ℕ → ℕ
first_from o v = let first = raised v (lowest o) in if leb first (highest o) && ltb first 16 then first else 16
