-- A state of an order, as its functions see it in lists of fixed length, and what a byte comes to there.
-- Assumes nothing.
use Rattle.std.specs.Prelude.{ℕ, Bool, List}
use Rattle.order.specs.declared.Frame.{Frame}

-- the store, for each task the number of its first job not yet ended, a flag for each failed job, and the active jobs,
-- the first `depth` of the eight, in the order in which they started. Jobs of one task end in order, so a job has
-- ended if its number is below its task's first job not yet ended.
pub record Snapshot : Type 0 where
  pub store : List ℕ
  pub unended : List ℕ
  pub failed : List Bool
  pub depth : ℕ
  pub stack : List Frame

-- whether a byte is an allowed step, and the snapshot after it, or else the one before
pub record Stepped : Type 0 where
  pub allowed : Bool
  pub state : Snapshot
