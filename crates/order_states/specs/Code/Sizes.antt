-- How long the lent arrays are: as the code's constants say, and as contracts cite it.
-- Assumes nothing.
use Rattle.std.specs.Prelude.{ℕ}

-- a state: the store, the first job not yet ended of each task, a flag for each job, the active jobs
abbrev pub state_bytes : ℕ
state_bytes = 192

-- a program: four bytes for each instruction of each task, and the task of each job
abbrev pub program_bytes : ℕ
program_bytes = 544

-- a wait table: a byte for each job and task
abbrev pub wait_bytes : ℕ
wait_bytes = 256
