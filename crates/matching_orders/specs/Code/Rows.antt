-- A plan's steps as an order's bytes, as the functions write them from the marks.
-- Assumes nothing.
use Rattle.std.specs.Prelude.{ℕ, ◌+◌, ◌*◌, ◌&&◌, List, map, ltb, eqb}
use Rattle.std.specs.Prelude.{if◌then◌else◌}
use Rattle.notation.specs.Lists.{up_to, only, each}
use Rattle.order_states.specs.Code.SnapshotSteps.{Program, owner_in}
use Rattle.plan_marks.specs.declared.Marks.{Marks}
use Rattle.plan_marks.specs.Code.Marks.{steps_marked}

-- the byte of a task and a value, where both are below 16
unfoldable pub written_byte : ℕ → ℕ → ℕ
written_byte task value = if ltb task 16 && ltb value 16 then 16 * task + value else 0

-- the bytes of job x in round r
unfoldable pub job_row : Program → Marks → ℕ → ℕ → List ℕ
job_row program marks r x =
    map (λ step. written_byte (owner_in program x) step.value)
    (only (λ step. eqb step.round.0 r) (steps_marked marks x))

-- the bytes of round r, of k jobs
unfoldable pub round_row : Program → Marks → ℕ → ℕ → List ℕ
round_row program marks k r = each (up_to k) (job_row program marks r)

-- the bytes of all k rounds
unfoldable pub rows_in : Program → Marks → ℕ → List ℕ
rows_in program marks k = each (up_to k) (round_row program marks k)
