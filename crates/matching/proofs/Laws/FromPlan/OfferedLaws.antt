-- A value on offer is below 16: so an order byte has its task and its value as its parts.
-- Assumes nothing.
use Rattle.std.specs.Prelude.{◌≡◌, ℕ, ◌+◌, ◌*◌, ◌/◌, ◌%◌, ◌<◌, true}
use Rattle.std.proofs.Common.{arith}
use Rattle.taskfile.specs.Judgement.{instruction_of}
use Rattle.notation.specs.Lists.{member}
use Rattle.timing.specs.declared.Job.{Job}
use Rattle.timing.specs.Accepted.{Accepted}
use Rattle.timing.specs.Code.IsAccepted.{IsAccepted}
use Rattle.timing.specs.Relations.{job_at}
use Rattle.machine.specs.Instructions.{values}
use Rattle.machine.proofs.Laws.ValueLaws.{offered_says}

-- what a job's instruction offers
pub job_offered : {a : Accepted} → IsAccepted a → (x : Job) (p v : ℕ)
    → member v (values (instruction_of a.table (job_at a x).task p)) ≡ true → v < 16
job_offered {a} ok x p v offered =
    let i = (job_at a x).task in
    omega (arith, (ok.is_made.choices i p).few, (offered_says (instruction_of a.table i p) v offered).1)

-- "An order byte is 16 × task + value"
pub byte_task : (b v : ℕ) → v < 16 → (16 * b + v) / 16 ≡ b
byte_task b v small = omega arith

pub byte_value : (b v : ℕ) → v < 16 → (16 * b + v) % 16 ≡ v
byte_value b v small = omega arith
