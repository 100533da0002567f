-- A plan's bytes, as the functions write them from the guesses and the marks.
-- Assumes nothing.
use Rattle.std.specs.Prelude.{ℕ, ◌*◌, List, [], ◌∷◌, ◌++◌, take}
use Rattle.notation.specs.Lists.{up_to, each}
use Rattle.plan_marks.specs.declared.Marks.{Marks}
use Rattle.plan_marks.specs.Code.Marks.{steps_marked}

-- the bytes of job x: for each of its steps its round and its value
unfoldable pub job_column : Marks → ℕ → List ℕ
job_column marks x = each (steps_marked marks x) (λ step. step.round.0 ∷ step.value ∷ [])

-- those of k jobs
unfoldable pub columns_in : Marks → ℕ → List ℕ
columns_in marks k = each (up_to k) (job_column marks)

-- a plan of k jobs: k, the guesses, the steps
unfoldable pub plan_in : List ℕ → Marks → ℕ → List ℕ
plan_in guesses marks k = k ∷ take (8 * k) guesses ++ columns_in marks k
