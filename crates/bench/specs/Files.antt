-- Task files for the bench cases, record by record.
-- Assumes nothing.
use Rattle.std.specs.Prelude.{ℕ, ◌/◌, ◌%◌, List, [], ◌∷◌, ◌++◌, replicate}
use Rattle.taskfile.specs.Records.{File}

-- a wide field, low byte first
unfoldable pub wide : ℕ → List ℕ
wide n = n % 256 ∷ n / 256 % 256 ∷ n / 65536 % 256 ∷ n / 16777216 ∷ []

-- the header: first task, window, store all 0, no locks
unfoldable pub header_record : ℕ → ℕ → List ℕ
header_record first window = 1 ∷ 0 ∷ first ∷ 0 ∷ wide window ++ replicate 8 0

-- a task: next task, first instruction, C, P, A
unfoldable pub task_record : ℕ → ℕ → ℕ → ℕ → ℕ → List ℕ
task_record next first execution period arrival = 2 ∷ next ∷ first ∷ 0 ∷ wide execution ++ wide period ++ wide arrival

-- an instruction: next instruction, operation, a, b, c
unfoldable pub instruction_record : ℕ → ℕ → ℕ → ℕ → ℕ → List ℕ
instruction_record next operation a b c = 4 ∷ next ∷ operation ∷ a ∷ b ∷ c ∷ replicate 10 0

unfoldable pub end_record : List ℕ
end_record = instruction_record 0 0 0 0 0

-- one task with the body End: window, C, P, A
unfoldable pub one_task : ℕ → ℕ → ℕ → ℕ → File
one_task window c p a = header_record 1 window ++ task_record 0 2 c p a ++ end_record

-- two tasks, each with the body End: window, then C, P, A of each
unfoldable pub two_tasks : ℕ → ℕ → ℕ → ℕ → ℕ → ℕ → ℕ → File
two_tasks window c₀ p₀ a₀ c₁ p₁ a₁ =
    header_record 1 window ++ task_record 3 2 c₀ p₀ a₀ ++ end_record ++ task_record 0 4 c₁ p₁ a₁ ++ end_record

-- "Table X: W 5, store all 0; task 0 has C 2, P 8, A 0, body Load 0 0, Load 1 0, skip 1 if 0 equals 1, Assert 2, End;
-- task 1 has C 1, P 4, A 1, body Set 0 1, Store 0 0, End. No locks. 11 records in walk order."
unfoldable pub table_x : File
table_x =
    header_record 1 5
    ++ task_record 7 2 2 8 0
    ++ instruction_record 3 1 0 0 0
    ++ instruction_record 4 1 1 0 0
    ++ instruction_record 5 7 0 1 1
    ++ instruction_record 6 11 2 0 0
    ++ end_record
    ++ task_record 0 8 1 4 1
    ++ instruction_record 9 3 0 1 0
    ++ instruction_record 10 2 0 0 0
    ++ end_record
