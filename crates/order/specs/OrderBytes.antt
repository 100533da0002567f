-- An order's byte. Document 01, "Orders of steps": "An order byte is 16 × task + value, the value being the Pick's
-- choice, else 0."
-- Assumes nothing.
use Rattle.std.specs.Prelude.{ℕ, ◌+◌, ◌*◌, ◌/◌, ◌%◌}

abbrev pub order_byte : ℕ → ℕ → ℕ
order_byte task value = 16 * task + value

abbrev pub task_of_byte : ℕ → ℕ
task_of_byte byte = byte / 16

abbrev pub value_of_byte : ℕ → ℕ
value_of_byte byte = byte % 16
