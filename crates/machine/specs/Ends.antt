-- How an order or a plan ends. Document 01, "Orders of steps": "It ends with the store left and the failed jobs,
-- those with a failed assertion noted."
-- Assumes nothing.
use Rattle.std.specs.Prelude.{ℕ, Bool, true, false, List, set, replicate}
use Rattle.std.specs.Prelude.{if◌then◌else◌}
use Rattle.machine.specs.Instructions.{Store}

-- a flag for each of the 32 jobs that a table may have
abbrev pub Flags : Type 0
Flags = List Bool

unfoldable pub no_flags : Flags
no_flags = replicate 32 false

-- the flags with job x's raised if the test holds
unfoldable pub flagged : Bool → ℕ → Flags → Flags
flagged test x flags = if test then set flags x true else flags

-- "every other field zero"
unfoldable pub no_store : Store
no_store = replicate 8 0
