-- A job's held locks, and its priority. Document 02, E3: "A job shall hold a count per lock, up by one at Acquire, down
-- by one at Release, unchanged at zero, and cleared by End. A ceiling applies while the count is above zero." So this
-- sentence of document 01, "Instructions", no longer stands: "Acquire adds a lock to the job's held set, Release
-- removes it; either changes nothing if the set is already so." This one does: "A job's priority is the largest of its
-- base and the ceilings it holds." Other definitions use the names below and never the counts.
-- Assumes nothing.
use Rattle.std.specs.Prelude.{ℕ, ◌+◌, ◌-◌, Bool, List, ◌∷◌, map, length, get_or, set, replicate, ltb}
use Rattle.std.specs.Prelude.{if◌then◌else◌}
use Rattle.notation.specs.Lists.{up_to, only, largest}

-- "a count per lock"
abbrev pub Held : Type 0
Held = List ℕ

abbrev pub count_of : Held → ℕ → ℕ
count_of held lock = get_or held lock 0

-- "holds no lock then"; "cleared by End"
unfoldable pub no_locks : Held
no_locks = replicate 8 0

-- "A ceiling applies while the count is above zero."
unfoldable pub holds : Held → ℕ → Bool
holds held lock = ltb 0 (count_of held lock)

-- "up by one at Acquire"
unfoldable pub acquire : Held → ℕ → Held
acquire held lock = set held lock (count_of held lock + 1)

-- "down by one at Release, unchanged at zero"
unfoldable pub release : Held → ℕ → Held
release held lock = if holds held lock then set held lock (count_of held lock - 1) else held

-- the ceilings that apply: those of the held locks
unfoldable pub held_ceilings : List ℕ → Held → List ℕ
held_ceilings ceilings held = map (λ lock. get_or ceilings lock 0) (only (holds held) (up_to (length ceilings)))

-- "A job's priority is the largest of its base and the ceilings it holds."
unfoldable pub priority : List ℕ → ℕ → Held → ℕ
priority ceilings base held = largest (base ∷ held_ceilings ceilings held)
