-- Laws of what a table claims: as many parts as the count says, at most one more than the array holds.
-- Assumes nothing.
use Rattle.std.specs.Prelude.{◌≡◌, ℕ, suc, ◌≤◌, List, [], ◌∷◌, ◌++◌, map, length, take}
use Rattle.std.proofs.Common.{sym, ◌∙◌, arith, length-take, length-append}
use Rattle.std.proofs.lemmas.List.{take-append-le}
use Rattle.notation.specs.Lists.{padded}
use Rattle.notation.specs.Laws.PaddedLaws.{padded_length, padded_held}
use Rattle.taskfile.specs.Chains.{Chains, TaskChain, most_instructions, most_tasks, most_locks}
use Rattle.taskfile.specs.Records.{File, byte_at, wide_at, instruction_at}
use Rattle.taskfile.specs.Tables.{end_instruction, no_task, entry_at, table_at}
use Rattle.writer.specs.Claims.{claimed, claimed_tasks, claimed_body, lock_by_lock, no_lock, claimed_locks}
use Rattle.writer.proofs.Laws.LockLaws.{lock_at, locks_length, locks_take, locks_read_lem}

-- a count that stays within the array claims what it covers
pub claimed_covered : {A : Type 0} (count : ℕ) (array : List A) (blank : A) → count ≤ length array
    → claimed count array blank ≡ take count array
unfolding claimed
claimed_covered count array blank h = take-append-le count array (blank ∷ []) h

-- how many parts are claimed: never more than one too many, and the count itself while it is no more than that
pub claimed_most : {A : Type 0} (count : ℕ) (array : List A) (blank : A)
    → length (claimed count array blank) ≤ suc (length array)
unfolding claimed
claimed_most count array blank = omega (arith, length-take count (array ++ blank ∷ []), length-append array (blank ∷ []))

pub claimed_length : {A : Type 0} (count : ℕ) (array : List A) (blank : A) → count ≤ suc (length array)
    → length (claimed count array blank) ≡ count
unfolding claimed
claimed_length count array blank h =
    omega (arith, length-take count (array ++ blank ∷ []), length-append array (blank ∷ []))

-- an array that holds a list claims that list
claimed_held : {A B : Type 0} (m : ℕ) (d blank : B) (g : A → B) (xs : List A) → length xs ≤ m
    → claimed (length xs) (padded m d (map g xs)) blank ≡ map g xs
claimed_held m d blank g xs few =
    claimed_covered (length xs) (padded m d (map g xs)) blank (omega (arith, padded_length m d (map g xs)))
    ∙ padded_held m d g xs few

-- so the table that chains spell claims what they spell
pub body_spelled : (f : File) (t : TaskChain) → length t.body ≤ most_instructions
    → claimed_body (entry_at f t) ≡ map (instruction_at f) t.body
unfolding claimed_body entry_at
body_spelled f t few = claimed_held most_instructions end_instruction end_instruction (instruction_at f) t.body few

pub tasks_spelled : (f : File) (c : Chains) → length c.tasks ≤ most_tasks
    → claimed_tasks (table_at f c) ≡ map (entry_at f) c.tasks
unfolding claimed_tasks table_at
tasks_spelled f c few = claimed_held most_tasks no_task no_task (entry_at f) c.tasks few

-- two arrays that hold lists of one length claim them joined
pub locks_held : (n m : ℕ) (ceilings holdings : List ℕ) → length ceilings ≡ m → length holdings ≡ m → n ≤ m
    → claimed n (lock_by_lock ceilings holdings) no_lock ≡ lock_by_lock (take n ceilings) (take n holdings)
locks_held n m ceilings holdings full even few =
    claimed_covered n (lock_by_lock ceilings holdings) no_lock
    (omega (arith, locks_length ceilings holdings (full ∙ sym even), full))
    ∙ locks_take n ceilings holdings

pub locks_spelled : (f : File) (c : Chains) → length c.locks ≤ most_locks
    → claimed_locks (table_at f c) ≡ map (lock_at f) c.locks
unfolding claimed_locks table_at
locks_spelled f c few =
    let ceilings = padded_held most_locks 0 (λ r. byte_at f r 2) c.locks few in
    let holdings = padded_held most_locks 0 (λ r. wide_at f r 4) c.locks few in
    locks_held (length c.locks) most_locks _ _ (padded_length most_locks 0 (map (λ r. byte_at f r 2) c.locks))
    (padded_length most_locks 0 (map (λ r. wide_at f r 4) c.locks)) few
    ∙ (λ j. lock_by_lock (ceilings j) (holdings j))
    ∙ locks_read_lem f c.locks
