-- What the functions of the reader yield, in terms of the definitions: the records reached as flags, and chains by
-- following indices.
-- Assumes nothing.
use Rattle.std.specs.Prelude.{◌≡◌, ℕ, zero, suc, Bool, List, [], ◌∷◌, ◌++◌, map}
use Rattle.taskfile.specs.Chains.{Chains, TaskChain, most_instructions, most_tasks, most_locks}
use Rattle.notation.specs.Checked.{Checked, refused, passed}
use Rattle.notation.specs.Lists.{up_to, member}
use Rattle.taskfile.specs.Records.{File, byte_at, next}

-- a flag for each of 256 records: was it reached?
unfoldable pub seen_of : List ℕ → List Bool
seen_of reached = map (λ r. member r reached) (up_to 256)

-- a chain that was read: what it comes to and, if it passed, the flags with its records (`all` of them) added
abbrev pub ChainedAs : {A : Type 0} → (A → List ℕ) → Checked ℕ (Unit {0}) → List Bool → List ℕ → Checked ℕ A → Type 0
ChainedAs all check seen reached (refused number place) = check ≡ refused number place
ChainedAs all check seen reached (passed a) = (check ≡ passed tt) × (seen ≡ seen_of (all a ++ reached))

-- the records of a chain by following indices, at most n
unfoldable pub linked : File → ℕ → ℕ → List ℕ
linked f zero index = []
linked f (suc n) zero = []
linked f (suc n) (suc i) = suc i ∷ linked f n (next f (suc i))

-- a task's record, and its body by following indices
unfoldable pub linked_task : File → ℕ → TaskChain
linked_task f r = record { task_record = r; body = linked f most_instructions (byte_at f r 2) }

-- a file's chains by following indices
unfoldable pub linked_chains : File → Chains
linked_chains f =
    record { tasks = map (linked_task f) (linked f most_tasks (byte_at f 0 2)); locks = linked f most_locks (byte_at f 0 3) }
