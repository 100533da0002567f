-- An instruction performed in place, on the bytes of a state: which of them change, and what they hold afterwards.
-- Assumes nothing.
use Rattle.std.specs.Prelude.{◌≡◌, ℕ, ◌+◌, ◌<◌, ◌≤◌, Bool, ◌⊎◌, List, length, slice_index}
use Rattle.notation.specs.Lists.{bytes_at}
use Rattle.taskfile.specs.declared.Instruction.{Instruction}
use Rattle.machine.specs.declared.Local.{Local}
use Rattle.machine.specs.declared.Effect.{Effect}
use Rattle.machine.specs.Instructions.{Operation, goes_on}
use Rattle.order_states.specs.Code.StateBytes.{frame_at, frame_in}

-- performing an instruction makes the store and the active job at position k what the effect says, and changes no
-- other byte
pub record Performed (before after : List ℕ) (k : ℕ) (effect : Effect) : Type 0 where
  pub same : length after ≡ length before
  pub store : bytes_at after 0 8 ≡ effect.store
  pub frame : frame_in after k ≡ record { job = (frame_in before k).job; local = effect.local }
  pub outside : (j : ℕ) → 8 ≤ j → (j < frame_at k) ⊎ (frame_at k + 16 ≤ j) → slice_index after j ≡ slice_index before j

-- the same state with another next position
unfoldable pub with_next : ℕ → Local → Local
with_next next l = record { next = next; registers = l.registers; held = l.held }

-- the own state of the job at position k was changed so, and nothing else
abbrev pub LocalMade : List ℕ → List ℕ → ℕ → (Local → Local) → Type 0
LocalMade before after k change =
    Performed before after k (goes_on (change (frame_in before k).local) (bytes_at before 0 8))

-- the store is this one now, and nothing else has changed
pub record StoreMade (before after : List ℕ) (store : List ℕ) : Type 0 where
  pub same : length after ≡ length before
  pub inside : bytes_at after 0 8 ≡ store
  pub outside : (j : ℕ) → 8 ≤ j → slice_index after j ≡ slice_index before j

-- an operation was done: its effect was made, and the answer b is whether an assertion failed
pub record Done (operation : Operation) (before after : List ℕ) (k : ℕ) (o : Instruction) (v : ℕ) (b : Bool)
    : Type 0 where
  pub failed : b ≡ (operation o v (frame_in before k).local (bytes_at before 0 8)).failed
  pub made : Performed before after k (operation o v (frame_in before k).local (bytes_at before 0 8))

-- the job at position k has an instruction to perform
abbrev pub Running : List ℕ → ℕ → Type 0
Running bytes k = (k < 8) × ((frame_in bytes k).local.next < 16)
