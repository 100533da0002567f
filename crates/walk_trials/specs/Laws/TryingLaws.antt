-- The trial as it goes over the bytes of a snapshot: how it starts, goes on, stops and ends.
-- Assumes nothing.
use Rattle.std.specs.Prelude.{◌≡◌, refl, ℕ, ◌+◌, ◌-◌, ◌≤◌, ◌<◌, true, List, length, set}
use Rattle.std.proofs.Math.Option.{some}
use Rattle.taskfile.specs.declared.Ceilings.{Ceilings}
use Rattle.timing.specs.Accepted.{Accepted}
use Rattle.timing.specs.Code.IsAccepted.{IsAccepted}
use Rattle.order_states.specs.Code.Snapshots.{Snapshot}
use Rattle.order.specs.Code.Invariant.{Invariant}
use Rattle.order.specs.Orders.{step}
use Rattle.order_states.specs.Code.Shows.{Lends, Shows}
use Rattle.order_states.proofs.Laws.SnapshotLaws.{step_agreed}
use Rattle.order_states.specs.Code.SnapshotSteps.{step_in}
use Rattle.order.specs.States.{State}
use Rattle.order.proofs.Laws.StepLaws.{step_keeps}
use Rattle.machine.specs.declared.End.{End}
use Rattle.walk_trials.specs.declared.Outcome.{Outcome}
use Rattle.walk_trials.specs.declared.Outcome.TheVariants.{Stopped, Held, Found}
use Rattle.walk_trials.specs.Laws.TrialLaws.{Rest, rest_all, rest_skip, trial_ends, trial_stops, trial_finds, trial_cut, trial_on}
use Rattle.walk_trials.specs.Code.Trials.{Path, Came, Left, WalksAs, TriesAs}
use Rattle.walk_moves.specs.Code.MoveParts.{NoStep}
use Rattle.walk.specs.Code.FromState.{walk_from}

-- at a byte: what was tried held, and what is left starts there
pub record Trying (program waits : List ℕ) (locks : Ceilings) (p : Snapshot) (left count made allowance byte : ℕ)
    (before now : List ℕ) : Type 0 where
  pub within : made ≤ allowance
  pub same : length now ≡ length before
  pub path : Path (511 - left) before now
  pub rest : (a : Accepted) (s : State) → IsAccepted a → Lends a program waits locks → Invariant a s → Shows a p s
      → Rest a s left count made byte

-- and the byte, if there is one, is a step
abbrev pub TryingAt : List ℕ → List ℕ → Ceilings → Snapshot → ℕ → ℕ → ℕ → ℕ → List ℕ → List ℕ → ℕ → Type 0
TryingAt program waits locks p left count made allowance before now byte =
    Trying program waits locks p left count made allowance byte before now
    × (byte < 128 → (step_in program waits locks p byte).allowed ≡ true)

module _ {program waits : List ℕ} {locks : Ceilings} {p : Snapshot} {left count allowance : ℕ} where
  -- it starts at the first byte
  pub trying_starts : {buffer : List ℕ} → count ≤ allowance
      → Trying program waits locks p left count count allowance 0 buffer buffer
  trying_starts le = record {
    within = le;
    same = refl;
    path = record { kept = refl };
    rest = λ a s ok lends inv shows. rest_all ok inv left count;
  }

  -- it passes over bytes that are no steps: what is none of the snapshot is none of the state
  pub trying_skips : {made byte next : ℕ} {before now : List ℕ} → byte ≤ next → next ≤ 128
      → NoStep program waits locks p byte next → Trying program waits locks p left count made allowance byte before now
      → Trying program waits locks p left count made allowance next before now
  trying_skips {byte = byte} {next} le few idle trying = record {
    within = trying.within;
    same = trying.same;
    path = trying.path;
    rest = λ a s ok lends inv shows.
        rest_skip byte next le few (λ k least most. (step_agreed ok lends inv shows k).1 (idle k least most))
        (trying.rest a s ok lends inv shows);
  }

  module _ {made byte : ℕ} {before now : List ℕ} (few : left < 512)
      (trying : Trying program waits locks p left count made allowance byte before now) where
    -- it ends where no byte is left
    pub trying_ends : 128 ≤ byte → {r : Outcome} → r ≡ Held made
        → TriesAs program waits locks p left count allowance before now r
    trying_ends past is a s ok lends inv shows =
        trial_ends few trying.within (trying.rest a s ok lends inv shows) trying.path past is

    -- at a byte that is a step
    module _ (lt : byte < 128) (allowed : (step_in program waits locks p byte).allowed ≡ true) where
      abbrev MovedTo : (a : Accepted) (s : State) → Type 0
      MovedTo a s =
          (after : State) × (step a s byte ≡ some after) × Shows a (step_in program waits locks p byte).state after

      -- the state has that step, too
      moved : (a : Accepted) (s : State) → IsAccepted a → Lends a program waits locks → Invariant a s → Shows a p s
          → MovedTo a s
      moved a s ok lends inv shows = (step_agreed ok lends inv shows byte).0 allowed

      -- it stops where the allowance is spent
      pub trying_stops : allowance ≤ made → {r : Outcome} → r ≡ Stopped
          → TriesAs program waits locks p left count allowance before now r
      trying_stops spent is a s ok lends inv shows =
          trial_stops few trying.within (trying.rest a s ok lends inv shows) trying.path lt
          (moved a s ok lends inv shows).1 spent is

      module _ {out : List ℕ} {r : Outcome} (room : 512 ≤ length now)
          (child : WalksAs program waits locks (step_in program waits locks p byte).state left (made + 1) allowance
          (set now (511 - left) byte) out r) where
        -- the walk below is that of the state after it
        below_came : (a : Accepted) (s : State) (ok : IsAccepted a) (lends : Lends a program waits locks)
            (inv : Invariant a s) (shows : Shows a p s)
            → Came (walk_from a left (moved a s ok lends inv shows).0) (made + 1) allowance (512 - left)
            (set now (511 - left) byte) out r
        below_came a s ok lends inv shows =
            let to = moved a s ok lends inv shows in
            child a to.0 ok lends (step_keeps ok inv byte to.1) to.2

        -- it ends with the order found below
        pub trying_finds : {n l : ℕ} {end : End} → r ≡ Found n l end → TriesAs program waits locks p left count allowance before out r
        trying_finds found a s ok lends inv shows =
            trial_finds few trying.within (trying.rest a s ok lends inv shows) trying.path lt
            (moved a s ok lends inv shows).1 room (below_came a s ok lends inv shows) found

        -- it stops where the walk below did
        pub trying_cut : r ≡ Stopped → TriesAs program waits locks p left count allowance before out r
        trying_cut stopped a s ok lends inv shows =
            trial_cut few trying.within (trying.rest a s ok lends inv shows) trying.path lt
            (moved a s ok lends inv shows).1 room (below_came a s ok lends inv shows) stopped

        -- else it goes on at the next byte
        pub trying_on : {n : ℕ} → r ≡ Held n → Left (511 - left) allowance before out n
            → Trying program waits locks p left count n allowance (byte + 1) before out
        trying_on held leaves = record {
          within = leaves.1;
          same = leaves.0;
          path = leaves.2;
          rest = λ a s ok lends inv shows.
              trial_on few trying.within (trying.rest a s ok lends inv shows) trying.path lt
              (moved a s ok lends inv shows).1 room (below_came a s ok lends inv shows) held;
        }
