-- No job of a snapshot ever holds more than it can by its position: none does where an order starts, and each step
-- keeps it so.
-- Assumes nothing.
use Rattle.std.specs.Prelude.{◌≡◌, ℕ, ◌-◌, List, replicate, Option, Some, IfSome}
use Rattle.std.proofs.Common.{sym, subst, arith}
use Rattle.std.proofs.Math.Logic.{inl, inr}
use Rattle.std.proofs.Math.Decide.{dec_le}
use Rattle.std.proofs.lemmas.List.{get_or-replicate}
use Rattle.std.proofs.Math.ListN.{get_or-eq_default}
use Rattle.notation.specs.Laws.SetLaws.{set_each}
use Rattle.notation.specs.Laws.TestLaws.{test_decided}
use Rattle.taskfile.specs.declared.Ceilings.{Ceilings}
use Rattle.timing.specs.declared.Job.{Job}
use Rattle.machine.specs.declared.Effect.{Effect}
use Rattle.machine.specs.Code.Within.{LocksWithin}
use Rattle.machine.specs.Instructions.{Store}
use Rattle.machine.proofs.Laws.HeldLaws.{nothing_within}
use Rattle.machine.proofs.Laws.WithinLaws.{fresh_within}
use Rattle.order.specs.declared.Frame.{Frame}
use Rattle.order_states.specs.declared.Due.{Due}
use Rattle.order_states.specs.Code.Snapshots.{Snapshot}
use Rattle.order_states.specs.Code.SnapshotSteps.{Program, no_frame, beyond, starts_in, start_turn}
use Rattle.order_states.specs.Code.SnapshotSteps.{start_in, top_of, runs_in, top_turn, turn_in, after_in}
use Rattle.order_states.specs.Code.SnapshotSteps.{first_snapshot}
use Rattle.order_states.specs.Code.SnapshotWithin.{AllWithin}

-- the job in a frame holds no more than it can
abbrev FrameWithin : Frame → Type 0
FrameWithin f = LocksWithin f.local

beyond_within : LocksWithin beyond.local
unfolding beyond
beyond_within = nothing_within 0

no_frame_within : LocksWithin no_frame.local
unfolding no_frame
no_frame_within = fresh_within

-- where an order starts
pub first_snapshot_within : (program : Program) (store : Store) → AllWithin (first_snapshot program store)
unfolding first_snapshot
first_snapshot_within program store = record {
  each = λ k. elim (dec_le 8 k) [
    | yes past ↦ subst FrameWithin (sym (get_or-eq_default (replicate 8 no_frame) beyond past)) beyond_within
    | no below ↦ subst FrameWithin (sym (get_or-replicate 8 k no_frame beyond (omega arith))) no_frame_within
  ];
}

-- ---- whose turn it is

module _ (program waits : List ℕ) (locks : Ceilings) (p : Snapshot) (i : ℕ) where
  abbrev DueWithin : Option Due → Type 0
  DueWithin o = IfSome o (λ d. LocksWithin d.frame.local)

  start_within : DueWithin (start_in program waits locks p i)
  unfolding start_in start_turn
  start_within = elim (test_decided (starts_in program waits locks p i)) [
    | inl starts ↦ rw starts fresh_within
    | inr stays ↦ rw stays tt
  ]

  turn_within : AllWithin p → DueWithin (turn_in program waits locks p i)
  unfolding turn_in top_turn top_of
  turn_within all = elim (test_decided (runs_in program p i)) [
    | inl runs ↦ rw runs (all.each (p.depth - 1))
    | inr other ↦ rw other start_within
  ]

  pub due_within : AllWithin p → {d : Due} → Some d ≡ turn_in program waits locks p i → LocksWithin d.frame.local
  due_within all is = subst DueWithin (sym is) (turn_within all)

-- ---- what it does

pub after_within : {p : Snapshot} → AllWithin p → (x : Job) (under i : ℕ) (effect : Effect) → LocksWithin effect.local
    → AllWithin (after_in p x under i effect)
unfolding after_in
after_within {p} all x under i effect own =
    record { each = set_each FrameWithin beyond p.stack all.each under (record { job = x; local = effect.local }) own }
