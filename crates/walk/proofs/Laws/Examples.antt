-- Computed examples of the walk: the moves of a state in their order, and what a walk comes to.
-- Assumes nothing.
use Rattle.std.specs.Prelude.{◌≡◌, refl, ℕ, List, [], ◌∷◌, map}
use Rattle.std.proofs.Math.Option.{Option, none, some}
use Rattle.notation.specs.Checked.{refused, passed}
use Rattle.timing.specs.Accepted.{Accepted}
use Rattle.machine.specs.Ends.{no_store}
use Rattle.machine.specs.declared.End.{End}
use Rattle.examples.specs.Laws.Opened.{opened}
use Rattle.examples.specs.Laws.Samples.{nest, pair, pick_up_to, idle, twice, apart, wait, sensor, samples_opened}
use Rattle.examples.specs.Laws.Samples.{two_set, first_failed}
use Rattle.order.proofs.Laws.Opened.{orders_opened}
use Rattle.order.specs.Orders.{run}
use Rattle.order.specs.States.{State, initial}
use Rattle.walk.proofs.Laws.Opened.{walks_opened}
use Rattle.walk.specs.Moves.{moves}
use Rattle.walk.specs.WalkEntry.{decided}
use Rattle.walk.specs.Walks.{walk}

-- the bytes of the moves after these steps, if they are steps
unfoldable pub moves_at : Accepted → Option State → List ℕ
moves_at a none = []
moves_at a (some s) = map (λ m. m.byte) (moves a s)

abbrev moves_after : Accepted → List ℕ → List ℕ
moves_after a bytes = moves_at a (run a (initial a) bytes)

-- job 0 failed, and the store is all 0
abbrev first_fails : End
first_fails = record { store = no_store; failed = first_failed }

-- the same with 1 in variable 0
abbrev stored_fails : End
stored_fails = record { store = two_set 1 0; failed = first_failed }

pub record WalkExamples : Type 0 where
  -- "the running job's step, then each start by ascending task, and Pick values ascending"
  pub first_moves : moves_after nest [] ≡ 0 ∷ 16 ∷ 32 ∷ 33 ∷ 34 ∷ 35 ∷ []
  pub running : moves_after nest (0 ∷ 0 ∷ 16 ∷ []) ≡ 16 ∷ 32 ∷ 33 ∷ 34 ∷ 35 ∷ []
  -- job 0 holds a lock with the ceiling 1: job 1 may not start
  pub held : moves_after nest (0 ∷ []) ≡ 0 ∷ 32 ∷ 33 ∷ 34 ∷ 35 ∷ []
  -- job 0 has to wait for job 1
  pub waits : moves_after pair [] ≡ 16 ∷ []
  -- the order that picks 0 holds after three moves; that which picks 1 fails after four more, and 2 is not tried
  pub failing : walk pick_up_to
      ≡ record { failing = some (record { bytes = 1 ∷ 0 ∷ 0 ∷ 0 ∷ []; ending = first_fails }); count = 7 }
  -- "21 UNDECIDED: the walk's count exceeds the allowance, and only then"
  pub allowed : decided 7 (walk pick_up_to) ≡ passed (walk pick_up_to)
  pub undecided : decided 6 (walk pick_up_to) ≡ refused 21 0
  pub holding : walk pair ≡ record { failing = none; count = 2 }
  pub idling : walk idle ≡ record { failing = none; count = 0 }
  -- job 1 starts before job 0 or after 1, 5 or 7 of its seven steps: 7 moves, and 1, 3, 7 and 8 more
  pub counting : walk twice ≡ record { failing = none; count = 26 }
  -- Document 02, E4: job 0 comes before job 1 where it waits for no lock, and may be preempted by it where it may have
  -- to wait. Then an order fails.
  pub apart_holds : walk apart ≡ record { failing = none; count = 7 }
  pub wait_fails : walk wait
      ≡ record {
        failing = some (record { bytes = 16 ∷ 32 ∷ 32 ∷ 32 ∷ 16 ∷ 16 ∷ 16 ∷ 16 ∷ []; ending = stored_fails });
        count = 23;
      }
  -- Document 02, E7: a Pick of 3 to 6. The orders that pick 3 and 4 hold after four moves each; that which picks 5 fails
  -- after five more, and 6 is not tried.
  pub picked : moves_after sensor [] ≡ 3 ∷ 4 ∷ 5 ∷ 6 ∷ []
  pub picked_fails : walk sensor
      ≡ record { failing = some (record { bytes = 5 ∷ 0 ∷ 0 ∷ 0 ∷ 0 ∷ []; ending = first_fails }); count = 13 }

pub walk_examples : WalkExamples
unfolding opened samples_opened orders_opened walks_opened moves_at
walk_examples =
    record {
      first_moves = refl;
      running = refl;
      held = refl;
      waits = refl;
      failing = refl;
      allowed = refl;
      undecided = refl;
      holding = refl;
      idling = refl;
      counting = refl;
      apart_holds = refl;
      wait_fails = refl;
      picked = refl;
      picked_fails = refl;
    }
