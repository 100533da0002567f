-- Laws behind the theorem of demand 2: what a caller of the walk's entry sees of an accepted file, where the lent
-- buffer has room. The verdict says whether some complete order fails, and what is shown is the first that does.
-- Assumes nothing.
use Rattle.std.proofs.Math.Path.{◌≡◌, refl, ap}
use Rattle.std.proofs.Common.{sym, ◌∙◌, take-take, take_at, le-leb}
use Rattle.std.specs.Prelude.{◌↔◌, List, ◌++◌, leb, take, drop, replicate}
use Prim.Native.Nat.{ℕ, ◌≤◌, ◌<◌}
use Rattle.std.proofs.Math.Decide.{dec_le}
use native.Mathlib.Omega.{arith}
use Rattle.std.proofs.Math.Option.{Option, none, some}
use Rattle.std.proofs.Math.ListN.{length}
use Rattle.std.proofs.lemmas.List.{take-append-le}
use Rattle.std.proofs.lemmas.Bool.{lt-leb}
use Rattle.notation.specs.Checked.{Checked, refused, passed}
use Rattle.notation.specs.Laws.CheckedLaws.{require_holds, require_fails, bind_goes}
use Rattle.notation.specs.Lists.{padded}
use Rattle.notation.specs.Laws.PaddedLaws.{padded_length}
use Rattle.taskfile.specs.Records.{File}
use Rattle.timing.specs.Accepted.{Accepted, accept}
use Rattle.timing.specs.Code.IsAccepted.{IsAccepted}
use Rattle.machine.specs.Buffers.{order_room, filled}
use Rattle.walk.specs.declared.Verdict.TheVariants.{Holds, Fails}
use Rattle.walk.proofs.Laws.FailingLaws.{walk_first, walk_short, walk_fails, walk_holds}
use Rattle.walk.specs.FailingOrders.{SomeFails, FirstFailing, answered_end}
use Rattle.walk.specs.WalkEntry.{admitted, decided, refusal, verdict_of, decided_answer, shown, decided_bytes}
use Rattle.walk.specs.WalkEntry.{walk_answer_of, walk_after_of, walk_answer, walk_after}
use Rattle.walk.specs.Walks.{EndedOrder, Walked, walk}

-- ---- a walk that the allowance covers, and one that it does not

pub decided_within : (allowance : ℕ) (walked : Walked) → walked.count ≤ allowance
    → decided allowance walked ≡ passed walked
unfolding decided
decided_within allowance walked within =
    require_holds (leb walked.count allowance) 21 0 (passed walked) (le-leb walked.count allowance within)

pub decided_over : (allowance : ℕ) (walked : Walked) → allowance < walked.count
    → decided allowance walked ≡ refused 21 0
unfolding decided
decided_over allowance walked over =
    require_fails (leb walked.count allowance) 21 0 (passed walked) (lt-leb walked.count allowance over)

-- ---- the entry of an accepted file, with room

module _ (f : File) {a : Accepted} (e : accept f ≡ passed a) (allowance : ℕ) (buffer : List ℕ)
    (room : order_room ≤ length buffer) where
  admitted_room : admitted f buffer ≡ passed a
  unfolding admitted
  admitted_room =
      bind_goes _ e
      ∙ require_holds (leb order_room (length buffer)) 20 0 (passed a) (le-leb order_room (length buffer) room)

  pub answer_room : walk_answer f allowance buffer ≡ decided_answer (decided allowance (walk a))
  unfolding walk_answer walk_answer_of
  answer_room = ap (walk_answer_of allowance) admitted_room

  pub after_room : walk_after f allowance buffer ≡ filled order_room (decided_bytes (decided allowance (walk a))) buffer
  unfolding walk_after walk_after_of
  after_room = ap (λ (c : Checked ℕ Accepted). walk_after_of allowance c buffer) admitted_room

-- ---- the buffer

-- the front of a filled buffer is what it was filled with
filled_front : (room : ℕ) (bytes buffer : List ℕ) → length bytes ≤ room
    → take (length bytes) (filled room bytes buffer) ≡ bytes
unfolding filled padded
filled_front room bytes buffer short =
    take-append-le (length bytes) (padded room 0 bytes) (drop room buffer) (omega (arith, padded_length room 0 bytes))
    ∙ take-take (length bytes) room (bytes ++ replicate room 0) short
    ∙ take_at bytes (replicate room 0) (length bytes) refl

-- as many bytes as the answer says are the order to show
decided_front : (c : Checked ℕ Walked) (buffer : List ℕ) → length (decided_bytes c) ≤ order_room
    → take (decided_answer c).length (filled order_room (decided_bytes c) buffer) ≡ decided_bytes c
unfolding decided_bytes decided_answer refusal verdict_of shown
decided_front (refused number place) buffer short = refl
decided_front (passed walked) buffer short = go walked.failing short
  where
    go : (o : Option EndedOrder) → length (shown o) ≤ order_room
        → take (verdict_of walked.count o).length (filled order_room (shown o) buffer) ≡ shown o
    go none short = refl
    go (some found) short = filled_front order_room found.bytes buffer short

-- ---- what is decided, by what the walk comes to

module _ {a : Accepted} (ok : IsAccepted a) (allowance : ℕ) where
  abbrev outcome : Checked ℕ Walked
  outcome = decided allowance (walk a)

  -- an order shown has room
  decided_short : length (decided_bytes outcome) ≤ order_room
  unfolding decided_bytes shown
  decided_short =
      elim (dec_le (walk a).count allowance) [
        | yes within ↦ rw (decided_within allowance (walk a) within) (go (walk a).failing refl)
        | no over ↦ rw (decided_over allowance (walk a) (omega arith)) (omega arith)
      ]
    where
      go : (o : Option EndedOrder) → (walk a).failing ≡ o → length (shown o) ≤ order_room
      go none e = omega arith
      go (some found) e = walk_short ok found e

  -- the buffer holds what is shown, then zeros, and is as it was beyond
  pub decided_filled : (buffer : List ℕ) → let after = filled order_room (decided_bytes outcome) buffer in
      after ≡ filled order_room (take (decided_answer outcome).length after) buffer
  decided_filled buffer =
      ap (λ (bytes : List ℕ). filled order_room bytes buffer) (sym (decided_front outcome buffer decided_short))

  -- what is shown fails, and is the first
  pub decided_first : (buffer : List ℕ) → (decided_answer outcome).verdict ≡ Fails
      → FirstFailing a (take (decided_answer outcome).length (filled order_room (decided_bytes outcome) buffer))
      (answered_end (decided_answer outcome))
  unfolding decided_bytes decided_answer shown verdict_of refusal
  decided_first buffer fails =
      rw (decided_front outcome buffer decided_short)
      (elim (dec_le (walk a).count allowance) [
        | yes within ↦
            rw (decided_within allowance (walk a) within)
            (go (walk a).failing refl (rw (decided_within allowance (walk a) within) at fails))
        | no over ↦
            let none-fails = rw (decided_over allowance (walk a) (omega arith)) at fails in
            absurd (let z : ◌≡◌ {A = ℕ} 0 1 = cc in omega arith)
      ])
    where
      go : (o : Option EndedOrder) → (walk a).failing ≡ o → (verdict_of (walk a).count o).verdict ≡ Fails
          → FirstFailing a (shown o) (answered_end (verdict_of (walk a).count o))
      go none e v = absurd (let z : ◌≡◌ {A = ℕ} 0 1 = cc in omega arith)
      go (some found) e v = walk_first ok found e

  module _ (within : (walk a).count ≤ allowance) where
    -- a failing order is shown exactly if some complete order fails
    pub decided_fails : ((decided_answer outcome).verdict ≡ Fails) ↔ SomeFails a
    unfolding decided_answer verdict_of
    decided_fails = rw (decided_within allowance (walk a) within) (go (walk a).failing refl)
      where
        go : (o : Option EndedOrder) → (walk a).failing ≡ o
            → ((verdict_of (walk a).count o).verdict ≡ Fails) ↔ SomeFails a
        go none e = (λ v. absurd (let z : ◌≡◌ {A = ℕ} 0 1 = cc in omega arith), λ some'. absurd (walk_holds ok e some'))
        go (some found) e = (λ v. walk_fails ok found e, λ some'. refl)

    -- and the walk holds exactly if none does
    pub decided_holds : ((decided_answer outcome).verdict ≡ Holds) ↔ (¬ SomeFails a)
    unfolding decided_answer verdict_of
    decided_holds = rw (decided_within allowance (walk a) within) (go (walk a).failing refl)
      where
        go : (o : Option EndedOrder) → (walk a).failing ≡ o
            → ((verdict_of (walk a).count o).verdict ≡ Holds) ↔ (¬ SomeFails a)
        go none e = (λ v. walk_holds ok e, λ no. refl)
        go (some found) e =
            (λ v. absurd (let z : ◌≡◌ {A = ℕ} 0 1 = cc in omega arith), λ no. absurd (no (walk_fails ok found e)))

    -- the answer's count is the walk's
    pub decided_counted : (decided_answer outcome).count ≡ (walk a).count
    unfolding decided_answer verdict_of
    decided_counted = rw (decided_within allowance (walk a) within) (go (walk a).failing)
      where
        go : (o : Option EndedOrder) → (verdict_of (walk a).count o).count ≡ (walk a).count
        go none = refl
        go (some found) = refl
