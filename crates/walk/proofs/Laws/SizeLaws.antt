-- The answers of a replay and of a walk have eight variables and 32 flags, whatever the file: no step changes how
-- many there are, and a complete order is a run of steps from the table's own eight. So it is known, before any file
-- is read, how many words the answer takes.
-- Assumes nothing.
use Rattle.std.specs.Prelude.{◌≡◌, refl, ℕ, List, [], ◌∷◌, leb, length}
use Rattle.std.proofs.Common.{ap, subst, ◌∙◌, arith}
use Rattle.std.proofs.Math.Option.{Option, none, some, bind}
use Rattle.notation.specs.Checked.{Checked, refused, passed, require}
use Rattle.notation.specs.Laws.CheckedLaws.{passed_same, bind_passed, then_passed}
use Rattle.taskfile.specs.Records.{File}
use Rattle.timing.specs.Accepted.{Accepted, accept}
use Rattle.timing.proofs.Laws.AcceptedLaws.{file_accepted}
use Rattle.timing.specs.Code.IsAccepted.{IsAccepted}
use Rattle.machine.specs.Ends.{Flags, no_flags, no_store}
use Rattle.machine.specs.declared.End.{End}
use Rattle.machine.specs.Buffers.{order_room, run_answer, unwritten}
use Rattle.machine.specs.Instructions.{Store}
use Rattle.machine.proofs.Laws.InstructionLaws.{perform_length}
use Rattle.order.specs.OrderBytes.{value_of_byte}
use Rattle.order.specs.Orders.{Turn, next_of, performed, step, run, order_end}
use Rattle.order.specs.Replay.{replay, replayed, replay_answer}
use Rattle.order.specs.States.{State, initial}
use Rattle.order.proofs.Laws.CompleteLaws.{replay_complete}
use Rattle.order.proofs.Laws.StepLaws.{flag_length, step_says}
use Rattle.walk.proofs.Laws.FailingLaws.{walk_first}
use Rattle.walk.specs.WalkEntry.{admitted, decided, refusal, verdict_of, decided_answer, walk_answer_of, walk_answer}
use Rattle.walk.specs.Walks.{EndedOrder, Walked, walk}

pub record Sized (variables : Store) (failed : Flags) : Type 0 where
  pub eight : length variables ≡ 8
  pub each : length failed ≡ 32

-- ---- the steps of an order

performed_sized : (a : Accepted) (s : State) (v : ℕ) (turn : Turn) → Sized s.store s.failed
    → Sized (performed a s v turn).store (performed a s v turn).failed
unfolding performed
performed_sized a s v turn sized = record {
  eight = perform_length (next_of a turn.frame) v turn.frame.local s.store ∙ sized.eight;
  each = flag_length _ turn.frame.job.0 s.failed ∙ sized.each;
}

run_sized : (a : Accepted) (bytes : List ℕ) (s after : State) → run a s bytes ≡ some after
    → Sized s.store s.failed → Sized after.store after.failed
unfolding run bind
run_sized a [] s after e sized =
    let same : s ≡ after = cc in
    subst (λ (t : State). Sized t.store t.failed) same sized
run_sized a (byte ∷ bytes) s after e sized = go (step a s byte) refl e (λ next h. run_sized a bytes next after h)
  where
    go : (o : Option State) → step a s byte ≡ o → bind o (λ next. run a next bytes) ≡ some after
        → ((next : State) → run a next bytes ≡ some after → Sized next.store next.failed
        → Sized after.store after.failed)
        → Sized after.store after.failed
    go none one h later = absurd (let z : ◌≡◌ {A = ℕ} 0 1 = cc in omega arith)
    go (some next) one h later =
        let made = step_says a s byte one in
        later next h
        (subst (λ (t : State). Sized t.store t.failed) made.made
        (performed_sized a s (value_of_byte byte) made.turn sized))

initial_sized : {a : Accepted} → IsAccepted a → Sized (initial a).store (initial a).failed
unfolding initial no_flags
initial_sized ok = record { eight = ok.is_made.store; each = refl }

-- ---- the replay

zeros_sized : Sized no_store no_flags
unfolding no_store no_flags
zeros_sized = record { eight = refl; each = refl }

end_sized : {a : Accepted} → IsAccepted a → (order : List ℕ) (e : End) → replay a order ≡ passed e
    → Sized e.store e.failed
unfolding order_end
end_sized {a} ok order e h =
    let whole = replay_complete ok order h in
    subst (λ (end_job : End). Sized end_job.store end_job.failed) whole.2
    (run_sized a order (initial a) whole.0 whole.1.allowed (initial_sized ok))

replayed_sized : (c : Checked ℕ End) → ((e : End) → c ≡ passed e → Sized e.store e.failed)
    → Sized (run_answer (unwritten c)).store (run_answer (unwritten c)).failed
unfolding run_answer unwritten
replayed_sized (refused number place) each = zeros_sized
replayed_sized (passed e) each = each e refl

pub replay_sized : (f : File) (order : List ℕ) → Sized (replay_answer f order).store (replay_answer f order).failed
unfolding replay_answer replayed
replay_sized f order =
    replayed_sized (replayed f order)
    (λ e h.
    let parts = bind_passed (accept f) (λ a. replay a order) h in
    end_sized (file_accepted f parts.1) order e parts.2)

-- ---- the walk

-- the failing order is complete, and so a run of steps from the initial state
failing_sized : {a : Accepted} → IsAccepted a → (f : EndedOrder) → (walk a).failing ≡ some f
    → Sized f.ending.store f.ending.failed
unfolding order_end
failing_sized {a} ok f e =
    let whole = (walk_first ok f e).failing.complete in
    subst (λ (end_job : End). Sized end_job.store end_job.failed) whole.ends
    (run_sized a f.bytes (initial a) whole.after whole.complete.allowed (initial_sized ok))

-- ---- the walk's answer

verdict_sized : (count : ℕ) (o : Option EndedOrder)
    → ((f : EndedOrder) → o ≡ some f → Sized f.ending.store f.ending.failed)
    → Sized (verdict_of count o).store (verdict_of count o).failed
unfolding verdict_of
verdict_sized count none each = zeros_sized
verdict_sized count (some f) each = each f refl

decided_sized : {a : Accepted} → IsAccepted a → (c : Checked ℕ Walked) → ((w : Walked) → c ≡ passed w → walk a ≡ w)
    → Sized (decided_answer c).store (decided_answer c).failed
unfolding decided_answer refusal
decided_sized ok (refused number place) same = zeros_sized
decided_sized {a} ok (passed w) same =
    verdict_sized w.count w.failing
    (λ f e. failing_sized ok f (ap (λ (x : Walked). x.failing) (same w refl) ∙ e))

-- what is decided is what was walked
decided_same : (allowance : ℕ) (walked w : Walked) → decided allowance walked ≡ passed w → walked ≡ w
unfolding decided
decided_same allowance walked w e =
    passed_same (then_passed (require (leb walked.count allowance) 21 0) (passed walked) e).2

-- a table to walk is an accepted one
admitted_accepted : (f : File) (buffer : List ℕ) {a : Accepted} → admitted f buffer ≡ passed a → IsAccepted a
unfolding admitted
admitted_accepted f buffer {a} e =
    let parts = bind_passed (accept f) _ e in
    let roomy = then_passed (require (leb order_room (length buffer)) 20 0) (passed parts.0) parts.2 in
    subst IsAccepted (passed_same roomy.2) (file_accepted f parts.1)

answer_sized : (allowance : ℕ) (c : Checked ℕ Accepted) → ((a : Accepted) → c ≡ passed a → IsAccepted a)
    → Sized (walk_answer_of allowance c).store (walk_answer_of allowance c).failed
unfolding walk_answer_of refusal
answer_sized allowance (refused number place) ok = zeros_sized
answer_sized allowance (passed a) ok =
    decided_sized (ok a refl) (decided allowance (walk a)) (λ w e. decided_same allowance (walk a) w e)

pub walk_sized : (f : File) (allowance : ℕ) (buffer : List ℕ)
    → Sized (walk_answer f allowance buffer).store (walk_answer f allowance buffer).failed
unfolding walk_answer
walk_sized f allowance buffer = answer_sized allowance (admitted f buffer) (λ a e. admitted_accepted f buffer e)
