-- Laws of one byte of a replay: it comes after the end, is no step and earns the number of its slip, or is a step and
-- the replay goes on. So an order's slips are those that `Slips` names.
-- Assumes nothing.
use Rattle.std.proofs.Math.Path.{◌≡◌, refl, sym, ap, subst}
use Rattle.std.proofs.Common.{◌∙◌}
use Rattle.std.proofs.Math.Logic.{inl, inr}
use Prim.Native.Nat.{ℕ, zero, suc, ◌+◌, ◌≤◌}
use native.Mathlib.Omega.{arith}
use Rattle.std.proofs.Math.Bool.{true, not}
use Rattle.std.specs.Prelude.{false, get_or, take}
use Rattle.std.proofs.lemmas.Bool.{false≢true}
use mathlib.Core.List.{List, [], ◌∷◌}
use Rattle.std.proofs.Math.Option.{Option, none, some, bind}
use borrow.Author.Tests.{lt-ltb}
use Rattle.notation.specs.Checked.{Checked, refused, passed, require, given, ◌>>=◌, ◌>>◌}
use Rattle.notation.specs.Laws.CheckedLaws.{refused_passed, passed_same, bind_passed, then_passed, require_passed}
use Rattle.notation.specs.Laws.CheckedLaws.{given_passed, require_holds, require_fails, bind_refused, bind_goes}
use Rattle.notation.specs.Laws.CheckedLaws.{bind_passes}
use Rattle.notation.specs.Laws.TestLaws.{test_decided, not_both, test_holds}
use Rattle.std.specs.Prelude.{if◌then◌else◌}
use Rattle.notation.specs.Lists.{member}
use Rattle.taskfile.specs.Records.{File}
use Rattle.timing.specs.Accepted.{Accepted, accept}
use Rattle.timing.specs.Code.IsAccepted.{IsAccepted}
use Rattle.timing.proofs.Laws.AcceptedLaws.{file_accepted}
use Rattle.timing.proofs.Laws.JobFacts.{job_task}
use Rattle.timing.proofs.Laws.JobNumberLaws.{all_jobs}
use Rattle.order.specs.OrderBytes.{task_of_byte, value_of_byte}
use Rattle.order.specs.Code.Invariant.{Invariant}
use Rattle.order.specs.Orders.{Turn, turn_of, is_offered, performed, step, run, order_end}
use Rattle.order.specs.Replay.{is_task, step_at, replay_from, replay}
use Rattle.order.specs.Slips.{slip_of, slips, SlipsAt, SlipDemand}
use Rattle.order.specs.States.{State, initial, has_ended, all_ended}
use Rattle.order.proofs.Laws.StepLaws.{good_turn, step_says, offered_steps, step_keeps, initial_invariant}

-- ---- the three tests of a byte

-- how a byte comes out of them
data Tested (a : Accepted) (s : State) (byte : ℕ) : Type 0 where
  no_task_lem : is_task a (task_of_byte byte) ≡ false → Tested a s byte
  no_turn : is_task a (task_of_byte byte) ≡ true → turn_of a s (task_of_byte byte) ≡ none → Tested a s byte
  no_offer : is_task a (task_of_byte byte) ≡ true → {turn : Turn} → turn_of a s (task_of_byte byte) ≡ some turn
      → is_offered a turn (value_of_byte byte) ≡ false → Tested a s byte
  all_hold : is_task a (task_of_byte byte) ≡ true → {turn : Turn} → turn_of a s (task_of_byte byte) ≡ some turn
      → is_offered a turn (value_of_byte byte) ≡ true → Tested a s byte

tested : (a : Accepted) (s : State) (byte : ℕ) → Tested a s byte
tested a s byte =
    elim (test_decided (is_task a (task_of_byte byte))) [ inl e ↦ go e (turn_of a s (task_of_byte byte)) refl | inr e ↦ no_task_lem e ]
  where
    go : is_task a (task_of_byte byte) ≡ true → (o : Option Turn) → turn_of a s (task_of_byte byte) ≡ o → Tested a s byte
    go e none due = no_turn e due
    go e (some turn) due =
        elim (test_decided (is_offered a turn (value_of_byte byte))) [ inl offered ↦ all_hold e due offered | inr other ↦ no_offer e due other ]

module _ (a : Accepted) (s : State) (index byte : ℕ) where
  -- a byte that passes the tests is a step
  pub step_at_passed : {next : State} → step_at a s index byte ≡ passed next → step a s byte ≡ some next
  unfolding step_at
  step_at_passed e =
      let task = then_passed (require (is_task a (task_of_byte byte)) _ index) _ e in
      let found = bind_passed (given (turn_of a s (task_of_byte byte)) _ index) _ task.2 in
      let turn : Turn = found.0 in
      let offer = then_passed (require (is_offered a turn (value_of_byte byte)) _ index) (passed (performed a s (value_of_byte byte) turn)) found.2 in
      let offered = test_holds (is_offered a turn (value_of_byte byte)) (require_passed _ _ index offer.1) in
      offered_steps a s byte turn (given_passed _ _ index found.1) offered ∙ ap some (passed_same offer.2)

  -- one that is no step is refused by the first that fails
  pub step_slips : step a s byte ≡ none → step_at a s index byte ≡ refused (slip_of a s byte) index
  unfolding step_at require given slip_of ◌>>=◌ ◌>>◌
  step_slips h = go (tested a s byte)
    where
      go : Tested a s byte → step_at a s index byte ≡ refused (slip_of a s byte) index
      go (no_task_lem e) = rw e refl
      go (no_turn e due) = rw (e, due) refl
      go (no_offer e due other) = rw (e, due, other) refl
      go (all_hold e due offered) = absurd (let clash = sym (offered_steps a s byte _ due offered) ∙ h in let z : ◌≡◌ {A = ℕ} 0 1 = cc in omega arith)

  -- and one that is a step passes them, from a state that an order can reach: the turn's job is of a task of the table
  pub step_passes : IsAccepted a → Invariant a s → {next : State} → step a s byte ≡ some next
      → step_at a s index byte ≡ passed next
  unfolding step_at is_task require given ◌>>=◌ ◌>>◌
  step_passes ok inv e =
      let made = step_says a s byte e in
      let good = good_turn ok inv (task_of_byte byte) made.due in
      let known = job_task ok.is_timed made.turn.frame.job good.0.running.job in
      let listed : is_task a (task_of_byte byte) ≡ true = lt-ltb (task_of_byte byte) _ (omega (arith, good.1)) in
      rw (listed, made.due, made.offered) (ap passed made.made)

-- the number of a slip is one of the three
pub slip_listed : (a : Accepted) (s : State) (byte : ℕ) → member (slip_of a s byte) slips ≡ true
unfolding slip_of member
slip_listed a s byte = go (tested a s byte)
  where
    go : Tested a s byte → member (slip_of a s byte) slips ≡ true
    go (no_task_lem e) = rw e refl
    go (no_turn e due) = rw (e, due) refl
    go (no_offer e due other) = rw (e, due) refl
    go (all_hold e due offered) = rw (e, due) refl

-- and none of them is 0
pub slip_positive : (a : Accepted) (s : State) (byte : ℕ) → 1 ≤ slip_of a s byte
unfolding member
slip_positive a s byte = go (slip_of a s byte) (slip_listed a s byte)
  where
    go : (n : ℕ) → member n slips ≡ true → 1 ≤ n
    go zero h = absurd (false≢true h)
    go (suc n) h = omega arith

-- ---- one byte of a replay

module _ (a : Accepted) (s : State) (index byte : ℕ) (bytes : List ℕ) where
  -- a byte after the end
  pub byte_extra : all_ended a s ≡ true → replay_from a s index (byte ∷ bytes) ≡ refused 32 index
  unfolding replay_from
  byte_extra e = require_fails (not (all_ended a s)) 32 index _ (ap not e)

  -- one before it that is no step
  pub byte_slips : all_ended a s ≡ false → step a s byte ≡ none
      → replay_from a s index (byte ∷ bytes) ≡ refused (slip_of a s byte) index
  unfolding replay_from
  byte_slips e h = require_holds (not (all_ended a s)) 32 index _ (ap not e) ∙ bind_refused _ (step_slips a s index byte h)

module _ {a : Accepted} (ok : IsAccepted a) where
  -- before a step not all jobs have ended: the job whose turn it is has not
  pub step_unended : {s : State} → Invariant a s → (byte : ℕ) {after : State} → step a s byte ≡ some after
      → all_ended a s ≡ false
  unfolding all_ended
  step_unended {s} inv byte e =
      let made = step_says a s byte e in
      let running = (good_turn ok inv (task_of_byte byte) made.due).0.running in
      elim (test_decided (all_ended a s)) [
        | inl ended ↦ absurd
            (not_both (has_ended s made.turn.frame.job)
            (all_jobs a (has_ended s) ended made.turn.frame.job running.job) running.unended)
        | inr going ↦ going
      ]

  -- one that is a step
  pub byte_steps : {s : State} → Invariant a s → (index byte : ℕ) (bytes : List ℕ) {next : State}
      → step a s byte ≡ some next → replay_from a s index (byte ∷ bytes) ≡ replay_from a next (suc index) bytes
  unfolding replay_from
  byte_steps {s} inv index byte bytes h =
      require_holds (not (all_ended a s)) 32 index _ (ap not (step_unended inv byte h))
      ∙ bind_goes _ (step_passes a s index byte ok inv h)

-- ---- the bytes of an order

-- a refusal by another number is none by one of the three
other_number : {X : Type 0} (m : ℕ) {n place at : ℕ} → member m slips ≡ false
    → ◌≡◌ {A = Checked ℕ State} (refused m at) (refused n place) → member n slips ≡ true → X
other_number m {n} other e one =
    let same : m ≡ n = cc in absurd (not_both _ (ap (λ (k : ℕ). member k slips) same ∙ one) other)

-- a slip after one more byte that is a step
slip_later : {a : Accepted} {s next : State} {byte k n : ℕ} {bytes : List ℕ} → step a s byte ≡ some next
    → SlipsAt a next bytes k n → SlipsAt a s (byte ∷ bytes) (suc k) n
unfolding run bind
slip_later h at = record {
  inside = omega (arith, at.inside);
  reached = at.reached;
  allowed = rw h at.allowed;
  unended = at.unended;
  wrong = at.wrong;
  named = at.named;
}

module _ {a : Accepted} (ok : IsAccepted a) where
  -- what was refused by one of the three numbers slips there
  refused_slips : (bytes : List ℕ) {s : State} → Invariant a s → (index : ℕ) {n place : ℕ}
      → replay_from a s index bytes ≡ refused n place → member n slips ≡ true
      → (k : ℕ) × (place ≡ index + k) × SlipsAt a s bytes k n
  unfolding replay_from member run
  refused_slips [] {s} inv index e one =
      elim (test_decided (all_ended a s)) [
        | inl ended ↦ refused_passed (sym e ∙ require_holds (all_ended a s) 31 _ (passed s) ended)
        | inr early ↦ other_number 31 refl (sym (require_fails (all_ended a s) 31 _ (passed s) early) ∙ e) one
      ]
  refused_slips (byte ∷ bytes) {s} inv index {n} {place} e one =
      go (step a s byte) refl (λ next kept h. refused_slips bytes kept (suc index) h one)
    where
      go : (o : Option State) → step a s byte ≡ o
          → ((next : State) → Invariant a next → replay_from a next (suc index) bytes ≡ refused n place
          → (k : ℕ) × (place ≡ suc index + k) × SlipsAt a next bytes k n)
          → (k : ℕ) × (place ≡ index + k) × SlipsAt a s (byte ∷ bytes) k n
      go none h later =
          elim (test_decided (all_ended a s)) [
            | inl ended ↦ other_number 32 refl (sym (byte_extra a s index byte bytes ended) ∙ e) one
            | inr going ↦
                let same = sym (byte_slips a s index byte bytes going h) ∙ e in
                let here : index ≡ place = cc in
                let named : slip_of a s byte ≡ n = cc in (
                  0,
                  omega arith,
                  record { inside = omega arith; reached = s; allowed = refl; unended = going; wrong = h; named = named },
                )
          ]
      go (some next) h later =
          let found = later next (step_keeps ok inv byte h) (sym (byte_steps ok inv index byte bytes h) ∙ e) in
          (suc found.0, omega (arith, found.1), slip_later h found.2)

  -- and what slips there is refused so
  slips_refused : (bytes : List ℕ) {s : State} → Invariant a s → (index k place : ℕ) → place ≡ index + k → {n : ℕ}
      → SlipsAt a s bytes k n → replay_from a s index bytes ≡ refused n place
  unfolding run bind
  slips_refused [] inv index k place is at = absurd (omega (arith, at.inside))
  slips_refused (byte ∷ bytes) {s} inv index zero place is at =
      let here = at.allowed in
      let same : s ≡ at.reached = cc in
      let first : index ≡ place = omega arith in
      let named : slip_of a s byte ≡ _ = ap (λ (t : State). slip_of a t byte) same ∙ at.named in
      byte_slips a s index byte bytes (ap (all_ended a) same ∙ at.unended) (ap (λ (t : State). step a t byte) same ∙ at.wrong)
      ∙ (λ j. refused (named j) (first j))
  slips_refused (byte ∷ bytes) {s} inv index (suc k) place is {n} at =
      go (step a s byte) refl at.allowed (λ next kept h. slips_refused bytes kept (suc index) k place (omega arith) h)
    where
      go : (o : Option State) → step a s byte ≡ o → bind o (λ next. run a next (take k bytes)) ≡ some at.reached
          → ((next : State) → Invariant a next → SlipsAt a next bytes k n → replay_from a next (suc index) bytes ≡ refused
          n place) → replay_from a s index (byte ∷ bytes) ≡ refused n place
      go none h e later = absurd (let z : ◌≡◌ {A = ℕ} 0 1 = cc in omega arith)
      go (some next) h e later =
          byte_steps ok inv index byte bytes h
          ∙ later next (step_keeps ok inv byte h)
          (record {
            inside = omega (arith, at.inside);
            reached = at.reached;
            allowed = e;
            unended = at.unended;
            wrong = at.wrong;
            named = at.named;
          })

  -- so the replay names each slip
  slips_named : SlipDemand a
  unfolding replay
  slips_named =
      record {
        refuses = λ order number index. (
          λ h.
              let found = refused_slips order (initial_invariant a) 0 (bind_passes (replay_from a (initial a) 0 order) order_end h.0) h.1 in
              let here : found.0 ≡ index = omega (arith, found.1) in
              subst (λ (k : ℕ). SlipsAt a (initial a) order k number) here found.2,
          λ at. (
            bind_refused _ (slips_refused order (initial_invariant a) 0 index index (omega arith) at),
            ap (λ (k : ℕ). member k slips) (sym at.named) ∙ slip_listed a at.reached (get_or order index 0),
          ),
        );
      }

-- "A table is accepted if its file earns no number."
pub slip_demand : (f : File) {a : Accepted} → accept f ≡ passed a → SlipDemand a
slip_demand f e = slips_named (file_accepted f e)
