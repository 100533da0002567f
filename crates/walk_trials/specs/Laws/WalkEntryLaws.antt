-- The walk's entry: what it answers and what the lent buffer then holds, by what the file and the walk come to.
-- Assumes nothing.
use Rattle.std.specs.Prelude.{◌≡◌, refl, leb, length}
use Rattle.std.proofs.Math.Path.{sym, ap}
use Rattle.std.proofs.Common.{subst, ◌∙◌, zero-add, arith, length-take-le}
use Prim.Native.Nat.{ℕ, ◌≤◌, ◌<◌}
use Rattle.std.proofs.Math.Decide.{dec_le}
use mathlib.Core.List.{List, ◌++◌}
use Rattle.std.proofs.Math.Option.{Option, none, some}
use Rattle.std.proofs.Math.ListN.{take, drop}
use Rattle.std.proofs.lemmas.Bool.{lt-leb, le-leb, leb-true}
use Rattle.taskfile.specs.declared.Table.{Table}
use Rattle.notation.specs.Checked.{Checked, refused, passed, mapped, require}
use Rattle.notation.specs.Laws.CheckedLaws.{require_fails, require_holds, require_passed, then_passed, bind_passed, bind_refused, bind_goes}
use Rattle.notation.specs.Lists.{padded}
use Rattle.notation.specs.Laws.TestLaws.{test_holds}
use Rattle.taskfile.specs.Records.{File}
use Rattle.timing.specs.declared.AcceptedFile.{AcceptedFile}
use Rattle.timing.specs.declared.JobList.{JobList}
use Rattle.timing.specs.Accepted.{Accepted, accept}
use Rattle.timing.proofs.Laws.AcceptedLaws.{file_accepted}
use Rattle.timing.specs.Code.IsAccepted.{IsAccepted}
use Rattle.timing.proofs.Laws.AcceptLaws.{accepted_refused, accepted_passed}
use Rattle.timing.specs.Code.AcceptParts.{AcceptedParts, accepted_file}
use Rattle.machine.specs.Ends.{no_store, no_flags}
use Rattle.machine.specs.Buffers.{order_room, filled}
use Rattle.order.specs.States.{initial}
use Rattle.order.proofs.Laws.StepLaws.{initial_invariant}
use Rattle.walk_trials.specs.declared.Outcome.{Outcome}
use Rattle.walk_trials.specs.declared.Outcome.TheVariants.{Stopped, Held, Found}
use Rattle.walk.specs.WalkEntry.{admitted, decided, refusal, verdict_of, decided_answer, shown, decided_bytes}
use Rattle.walk.specs.WalkEntry.{walk_answer_of, walk_after_of, walk_answer, walk_after}
use Rattle.walk_trials.specs.Code.Outcomes.{Short, answer_of, shown_length}
use Rattle.walk_trials.specs.Code.Trials.{Came, WalkEndsAs, WalksAs}
use Rattle.walk_trials.specs.Code.WalkParts.{WalkOf}
use Rattle.order_states.specs.Code.StateBytes.{snapshot_in}
use Rattle.order_states.specs.declared.Lent.{Lent}
use Rattle.order_lending.specs.Code.Lending.{LentOf}
use Rattle.walk_trials.specs.Laws.OutcomeLaws.{answer_stopped, answer_found, answer_held, length_found, length_none, short_shown}
use Rattle.walk.proofs.Laws.FailingLaws.{walk_short}
use Rattle.walk.proofs.Laws.ShownLaws.{decided_within, decided_over, answer_room, after_room}
use Rattle.walk.specs.Code.FromState.{walk_from}
use Rattle.walk.specs.Walks.{EndedOrder, Walked, walk}

pub walk_lent : {t : Table} {list : JobList} {l : Lent} {allowance : ℕ} {before after : List ℕ} {r : Outcome}
    → LentOf t list l
    → WalksAs l.program l.waits l.locks (snapshot_in l.start.bytes) 512 0 allowance before after r
    → WalkOf t list allowance before after r
unfolding walk walk_from
walk_lent lent walks a ok table listed =
    walks a (initial a) ok (lent.lends a ok table listed) (initial_invariant a) (lent.shows a ok table listed)

-- ---- the outcome

-- the answer is the outcome's, and the buffer's front the order's bytes
pub record EntryOf (c : Checked ℕ Walked) (out : List ℕ) (r : Outcome) : Type 0 where
  pub answer : answer_of r ≡ decided_answer c
  pub front : take (shown_length r) out ≡ decided_bytes c
  pub counted : shown_length r ≡ length (decided_bytes c)
  pub short : length (decided_bytes c) ≤ 512

-- stopped by the allowance
entry_stopped : (out : List ℕ) (r : Outcome) → r ≡ Stopped → EntryOf (refused 21 0) out r
unfolding decided_answer decided_bytes
entry_stopped out r stopped =
    let nothing = sym (length_none r (λ n l end found.
    let clash : Stopped ≡ Found n l end = sym stopped ∙ found in cc)) in
    record { answer = sym (answer_stopped r stopped); front = ap (λ (n : ℕ). take n out) nothing; counted = nothing; short = omega arith }

-- nothing found
entry_held : (out : List ℕ) (r : Outcome) (walked : Walked) → walked.failing ≡ none
    → r ≡ Held walked.count → EntryOf (passed walked) out r
unfolding decided_answer decided_bytes verdict_of shown no_store no_flags
entry_held out r walked e held =
    let nothing = sym (length_none r (λ n l end found.
    let clash : Held walked.count ≡ Found n l end = sym held ∙ found in cc)) in
    record {
      answer = sym (answer_held r held) ∙ rw e refl;
      front = ap (λ (n : ℕ). take n out) nothing ∙ rw e refl;
      counted = nothing ∙ rw e refl;
      short = rw e (omega arith);
    }

-- an order found
entry_found : (out : List ℕ) (r : Outcome) (walked : Walked) (f : EndedOrder) → walked.failing ≡ some f
    → length f.bytes ≤ 512 → WalkEndsAs (some f) walked.count 0 out r
    → EntryOf (passed walked) out r
unfolding decided_answer decided_bytes verdict_of shown
entry_found out r walked f e short ends =
    let whole = zero-add (length f.bytes) in
    let long : shown_length r ≡ length f.bytes = sym (length_found r ends.0) ∙ whole in
    record {
      answer = sym (answer_found r ends.0) ∙ rw (e, whole) refl;
      front = ap (λ (n : ℕ). take n out) (long ∙ sym (zero-add (length f.bytes))) ∙ ends.1 ∙ rw e refl;
      counted = long ∙ rw e refl;
      short = rw e short;
    }

module _ {a : Accepted} (ok : IsAccepted a) {allowance : ℕ} {buffer out : List ℕ} {r : Outcome} (came : Came (walk a) 0 allowance 0 buffer out r) where
  entry_within : (walk a).count ≤ allowance → (o : Option EndedOrder) → (walk a).failing ≡ o
      → WalkEndsAs o (walk a).count 0 out r → EntryOf (passed (walk a)) out r
  entry_within within none e ends = entry_held out r (walk a) e ends
  entry_within within (some f) e ends = entry_found out r (walk a) f e (walk_short ok f e) ends

  pub entry : EntryOf (decided allowance (walk a)) out r
  entry =
      elim (dec_le (walk a).count allowance) [
        | yes within ↦
            let ended = came.whole (omega arith) in
            subst (λ (c : Checked ℕ Walked). EntryOf c out r) (sym (decided_within allowance (walk a) within))
            (entry_within within (walk a).failing refl
            (subst (λ (n : ℕ). WalkEndsAs (walk a).failing n 0 out r) (zero-add (walk a).count) ended))
        | no over ↦
            let cut = came.cut (omega arith) in
            subst (λ (c : Checked ℕ Walked). EntryOf c out r) (sym (decided_over allowance (walk a) (omega arith))) (entry_stopped out r cut)
      ]

-- ---- what is admitted

module _ (f : File) (buffer : List ℕ) where
  -- a file that is refused
  pub admitted_refused : {n p : ℕ} → refused n p ≡ mapped accepted_file (accept f)
      → refused n p ≡ mapped accepted_file (admitted f buffer)
  unfolding admitted mapped
  admitted_refused e = rw (bind_refused _ (accepted_refused (accept f) e))

  module _ {x : AcceptedFile} (says : passed x ≡ mapped accepted_file (accept f)) where
    abbrev found : (a : Accepted) × (accept f ≡ passed a) × AcceptedParts x a
    found = accepted_passed (accept f) says

    -- a buffer that is too short
    pub admitted_short : length buffer < 512 → refused 20 0 ≡ mapped accepted_file (admitted f buffer)
    unfolding admitted mapped
    admitted_short lt =
        sym (ap (mapped accepted_file)
        (bind_goes _ found.1 ∙ require_fails (leb order_room (length buffer)) 20 0 (passed found.0) (lt-leb 512 (length buffer) lt)))

    pub admitted_room : 512 ≤ length buffer → passed x ≡ mapped accepted_file (admitted f buffer)
    unfolding admitted
    admitted_room le =
        says
        ∙ ap (mapped accepted_file)
        (found.1
        ∙ sym (bind_goes _ found.1
        ∙ require_holds (leb order_room (length buffer)) 20 0 (passed found.0) (le-leb 512 (length buffer) le)))

  -- what is admitted was accepted, and the buffer has room
  pub admitted_passed : {x : AcceptedFile} → passed x ≡ mapped accepted_file (admitted f buffer)
      → (passed x ≡ mapped accepted_file (accept f)) × (512 ≤ length buffer)
  unfolding admitted
  admitted_passed says =
      let admits = accepted_passed (admitted f buffer) says in
      let accepts = bind_passed (accept f) _ admits.1 in
      let holds = then_passed (require (leb order_room (length buffer)) 20 0) (passed accepts.0) accepts.2 in (
        says ∙ ap (mapped accepted_file) (admits.1 ∙ sym (accepts.1 ∙ holds.2)),
        leb-true _ _ (test_holds _ (require_passed (leb order_room (length buffer)) 20 0 holds.1)),
      )

-- ---- the entry

module _ (f : File) (allowance : ℕ) (buffer : List ℕ) where
  -- a refusal leaves the buffer as it was
  pub entry_refused : {n p : ℕ} → refused n p ≡ mapped accepted_file (admitted f buffer)
      → (refusal n p ≡ walk_answer f allowance buffer) × (buffer ≡ walk_after f allowance buffer)
  unfolding walk_answer walk_after walk_answer_of walk_after_of
  entry_refused e =
      let refused = accepted_refused (admitted f buffer) e in
      (sym (ap (walk_answer_of allowance) refused), sym (ap (λ (c : Checked ℕ Accepted). walk_after_of allowance c buffer) refused))

  module _ {x : AcceptedFile} (says : passed x ≡ mapped accepted_file (accept f)) where
    abbrev accepts : (a : Accepted) × (accept f ≡ passed a) × AcceptedParts x a
    accepts = accepted_passed (accept f) says

    ok : IsAccepted accepts.0
    ok = file_accepted f accepts.1

    -- and so does a buffer that is too short
    pub entry_no_room : length buffer < 512
        → (refusal 20 0 ≡ walk_answer f allowance buffer) × (buffer ≡ walk_after f allowance buffer)
    entry_no_room lt = entry_refused (admitted_short f buffer says lt)

    module _ (room : 512 ≤ length buffer) {before path : List ℕ} {r : Outcome}
        (walked : WalkOf x.table x.list allowance before path r) where
      came : Came (walk accepts.0) 0 allowance 0 before path r
      came = walked accepts.0 ok accepts.2.table accepts.2.list

      abbrev fit : EntryOf (decided allowance (walk accepts.0)) path r
      fit = entry ok came

      -- the order to show fits the room
      pub entry_short : shown_length r ≤ 512
      entry_short = omega (arith, fit.counted, fit.short)

      pub entry_length : Short r
      entry_length = short_shown r entry_short

      pub entry_answer : answer_of r ≡ walk_answer f allowance buffer
      entry_answer = fit.answer ∙ sym (answer_room f accepts.1 allowance buffer room)

      -- the order's bytes fill the front of the buffer
      pub entry_after_lem : {k : ℕ} {after : List ℕ} → k ≡ shown_length r
          → after ≡ padded (length (take 512 buffer)) 0 (take k path)
          → after ++ drop 512 buffer ≡ walk_after f allowance buffer
      unfolding filled
      entry_after_lem {k = k} same is =
          ap (λ (bytes : List ℕ). bytes ++ drop 512 buffer)
          (is
          ∙ ap (λ (room : ℕ). padded room 0 (take k path)) (length-take-le 512 buffer room)
          ∙ ap (padded 512 0) (ap (λ (n : ℕ). take n path) same ∙ fit.front))
          ∙ sym (after_room f accepts.1 allowance buffer room)
