-- The snapshot that a replay reaches, as its loop finds it: the bytes left reach it from the state in hand.
-- Assumes nothing.
use Rattle.std.specs.Prelude.{◌≡◌, refl, ℕ, suc, ◌+◌, ◌≤◌, ◌<◌, Bool, true, false, not, List, [], ◌∷◌, length, get_or, drop}
use Rattle.std.proofs.Common.{sym, ap, ◌∙◌, add-one, drop_of_length-le, drop-cons}
use Rattle.std.proofs.lemmas.Bool.{not-true, not-false}
use Rattle.taskfile.specs.declared.Ceilings.{Ceilings}
use Rattle.order_states.specs.Code.Snapshots.{Snapshot}
use Rattle.order_states.specs.Code.SnapshotSteps.{step_in, finished_in}
use Rattle.order_replay.specs.Code.Reaching.{left_in}
use Rattle.order_replay.specs.Laws.StepBytes.{step_kept}

-- ---- one byte

left_end : (program waits : List ℕ) (locks : Ceilings) (p : Snapshot) → left_in program waits locks p [] ≡ p
unfolding left_in
left_end program waits locks p = refl

module _ (program waits : List ℕ) (locks : Ceilings) (p : Snapshot) (byte : ℕ) (bytes : List ℕ) where
  -- a byte after the end
  left_extra : finished_in program p ≡ true → left_in program waits locks p (byte ∷ bytes) ≡ p
  unfolding left_in
  left_extra e = rw (e, left_in) refl

  -- a byte that is no step
  left_illegal : finished_in program p ≡ false → (step_in program waits locks p byte).allowed ≡ false
      → left_in program waits locks p (byte ∷ bytes) ≡ p
  unfolding left_in
  left_illegal e illegal = rw (e, illegal, left_in) refl

  -- a byte that is one
  left_on : finished_in program p ≡ false → (step_in program waits locks p byte).allowed ≡ true
      → left_in program waits locks p (byte ∷ bytes)
      ≡ left_in program waits locks (step_in program waits locks p byte).state bytes
  unfolding left_in
  left_on e allowed = rw (e, allowed, left_in) refl

-- ---- the bytes

-- the whole order reaches what the bytes from an index on reach from the state in hand
abbrev pub Leaves : List ℕ → List ℕ → Ceilings → Snapshot → List ℕ → Snapshot → ℕ → Type 0
Leaves program waits locks start order p index =
    left_in program waits locks start order ≡ left_in program waits locks p (drop index order)

module _ (program waits : List ℕ) (locks : Ceilings) (start : Snapshot) (order : List ℕ) (p : Snapshot) (index : ℕ)
    (leaves : Leaves program waits locks start order p index) where
  pub left_whole : length order ≤ index → p ≡ left_in program waits locks start order
  left_whole le =
      sym (leaves ∙ ap (left_in program waits locks p) (drop_of_length-le order le) ∙ left_end program waits locks p)

  module _ (lt : index < length order) {b : Bool} (finished : b ≡ finished_in program p) where
    next : left_in program waits locks start order
        ≡ left_in program waits locks p (get_or order index 0 ∷ drop (suc index) order)
    next = leaves ∙ ap (left_in program waits locks p) (drop-cons order index 0 lt)

    pub left_past : b ≡ true → p ≡ left_in program waits locks start order
    left_past h =
        sym (next ∙ left_extra program waits locks p (get_or order index 0) (drop (suc index) order) (sym finished ∙ h))

    module _ (h : b ≡ false) {allowed : Bool} {after : Snapshot}
        (allows : allowed ≡ (step_in program waits locks p (get_or order index 0)).allowed)
        (made : after ≡ (step_in program waits locks p (get_or order index 0)).state) where
      -- a step that is not allowed changed nothing
      pub left_refused : not allowed ≡ true → after ≡ left_in program waits locks start order
      left_refused refusal =
          let illegal = sym allows ∙ not-true allowed refusal in
          made ∙ step_kept program waits locks p (get_or order index 0) illegal
          ∙ sym (next
          ∙ left_illegal program waits locks p (get_or order index 0) (drop (suc index) order) (sym finished ∙ h) illegal)

      pub left_goes : not allowed ≡ false → Leaves program waits locks start order after (index + 1)
      left_goes allowance =
          next
          ∙ left_on program waits locks p (get_or order index 0) (drop (suc index) order) (sym finished ∙ h)
          (sym allows ∙ not-false allowed allowance)
          ∙ ap (λ (s : Snapshot). left_in program waits locks s (drop (suc index) order)) (sym made)
          ∙ ap (λ (n : ℕ). left_in program waits locks after (drop n order)) (sym (add-one index))
