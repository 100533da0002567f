-- Laws of the loops of a replay: what each loop has found so far is what its definition finds from there on.
-- Assumes nothing.
use Rattle.std.specs.Prelude.{◌≡◌, ℕ, suc, ◌+◌, ◌-◌, ◌≤◌, ◌<◌, Bool, List, [], ◌∷◌, length, get_or, drop, eqb}
use Rattle.std.proofs.Math.Path.{refl, sym, ap}
use Rattle.std.proofs.Common.{◌∙◌, add-one, drop_of_length-le, drop-cons, eq-eqb, ne_eqb}
use native.Mathlib.Omega.{arith}
use Rattle.std.proofs.Math.Bool.{true, false, not}
use Rattle.std.proofs.lemmas.Bool.{not-true, not-false}
use Rattle.taskfile.specs.declared.Ceilings.{Ceilings}
use Rattle.std.specs.Prelude.{if◌then◌else◌}
use Rattle.notation.specs.Checked.{refused, passed}
use Rattle.notation.specs.Lists.{any, up_to}
use Rattle.notation.specs.Laws.TestLaws.{and_first, and_second}
use Rattle.order_states.specs.Code.Snapshots.{Snapshot, Stepped}
use Rattle.order_states.proofs.Laws.ReplayLaws.{replay_extra, replay_illegal, replay_on, first_on, first_stops}
use Rattle.order_states.specs.Code.SnapshotSteps.{owner_in, step_in, has_unended, finished_in, slip_in, replay_in, first_from}

-- ---- the first job of a task

module _ (program : List ℕ) (k x : ℕ) (on : first_from program k 0 32 ≡ first_from program k x (32 - x)) where
  onward : x < 32 → first_from program k 0 32 ≡ first_from program k x (suc (31 - x))
  onward lt = on ∙ ap (first_from program k x) (omega arith)

  -- a job of task k or above is the first
  pub first_found : x < 32 → k ≤ owner_in program x → x ≡ first_from program k 0 32
  first_found lt h = sym (onward lt ∙ first_stops program k x (31 - x) h)

  -- one of a lower task is passed over
  pub first_later : x < 32 → owner_in program x < k
      → first_from program k 0 32 ≡ first_from program k (x + 1) (32 - (x + 1))
  first_later lt h =
      onward lt ∙ first_on program k x (31 - x) h ∙ ap (λ (n : ℕ). first_from program k n (31 - x)) (sym (add-one x))
      ∙ ap (first_from program k (x + 1)) (omega arith)

  -- past all jobs there is none
  pub first_missing : 32 ≤ x → x ≡ first_from program k 0 32
  unfolding first_from
  first_missing le = let none : 32 - x ≡ 0 = omega arith in sym (on ∙ ap (first_from program k x) none)

-- ---- the end of an order

module _ (program : List ℕ) (p : Snapshot) where
  pub finished_deep : (p.depth ≡ 0 → ⊥) → false ≡ finished_in program p
  unfolding finished_in
  finished_deep deep = sym (and_first (eqb p.depth 0) _ (ne_eqb p.depth 0 deep))

  pub finished_flat : p.depth ≡ 0 → {b : Bool} → b ≡ any (has_unended program p.unended) (up_to 8)
      → not b ≡ finished_in program p
  unfolding finished_in
  finished_flat flat e = ap not e ∙ sym (and_second (eqb p.depth 0) _ (eq-eqb p.depth 0 flat))

-- ---- the bytes

-- the whole replay is the replay of the bytes from an index on, from the state reached there
abbrev pub Reached : List ℕ → List ℕ → Ceilings → ℕ → Snapshot → List ℕ → Snapshot → ℕ → Type 0
Reached program waits locks tasks start order p index =
    replay_in program waits locks tasks start 0 order ≡ replay_in program waits locks tasks p index (drop index order)

module _ (program waits : List ℕ) (locks : Ceilings) (tasks : ℕ) (start : Snapshot) (order : List ℕ) (p : Snapshot)
    (index : ℕ) (reached : Reached program waits locks tasks start order p index)
    {b : Bool} (finished : b ≡ finished_in program p) where
  next : index < length order
      → replay_in program waits locks tasks start 0 order ≡ replay_in program waits locks tasks p index
      (get_or order index 0 ∷ drop (suc index) order)
  next lt = reached ∙ ap (replay_in program waits locks tasks p index) (drop-cons order index 0 lt)

  pub replay_past : index < length order → b ≡ true
      → refused 32 index ≡ replay_in program waits locks tasks start 0 order
  replay_past lt h = sym (next lt ∙ replay_extra program waits locks tasks p index (get_or order index 0) (drop (suc index) order) (sym finished ∙ h))

  module _ (lt : index < length order) (h : b ≡ false) {r : Stepped} (made : r ≡ step_in program waits locks p (get_or order index 0)) where
    pub replay_refused : not r.allowed ≡ true
        → refused (slip_in program waits locks tasks p (get_or order index 0)) index
        ≡ replay_in program waits locks tasks start 0 order
    replay_refused refusal =
        sym (next lt ∙ replay_illegal program waits locks tasks p index (get_or order index 0) (drop (suc index) order) (sym finished ∙ h)
        (ap (λ (s : Stepped). s.allowed) (sym made) ∙ not-true r.allowed refusal))

    pub replay_goes : not r.allowed ≡ false → Reached program waits locks tasks start order r.state (index + 1)
    replay_goes allowed =
        next lt ∙ replay_on program waits locks tasks p index (get_or order index 0) (drop (suc index) order) (sym finished ∙ h)
        (ap (λ (s : Stepped). s.allowed) (sym made) ∙ not-false r.allowed allowed)
        ∙ ap (λ (s : Stepped). replay_in program waits locks tasks s.state (suc index) (drop (suc index) order)) (sym made)
        ∙ ap (λ (n : ℕ). replay_in program waits locks tasks r.state n (drop n order)) (sym (add-one index))

  last : length order ≤ index
      → replay_in program waits locks tasks start 0 order ≡ replay_in program waits locks tasks p index []
  last le = reached ∙ ap (replay_in program waits locks tasks p index) (drop_of_length-le order le)

  ended : (c : Bool) → finished_in program p ≡ c
      → replay_in program waits locks tasks p index [] ≡ (if c then passed p else refused 31 index)
  unfolding replay_in
  ended c e = rw e refl

  pub replay_whole : length order ≤ index → b ≡ true
      → passed p ≡ replay_in program waits locks tasks start 0 order
  replay_whole le h = sym (last le ∙ ended true (sym finished ∙ h))

  pub replay_short : length order ≤ index → b ≡ false
      → refused 31 index ≡ replay_in program waits locks tasks start 0 order
  replay_short le h = sym (last le ∙ ended false (sym finished ∙ h))
