-- Laws of an instruction that is performed in bytes which hold a store and one job alone: what is read there afterwards
-- is its effect.
-- Assumes nothing.
use Rattle.std.specs.Prelude.{◌≡◌, ℕ, ◌<◌, Bool, List, length}
use Rattle.std.proofs.Common.{sym, ap, subst, ◌∙◌}
use Rattle.notation.specs.Lists.{bytes_at}
use Rattle.taskfile.specs.declared.Instruction.{Instruction}
use Rattle.timing.specs.declared.Job.{Job}
use Rattle.machine.specs.declared.Effect.{Effect}
use Rattle.machine.specs.declared.Local.{Local}
use Rattle.machine.specs.Instructions.{perform}
use Rattle.machine.specs.Code.Within.{LocksWithin}
use Rattle.order.specs.declared.Frame.{Frame}
use Rattle.machine_performing.specs.Code.Performed.{Performed}
use Rattle.order_states.specs.Code.StateBytes.{frame_in, Replaced, FrameReplaced}
use Rattle.order_states.proofs.Laws.FrameWrites.{replaced_store}
use Rattle.order_states.proofs.Laws.StateWrites.{bytes_new}

module _ {start stored placed : List ℕ} {l : Local} {s : List ℕ} {x : Job} (eight : length s ≡ 8)
    (put : Replaced start stored 0 s) (frame : FrameReplaced stored placed 0 (record { job = x; local = l })) where
  -- the bytes hold the job and the store
  local_placed : (frame_in placed 0).local ≡ l
  local_placed = ap (λ (f : Frame). f.local) frame.inside

  store_placed : bytes_at placed 0 8 ≡ s
  store_placed = replaced_store frame ∙ bytes_new start stored 0 s 8 eight put

  pub local_inside : l.next < 16 → (frame_in placed 0).local.next < 16
  local_inside lt = rw local_placed lt

  pub local_within : LocksWithin l → LocksWithin (frame_in placed 0).local
  local_within own = subst LocksWithin (sym local_placed) own

  -- what is performed there
  module _ (o : Instruction) (v : ℕ) where
    abbrev effect : Effect
    effect = perform o v (frame_in placed 0).local (bytes_at placed 0 8)

    effect_placed : effect ≡ perform o v l s
    effect_placed = λ t. perform o v (local_placed t) (store_placed t)

    pub effect_read : {failed : Bool} → failed ≡ effect.failed → {done : List ℕ} → Performed placed done 0 effect
        → {f : Frame} → f ≡ frame_in done 0 → {store : List ℕ} → store ≡ bytes_at done 0 8 → {ended : Bool}
        → effect.ended ≡ ended
        → record { local = f.local; store = store; failed = failed; ended = ended } ≡ perform o v l s
    effect_read fails made {f} is stored ends =
        let own : f.local ≡ effect.local = ap (λ (g : Frame). g.local) (is ∙ made.frame) in
        let same : ◌≡◌ {A = Effect} (record { local = f.local; store = _; failed = _; ended = _ }) effect =
        λ t. record { local = own t; store = (stored ∙ made.store) t; failed = fails t; ended = sym ends t } in
        same ∙ effect_placed
