-- Laws of the step in two parts: a job with a value on offer is inside its body, and the two parts are what the step
-- does.
-- Assumes nothing.
use Rattle.std.specs.Prelude.{◌≡◌, refl, ℕ, ◌<◌, Bool, true, false, not, ltb}
use Rattle.std.proofs.Common.{sym, ◌∙◌, ltb-true}
use Rattle.std.proofs.lemmas.Bool.{not-false}
use Rattle.notation.specs.Laws.TestLaws.{and_both}
use Rattle.order.specs.declared.Frame.{Frame}
use Rattle.order_states.specs.Code.Snapshots.{Snapshot}
use Rattle.order_states.specs.Code.SnapshotSteps.{Program, step_with_in, offered_in, made_in}

-- a job that has a value on offer is inside its body
pub offered_inside : (program : Program) (f : Frame) (i v : ℕ) → offered_in program f i v ≡ true → f.local.next < 16
unfolding offered_in
offered_inside program f i v h = ltb-true f.local.next 16 (and_both (ltb f.local.next 16) _ h).0

pub offered_found : (program : Program) (f : Frame) (i v : ℕ) {b : Bool} → b ≡ offered_in program f i v → not b ≡ false
    → f.local.next < 16
offered_found program f i v {b} e h = offered_inside program f i v (sym e ∙ not-false b h)

-- these are what the step does
pub with_offered : (program : Program) (p : Snapshot) (f : Frame) (under i v : ℕ) → offered_in program f i v ≡ true
    → step_with_in program p f under i v ≡ record { allowed = true; state = made_in program p f under i v }
unfolding step_with_in
with_offered program p f under i v e = rw e refl

pub with_refused : (program : Program) (p : Snapshot) (f : Frame) (under i v : ℕ) → offered_in program f i v ≡ false
    → step_with_in program p f under i v ≡ record { allowed = false; state = p }
unfolding step_with_in
with_refused program p f under i v e = rw e refl
