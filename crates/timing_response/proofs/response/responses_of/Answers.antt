-- What `timing_response::response::responses_of` owes and the search does not find.
use mathlib.Core.Path.{◌≡◌, refl, sym, ◌∙◌}
use mathlib.Core.Bool.{Bool}
use mathlib.Core.List.{List}
use Prim.Native.Nat.{ℕ, suc, ◌-◌, ◌<◌}
use native.Mathlib.Omega.{arith}
use Rattle.std.proofs.Common.{Option}
use Rattle.notation.specs.Checked.{mapped}
use Rattle.taskfile.specs.declared.Table.{Table}
use Rattle.taskfile.specs.declared.Task.{Task}
use Rattle.timing.proofs.Laws.LentTimesLaws.{lent_times}
use Rattle.timing.proofs.Laws.TableResponseLaws.{AllFound, FoundFrom, found_none, found_fit, found_more, found_refused}
use Rattle.timing_response.proofs.response.responses_of.Goals as goal

-- what is known of the tasks from i on is known of those above the one below i
above : {t : Table} {i : ℕ} {times : List ℕ} {fit : Bool} {late : Option Task} → 0 < i → FoundFrom t i times fit late
    → FoundFrom t (suc (i - 1)) times fit late
above {i = i} some known = let next : i ≡ suc (i - 1) = omega arith in rw (← next) known

pub loop-i-init : goal.loop-i-init
loop-i-init c = found_none c.requires

pub response_of-requires : goal.response_of-requires
response_of-requires c =
    rw c.times_of-times.ensures (omega arith, found_fit c.requires (omega arith) (above c.loop-i-test.true c.loop-i.invariant))

pub loop-i-preserved-in-Some : goal.loop-i-preserved-in-Some
loop-i-preserved-in-Some c =
    let found = rw c.times_of-times.ensures at c.response_of.ensures in
    found_more c.requires (omega arith) (above c.loop-i-test.true c.loop-i.invariant) (sym found ∙ c.in-Some.is)

pub fits_alone-fit-requires : goal.fits_alone-fit-requires
fits_alone-fit-requires c =
    let times = c.times_of-times.result in
    (rw c.times_of-times.ensures at (lent_times times.times_of), omega arith)

pub loop-i-preserved : goal.loop-i-preserved
loop-i-preserved c =
    let found = rw c.times_of-times.ensures at c.response_of.ensures in
    let alone = c.fits_alone-fit.ensures _ refl (rw c.times_of-times.ensures at c.times_of-times.result.times_of) in
    found_refused c.requires (omega arith) (above c.loop-i-test.true c.loop-i.invariant) (sym found ∙ c.in-None.is) alone

pub returns-in-Some-late : goal.returns-in-Some-late
unfolding mapped
returns-in-Some-late c =
    let ended : c.loop-i.i ≡ 0 = omega arith in
    rw (rw ended at (c.loop-i.invariant.lacking _ c.in-Some-late.is), c.at.ensures) refl

pub returns-in-None-late : goal.returns-in-None-late
unfolding mapped
returns-in-None-late c =
    let ended : c.loop-i.i ≡ 0 = omega arith in
    let found : AllFound c.args.t.now 0 c.loop-i.responses = rw ended at (c.loop-i.invariant.all c.in-None-late.is) in
    rw (found.outcome, ← found.held) refl
