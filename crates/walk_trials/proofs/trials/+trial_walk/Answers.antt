-- What `walk_trials::trials::walk` and `walk_trials::trials::trial` owe and the search does not find: each return is one
-- case of the walk, or of the trial, on snapshots.
use Rattle.std.proofs.Common.{◌∙◌, sym, subst, refl, ℕ, ◌+◌, arith}
use Rattle.order_states.specs.declared.State.{State}
use Rattle.order_states.specs.Code.StateBytes.{snapshot_in}
use Rattle.order_steps.specs.Code.Moving.{Movable}
use Rattle.walk_moves.specs.Laws.AllowedLaws.{level_bounded}
use Rattle.walk_moves.specs.Code.MoveParts.{FoundBelow, NextStep}
use Rattle.walk_trials.specs.Laws.AnswerLaws.{mover_bounds, first_start, first_answers, ends_answer, stops_answer, cut_answer}
use Rattle.walk_trials.specs.Laws.AnswerLaws.{found_answer, on_answers, last_answer, ended_answer, none_left_answer, tried_answer}
use Rattle.walk_trials.proofs.trials.+trial_walk.Goals as goal
use Rattle.walk_trials.proofs.trials.+trial_walk.Goals.{trial-After-next_move-after}

-- ---- the trial

pub trial-start_from-start-requires : goal.trial-start_from-start-requires
trial-start_from-start-requires t c = rw c.level-low.ensures (level_bounded _ _ _)

pub trial-loop-at-init : goal.trial-loop-at-init
trial-loop-at-init t c =
    let first = c.first_move-at.ensures _ _ (first_start _ _ _ _ _ c.level-low.ensures c.start_from-start.ensures) in
    (first_answers _ _ _ _ c.args.left c.args.path.now c.requires.1 _ first, refl)

pub trial-returns-then-allowance-count : goal.trial-returns-then-allowance-count
trial-returns-then-allowance-count t c =
    let held = rw c.in-Some.is at c.loop-at.invariant.0 in
    let stops = stops_answer c.requires.0 held.1.0 held.0 (held.1.1 held.0) refl (omega arith) in
    record { room = stops.0; came = stops.1 }

-- the move after this one
next_at : (t : ℕ) (c : trial-After-next_move-after t)
    → FoundBelow 128 (λ m. NextStep c.args.lent.now.program c.args.lent.now.waits c.args.lent.now.locks
    (snapshot_in c.args.s.now.bytes) (c.in-Some.byte + 1) m) c.next_move-after.result
next_at t c =
    let first = first_start _ _ _ _ _ c.level-low.ensures c.start_from-start.ensures in
    let held = rw c.in-Some.is at c.loop-at.invariant.0 in
    let told = rw c.loop-at.invariant.1 at c.next_move-after.ensures in
    told _ c.level-low.ensures first (held.1.1 held.0)

-- whose turn the move is
bounds_at : (t : ℕ) (c : trial-After-next_move-after t) → Movable c.loop-at.s.bytes c.running_task-top.result.0 c.in-Some.byte
unfolding snapshot_in
bounds_at t c =
    let held = rw c.in-Some.is at c.loop-at.invariant.0 in
    let lt = held.0 in
    let bounds = mover_bounds _ _ _ _ _ c.running_task-top.ensures lt (held.1.1 lt) c.args.s.now.whole.few c.args.s.now.whole.within in
    subst (λ (s : State). Movable s.bytes c.running_task-top.result.0 c.in-Some.byte) (sym c.loop-at.invariant.1)
    (lt, bounds.0, bounds.1, bounds.2)

pub trial-make_move-requires : goal.trial-make_move-requires
trial-make_move-requires t c = bounds_at t (goal.at.trial-make_move-requires t c).After-next_move-after

pub trial-returns-in-None : goal.trial-returns-in-None
trial-returns-in-None t c =
    let held = rw c.in-Some.is at c.loop-at.invariant.0 in
    let step = rw c.loop-at.invariant.1 at c.make_move.ensures in
    let next = rw c.in-None.is at (next_at t (goal.at.trial-returns-in-None t c).After-next_move-after) in
    let last = last_answer c.requires.0 held.1.0 held.0 (held.1.1 held.0) (omega arith) c.running_task-top.ensures
    step _ _ _ next c.walk.result (c.walk.ensures.room, c.walk.ensures.came) (omega arith) in
    record { room = last.0; came = last.1 }

pub trial-make_move-requires-in-Some : goal.trial-make_move-requires-in-Some
trial-make_move-requires-in-Some t c =
    bounds_at t (goal.at.trial-make_move-requires-in-Some t c).After-next_move-after

pub trial-returns-in-Stopped : goal.trial-returns-in-Stopped
trial-returns-in-Stopped t c =
    let held = rw c.in-Some.is at c.loop-at.invariant.0 in
    let step = rw c.loop-at.invariant.1 at c.make_move-in-Some.ensures in
    let cut = cut_answer c.requires.0 held.1.0 held.0 (held.1.1 held.0) (omega arith) c.running_task-top.ensures
    step _ _ (snapshot_in c.walk-in-Some.new.s.bytes) (c.in-Stopped.ensures.room, c.in-Stopped.ensures.came) in
    record { room = cut.0; came = cut.1 }

pub trial-returns-in-Found : goal.trial-returns-in-Found
trial-returns-in-Found t c =
    let held = rw c.in-Some.is at c.loop-at.invariant.0 in
    let step = rw c.loop-at.invariant.1 at c.make_move-in-Some.ensures in
    let found = found_answer c.requires.0 held.1.0 held.0 (held.1.1 held.0) (omega arith) c.running_task-top.ensures
    step _ _ (snapshot_in c.walk-in-Some.new.s.bytes) (c.in-Found.ensures.room, c.in-Found.ensures.came) in
    record { room = found.0; came = found.1 }

pub trial-loop-at-preserved : goal.trial-loop-at-preserved
trial-loop-at-preserved t c =
    let held = rw c.in-Some.is at c.loop-at.invariant.0 in
    let step = rw c.loop-at.invariant.1 at c.make_move-in-Some.ensures in
    let next = next_at t (goal.at.trial-loop-at-preserved t c).After-next_move-after in
    let on = on_answers c.requires.0 held.1.0 held.0 (held.1.1 held.0) (omega arith) c.running_task-top.ensures
    step _ _ (snapshot_in c.walk-in-Some.new.s.bytes) _ next (c.in-Held.ensures.room, c.in-Held.ensures.came) in
    (on, c.loop-at.invariant.1)

pub trial-returns : goal.trial-returns
trial-returns t c =
    let held = rw c.in_default.is at c.loop-at.invariant.0 in
    let ends = ends_answer c.requires.0 held.0 refl (omega arith) in
    record { room = ends.0; came = ends.1 }

-- ---- the walk

pub walk-returns-then-finished : goal.walk-returns-then-finished
walk-returns-then-finished t c =
    let ended = ended_answer c.args.left c.args.path.now c.requires.1 (sym c.finished.ensures ∙ c.if-finished.true) c.ended.ensures in
    record { room = ended.0; came = ended.1 }

pub walk-returns-then-left-eq0 : goal.walk-returns-then-left-eq0
walk-returns-then-left-eq0 t c =
    let none = none_left_answer c.args.left c.args.path.now c.requires.1 (sym c.finished.ensures ∙ c.if-finished.false) c.if-left-eq0.true in
    record { room = none.0; came = none.1 }

pub walk-returns : goal.walk-returns
walk-returns t c =
    let tried = tried_answer (sym c.finished.ensures ∙ c.if-finished.false) c.if-left-eq0.false c.requires.0 (c.trial.ensures.room, c.trial.ensures.came) in
    record { room = tried.0; came = tried.1 }
