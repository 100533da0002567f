-- `walk_trials::entries::walk_file` meets its contract: a refusal, and the walk with the order that it shows at the front
-- of the buffer. Assumes nothing.
use Rattle.std.proofs.Common.{sym, ◌∙◌, arith}
use lib.Seq.{length-take-le}
use Rattle.walk_trials.specs.Laws.WalkEntryLaws.{admitted_passed}
use Rattle.walk_trials.specs.Laws.WalkEntryLaws.{entry_refused, entry_short, entry_length, entry_answer, entry_after_lem}
use Rattle.order_lending.specs.Laws.LendLaws.{parts_lent}
use Rattle.walk_trials.proofs.entries.walk_file.Goals as goal

pub invariant_of-listed : goal.invariant_of-listed
invariant_of-listed c =
    let passes = rw c.in-Ok.is at c.admitted.ensures in
    let parts = parts_lent _ (admitted_passed _ c.args.out.now passes).0 in
    record { shaped = parts.0; few = parts.1 }

pub slice_bounds-path-end : goal.slice_bounds-path-end
slice_bounds-path-end c =
    let passes = rw c.in-Ok.is at c.admitted.ensures in
    let buffer = c.args.out.now in
    let accepts = admitted_passed _ buffer passes in
    let walked = c.walk_table-r.ensures in
    omega (arith, entry_short _ _ buffer accepts.0 accepts.1 walked, c.shown_length.ensures)

pub slice_bounds-show-end : goal.slice_bounds-show-end
slice_bounds-show-end c =
    let passes = rw c.in-Ok.is at c.admitted.ensures in
    let buffer = c.args.out.now in
    let accepts = admitted_passed _ buffer passes in
    let walked = c.walk_table-r.ensures in
    let short = entry_short _ _ buffer accepts.0 accepts.1 walked in
    sym (length-take-le _ _ (omega (arith, short, c.shown_length.ensures)))

pub slice_bounds-show-end-in-Ok : goal.slice_bounds-show-end-in-Ok
slice_bounds-show-end-in-Ok c =
    let passes = rw c.in-Ok.is at c.admitted.ensures in
    (admitted_passed _ c.args.out.now passes).1

pub slice_bounds-show-end-in-Ok-2 : goal.slice_bounds-show-end-in-Ok-2
slice_bounds-show-end-in-Ok-2 c =
    let passes = rw c.in-Ok.is at c.admitted.ensures in
    sym (length-take-le _ _ (admitted_passed _ c.args.out.now passes).1)

pub outcome_answer-requires : goal.outcome_answer-requires
outcome_answer-requires c =
    let passes = rw c.in-Ok.is at c.admitted.ensures in
    let buffer = c.args.out.now in
    let accepts = admitted_passed _ buffer passes in
    entry_length _ _ buffer accepts.0 accepts.1 c.walk_table-r.ensures

pub returns-in-Err-clause-answer : goal.returns-in-Err-clause-answer
returns-in-Err-clause-answer c =
    let refuses = rw c.in-Err.is at c.admitted.ensures in
    rw c.number.ensures at c.refused_walk.ensures ∙ (entry_refused _ c.args.allowance c.args.out.now refuses).0

pub returns-in-Err-clause-buffer : goal.returns-in-Err-clause-buffer
returns-in-Err-clause-buffer c =
    let refuses = rw c.in-Err.is at c.admitted.ensures in
    (entry_refused _ c.args.allowance c.args.out.now refuses).1

pub returns-in-Ok-clause-answer : goal.returns-in-Ok-clause-answer
returns-in-Ok-clause-answer c =
    let passes = rw c.in-Ok.is at c.admitted.ensures in
    let buffer = c.args.out.now in
    let accepts = admitted_passed _ buffer passes in
    c.outcome_answer.ensures ∙ entry_answer _ _ buffer accepts.0 accepts.1 c.walk_table-r.ensures

pub returns-in-Ok-clause-buffer : goal.returns-in-Ok-clause-buffer
returns-in-Ok-clause-buffer c =
    let passes = rw c.in-Ok.is at c.admitted.ensures in
    let buffer = c.args.out.now in
    let accepts = admitted_passed _ buffer passes in
    let walked = c.walk_table-r.ensures in
    entry_after_lem _ _ buffer accepts.0 accepts.1 walked c.shown_length.ensures c.show.ensures
