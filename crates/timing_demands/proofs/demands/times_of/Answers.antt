-- What `timing_demands::demands::times_of` owes and the search does not find.
use mathlib.Core.Path.{◌∙◌, ap}
use native.Mathlib.Omega.{arith}
use Rattle.std.proofs.Common.{◌<◌, get_or-take}
use Rattle.taskfile.specs.declared.TaskEntry.{TaskEntry}
use Rattle.timing.proofs.Laws.LentTimesLaws.{timings_more, timing_stored}
use Rattle.timing_demands.proofs.demands.times_of.Goals as goal

pub loop-k-preserved : goal.loop-k-preserved
loop-k-preserved c =
    let shaped = c.requires.shaped in
    let below : c.loop-k.k < c.args.t.now.tasks = omega (arith, shaped.entries_full, shaped.tasks_within) in
    let read = get_or-take c.args.t.now.tasks c.args.t.now.entries c.loop-k.k _ below in
    timings_more c.loop-k.invariant (omega (arith, shaped.tasks_within))
    (timing_stored c.requires _ _ below (c.from.ensures ∙ ap (λ (e : TaskEntry). e.execution) read)
    (c.from-in-loop-k.ensures ∙ ap (λ (e : TaskEntry). e.period) read)) (omega arith) (omega arith)
