-- What `timing_jobs::add_jobs` owes and the search does not find.
use Prim.Native.Nat.{ℕ}
use native.Mathlib.Omega.{arith}
use mathlib.Core.Path.{◌≡◌, ap, ◌∙◌}
use mathlib.Core.List.{◌++◌, map}
use Rattle.notation.specs.Lists.{up_to}
use Rattle.timing.specs.Code.JobParts.{job_list_of}
use Rattle.timing.proofs.Laws.JobListLaws.{job_added, job_as, none_added, one_added, all_added}
use Rattle.timing_jobs.proofs.add_jobs.Goals as goal

pub loop-k-init : goal.loop-k-init
loop-k-init c = (omega arith, none_added _ _)

pub loop-k-preserved : goal.loop-k-preserved
loop-k-preserved c =
    let inv = c.loop-k.invariant in
    (omega arith, λ l e. one_added _ _ _ _ (job_added _ _ (omega arith)) l (inv.1 l e))

pub returns-clause-added : goal.returns-clause-added
returns-clause-added c = λ l e.
    let args = c.args in
    let ended : c.loop-k.k ≡ args.n = omega arith in
    c.loop-k.invariant.1 l e
    ∙ ap (λ (k : ℕ). job_list_of (l ++ map (job_as args.i c.from-first.result c.from-period.result args.response) (up_to k))) ended
    ∙ all_added args.i args.e.now args.response args.n c.from-first.ensures c.from-period.ensures l
