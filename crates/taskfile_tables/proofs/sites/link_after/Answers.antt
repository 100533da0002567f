-- What `taskfile_tables::sites::link_after` owes and the search does not find.
use Prim.Native.Nat.{◌+◌, ◌-◌}
use native.Mathlib.Omega.{arith}
use mathlib.Core.Path.{◌≡◌, sym, ap, ◌∙◌}
use Rattle.taskfile.proofs.Laws.LinkedLaws.{link_more, link_none}
use Rattle.taskfile.specs.Code.ReadingParts.{link_after}
use Rattle.taskfile_tables.proofs.sites.link_after.Goals as goal

pub loop-i-init : goal.loop-i-init
loop-i-init c = let all : c.args.n - 0 ≡ c.args.n = omega arith in ap (link_after c.args.file.now c.args.index) all

pub loop-i-preserved : goal.loop-i-preserved
loop-i-preserved c =
    let f = c.args.file.now in
    let onward = c.next_at-at.result in
    let left : c.args.n - (c.loop-i.i + 1) ≡ c.args.n - c.loop-i.i - 1 = omega arith in
    ap (link_after f onward) left ∙ ap (λ k. link_after f k (c.args.n - c.loop-i.i - 1)) c.next_at-at.ensures
    ∙ sym (link_more f c.loop-i.at (c.args.n - c.loop-i.i) (omega arith)) ∙ c.loop-i.invariant

pub returns : goal.returns
returns c =
    let f = c.args.file.now in
    let none : 0 ≡ c.args.n - c.loop-i.i = omega arith in
    sym (link_none f c.loop-i.at) ∙ ap (link_after f c.loop-i.at) none ∙ c.loop-i.invariant
