-- What `taskfile_records::fields::zero_from` owes: the test of the bytes that the file has is that of all.
-- Assumes nothing.
use Prim.Native.Nat.{ℕ, ◌+◌, ◌*◌, ◌-◌, min}
use mathlib.Core.Bool.{Bool}
use mathlib.Core.Path.{◌≡◌, sym, ap, ◌∙◌}
use borrow.Author.Tests.{tests}
use lib.Dec.{eqb}
use lib.ListN.{take, drop, length}
use Rattle.std.proofs.Common.{rules, arith, take_all, length-drop}
use Rattle.std.proofs.lemmas.Iterator.{YieldsList-from_slice}
use Rattle.std.proofs.lemmas.Iterator.Search.{all_from_yields_List}
use Rattle.taskfile.proofs.Laws.RecordLaws.{zero_from_file}
use Rattle.taskfile_records.proofs.fields.zero_from.Goals as goal

pub returns-then-end-file : goal.returns-then-end-file
returns-then-end-file c =
    let f = c.args.file.now in
    let s = 16 * c.args.r + c.args.k in
    let n = c.args.n in
    let zero : ℕ → Bool = λ byte. eqb byte 0 in
    let inside : min s (length f) ≡ s = omega (arith, c.if-end-file.true) in
    let all : s + n - s ≡ n = omega arith in
    rw (← zero_from_file f c.args.r c.args.k n, inside)
    (all_from_yields_List zero _ _ _ c.all.ensures.ran
    (YieldsList-from_slice (take n (drop s f)) (c.iter.ensures.rest ∙ ap (λ k. take k (drop s f)) all))
    (λ x b q k. search (rules, tests)))

pub returns : goal.returns
returns c =
    let f = c.args.file.now in
    let s = c.min-start.result in
    let n = c.args.n in
    let zero : ℕ → Bool = λ byte. eqb byte 0 in
    let rest = take_all (length f - s) (drop s f) (omega (arith, length-drop s f)) in
    let cut = take_all n (drop s f) (omega (arith, length-drop s f, c.min-start.ensures, c.if-end-file.false)) in
    rw (← zero_from_file f c.args.r c.args.k n, ← c.min-start.ensures)
    (all_from_yields_List zero _ _ _ c.all-2.ensures.ran
    (YieldsList-from_slice (take n (drop s f)) (c.iter-2.ensures.rest ∙ rest ∙ sym cut))
    (λ x b q k. search (rules, tests)))
