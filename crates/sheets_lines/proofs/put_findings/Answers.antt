-- `sheets_lines::put_findings` meets its contract: a number, a failing order, or neither.
-- Assumes nothing.
use mathlib.Core.Path.{sym}
use lib.Seq.{length-take-le}
use Rattle.sheets.specs.SheetWords.{holds_word}
use Rattle.sheets_lines.specs.Laws.FindingLaws.{found_short, findings_refused}
use Rattle.sheets_lines.specs.Laws.FindingLaws.{findings_fail, findings_holds}
use Rattle.sheets_lines.proofs.put_findings.Goals as goal

pub outcome_answer-w-requires : goal.outcome_answer-w-requires
outcome_answer-w-requires c =
    found_short c.requires.1 c.walk_table-r.ensures

pub returns-then-w-ne0 : goal.returns-then-w-ne0
returns-then-w-ne0 c a p =
    findings_refused p c.walk_table-r.ensures c.outcome_answer-w.ensures c.if-w-ne0.true
    c.put_refused.ensures

pub slice_bounds-order-end : goal.slice_bounds-order-end
slice_bounds-order-end c =
    (findings_fail c.requires.1 c.walk_table-r.ensures c.outcome_answer-w.ensures
    c.in-Fails.is).0

pub slice_bounds-put_failure-end : goal.slice_bounds-put_failure-end
slice_bounds-put_failure-end c =
    sym
    (length-take-le _ _
    (findings_fail c.requires.1 c.walk_table-r.ensures c.outcome_answer-w.ensures c.in-Fails.is).0)

pub returns-in-Fails : goal.returns-in-Fails
returns-in-Fails c a p =
    c.put_failure.ensures a
    (findings_fail p c.walk_table-r.ensures c.outcome_answer-w.ensures
    c.in-Fails.is).1

pub returns : goal.returns
unfolding holds_word
returns c a p =
    findings_holds p c.walk_table-r.ensures c.outcome_answer-w.ensures c.if-w-ne0.false
    c.in_default.not-Fails c.put_verdict.ensures
