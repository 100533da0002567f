-- `writer_layout::layouts::put_chain` meets its contract. The loop's invariant: the records of the first p parts are written.
-- Assumes nothing.
use Rattle.std.specs.Prelude.{ℕ, List}
use Rattle.notation_buffers.specs.Code.Pages.{Puts}
use Rattle.writer_layout.specs.Code.Layouts.{WritesParts, chain_records}
use Rattle.writer_layout.proofs.layouts.put_chain.Given as goal

abbrev pub invariant-loop-p : goal.invariant-loop-p
invariant-loop-p g l =
    (records : ℕ → ℕ → List ℕ) → WritesParts (goal.F-post g l.put) l.count records
    → Puts l.initial.page (chain_records records l.r l.count l.p) l.page
