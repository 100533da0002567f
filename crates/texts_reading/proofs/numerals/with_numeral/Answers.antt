-- `texts_reading::numerals::with_numeral` meets its contract: past the array's end nothing is stored.
-- Assumes nothing.
use Rattle.std.proofs.Common.{sym, ap, ◌∙◌, ◌+◌, arith}
use Rattle.std.proofs.Math.Seq.{set_out}
use Rattle.texts.specs.declared.Numerals.{Numerals}
use Rattle.texts_reading.proofs.numerals.with_numeral.Goals as goal
use Rattle.texts_reading.proofs.numerals.with_numeral.Goals.{then-read-lt-NUMBERS, else-read-lt-NUMBERS}

pub returns : goal.returns
returns c =
    let read = c.args.read in
    elim c.if-read-lt-NUMBERS.branch [
      | then-read-lt-NUMBERS w ↦ ap (λ (r : Numerals). record { count = r.count + 1; values = r.values }) w.read-is
      | else-read-lt-NUMBERS w ↦
          (let out = set_out read.values read.count c.args.value (let h = c.well_formed in omega arith) in
          ap (λ (r : Numerals). record { count = r.count + 1; values = r.values }) w.read-is
          ∙ (λ i. record { count = read.count + 1; values = sym out i }))
    ]
