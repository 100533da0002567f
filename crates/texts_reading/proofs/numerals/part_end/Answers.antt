-- `texts_reading::numerals::part_end` meets its contract: a part ends at the next separator, or with the text.
-- Assumes nothing.
use Rattle.std.proofs.Common.{◌≡◌, sym, ◌∙◌, ℕ, Bool, arith, rules, tests, eqb, drop, length-drop}
use Rattle.std.specs.Prelude.{position, Some, None}
use Rattle.std.proofs.Math.Seq.{take_all}
use Rattle.std.proofs.lemmas.Iterator.{YieldsList-from_slice}
use Rattle.std.proofs.lemmas.Iterator.Search.{position_from_yields_List}
use Rattle.texts_reading.specs.Laws.PartEndLaws.{part_end_found, part_end_missing}
use Rattle.texts_reading.proofs.numerals.part_end.Goals as goal

pub returns-in-Some : goal.returns-in-Some
returns-in-Some c =
    let p : ℕ → Bool = λ b. eqb b c.args.separator in
    let found : Some c.in-Some.size ≡ position p (drop c.args.from c.args.text.now) =
    sym c.in-Some.is
    ∙ position_from_yields_List p _ _ _ c.position.ensures.ran
    (YieldsList-from_slice (drop c.args.from c.args.text.now)
    (c.iter.ensures.rest ∙ take_all _ (drop c.args.from c.args.text.now) (omega (arith, length-drop c.args.from c.args.text.now))))
    (λ x b q k. search (rules, tests)) in
    record {
      end = part_end_found c.args.separator c.args.text.now c.args.from c.requires found;
      within = search rules;
    }

pub returns-in-None : goal.returns-in-None
returns-in-None c =
    let p : ℕ → Bool = λ b. eqb b c.args.separator in
    let missing : None ≡ position p (drop c.args.from c.args.text.now) =
    sym c.in-None.is
    ∙ position_from_yields_List p _ _ _ c.position.ensures.ran
    (YieldsList-from_slice (drop c.args.from c.args.text.now)
    (c.iter.ensures.rest ∙ take_all _ (drop c.args.from c.args.text.now) (omega (arith, length-drop c.args.from c.args.text.now))))
    (λ x b q k. search (rules, tests)) in
    record {
      end = part_end_missing c.args.separator c.args.text.now c.args.from c.requires missing;
      within = search rules;
    }
