-- `adqurim_words::put_run` meets its contract: the words stand one after the other, the store and the flags each as a
-- part stored at once.
-- Assumes nothing.
use Rattle.std.proofs.Common.{◌≡◌, ℕ, ◌<◌, false, get_or}
use Rattle.std.specs.Int.{from_bool}
use borrow.Author.Rules.{rules}
use Rattle.adqurim_words.specs.Laws.WordsLaws.{run_stored}
use Rattle.adqurim_words.proofs.put_run.Goals as goal

pub returns : goal.returns
returns c =
    let flags : (i : ℕ) → i < 32 → get_or c.map-2.result i 0 ≡ from_bool (get_or c.args.run.failed i false) =
    λ i lt. let call = c.map-2.ensures.items.at i false 0 lt in search rules in
    rw (c.copy_from_slice.ensures.after, c.copy_from_slice-2.ensures.after)
    (run_stored c.args.run (search rules) (search rules) c.args.answer.now _ _ c.requires c.from.ensures c.from-2.ensures
    c.from-3.ensures c.map.ensures.items.long c.map-2.ensures.items.long (search rules) flags)
