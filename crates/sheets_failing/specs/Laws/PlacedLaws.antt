-- Laws over a text and a place in it, of the lines about a failing order that are written there: the order, and one
-- failed job more.
-- Assumes nothing.
use Rattle.std.specs.Prelude.{◌≡◌, refl, ℕ, ◌+◌, ◌≤◌, Bool, true, false, List, [], ◌∷◌, map, get_or}
use Rattle.std.proofs.Common.{ap, arith}
use Rattle.notation.specs.Letters.{space, newline}
use Rattle.notation.specs.Lists.{up_to, only, from}
use Rattle.notation.specs.Texts.{decimal, line}
use Rattle.notation_buffers.specs.Code.Spaced.{spaced_numbers}
use Rattle.sheets.specs.Sheets.{order_line}
use Rattle.sheets.specs.SheetWords.{order_word, failed_word}
use Rattle.sheets_printing.specs.Code.Puts.{PutsText}
use Rattle.sheets_printing.specs.Laws.LineLaws.{puts_same, puts_none, puts_more}
use Rattle.sheets_printing.specs.Laws.SpacedLaws.{spaced_none, numbers_put}
use Rattle.sheets_failing.specs.Code.LineParts.{failed_part}
use Rattle.sheets_failing.specs.Laws.FailingLines.{failed_to, failed_next}

-- ---- the order

pub order_put : {before : List ℕ} {at : ℕ} (order : List ℕ) {one : List ℕ} {l : ℕ} {two : List ℕ} {m : ℕ}
    {after : List ℕ} {n : ℕ} → PutsText before at order_word one l
    → PutsText one l (spaced_numbers order) two m → PutsText two m (newline ∷ []) after n
    → PutsText before at (order_line order) after n
unfolding order_line
order_put order first second third = numbers_put order_word order first second third

-- ---- the failed jobs

-- a job's part is written where its flag is set, and nothing where it is not
pub failed_set : {flag : Bool} (x : ℕ) {before : List ℕ} {at : ℕ} {after : List ℕ} {n : ℕ} → flag ≡ true
    → PutsText before at (space ∷ decimal x) after n → PutsText before at (failed_part flag x) after n
unfolding failed_part
failed_set x set puts = rw set puts

pub failed_clear : {flag : Bool} (x : ℕ) {before : List ℕ} {at : ℕ} → flag ≡ false
    → PutsText before at (failed_part flag x) before at
unfolding failed_part
failed_clear x {before} {at} clear = rw clear (puts_none before at)

module _ (failed : List Bool) where
  pub failed_none : (before : List ℕ) (at : ℕ) → PutsText before at (spaced_numbers (failed_to failed 0)) before at
  unfolding failed_to up_to from only
  failed_none before at = spaced_none before at

  pub failed_more : {before : List ℕ} {at : ℕ} (x : ℕ) {mid : List ℕ} {m : ℕ} {after : List ℕ} {n : ℕ}
      → PutsText before at (spaced_numbers (failed_to failed x)) mid m
      → PutsText mid m (failed_part (get_or failed x false) x) after n
      → PutsText before at (spaced_numbers (failed_to failed (x + 1))) after n
  failed_more x first second =
      puts_same (failed_next failed x (get_or failed x false) refl) (puts_more first second)

  pub failed_put : {before : List ℕ} {at : ℕ} (k x : ℕ) {one : List ℕ} {l : ℕ} {two : List ℕ} {m : ℕ}
      {after : List ℕ} {n : ℕ} → x ≤ k → k ≤ x → PutsText before at failed_word one l
      → PutsText one l (spaced_numbers (failed_to failed x)) two m → PutsText two m (newline ∷ []) after n
      → PutsText before at (line failed_word (map decimal (only (λ j. get_or failed j false) (up_to k)))) after n
  unfolding failed_to
  failed_put k x le ge first second third =
      let same : x ≡ k = omega arith in
      numbers_put failed_word (failed_to failed k) first
      (puts_same (ap (λ (j : ℕ). spaced_numbers (failed_to failed j)) same) second) third
