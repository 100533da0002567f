-- Laws of the lines about a failing order as they are written: one number, one job more.
-- Assumes nothing.
use Rattle.std.specs.Prelude.{◌≡◌, refl}
use Rattle.std.proofs.Math.Path.{sym, ap}
use Rattle.std.proofs.Common.{subst, ◌∙◌, add-one}
use Prim.Native.Nat.{ℕ, ◌+◌, ◌≤◌}
use native.Mathlib.Omega.{arith}
use Rattle.std.proofs.Math.Bool.{Bool, true, false}
use mathlib.Core.List.{List, [], ◌∷◌, ◌++◌, map, map-map, append_assoc, append-nil}
use Rattle.std.proofs.Math.ListN.{length, get_or}
use Rattle.notation.specs.Laws.ElementLaws.{each_snoc, only_append, only_in, only_drops}
use Rattle.notation.specs.Laws.ListLaws.{from_snoc}
use Rattle.notation.specs.Laws.TabulateLaws.{values_snoc}
use Rattle.notation.specs.Lists.{from, up_to, only, each}
use Rattle.notation.specs.Letters.{space, newline}
use Rattle.notation.specs.Texts.{Text, decimal, line}
use Rattle.plan.specs.Runs.{Step}
use Rattle.plan.specs.declared.Round.{Round}
use Rattle.plan_marks.specs.declared.Marks.{Marks}
use Rattle.plan_marks.specs.Code.Marks.{step_marked, step_count, steps_marked, rounds_in}
use Rattle.sheets.specs.Sheets.{order_line}
use Rattle.sheets.specs.SheetWords.{job_word, order_word, failed_word, rounds_word}
use Rattle.notation_buffers.specs.declared.pages.Page.{Page}
use Rattle.notation_buffers.specs.Code.Pages.{Puts}
use Rattle.notation_buffers.specs.Code.Writing.{Appends}
use Rattle.notation_buffers.specs.Code.Spaced.{spaced_numbers}
use Rattle.notation_buffers.specs.Laws.PageLaws.{puts_same, puts_none, puts_more}
use Rattle.notation_buffers.specs.Laws.LineLaws.{spaced_each, spaced_none, numbers_are, numbers_snoc, numbers_more, numbers_put}
use Rattle.notation_buffers.specs.Laws.WritingLaws.{appends_none, appends_more, appends_length}
use Rattle.sheets_failing.specs.Code.LineParts.{failed_part, job_line}

-- ---- the order

pub order_put : (order : List ℕ) {before one two after : Page} → Puts before order_word one
    → Puts one (spaced_numbers order) two → Puts two (newline ∷ []) after → Puts before (order_line order) after
unfolding order_line
order_put order first second third = numbers_put order_word order first second third

-- ---- the failed jobs

-- a job's part is written where its flag is set, and nothing where it is not
pub failed_set : {flag : Bool} (x : ℕ) {before after : Page} → flag ≡ true → Puts before (space ∷ decimal x) after
    → Puts before (failed_part flag x) after
unfolding failed_part
failed_set x set puts = rw set puts

pub failed_clear : {flag : Bool} (x : ℕ) {page : Page} → flag ≡ false → Puts page (failed_part flag x) page
unfolding failed_part
failed_clear x {page} clear = rw clear (puts_none page)

-- the first x + 1 numbers
up_to_snoc : (x : ℕ) → up_to (x + 1) ≡ up_to x ++ (x ∷ [])
unfolding up_to
up_to_snoc x =
    ap (λ (k : ℕ). from 0 k) (add-one x)
    ∙ from_snoc 0 x
    ∙ (let place : 0 + x ≡ x = omega arith in ap (λ (k : ℕ). from 0 x ++ (k ∷ [])) place)

-- those of the first x jobs whose flag is set
unfoldable pub failed_to : List Bool → ℕ → List ℕ
failed_to failed x = only (λ j. get_or failed j false) (up_to x)

module _ (failed : List Bool) where
  -- the next job's part, where its flag is set and where it is not
  pub failed_next : (x : ℕ) (flag : Bool) → get_or failed x false ≡ flag
      → spaced_numbers (failed_to failed x) ++ failed_part flag x ≡ spaced_numbers (failed_to failed (x + 1))
  unfolding failed_to failed_part only
  failed_next x true e =
      let test : ℕ → Bool = λ j. get_or failed j false in
      numbers_snoc (failed_to failed x) x
      ∙ ap spaced_numbers (sym (ap (only test) (up_to_snoc x)
      ∙ only_append test (up_to x) (x ∷ [])
      ∙ ap (λ (l : List ℕ). only test (up_to x) ++ l) (only_in test x [] e)))
  failed_next x false e =
      let test : ℕ → Bool = λ j. get_or failed j false in
      append-nil (spaced_numbers (failed_to failed x))
      ∙ ap spaced_numbers (sym (ap (only test) (up_to_snoc x) ∙ only_drops test (up_to x) x e))

  pub failed_none : (page : Page) → Puts page (spaced_numbers (failed_to failed 0)) page
  unfolding failed_to up_to from only
  failed_none page = spaced_none page

  pub failed_more : (x : ℕ) {before mid after : Page} → Puts before (spaced_numbers (failed_to failed x)) mid
      → Puts mid (failed_part (get_or failed x false) x) after
      → Puts before (spaced_numbers (failed_to failed (x + 1))) after
  failed_more x first second =
      puts_same (failed_next x (get_or failed x false) refl) (puts_more first second)

  pub failed_put : (k x : ℕ) {before one two after : Page} → x ≡ k → Puts before failed_word one
      → Puts one (spaced_numbers (failed_to failed x)) two → Puts two (newline ∷ []) after
      → Puts before (line failed_word (map decimal (only (λ j. get_or failed j false) (up_to k)))) after
  unfolding failed_to
  failed_put k x same first second third =
      numbers_put failed_word (failed_to failed k) first
      (puts_same (ap (λ (j : ℕ). spaced_numbers (failed_to failed j)) same) second) third

-- ---- the rounds of a job

-- the rounds of the first n steps of job x
unfoldable pub rounds_to : Marks → ℕ → ℕ → List ℕ
rounds_to marks x n = map (λ j. (step_marked marks x j).round.0) (up_to n)

module _ (marks : Marks) (x : ℕ) where
  pub job_rounds_none : (page : Page) → Puts page (spaced_numbers (rounds_to marks x 0)) page
  unfolding rounds_to up_to from
  job_rounds_none page = spaced_none page

  pub job_rounds_more : (n : ℕ) {before mid after : Page} {r : Round} → r ≡ (step_marked marks x n).round
      → Puts before (spaced_numbers (rounds_to marks x n)) mid → Puts mid (space ∷ decimal r.0) after
      → Puts before (spaced_numbers (rounds_to marks x (n + 1))) after
  unfolding rounds_to
  job_rounds_more n {before} {mid} {after} round first second =
      puts_same (ap spaced_numbers (sym (values_snoc (λ j. (step_marked marks x j).round.0) n)))
      (numbers_more (rounds_to marks x n) (step_marked marks x n).round.0 first
      (subst (λ (q : Round). Puts mid (space ∷ decimal q.0) after) round second))

  words_are : map (λ r. decimal r.0) (rounds_in marks x) ≡ map decimal (rounds_to marks x (step_count marks x))
  unfolding rounds_in steps_marked rounds_to
  words_are =
      map-map (λ (r : Round). decimal r.0) (λ (step : Step). step.round) (map (step_marked marks x) (up_to (step_count marks x)))
      ∙ map-map (λ (step : Step). decimal step.round.0) (step_marked marks x) (up_to (step_count marks x))
      ∙ sym (map-map decimal (λ (j : ℕ). (step_marked marks x j).round.0) (up_to (step_count marks x)))

  job_line_is : (((job_word ++ (space ∷ decimal x)) ++ (space ∷ rounds_word)) ++ spaced_numbers (rounds_to marks x (step_count marks x)))
      ++ (newline ∷ []) ≡ job_line marks x
  unfolding line each
  job_line_is =
      let words = map (λ (r : Round). decimal r.0) (rounds_in marks x) in
      let last = spaced_numbers (rounds_to marks x (step_count marks x)) in
      let spread : each words (λ w. space ∷ w) ≡ last =
      ap (λ (l : List Text). each l (λ w. space ∷ w)) words_are ∙ numbers_are (rounds_to marks x (step_count marks x)) in
      ap (λ (l : Text). l ++ (newline ∷ []))
      (append_assoc (job_word ++ (space ∷ decimal x)) (space ∷ rounds_word) last
      ∙ append_assoc job_word (space ∷ decimal x) ((space ∷ rounds_word) ++ last)
      ∙ ap (λ (l : Text). job_word ++ ((space ∷ decimal x) ++ ((space ∷ rounds_word) ++ l))) (sym spread)
      ∙ sym (spaced_each job_word (decimal x ∷ rounds_word ∷ words)))

  pub job_rounds_put : (n : ℕ) {before one two three four after : Page} → n ≡ step_count marks x
      → Puts before job_word one → Puts one (space ∷ decimal x) two → Puts two (space ∷ rounds_word) three
      → Puts three (spaced_numbers (rounds_to marks x n)) four → Puts four (newline ∷ []) after
      → Puts before (job_line marks x) after
  job_rounds_put n same first second third fourth fifth =
      puts_same job_line_is
      (puts_more
      (puts_more (puts_more (puts_more first second) third)
      (puts_same (ap (λ (j : ℕ). spaced_numbers (rounds_to marks x j)) same) fourth)) fifth)

-- ---- part after part, from any place of a text on

module _ (part : ℕ → Text) where
  pub texts_none : (before : List ℕ) (at : ℕ) → Appends (length before) before at (each (up_to 0) part) before at
  unfolding up_to from each
  texts_none before at = appends_none (length before) before at

  pub texts_more : {before : List ℕ} {at : ℕ} (x : ℕ) {mid : List ℕ} {m : ℕ} {after : List ℕ} {n : ℕ}
      → Appends (length before) before at (each (up_to x) part) mid m → Appends (length mid) mid m (part x) after n
      → Appends (length before) before at (each (up_to (x + 1)) part) after n
  texts_more {before} {at} x {mid} {m} {after} {n} first second =
      let one : each (up_to x) part ++ part x ≡ each (up_to (x + 1)) part =
      sym (each_snoc x part) ∙ ap (λ (k : ℕ). each (up_to k) part) (sym (add-one x)) in
      let rest : Appends (length before) mid m (part x) after n =
      subst (λ (room : ℕ). Appends room mid m (part x) after n) (appends_length first (omega arith)) second in
      subst (λ (l : Text). Appends (length before) before at l after n) one (appends_more (omega arith) first rest)

  pub texts_put : {before : List ℕ} {at : ℕ} (k x : ℕ) {after : List ℕ} {n : ℕ} → x ≤ k → k ≤ x
      → Appends (length before) before at (each (up_to x) part) after n
      → Appends (length before) before at (each (up_to k) part) after n
  texts_put {before} {at} k x {after} {n} le ge puts =
      let same : x ≡ k = omega arith in
      subst (λ (j : ℕ). Appends (length before) before at (each (up_to j) part) after n) same puts
