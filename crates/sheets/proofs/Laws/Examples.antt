-- Computed examples of sheets: of a table that fails, of one that holds, and refusals.
-- Assumes nothing.
use Rattle.std.specs.Prelude.{◌≡◌, refl, [], ◌∷◌}
use Rattle.notation.specs.Checked.{refused}
use Rattle.notation.specs.Letters.{space, newline, d0, d1, d2, d7, a, b, c, d, e, f, h, i, j, k}
use Rattle.notation.specs.Letters.{l, n, o, p, r, s, t, u, v}
use Rattle.notation.specs.Texts.{Text, decimal}
use Rattle.matching.specs.Conversions as conversions
use Rattle.order.proofs.Laws.Opened.{orders_opened}
use Rattle.plan.proofs.Laws.Opened.{plans_opened}
use Rattle.examples.specs.Laws.Opened.{opened}
use Rattle.examples.specs.Laws.Samples.{pair, pick_up_to, samples_opened}
use Rattle.walk.proofs.Laws.Opened.{walks_opened}
use Rattle.walk.specs.WalkEntry.{decided}
use Rattle.walk.specs.Walks.{walk}
use Rattle.sheets.proofs.Laws.Opened.{sheets_opened}
use Rattle.sheets.specs.Sheets.{findings, table_sheet, sheet_from}

-- a table that fails: "then each job's rounds in that order's plan"
abbrev pub failing_sheet : Text
failing_sheet =
    -- "tasks 1 jobs 1"
    t ∷ a ∷ s ∷ k ∷ s ∷ space ∷ d1 ∷ space ∷ j ∷ o ∷ b ∷ s ∷ space ∷ d1 ∷ newline
    -- "task 0 response 1 jobs 1"
    ∷ t ∷ a ∷ s ∷ k ∷ space ∷ d0 ∷ space ∷ r ∷ e ∷ s ∷ p ∷ o ∷ n ∷ s ∷ e ∷ space ∷ d1 ∷ space ∷ j ∷ o
    ∷ b ∷ s ∷ space ∷ d1 ∷ newline
    -- "verdict fails 7"
    ∷ v ∷ e ∷ r ∷ d ∷ i ∷ c ∷ t ∷ space ∷ f ∷ a ∷ i ∷ l ∷ s ∷ space ∷ d7 ∷ newline
    -- "order 1 0 0 0"
    ∷ o ∷ r ∷ d ∷ e ∷ r ∷ space ∷ d1 ∷ space ∷ d0 ∷ space ∷ d0 ∷ space ∷ d0 ∷ newline
    -- "failed 0"
    ∷ f ∷ a ∷ i ∷ l ∷ e ∷ d ∷ space ∷ d0 ∷ newline
    -- "job 0 rounds 0 0 0 0"
    ∷ j ∷ o ∷ b ∷ space ∷ d0 ∷ space ∷ r ∷ o ∷ u ∷ n ∷ d ∷ s ∷ space ∷ d0 ∷ space ∷ d0 ∷ space ∷ d0 ∷ space
    ∷ d0 ∷ newline ∷ []

-- "With no failure the sheet ends at `verdict holds N`."
abbrev pub holding_sheet : Text
holding_sheet =
    -- "tasks 2 jobs 2"
    t ∷ a ∷ s ∷ k ∷ s ∷ space ∷ d2 ∷ space ∷ j ∷ o ∷ b ∷ s ∷ space ∷ d2 ∷ newline
    -- "task 0 response 2 jobs 1"
    ∷ t ∷ a ∷ s ∷ k ∷ space ∷ d0 ∷ space ∷ r ∷ e ∷ s ∷ p ∷ o ∷ n ∷ s ∷ e ∷ space ∷ d2 ∷ space ∷ j ∷ o
    ∷ b ∷ s ∷ space ∷ d1 ∷ newline
    -- "task 1 response 1 jobs 1"
    ∷ t ∷ a ∷ s ∷ k ∷ space ∷ d1 ∷ space ∷ r ∷ e ∷ s ∷ p ∷ o ∷ n ∷ s ∷ e ∷ space ∷ d1 ∷ space ∷ j ∷ o
    ∷ b ∷ s ∷ space ∷ d1 ∷ newline
    -- "verdict holds 2"
    ∷ v ∷ e ∷ r ∷ d ∷ i ∷ c ∷ t ∷ space ∷ h ∷ o ∷ l ∷ d ∷ s ∷ space ∷ d2 ∷ newline ∷ []

-- "With 21 it ends at `refused 21 0` instead"
abbrev pub undecided_line : Text
undecided_line =
    -- "refused 21 0"
    r ∷ e ∷ f ∷ u ∷ s ∷ e ∷ d ∷ space ∷ d2 ∷ d1 ∷ space ∷ d0 ∷ newline ∷ []

-- "with a file refusal that form (number, place) is the only line"
abbrev pub overload_sheet : Text
overload_sheet =
    -- "refused 10 1"
    r ∷ e ∷ f ∷ u ∷ s ∷ e ∷ d ∷ space ∷ d1 ∷ d0 ∷ space ∷ d1 ∷ newline ∷ []

-- a number of several digits
abbrev pub million : Text
million =
    -- "1000000"
    d1 ∷ d0 ∷ d0 ∷ d0 ∷ d0 ∷ d0 ∷ d0 ∷ []

pub record SheetExamples : Type 0 where
  pub failing : table_sheet pick_up_to ≡ failing_sheet
  pub holding : table_sheet pair ≡ holding_sheet
  pub undecided : findings pair (decided 1 (walk pair)) ≡ undecided_line
  pub overload : sheet_from (refused 10 1) ≡ overload_sheet
  pub number : decimal 1_000_000 ≡ million

pub sheet_examples : SheetExamples
unfolding opened samples_opened orders_opened walks_opened plans_opened sheets_opened
    conversions.job_bytes conversions.end_stores conversions.plan_of
sheet_examples = record { failing = refl; holding = refl; undecided = refl; overload = refl; number = refl }
