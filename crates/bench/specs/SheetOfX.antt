-- The sheet of table X, computed. Document 01, "The check program and its sheet". It stands beside rows P1 to P13.
-- Assumes nothing.
use Rattle.std.specs.Prelude.{◌≡◌, refl, [], ◌∷◌}
use Rattle.notation.specs.Letters.{space, newline, d0, d1, d2, d3, d6, a, b, c, d, e, f, i, j, k}
use Rattle.notation.specs.Letters.{l, n, o, p, r, s, t, u, v}
use Rattle.notation.specs.Texts.{Text}
use Rattle.timing.specs.Response.{response_of}
use Rattle.sheets.proofs.Laws.Opened.{sheets_opened}
use Rattle.sheets.specs.Sheets.{sheet_of}
use Rattle.bench.specs.Files.{table_x}
use Rattle.bench.specs.Laws.Opened.{all_opened}

abbrev pub sheet_x : Text
sheet_x =
    -- "tasks 2 jobs 2"
    t ∷ a ∷ s ∷ k ∷ s ∷ space ∷ d2 ∷ space ∷ j ∷ o ∷ b ∷ s ∷ space ∷ d2 ∷ newline
    -- "task 0 response 3 jobs 1"
    ∷ t ∷ a ∷ s ∷ k ∷ space ∷ d0 ∷ space ∷ r ∷ e ∷ s ∷ p ∷ o ∷ n ∷ s ∷ e ∷ space ∷ d3 ∷ space ∷ j ∷ o
    ∷ b ∷ s ∷ space ∷ d1 ∷ newline
    -- "task 1 response 1 jobs 1"
    ∷ t ∷ a ∷ s ∷ k ∷ space ∷ d1 ∷ space ∷ r ∷ e ∷ s ∷ p ∷ o ∷ n ∷ s ∷ e ∷ space ∷ d1 ∷ space ∷ j ∷ o
    ∷ b ∷ s ∷ space ∷ d1 ∷ newline
    -- "verdict fails 23"
    ∷ v ∷ e ∷ r ∷ d ∷ i ∷ c ∷ t ∷ space ∷ f ∷ a ∷ i ∷ l ∷ s ∷ space ∷ d2 ∷ d3 ∷ newline
    -- "order 0 16 16 16 0 0 0 0"
    ∷ o ∷ r ∷ d ∷ e ∷ r ∷ space ∷ d0 ∷ space ∷ d1 ∷ d6 ∷ space ∷ d1 ∷ d6 ∷ space ∷ d1 ∷ d6 ∷ space ∷ d0
    ∷ space ∷ d0 ∷ space ∷ d0 ∷ space ∷ d0 ∷ newline
    -- "failed 0"
    ∷ f ∷ a ∷ i ∷ l ∷ e ∷ d ∷ space ∷ d0 ∷ newline
    -- "job 0 rounds 0 1 1 1 1"
    ∷ j ∷ o ∷ b ∷ space ∷ d0 ∷ space ∷ r ∷ o ∷ u ∷ n ∷ d ∷ s ∷ space ∷ d0 ∷ space ∷ d1 ∷ space ∷ d1 ∷ space
    ∷ d1 ∷ space ∷ d1 ∷ newline
    -- "job 1 rounds 0 0 0"
    ∷ j ∷ o ∷ b ∷ space ∷ d1 ∷ space ∷ r ∷ o ∷ u ∷ n ∷ d ∷ s ∷ space ∷ d0 ∷ space ∷ d0 ∷ space ∷ d0 ∷ newline ∷ []

pub sheet_of_x : sheet_of table_x ≡ sheet_x
unfolding all_opened response_of sheets_opened
sheet_of_x = refl
