-- The words of a sheet, letter by letter. Document 01, "The check program and its sheet",
-- shows each of them.
-- Assumes nothing.
use Rattle.std.specs.Prelude.{[], ◌∷◌}
use Rattle.notation.specs.Letters.{a, b, c, d, e, f, h, i, j, k, l, n, o, p, r, s, t, u, v}
use Rattle.notation.specs.Texts.{Text}

-- "tasks"
unfoldable pub tasks_word : Text
tasks_word = t ∷ a ∷ s ∷ k ∷ s ∷ []

-- "task"
unfoldable pub task_word : Text
task_word = t ∷ a ∷ s ∷ k ∷ []

-- "jobs"
unfoldable pub jobs_word : Text
jobs_word = j ∷ o ∷ b ∷ s ∷ []

-- "job"
unfoldable pub job_word : Text
job_word = j ∷ o ∷ b ∷ []

-- "response"
unfoldable pub response_word : Text
response_word = r ∷ e ∷ s ∷ p ∷ o ∷ n ∷ s ∷ e ∷ []

-- "verdict"
unfoldable pub verdict_word : Text
verdict_word = v ∷ e ∷ r ∷ d ∷ i ∷ c ∷ t ∷ []

-- "holds"
unfoldable pub holds_word : Text
holds_word = h ∷ o ∷ l ∷ d ∷ s ∷ []

-- "fails"
unfoldable pub fails_word : Text
fails_word = f ∷ a ∷ i ∷ l ∷ s ∷ []

-- "order"
unfoldable pub order_word : Text
order_word = o ∷ r ∷ d ∷ e ∷ r ∷ []

-- "failed"
unfoldable pub failed_word : Text
failed_word = f ∷ a ∷ i ∷ l ∷ e ∷ d ∷ []

-- "rounds"
unfoldable pub rounds_word : Text
rounds_word = r ∷ o ∷ u ∷ n ∷ d ∷ s ∷ []

-- "refused"
unfoldable pub refused_word : Text
refused_word = r ∷ e ∷ f ∷ u ∷ s ∷ e ∷ d ∷ []
