-- The words that begin the lines of a text, letter by letter. Document 02, E5: "by lower-case name (6 `less`, 7
-- `equal`)". A task's line begins with the word that it has on the sheet, "task".
-- Assumes nothing.
use Rattle.std.specs.Prelude.{[], ◌∷◌}
use Rattle.notation.specs.Letters.{a, b, c, d, e, i, k, l, n, o, p, q, r, s, t, u, w}
use Rattle.notation.specs.Texts.{Text}

-- "window"
unfoldable pub window_word : Text
window_word = w ∷ i ∷ n ∷ d ∷ o ∷ w ∷ []

-- "start"
unfoldable pub start_word : Text
start_word = s ∷ t ∷ a ∷ r ∷ t ∷ []

-- "lock"
unfoldable pub lock_word : Text
lock_word = l ∷ o ∷ c ∷ k ∷ []

-- "end"
unfoldable pub end_word : Text
end_word = e ∷ n ∷ d ∷ []

-- "load"
unfoldable pub load_word : Text
load_word = l ∷ o ∷ a ∷ d ∷ []

-- "store"
unfoldable pub store_word : Text
store_word = s ∷ t ∷ o ∷ r ∷ e ∷ []

-- "set"
unfoldable pub set_word : Text
set_word = s ∷ e ∷ t ∷ []

-- "add"
unfoldable pub add_word : Text
add_word = a ∷ d ∷ d ∷ []

-- "subtract"
unfoldable pub subtract_word : Text
subtract_word = s ∷ u ∷ b ∷ t ∷ r ∷ a ∷ c ∷ t ∷ []

-- "less"
unfoldable pub less_word : Text
less_word = l ∷ e ∷ s ∷ s ∷ []

-- "equal"
unfoldable pub equal_word : Text
equal_word = e ∷ q ∷ u ∷ a ∷ l ∷ []

-- "pick"
unfoldable pub pick_word : Text
pick_word = p ∷ i ∷ c ∷ k ∷ []

-- "acquire"
unfoldable pub acquire_word : Text
acquire_word = a ∷ c ∷ q ∷ u ∷ i ∷ r ∷ e ∷ []

-- "release"
unfoldable pub release_word : Text
release_word = r ∷ e ∷ l ∷ e ∷ a ∷ s ∷ e ∷ []

-- "assert"
unfoldable pub assert_word : Text
assert_word = a ∷ s ∷ s ∷ e ∷ r ∷ t ∷ []
