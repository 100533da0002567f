-- Laws of a fact of every element of a list: where two facts make a third, and of a test of the numbers below n.
-- Assumes nothing.
use Rattle.std.specs.Prelude.{◌≡◌, ℕ, ◌<◌, Bool, true, List, [], ◌∷◌}
use Rattle.std.proofs.Common.{sym, ap, ◌∙◌, arith}
use Rattle.notation.specs.Laws.ListLaws.{get_or_up_to, up_to_length}
use Rattle.notation.specs.Laws.QuantifierLaws.{all_at}
use Rattle.notation.specs.Lists.{up_to, all}
use Rattle.notation.specs.Ordered.{Every}

pub every_both : {A : Type 0} (P Q R : A → Type 0) → ((x : A) → P x → Q x → R x) → (xs : List A) → Every P xs
    → Every Q xs → Every R xs
every_both P Q R both [] h k = tt
every_both P Q R both (x ∷ xs) h k = (both x h.0 k.0, every_both P Q R both xs h.1 k.1)

pub tested_below : (test : ℕ → Bool) (n k : ℕ) → all test (up_to n) ≡ true → k < n → test k ≡ true
tested_below test n k every below =
    ap test (sym (get_or_up_to n k 0 below)) ∙ all_at test (up_to n) k 0 every (omega (arith, up_to_length n))
