-- Laws of checks whose places are renamed: step by step they come to the checks that name the other places.
-- Assumes nothing.
use Rattle.std.specs.Prelude.{◌≡◌, refl, ℕ, Bool, true, false}
use Rattle.std.proofs.Common.{sym, ap, ◌∙◌}
use Rattle.notation.specs.Checked.{Checked, refused, passed, require, placed_by, ◌>>=◌, ◌>>◌}

-- what is done with the value that a check passes on at its end
pub bind_then : {P A B C : Type 0} (c : Checked P A) (x : B) (k : B → Checked P C)
    → ◌>>=◌ (◌>>◌ c (passed x)) k ≡ ◌>>◌ c (k x)
unfolding ◌>>=◌ ◌>>◌
bind_then (refused number place) x k = refl
bind_then (passed y) x k = refl

-- the rest of a chain, by the link to it, and what is done with the records that it passes on
pub bind_rest : {A B C : Type 0} (c : Checked ℕ A) (x : B) (k : B → Checked ℕ C) (rest : ℕ → Checked ℕ B)
    {start link : ℕ} → start ≡ link → rest link ≡ ◌>>◌ c (passed x) → ◌>>=◌ (rest start) k ≡ ◌>>◌ c (k x)
bind_rest c x k rest same is = ap (λ n. ◌>>=◌ (rest n) k) same ∙ ap (λ d. ◌>>=◌ d k) is ∙ bind_then c x k

-- 5 and 4 at a place, and then what follows there
pub placed_step : {P A : Type 0} (index : P → ℕ) (few fine : Bool) (site : P) (r : ℕ) (rest : Checked P (Unit {0}))
    (more : Checked ℕ A) (x : A) → index site ≡ r → more ≡ ◌>>◌ (placed_by index rest) (passed x)
    → ◌>>◌ (◌>>◌ (require few 5 r) (require fine 4 r)) more
    ≡ ◌>>◌ (placed_by index (◌>>◌ (require few 5 site) (◌>>◌ (require fine 4 site) rest))) (passed x)
unfolding ◌>>◌ require placed_by
placed_step index false fine site r rest more x here same = ap (refused 5) (sym here)
placed_step index true false site r rest more x here same = ap (refused 4) (sym here)
placed_step index true true site r rest more x here same = same

-- a part too many
pub placed_many : {P A : Type 0} (index : P → ℕ) (few fine : Bool) (site : P) (r : ℕ) (rest : Checked P (Unit {0}))
    (more : Checked ℕ A) (x : A) → index site ≡ r → few ≡ false
    → ◌>>◌ (◌>>◌ (require few 5 r) (require fine 4 r)) more
    ≡ ◌>>◌ (placed_by index (◌>>◌ (require few 5 site) rest)) (passed x)
unfolding ◌>>◌ require placed_by
placed_many index few fine site r rest more x here many = rw many (ap (refused 5) (sym here))

-- 5 and 4 at a place, 5 of what it holds, that itself, and then what follows
pub placed_holder : {P A B : Type 0} (index : P → ℕ) (few fine some : Bool) (site : P) (r : ℕ)
    (held rest : Checked P (Unit {0})) (x : A) (more : A → Checked ℕ B) (y : B) → index site ≡ r
    → more x ≡ ◌>>◌ (placed_by index rest) (passed y)
    → ◌>>◌ (◌>>◌ (require few 5 r) (require fine 4 r))
    (◌>>=◌ (◌>>◌ (require some 5 r) (◌>>◌ (placed_by index held) (passed x))) more)
    ≡ ◌>>◌ (placed_by index (◌>>◌ (require few 5 site) (◌>>◌ (require fine 4 site)
    (◌>>◌ (require some 5 site) (◌>>◌ held rest))))) (passed y)
unfolding ◌>>=◌ ◌>>◌ require placed_by
placed_holder index false fine some site r held rest x more y here same = ap (refused 5) (sym here)
placed_holder index true false some site r held rest x more y here same = ap (refused 4) (sym here)
placed_holder index true true false site r held rest x more y here same = ap (refused 5) (sym here)
placed_holder index true true true site r (refused number place) rest x more y here same = refl
placed_holder index true true true site r (passed u) rest x more y here same = same

-- 4 and 5 at the first place, then two chains, and an end that passes
pub placed_whole : {P A B C : Type 0} (index : P → ℕ) (fine some : Bool) (site : P)
    (first second : Checked P (Unit {0})) (x : A) (y : B) (z : C) (more : A → Checked ℕ B)
    (last : A → B → Checked ℕ C) → index site ≡ 0 → more x ≡ ◌>>◌ (placed_by index second) (passed y)
    → last x y ≡ passed z
    → ◌>>◌ (require fine 4 0) (◌>>◌ (require some 5 0)
    (◌>>=◌ (◌>>◌ (placed_by index first) (passed x)) (λ a. ◌>>=◌ (more a) (λ b. last a b))))
    ≡ ◌>>◌ (placed_by index (◌>>◌ (require fine 4 site) (◌>>◌ (require some 5 site) (◌>>◌ first second)))) (passed z)
unfolding ◌>>=◌ ◌>>◌ require placed_by
placed_whole index false some site first second x y z more last here same end = ap (refused 4) (sym here)
placed_whole index true false site first second x y z more last here same end = ap (refused 5) (sym here)
placed_whole index true true site (refused number place) second x y z more last here same end = refl
placed_whole index true true site (passed u) second x y z more last here same end =
    ap (λ c. ◌>>=◌ c (λ b. last x b)) same
    ∙ bind_then (placed_by index second) y (λ b. last x b)
    ∙ ap (λ c. ◌>>◌ (placed_by index second) c) end
