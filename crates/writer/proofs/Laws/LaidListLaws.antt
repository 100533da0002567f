-- A chain of records of one kind that stand one after the other, each linked to the next: what its walk comes to.
-- Assumes nothing.
use Rattle.std.specs.Prelude.{◌≡◌, refl, Bool, false, ◌&&◌, ltb, length}
use Rattle.std.proofs.Common.{sym, ◌∙◌, eq-eqb, ne_eqb, lt-ltb, le-ltb}
use Rattle.std.proofs.Math.Path.{ap}
use Prim.Native.Nat.{ℕ, zero, suc, ◌+◌, ◌≤◌, ◌<◌}
use native.Mathlib.Omega.{arith}
use mathlib.Core.List.{List, [], ◌∷◌, ◌++◌}
use Rattle.notation.specs.Checked.{Checked, passed, require, placed_by, ◌>>=◌, ◌>>◌}
use Rattle.notation.specs.Laws.CheckedLaws.{require_holds}
use Rattle.notation.specs.Lists.{from, member}
use Rattle.notation.specs.Laws.PairLaws.{every_imp}
use Rattle.notation.specs.Ordered.{Every}
use Rattle.taskfile.specs.declared.Kind.{Kind}
use Rattle.taskfile.specs.declared.Site.{Site}
use Rattle.taskfile.specs.Chains.{record_of, follow, chain}
use Rattle.taskfile.specs.Records.{File, kind_number, records, byte_at, next, tidy, in_range}
use Rattle.writer.specs.Layout.{link_to}
use Rattle.writer.proofs.Laws.PartLaws.{StandsAt, stands_first, stands_second, stands_inside}
use Rattle.writer.proofs.Laws.PlacedCheckLaws.{bind_rest, placed_step, placed_many}

-- every number of the list is below r
abbrev pub Below : ℕ → List ℕ → Type 0
Below r reached = Every (λ k. k < r) reached

pub below_more : (r s : ℕ) (reached : List ℕ) → r ≤ s → Below r reached → Below s reached
below_more r s reached h b = every_imp (λ k. k < r) (λ k. k < s) (λ k lt. omega arith) reached b

-- so r itself is none of them
pub below_fresh : (r : ℕ) (reached : List ℕ) → Below r reached → member r reached ≡ false
unfolding member
below_fresh r [] b = refl
below_fresh r (x ∷ reached) b = rw (ne_eqb r x (λ same. omega (arith, b.0))) (below_fresh r reached b.1)

-- what the record of its kind at index r comes to
pub record_of_laid : (kind : Kind) (f : File) (r : ℕ) (fine : Bool) → byte_at f r 0 ≡ kind_number kind
    → (tidy f r kind && in_range f r kind) ≡ fine → record_of kind f r ≡ require fine 4 r
unfolding record_of
record_of_laid kind f r fine same is = require_holds _ 2 r _ (eq-eqb _ _ same) ∙ ap (λ (b : Bool). require b 4 r) is

-- following an index to a record of its kind that was not reached before: 5 and 4 are left
pub follow_laid : (kind : Kind) (allowed : ℕ) (f : File) (again : Bool) (holder r : ℕ) (few fine : Bool)
    → r < records f → again ≡ false → ltb 0 allowed ≡ few → byte_at f r 0 ≡ kind_number kind
    → (tidy f r kind && in_range f r kind) ≡ fine
    → follow kind allowed f again holder r ≡ ◌>>◌ (require few 5 r) (require fine 4 r)
unfolding follow
follow_laid kind allowed f again holder r few fine inside fresh count same is =
    require_holds _ 3 holder _ (rw (lt-ltb r (records f) inside, fresh))
    ∙ (λ k. ◌>>◌ (require (count k) 5 r) (record_of_laid kind f r fine same is k))

-- more may come just if the number of those that came is below the most
pub more_allowed : (allowed p most : ℕ) → allowed + p ≡ most → ltb 0 allowed ≡ ltb p most
more_allowed zero p most count = sym (le-ltb p most (omega arith))
more_allowed (suc allowed) p most count = lt-ltb 0 (suc allowed) (omega arith) ∙ sym (lt-ltb p most (omega arith))

-- places that rise by one, from the first on and from the second on
module _ (index : Site → ℕ) (site : ℕ → Site) (p r n : ℕ)
    (places : (q : ℕ) → q < suc n → index (site (p + q)) ≡ r + q) where
  place_first : index (site p) ≡ r
  place_first =
      let same : p ≡ p + 0 = omega arith in
      ap (λ m. index (site m)) same ∙ places 0 (omega arith) ∙ omega arith

  place_later : (q : ℕ) → q < n → index (site (suc p + q)) ≡ suc r + q
  place_later q few =
      let same : suc p + q ≡ p + suc q = omega arith in
      ap (λ m. index (site m)) same ∙ places (suc q) (omega arith) ∙ omega arith

-- The records of a list of parts stand from index r on, each linked to the next; the fields of a part are right where
-- `fine` holds of it, and at most `most` parts may come.
module _ {A : Type 0} (kind : Kind) (most : ℕ) (fine : A → Bool) (recordOfPart : A → ℕ → List ℕ)
    (recordsFrom : ℕ → List A → File) (fieldsFrom : ℕ → List A → Checked Site (Unit {0})) (site : ℕ → Site)
    (recordsAre : (r : ℕ) (x : A) (others : List A)
    → recordsFrom r (x ∷ others) ≡ recordOfPart x (link_to (suc r) others) ++ recordsFrom (suc r) others)
    (noFields : (p : ℕ) → fieldsFrom p [] ≡ passed tt)
    (fieldsAre : (p : ℕ) (x : A) (others : List A) → fieldsFrom p (x ∷ others)
    ≡ ◌>>◌ (require (ltb p most) 5 (site p)) (◌>>◌ (require (fine x) 4 (site p)) (fieldsFrom (suc p) others)))
    (long : (x : A) (link : ℕ) → length (recordOfPart x link) ≡ 16) (f : File)
    (kinds : (x : A) (link r : ℕ) → StandsAt f r (recordOfPart x link) → byte_at f r 0 ≡ kind_number kind)
    (links : (x : A) (link r : ℕ) → StandsAt f r (recordOfPart x link) → next f r ≡ link)
    (fines : (x : A) (link r : ℕ) → StandsAt f r (recordOfPart x link) → (tidy f r kind && in_range f r kind) ≡ fine x)
    (index : Site → ℕ) where
  -- the first part's record, and the records of the others after it
  first_stands : (x : A) (xs : List A) (r : ℕ) → StandsAt f r (recordsFrom r (x ∷ xs))
      → StandsAt f r (recordOfPart x (link_to (suc r) xs)) × StandsAt f (suc r) (recordsFrom (suc r) xs)
  first_stands x xs r stands =
      let own = recordOfPart x (link_to (suc r) xs) in
      let whole : StandsAt f r (own ++ recordsFrom (suc r) xs) = rw recordsAre at stands in (
        stands_first f r own (recordsFrom (suc r) xs) whole,
        stands_second f r 1 (suc r) own (recordsFrom (suc r) xs) whole (long x (link_to (suc r) xs)) (omega arith),
      )

  -- what following the index of its record comes to
  first_follow : (x : A) (link r p allowed : ℕ) (reached : List ℕ) (holder : ℕ) → StandsAt f r (recordOfPart x link)
      → Below r reached → allowed + p ≡ most
      → follow kind allowed f (member r reached) holder r ≡ ◌>>◌ (require (ltb p most) 5 r) (require (fine x) 4 r)
  first_follow x link r p allowed reached holder stands below count =
      follow_laid kind allowed f (member r reached) holder r (ltb p most) (fine x)
      (stands_inside f r (recordOfPart x link) stands (omega (arith, long x link))) (below_fresh r reached below)
      (more_allowed allowed p most count) (kinds x link r stands) (fines x link r stands)

  -- the parts from part p on, laid out from index r on
  pub chain_laid : (xs : List A) (r p allowed : ℕ) (reached : List ℕ) (holder : ℕ) → StandsAt f r (recordsFrom r xs)
      → 0 < r → Below r reached → allowed + p ≡ most → ((q : ℕ) → q < length xs → index (site (p + q)) ≡ r + q)
      → chain kind allowed f reached holder (link_to r xs)
      ≡ ◌>>◌ (placed_by index (fieldsFrom p xs)) (passed (from r (length xs)))
  unfolding chain link_to from ◌>>◌ placed_by
  chain_laid [] r p zero reached holder stands some below count places = rw (noFields p)
  chain_laid [] r p (suc allowed) reached holder stands some below count places = rw (noFields p)
  chain_laid (x ∷ xs) zero p zero reached holder stands some below count places = absurd (omega arith)
  chain_laid (x ∷ xs) zero p (suc allowed) reached holder stands some below count places = absurd (omega arith)
  chain_laid (x ∷ xs) (suc r) p zero reached holder stands some below count places =
      let own = (first_stands x xs (suc r) stands).0 in
      let here : index (site p) ≡ suc r = place_first index site p (suc r) (length xs) places in
      ap (λ c. ◌>>◌ c (passed []))
      (first_follow x (link_to (suc (suc r)) xs) (suc r) p 0 reached holder own below count)
      ∙ placed_many index (ltb p most) (fine x) (site p) (suc r) _ _ _ here (le-ltb p most (omega arith))
      ∙ ap (λ c. ◌>>◌ (placed_by index c) (passed (from (suc r) (suc (length xs))))) (sym (fieldsAre p x xs))
  chain_laid (x ∷ xs) (suc r) p (suc allowed) reached holder stands some below count places =
      let parts = first_stands x xs (suc r) stands in
      let link = link_to (suc (suc r)) xs in
      let here : index (site p) ≡ suc r = place_first index site p (suc r) (length xs) places in
      let deeper = chain_laid xs (suc (suc r)) (suc p) allowed (suc r ∷ reached) (suc r) parts.1 (omega arith)
      (omega arith, below_more (suc r) (suc (suc r)) reached (omega arith) below) (omega arith)
      (place_later index site p (suc r) (length xs) places) in
      ap (λ c. ◌>>◌ c
      (◌>>=◌ (chain kind allowed f (suc r ∷ reached) (suc r) (next f (suc r))) (λ others. passed (suc r ∷ others))))
      (first_follow x link (suc r) p (suc allowed) reached holder parts.0 below count)
      ∙ placed_step index (ltb p most) (fine x) (site p) (suc r) (fieldsFrom (suc p) xs) _ _ here
      (bind_rest (placed_by index (fieldsFrom (suc p) xs)) (from (suc (suc r)) (length xs))
      (λ others. passed (suc r ∷ others))
      (λ (i : ℕ). chain kind allowed f (suc r ∷ reached) (suc r) i) (links x link (suc r) parts.0) deeper)
      ∙ ap (λ c. ◌>>◌ (placed_by index c) (passed (from (suc r) (suc (length xs))))) (sym (fieldsAre p x xs))
