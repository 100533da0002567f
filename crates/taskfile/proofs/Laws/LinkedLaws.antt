-- Laws of the records that links lead to: `Followed` says how far a walk of the links has stored them in an array,
-- `FilledTo` how far an array is filled with a value of each.
-- Assumes nothing.
use Rattle.std.specs.Prelude.{ℕ, zero, suc, ◌+◌, ◌-◌, ◌≤◌, ◌<◌, ◌≡◌, refl, ◌≢◌, ◌⊎◌, List, [], ◌∷◌, ◌++◌, map, length, take, set, replicate}
use Rattle.std.proofs.Common.{add-one, arith, not-suc-le-zero, le_of_suc-le-suc, sym, ◌∙◌, inl, inr, append-nil}
use Rattle.std.proofs.Common.{append_assoc, length-append, take_all, take-suc, length-take-le}
use Rattle.std.proofs.Math.Path.{ap}
use Rattle.std.proofs.Math.ListN.{get_or}
use Rattle.std.proofs.lemmas.List.{length-map}
use Rattle.taskfile.specs.declared.Filled.{Filled}
use Rattle.notation.specs.Laws.ListLaws.{map_snoc}
use Rattle.notation.specs.Lists.{padded}
use Rattle.notation.specs.Laws.PaddedLaws.{padded_nil, padded_at, padded_snoc}
use Rattle.taskfile.specs.Code.Reading.{linked}
use Rattle.taskfile.specs.Code.ReadingParts.{chain_at, link_after}
use Rattle.taskfile.specs.Records.{File, next}

-- zero ends the links
pub linked_end : (f : File) (k : ℕ) → linked f k 0 ≡ []
unfolding linked
linked_end f zero = refl
linked_end f (suc k) = refl

-- and so does the count
pub linked_none : (f : File) (index : ℕ) → linked f 0 index ≡ []
unfolding linked
linked_none f index = refl

-- an index that is not zero leads to its record, and on to the next
pub linked_more : (f : File) (k index : ℕ) → index ≢ 0 → linked f (suc k) index ≡ index ∷ linked f k (next f index)
unfolding linked
linked_more f k zero h = absurd (h refl)
linked_more f k (suc i) h = refl

-- at most k records are reached
pub linked_length : (f : File) (k index : ℕ) → length (linked f k index) ≤ k
unfolding linked
linked_length f zero index = omega arith
linked_length f (suc k) zero = omega arith
linked_length f (suc k) (suc i) = omega (arith, linked_length f k (next f (suc i)))

-- record n of them is where n links lead
pub linked_at : (f : File) (k index n d : ℕ) → n < length (linked f k index)
    → get_or (linked f k index) n d ≡ link_after f index n
unfolding linked link_after
linked_at f zero index n d h = absurd (not-suc-le-zero h)
linked_at f (suc k) zero n d h = absurd (not-suc-le-zero h)
linked_at f (suc k) (suc i) zero d h = refl
linked_at f (suc k) (suc i) (suc n) d h = linked_at f k (next f (suc i)) n d (le_of_suc-le-suc h)

-- one link more
pub link_more : (f : File) (index n : ℕ) → 0 < n → link_after f index n ≡ link_after f (next f index) (n - 1)
unfolding link_after
link_more f index zero h = absurd (not-suc-le-zero h)
link_more f index (suc n) h = let e : n ≡ suc n - 1 = omega arith in ap (link_after f (next f index)) e

-- no link leaves the index
pub link_none : (f : File) (index : ℕ) → link_after f index 0 ≡ index
unfolding link_after
link_none f index = refl

-- A walk of at most m links from `first` on has stored the n records that it passed in an array of 16; it has come to
-- `index`.
pub record Followed (f : File) (m first : ℕ) (array : List ℕ) (n index : ℕ) : Type 0 where
  pub passed : List ℕ
  pub count : length passed ≡ n
  pub within : n ≤ m
  pub holds : array ≡ padded 16 0 passed
  pub rest : passed ++ linked f (m - n) index ≡ linked f m first

-- before the first turn nothing is stored
pub followed_none : (f : File) (m first : ℕ) → Followed f m first (replicate 16 0) 0 first
followed_none f m first =
    let e : m - 0 ≡ m = omega arith in
    record {
      passed = [];
      count = refl;
      within = omega arith;
      holds = sym (padded_nil 16 0);
      rest = ap (λ k. linked f k first) e;
    }

-- a turn stores the record that the walk has come to, and follows its link
pub followed_more : (f : File) (m first : ℕ) (array : List ℕ) (n index onward : ℕ) → Followed f m first array n index
    → m ≤ 16 → index ≢ 0 → n < m → onward ≡ next f index → Followed f m first (set array n index) (n + 1) onward
followed_more f m first array n index onward h few ne below q =
    let left : m - n ≡ suc (m - (n + 1)) = omega arith in
    record {
      passed = h.passed ++ index ∷ [];
      count = simp length-append (omega (arith, h.count));
      within = omega arith;
      holds =
          ap (λ a. set a n index) h.holds
          ∙ ap (λ k. set (padded 16 0 h.passed) k index) (sym h.count)
          ∙ padded_snoc 16 0 h.passed index (omega (arith, h.count));
      rest =
          append_assoc h.passed (index ∷ []) (linked f (m - (n + 1)) onward)
          ∙ ap (λ k. h.passed ++ index ∷ linked f (m - (n + 1)) k) q
          ∙ ap (λ r. h.passed ++ r) (sym (linked_more f (m - (n + 1)) index ne))
          ∙ ap (λ k. h.passed ++ linked f k index) (sym left)
          ∙ h.rest;
    }

-- a walk with no record left has stored every record, and n counts them
followed_whole : (f : File) (m first : ℕ) (array : List ℕ) (n index : ℕ) → Followed f m first array n index
    → linked f (m - n) index ≡ [] → record { count = n; items = array } ≡ chain_at f first m
unfolding chain_at
followed_whole f m first array n index h none =
    let whole : h.passed ≡ linked f m first =
    sym (append-nil h.passed) ∙ ap (λ r. h.passed ++ r) (sym none) ∙ h.rest in
    let counted = sym h.count ∙ ap length whole in
    let stored = h.holds ∙ ap (padded 16 0) whole in
    λ i. record { count = counted i; items = stored i }

-- the walk ends at zero, or when m records are stored
pub followed_end : (f : File) (m first : ℕ) (array : List ℕ) (n index : ℕ) → Followed f m first array n index
    → (index ≡ 0) ⊎ (m ≤ n) → record { count = n; items = array } ≡ chain_at f first m
followed_end f m first array n index h (inl e) =
    followed_whole f m first array n index h (ap (linked f (m - n)) e ∙ linked_end f (m - n))
followed_end f m first array n index h (inr full) =
    let e : m - n ≡ 0 = omega arith in
    followed_whole f m first array n index h (ap (λ k. linked f k index) e ∙ linked_none f index)

-- An array of m places, d where nothing is stored, is filled with g of each record of a chain, in order: n are stored.
pub record FilledTo {A : Type 0} (f : File) (first m : ℕ) (d : A) (g : ℕ → A) (array : List A) (n : ℕ) : Type 0 where
  pub within : n ≤ length (linked f m first)
  pub holds : array ≡ padded m d (map g (take n (linked f m first)))

pub filled_none : {A : Type 0} (f : File) (first m : ℕ) (d : A) (g : ℕ → A) → FilledTo f first m d g (replicate m d) 0
filled_none f first m d g = record { within = omega arith; holds = sym (padded_nil m d) }

-- how many records the chain has
pub chain_count : (f : File) (first m : ℕ) {chain : Filled ℕ 16} → chain ≡ chain_at f first m
    → chain.count ≡ length (linked f m first)
unfolding chain_at
chain_count f first m read = ap (λ (c : Filled ℕ 16). c.count) read

pub chain_few : (f : File) (first m : ℕ) {chain : Filled ℕ 16} → chain ≡ chain_at f first m → chain.count ≤ m
chain_few f first m read = omega (arith, chain_count f first m read, linked_length f m first)

module _ {A : Type 0} (f : File) (first m : ℕ) (d : A) (g : ℕ → A) (array : List A) (n : ℕ) {chain : Filled ℕ 16}
    (read : chain ≡ chain_at f first m) (filled : FilledTo f first m d g array n) where
  chain_read : m ≤ 16 → n < length (linked f m first) → get_or chain.items n 0 ≡ get_or (linked f m first) n 0
  unfolding chain_at
  chain_read few below =
      ap (λ (c : Filled ℕ 16). get_or c.items n 0) read
      ∙ padded_at 16 0 (linked f m first) n (omega (arith, linked_length f m first))

  -- a turn stores g of the next record
  pub filled_more : m ≤ 16 → n < chain.count → {x : A} → x ≡ g (get_or chain.items n 0)
      → FilledTo f first m d g (set array n x) (n + 1)
  filled_more few below {x} e =
      let all = linked f m first in
      let inside : n < length all = omega (arith, chain_count f first m read) in
      let passed : List ℕ = take n all in
      let size : length (map g passed) ≡ n = length-map passed g ∙ length-take-le n all (omega arith) in
      let room : length (map g passed) < m = omega (arith, linked_length f m first) in
      let more : take (n + 1) all ≡ passed ++ get_or all n 0 ∷ [] = rw (add-one, take-suc all n 0 inside) in
      record {
        within = omega arith;
        holds =
            ap (λ a. set a n x) filled.holds
            ∙ ap (λ k. set (padded m d (map g passed)) k x) (sym size)
            ∙ padded_snoc m d (map g passed) x room
            ∙ ap (λ y. padded m d (map g passed ++ y ∷ [])) (e ∙ ap g (chain_read few inside))
            ∙ ap (padded m d) (sym (map_snoc g passed (get_or all n 0)) ∙ ap (map g) (sym more));
      }

  -- after the last record all are stored
  pub filled_end : chain.count ≤ n → array ≡ padded m d (map g (linked f m first))
  filled_end all =
      filled.holds
      ∙ ap (λ r. padded m d (map g r)) (take_all n (linked f m first) (omega (arith, chain_count f first m read)))
