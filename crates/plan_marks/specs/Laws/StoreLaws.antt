-- Laws of the stores of rounds in one array.
-- Assumes nothing.
use Rattle.std.specs.Prelude.{◌≡◌, refl, ◌⊎◌, ℕ, zero, suc, ◌+◌, ◌-◌, ◌*◌, ◌≤◌, ◌<◌, List, ◌++◌, map, length, set, take, drop}
use Rattle.std.proofs.Common.{sym, ap, ap₂, ◌∙◌, arith, append_assoc, length-drop, length-take-le, get_or-take, get_or-drop, drop_at, take-add}
use Rattle.std.proofs.Math.Logic.{inl, inr}
use Rattle.std.proofs.Math.Decide.{dec_lt}
use Rattle.std.proofs.Math.ListN.{get_or, get_or-append}
use Rattle.std.proofs.Math.Seq.{paste, length-paste, length_paste_head}
use Rattle.std.proofs.lemmas.List.Edits.{drop-paste}
use Rattle.notation.specs.Lists.{from, up_to, each, bytes_at}
use Rattle.notation.specs.Laws.ElementLaws.{each_snoc}
use Rattle.notation.specs.Laws.ListLaws.{each_map}
use Rattle.notation.specs.Laws.TabulateLaws.{values_length, values_at, values_are, values_of, same_values, set_values}
use Rattle.machine.specs.Ends.{no_store}
use Rattle.machine.specs.Instructions.{Store}
use Rattle.plan.specs.Runs.{Plan, guess}
use Rattle.plan_marks.specs.Code.Marks.{store_at, stores_in, with_store}

-- bytes of a list are a part of it
pub bytes_at_part : (bytes : List ℕ) (a n : ℕ) → a + n ≤ length bytes → bytes_at bytes a n ≡ take n (drop a bytes)
unfolding bytes_at
bytes_at_part bytes a n fits =
    sym (values_are (λ k. get_or bytes (a + k) 0) n (take n (drop a bytes)) 0
    (length-take-le n (drop a bytes) (omega (arith, length-drop a bytes)))
    (λ k lt. get_or-take n (drop a bytes) k 0 lt ∙ get_or-drop a bytes k 0))

-- ---- what stands where n elements were replaced by others

module _ (d : List ℕ) (at : ℕ) (s : List ℕ) (n : ℕ) (room : at + n ≤ length d) (enough : n ≤ length s) where
  -- where they were replaced, those put there
  pub paste_in : (k : ℕ) → k < n → get_or (paste d at s n) (at + k) 0 ≡ get_or s k 0
  paste_in k lt =
      sym (get_or-drop at (paste d at s n) k 0)
      ∙ ap (λ (l : List ℕ). get_or l k 0) (ap (drop at) (append_assoc (take at d) (take n s) (drop (at + n) d))
      ∙ drop_at (take at d) (take n s ++ drop (at + n) d) at (length-take-le at d (omega arith)))
      ∙ get_or-append (take n s) (drop (at + n) d) 0 k (omega (arith, length-take-le n s enough))
      ∙ get_or-take n s k 0 lt

  -- before and behind them, what stood there
  below : (k : ℕ) → k < at → get_or (paste d at s n) k 0 ≡ get_or d k 0
  below k lt =
      get_or-append (take at d ++ take n s) (drop (at + n) d) 0 k
      (omega (arith, length_paste_head d at s n (omega arith) enough))
      ∙ get_or-append (take at d) (take n s) 0 k (omega (arith, length-take-le at d (omega arith)))
      ∙ get_or-take at d k 0 lt

  above : (k : ℕ) → get_or (paste d at s n) (at + n + k) 0 ≡ get_or d (at + n + k) 0
  above k =
      sym (get_or-drop (at + n) (paste d at s n) k 0)
      ∙ ap (λ (l : List ℕ). get_or l k 0) (drop-paste d at s n (omega arith) enough)
      ∙ get_or-drop (at + n) d k 0

  pub paste_out : (j : ℕ) → (j < at) ⊎ (at + n ≤ j) → get_or (paste d at s n) j 0 ≡ get_or d j 0
  paste_out j (inl low) = below j low
  paste_out j (inr high) =
      let same : j ≡ at + n + (j - (at + n)) = omega arith in
      ap (λ (i : ℕ). get_or (paste d at s n) i 0) same ∙ above (j - (at + n)) ∙ ap (λ (i : ℕ). get_or d i 0) (sym same)

-- ---- the stores

-- the store of a round among the first k
pub stores_at : (stores : List ℕ) (k r : ℕ) → r < k → get_or (stores_in stores k) r no_store ≡ store_at stores r
unfolding stores_in
stores_at stores k r lt = values_at (store_at stores) k r no_store lt

pub stores_length : (stores : List ℕ) (k : ℕ) → length (stores_in stores k) ≡ k
unfolding stores_in
stores_length stores k = values_length (store_at stores) k

module _ (stores : List ℕ) (whole : length stores ≡ 256) (r : ℕ) (isR : r < 32) (store : Store)
    (eight : length store ≡ 8) where
  pub put_length : length (with_store stores r store) ≡ length stores
  unfolding with_store
  put_length = length-paste stores (8 * r) store 8 (omega arith) (omega arith)

  -- the store of a round that was replaced, and of any other
  pub put_here : store_at (with_store stores r store) r ≡ store
  unfolding store_at with_store bytes_at
  put_here =
      same_values (λ k. get_or (paste stores (8 * r) store 8) (8 * r + k) 0) (λ k. get_or store k 0) 8
      (λ k lt. paste_in stores (8 * r) store 8 (omega arith) (omega arith) k lt)
      ∙ values_of store 8 eight

  pub put_other : (q : ℕ) → q < 32 → (q ≡ r → ⊥) → store_at (with_store stores r store) q ≡ store_at stores q
  unfolding store_at with_store bytes_at
  put_other q isQ apart =
      same_values (λ k. get_or (paste stores (8 * r) store 8) (8 * q + k) 0) (λ k. get_or stores (8 * q + k) 0) 8
      (λ k lt. paste_out stores (8 * r) store 8 (omega arith) (omega arith) (8 * q + k) (side k lt (dec_lt q r)))
    where
      side : (k : ℕ) → k < 8 → Dec (q < r) → (8 * q + k < 8 * r) ⊎ (8 * r + 8 ≤ 8 * q + k)
      side k lt (yes less) = inl (omega arith)
      side k lt (no more) =
          let other : r < q = elim (dec_lt r q) [ yes is ↦ is | no not ↦ absurd (apart (omega arith)) ] in
          inr (omega arith)

  -- the first k stores after one of them was replaced
  pub put_among : (k : ℕ) → k ≤ 32 → stores_in (with_store stores r store) k ≡ set (stores_in stores k) r store
  unfolding stores_in
  put_among k few =
      set_values (store_at (with_store stores r store)) (store_at stores) k r store put_here
      (λ q lt apart. put_other q (omega arith) apart)

-- the first k stores, joined, are the first bytes
joined : (stores : List ℕ) (k : ℕ) → 8 * k ≤ length stores → each (up_to k) (store_at stores) ≡ take (8 * k) stores
unfolding store_at each up_to from
joined stores zero fits = refl
joined stores (suc k) fits =
    let next : 8 * k + 8 ≡ 8 * suc k = omega arith in
    each_snoc k (store_at stores)
    ∙ ap₂ (λ (l m : List ℕ). l ++ m) (joined stores k (omega arith)) (bytes_at_part stores (8 * k) 8 (omega arith))
    ∙ sym (take-add (8 * k) 8 stores)
    ∙ ap (λ (n : ℕ). take n stores) next

pub stores_joined : (stores : List ℕ) (k : ℕ) → 8 * k ≤ length stores
    → each (stores_in stores k) (λ store. store) ≡ take (8 * k) stores
unfolding stores_in
stores_joined stores k fits = each_map (store_at stores) (up_to k) (λ store. store) ∙ joined stores k fits

-- the guesses copied from a plan are the stores of the first k rounds
pub guesses_copied : (plan : Plan) (stores : List ℕ) (k : ℕ) → length stores ≡ 256 → k ≤ 32 → 1 + 8 * k ≤ length plan
    → stores_in (paste stores 0 (drop 1 plan) (8 * k)) k ≡ map (λ r. guess plan (record { 0 = r })) (up_to k)
unfolding stores_in store_at bytes_at guess
guesses_copied plan stores k whole few long =
    same_values (store_at (paste stores 0 (drop 1 plan) (8 * k))) (λ r. guess plan (record { 0 = r })) k copied
  where
    enough : 8 * k ≤ length (drop 1 plan)
    enough = omega (arith, length-drop 1 plan)

    byte : (i : ℕ) → i < 8 * k → get_or (paste stores 0 (drop 1 plan) (8 * k)) i 0 ≡ get_or plan (1 + i) 0
    byte i lt =
        ap (λ (j : ℕ). get_or (paste stores 0 (drop 1 plan) (8 * k)) j 0) (omega arith)
        ∙ paste_in stores 0 (drop 1 plan) (8 * k) (omega arith) enough i lt
        ∙ get_or-drop 1 plan i 0

    copied : (r : ℕ) → r < k → store_at (paste stores 0 (drop 1 plan) (8 * k)) r ≡ guess plan (record { 0 = r })
    copied r lt =
        same_values (λ j. get_or (paste stores 0 (drop 1 plan) (8 * k)) (8 * r + j) 0) (λ j. get_or plan (1 + 8 * r + j) 0) 8
        (λ j small. byte (8 * r + j) (omega arith) ∙ ap (λ (i : ℕ). get_or plan i 0) (omega arith))
        ∙ bytes_at_part plan (1 + 8 * r) 8 (omega arith)
