-- What is read of bytes behind others: a byte, a wide field, several bytes, and one part after the other.
-- Assumes nothing.
use Rattle.std.specs.Prelude.{◌≡◌, length, get_or}
use Rattle.std.proofs.Math.Path.{refl, sym, ap}
use Rattle.std.proofs.Common.{◌∙◌, get_or-append-add}
use Prim.Native.Nat.{ℕ, suc, ◌+◌, ◌*◌, ◌<◌, ◌^◌}
use Rattle.std.proofs.Math.Nat.{mul-suc}
use native.Mathlib.Omega.{arith}
use mathlib.Core.List.{List, [], ◌∷◌, ◌++◌, map, append_assoc}
use Rattle.std.proofs.Math.ListN.{length-append, get_or-append}
use Rattle.notation.specs.Laws.ElementLaws.{shifted}
use Rattle.notation.specs.Laws.TabulateLaws.{values_are}
use Rattle.notation.specs.Lists.{from, up_to, bytes_at, each}
use Rattle.notation.specs.Ordered.{Every}
use Rattle.writer.proofs.Laws.WideBytesLaws.{wide_back}
use Rattle.writer.specs.Layout.{wide_bytes}
use Rattle.writer.specs.Memory.{byte_in, wide_in}

-- the byte at place k behind a front
pub byte_behind : (front ys : List ℕ) (k place : ℕ) → length front + k ≡ place
    → byte_in (front ++ ys) place ≡ get_or ys k 0
unfolding byte_in
byte_behind front ys k place is = ap (λ (n : ℕ). get_or (front ++ ys) n 0) (sym is) ∙ get_or-append-add front ys k 0

-- a wide field, written and read behind a front
pub wide_behind : (front ys : List ℕ) (x place : ℕ) → length front ≡ place → x < 2 ^ 32
    → wide_in (front ++ (wide_bytes x ++ ys)) place ≡ x
unfolding wide_in wide_bytes
wide_behind front ys x place is fits =
    let a = byte_behind front (wide_bytes x ++ ys) 0 place (omega arith) in
    let b = byte_behind front (wide_bytes x ++ ys) 1 (place + 1) (omega arith) in
    let c = byte_behind front (wide_bytes x ++ ys) 2 (place + 2) (omega arith) in
    let d = byte_behind front (wide_bytes x ++ ys) 3 (place + 3) (omega arith) in
    (λ j. a j + 256 * b j + 65536 * c j + 16777216 * d j) ∙ wide_back x fits

-- the same with more to skip
pub wide_skipped : (front skip ys : List ℕ) (x place : ℕ) → length front + length skip ≡ place → x < 2 ^ 32
    → wide_in (front ++ (skip ++ (wide_bytes x ++ ys))) place ≡ x
wide_skipped front skip ys x place is fits =
    ap (λ (l : List ℕ). wide_in l place) (sym (append_assoc front skip (wide_bytes x ++ ys)))
    ∙ wide_behind (front ++ skip) ys x place (length-append front skip ∙ is) fits

-- several bytes behind a front
pub bytes_behind : (front xs ys : List ℕ) (n place : ℕ) → length front ≡ place → length xs ≡ n
    → bytes_at (front ++ (xs ++ ys)) place n ≡ xs
unfolding bytes_at byte_in
bytes_behind front xs ys n place is long =
    sym
    (values_are (λ k. get_or (front ++ (xs ++ ys)) (place + k) 0) n xs 0 long
    (λ k below.
    sym (byte_behind front (xs ++ ys) k (place + k) (omega arith) ∙ get_or-append xs ys 0 k (omega arith))))

-- Parts of one size, each of which is read back where it stands, are read back one after the other.
module _ {A : Type 0} (read : List ℕ → ℕ → A) (write : A → List ℕ) (size : ℕ) (P : A → Type 0)
    (long : (x : A) → P x → length (write x) ≡ size)
    (back : (front : List ℕ) (x : A) (rest : List ℕ) (place : ℕ) → P x → length front ≡ place
    → read (front ++ (write x ++ rest)) place ≡ x) where
  -- how long they are together
  pub parts_long : (xs : List A) → Every P xs → length (each xs write) ≡ size * length xs
  unfolding each
  parts_long [] fit = omega arith
  parts_long (x ∷ xs) fit =
      length-append (write x) (each xs write)
      ∙ omega (arith, long x fit.0, parts_long xs fit.1, mul-suc size (length xs))

  -- as many as there are
  parts_behind : (front : List ℕ) (xs : List A) (rest : List ℕ) (place : ℕ) → Every P xs → length front ≡ place
      → map (λ i. read (front ++ (each xs write ++ rest)) (place + size * i)) (up_to (length xs)) ≡ xs
  unfolding each up_to from
  parts_behind front [] rest place fit is = refl
  parts_behind front (x ∷ xs) rest place fit is =
      let here : front ++ (each (x ∷ xs) write ++ rest) ≡ front ++ (write x ++ (each xs write ++ rest)) =
      ap (λ (l : List ℕ). front ++ l) (append_assoc (write x) (each xs write) rest) in
      let there : front ++ (each (x ∷ xs) write ++ rest) ≡ (front ++ write x) ++ (each xs write ++ rest) =
      here ∙ sym (append_assoc front (write x) (each xs write ++ rest)) in
      let first : place + size * 0 ≡ place = omega arith in
      let next : (i : ℕ) → place + size * suc i ≡ place + size + size * i = λ i. omega (arith, mul-suc size i) in
      let head : read (front ++ (each (x ∷ xs) write ++ rest)) (place + size * 0) ≡ x =
      (λ j. read (here j) (first j)) ∙ back front x (each xs write ++ rest) place fit.0 is in
      let tail : map (λ i. read (front ++ (each (x ∷ xs) write ++ rest)) (place + size * i)) (from 1 (length xs)) ≡ xs =
      shifted (λ i. read (front ++ (each (x ∷ xs) write ++ rest)) (place + size * i)) 0 (length xs)
      ∙ (λ j. map (λ i. read (there j) (next i j)) (from 0 (length xs)))
      ∙ parts_behind (front ++ write x) xs rest (place + size) fit.1
      (length-append front (write x) ∙ omega (arith, long x fit.0)) in
      λ j. head j ∷ tail j

  -- the same with their number given
  pub parts_back : (front : List ℕ) (xs : List A) (rest : List ℕ) (place n : ℕ) → Every P xs → length front ≡ place
      → length xs ≡ n → map (λ i. read (front ++ (each xs write ++ rest)) (place + size * i)) (up_to n) ≡ xs
  parts_back front xs rest place n fit is count =
      ap (λ (k : ℕ). map (λ i. read (front ++ (each xs write ++ rest)) (place + size * i)) (up_to k)) (sym count)
      ∙ parts_behind front xs rest place fit is
