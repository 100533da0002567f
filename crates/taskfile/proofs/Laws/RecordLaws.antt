-- Laws of the records of a task file: bytes past the file's end, zero bytes one by one, the largest values of all
-- fields as one list, and what its largest value says of a field.
-- Assumes nothing.
use Rattle.std.specs.Prelude.{ℕ, zero, suc, ◌+◌, ◌*◌, ◌-◌, ◌≤◌, ◌<◌, ◌≡◌, refl, Bool, true, false, ◌&&◌, leb, ltb, eqb}
use Rattle.std.specs.Prelude.{List, ◌++◌, map, length, get_or, take, drop, min}
use Rattle.std.proofs.Common.{add-one, arith, sym, subst, eqb-true, eq-eqb, ne_eqb, le-leb, ltb-true}
use Rattle.std.proofs.Math.ListN.{get_or-eq_default}
use Rattle.std.proofs.Math.Decide.{dec_lt}
use Rattle.std.proofs.Math.Seq.{drop-cons, take-nil}
use Rattle.std.proofs.lemmas.List.{drop_min, drop_all}
use Rattle.std.specs.List.{list_all}
use Rattle.taskfile.specs.declared.Field.{Field}
use Rattle.taskfile.specs.declared.Field.TheVariants.{A, B, C}
use Rattle.taskfile.specs.declared.Instruction.{Instruction}
use Rattle.notation.specs.Lists.{from, up_to, all}
use Rattle.taskfile.specs.Code.RecordFields.{field_of, limit_of}
use Rattle.taskfile.specs.Records.{File, byte_at, wide_at, zero_from, Use, unused, most, lock_number, Uses, uses, operation_uses, uses_of, tidy_field}
use Rattle.taskfile.specs.Records.{field_in_range, fields_in_range, choice_in_range, instruction_in_range}
use Rattle.notation.specs.Laws.TestLaws.{and_both}
use Rattle.notation.specs.Laws.ListLaws.{up_to_length, get_or_up_to}
use Rattle.notation.specs.Laws.QuantifierLaws.{all_at, all_get_or}

-- past the file's end every byte is 0
pub byte_at_past : (f : File) (r k : ℕ) → length f ≤ 16 * r + k → byte_at f r k ≡ 0
unfolding byte_at
byte_at_past f r k h = get_or-eq_default f 0 h

-- a wide field by its four places in the file
pub wide_at_read : (f : File) (r k : ℕ) → wide_at f r k
    ≡ get_or f (16 * r + k) 0 + 256 * get_or f (16 * r + k + 1) 0 + 65536 * get_or f (16 * r + k + 2) 0
    + 16777216 * get_or f (16 * r + k + 3) 0
unfolding wide_at byte_at
wide_at_read f r k =
    let one : 16 * r + (k + 1) ≡ 16 * r + k + 1 = omega arith in
    let two : 16 * r + (k + 2) ≡ 16 * r + k + 2 = omega arith in
    let three : 16 * r + (k + 3) ≡ 16 * r + k + 3 = omega arith in
    rw (one, two, three) refl

-- the test of no bytes holds; it fails where the first byte is not 0, and where it is, it is the test of the others
pub zero_from_none : (f : File) (r k n : ℕ) → n ≤ 0 → zero_from f r k n ≡ true
unfolding zero_from from all
zero_from_none f r k zero h = refl
zero_from_none f r k (suc n) h = absurd (omega arith)

pub zero_from_other : (f : File) (r k n : ℕ) → 0 < n → (byte_at f r k ≡ 0 → ⊥) → zero_from f r k n ≡ false
unfolding zero_from from all
zero_from_other f r k zero h other = absurd (omega arith)
zero_from_other f r k (suc n) h other = rw (ne_eqb (byte_at f r k) 0 other)

pub zero_from_more : (f : File) (r k n : ℕ) → 0 < n → byte_at f r k ≡ 0 → zero_from f r k n ≡ zero_from f r (k + 1) (n - 1)
unfolding zero_from from all
zero_from_more f r k zero h same = absurd (omega arith)
zero_from_more f r k (suc n) h same =
    let fewer : suc n - 1 ≡ n = omega arith in
    rw (eq-eqb (byte_at f r k) 0 same, fewer, add-one k)

-- the test of n bytes is that of those that the file has, since past its end every byte is 0
zero_bytes : (f : File) (r k n : ℕ) → list_all (λ b. eqb b 0) (take n (drop (16 * r + k) f)) ≡ zero_from f r k n
unfolding zero_from from all byte_at
zero_bytes f r k zero = refl
zero_bytes f r k (suc n) =
    let next : 16 * r + suc k ≡ suc (16 * r + k) = omega arith in
    elim (dec_lt (16 * r + k) (length f)) [
      | yes inside ↦ rw (drop-cons f (16 * r + k) 0 inside, ← zero_bytes f r (suc k) n, next)
      | no past ↦
          let here = get_or-eq_default f 0 {n = 16 * r + k} (omega arith) in
          rw (drop_all (16 * r + k) f (omega arith), here, ← zero_bytes f r (suc k) n, drop_all (16 * r + suc k) f (omega arith), take-nil)
    ]

pub zero_from_file : (f : File) (r k n : ℕ)
    → list_all (λ b. eqb b 0) (take n (drop (min (16 * r + k) (length f)) f)) ≡ zero_from f r k n
zero_from_file f r k n = rw drop_min (zero_bytes f r k n)

-- an operation past the last uses no field
abbrev pub no_uses : Uses
no_uses = uses unused unused unused

no_uses_field : (field : Field) → field_of field no_uses ≡ unused
unfolding field_of
no_uses_field A = refl
no_uses_field B = refl
no_uses_field C = refl

pub limit_past : (o : ℕ) (field : Field) → length operation_uses ≤ o → limit_of (field_of field (uses_of o)) ≡ 0
unfolding uses_of limit_of
limit_past o field h = rw (get_or-eq_default operation_uses no_uses h, no_uses_field field)

-- the largest values of field a of each operation, then of field b, then of field c, in one list
unfoldable pub limits : List Uses → List ℕ
limits us = map (λ u. limit_of u.a) us ++ (map (λ u. limit_of u.b) us ++ map (λ u. limit_of u.c) us)

-- where the values of a field begin in the list
abbrev pub start_of : Field → ℕ
start_of A = 0
start_of B = 12
start_of C = 24

-- does the list have what is said of a field of an operation?
limited : Field → ℕ → Bool
limited field o = eqb (get_or (limits operation_uses) (start_of field + o) 0) (limit_of (field_of field (uses_of o)))

all_limited : (field : Field) → all (limited field) (up_to 12) ≡ true
unfolding all up_to from limited limits operation_uses uses_of limit_of field_of
all_limited A = refl
all_limited B = refl
all_limited C = refl

pub limits_at : (o : ℕ) (field : Field) → o < 12
    → get_or (limits operation_uses) (start_of field + o) 0 ≡ limit_of (field_of field (uses_of o))
unfolding limited
limits_at o field lt =
    eqb-true _ _
    (subst (λ (k : ℕ). limited field k ≡ true) (get_or_up_to 12 o 0 lt)
    (all_at (limited field) (up_to 12) o 0 (all_limited field) (omega (arith, up_to_length 12))))

-- a used field has a largest value above 0
bounded : Use → Bool
bounded unused = true
bounded (most n) = ltb 0 n
bounded lock_number = true

all_bounded : Uses → Bool
all_bounded u = bounded u.a && (bounded u.b && bounded u.c)

operations_bounded : all all_bounded operation_uses ≡ true
unfolding all operation_uses all_bounded bounded
operations_bounded = refl

uses_of_bounded : (o : ℕ) → all_bounded (uses_of o) ≡ true
unfolding uses_of all_bounded bounded
uses_of_bounded o = all_get_or all_bounded operation_uses o no_uses operations_bounded refl

field_bounded : (field : Field) (u : Uses) → all_bounded u ≡ true → bounded (field_of field u) ≡ true
unfolding field_of all_bounded
field_bounded A u h = (and_both (bounded u.a) _ h).0
field_bounded B u h = (and_both (bounded u.b) _ (and_both (bounded u.a) _ h).1).0
field_bounded C u h = (and_both (bounded u.b) _ (and_both (bounded u.a) _ h).1).1

bounded_unused : (u : Use) → bounded u ≡ true → limit_of u ≡ 0 → u ≡ unused
unfolding bounded limit_of
bounded_unused unused h e = refl
bounded_unused (most n) h e = absurd (omega (arith, ltb-true 0 n h))
bounded_unused lock_number h e = absurd (omega arith)

-- a field whose largest value is 0 is unused
pub limit_unused : (o : ℕ) (field : Field) → limit_of (field_of field (uses_of o)) ≡ 0 → field_of field (uses_of o) ≡ unused
limit_unused o field e = bounded_unused (field_of field (uses_of o)) (field_bounded field (uses_of o) (uses_of_bounded o)) e

-- a field of another largest value is used, and a byte in it is in range up to that value
pub tidy_field_used : (u : Use) (x : ℕ) → (limit_of u ≡ 0 → ⊥) → tidy_field u x ≡ true
unfolding tidy_field limit_of
tidy_field_used unused x h = absurd (h refl)
tidy_field_used (most n) x h = refl
tidy_field_used lock_number x h = refl

pub field_in_range_used : (u : Use) (x : ℕ) → x < 256 → (limit_of u ≡ 0 → ⊥) → field_in_range u x ≡ leb x (limit_of u)
unfolding field_in_range limit_of
field_in_range_used unused x b h = absurd (h refl)
field_in_range_used (most n) x b h = refl
field_in_range_used lock_number x b h = sym (le-leb x 255 (omega arith))

-- what an instruction in range is like: its operation is known, each field in range, and a Pick's c not above its b
pub record Ranged (i : Instruction) : Type 0 where
  pub known : i.operation < 12
  pub in_a : field_in_range (uses_of i.operation).a i.a ≡ true
  pub in_b : field_in_range (uses_of i.operation).b i.b ≡ true
  pub in_c : field_in_range (uses_of i.operation).c i.c ≡ true
  pub choice : choice_in_range i ≡ true

pub instruction_ranged : (i : Instruction) → instruction_in_range i ≡ true → Ranged i
unfolding instruction_in_range fields_in_range operation_uses
instruction_ranged i inside =
    let u = uses_of i.operation in
    let known = ltb i.operation 12 in
    let both = and_both (fields_in_range i) (choice_in_range i) inside in
    let third = and_both (known && field_in_range u.a i.a && field_in_range u.b i.b) _ both.0 in
    let second = and_both (known && field_in_range u.a i.a) _ third.0 in
    let first = and_both known _ second.0 in
    record {
      known = ltb-true i.operation 12 first.0;
      in_a = first.1;
      in_b = second.1;
      in_c = third.1;
      choice = both.1;
    }
