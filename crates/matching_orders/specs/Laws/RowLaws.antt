-- The loop that writes a plan's steps: the bytes of a job in a round.
-- Assumes nothing.
use Rattle.std.specs.Prelude.{◌≡◌, refl, ◌&&◌, length, ltb, if◌then◌else◌}
use Rattle.std.proofs.Common.{sym, subst, ◌∙◌, add-one, arith}
use Rattle.std.proofs.Math.Path.{ap}
use Prim.Native.Nat.{ℕ, ◌+◌, ◌*◌, ◌≤◌, ◌<◌}
use Rattle.std.proofs.Math.Bool.{Bool, true, false}
use mathlib.Core.List.{List, [], ◌∷◌, ◌++◌, map}
use Rattle.std.proofs.Math.Dec.{eqb}
use borrow.Author.Tests.{lt-ltb, le-ltb, eq-eqb, ne_eqb}
use Rattle.notation.specs.Lists.{from, up_to, only, each}
use Rattle.notation.specs.Laws.ElementLaws.{each_snoc, only_in, only_append, only_drops}
use Rattle.notation.specs.Laws.ListLaws.{map_snoc}
use Rattle.plan.specs.Runs.{Step}
use Rattle.order_states.specs.Code.SnapshotSteps.{Program, owner_in}
use Rattle.plan_marks.specs.declared.Marks.{Marks}
use Rattle.plan_marks.specs.Code.Marks.{step_marked, step_count, steps_marked}
use Rattle.notation.specs.Laws.TabulateLaws.{values_snoc}
use Rattle.notation_buffers.specs.declared.pages.Page.{Page}
use Rattle.notation_buffers.specs.Code.Pages.{Puts}
use Rattle.notation_buffers.specs.Code.Writing.{Appends}
use Rattle.notation_buffers.specs.Laws.WritingLaws.{appends_none, appends_more, appends_length}
use Rattle.notation_buffers.specs.Laws.PageLaws.{puts_same, puts_none, puts_more}
use Rattle.matching_orders.specs.Code.Rows.{written_byte, job_row}

-- ---- one byte

pub byte_no_task : (task value : ℕ) → 16 ≤ task → written_byte task value ≡ 0
unfolding written_byte
byte_no_task task value high = rw (le-ltb task 16 high) refl

pub byte_no_value : (task value : ℕ) → 16 ≤ value → written_byte task value ≡ 0
unfolding written_byte
byte_no_value task value high = go (ltb task 16)
  where
    go : (b : Bool) → (if b && ltb value 16 then 16 * task + value else 0) ≡ 0
    go true = rw (le-ltb value 16 high) refl
    go false = refl

pub byte_small : (task value : ℕ) → task < 16 → value < 16 → written_byte task value ≡ 16 * task + value
unfolding written_byte
byte_small task value low few = rw (lt-ltb task 16 low, lt-ltb value 16 few) refl

-- ---- the steps of a job

-- the bytes of the first n steps of job x in round r
unfoldable pub row_to : Program → Marks → ℕ → ℕ → ℕ → List ℕ
row_to program marks r x n =
    map (λ step. written_byte (owner_in program x) step.value)
    (only (λ step. eqb step.round.0 r) (map (step_marked marks x) (up_to n)))

-- they were written
pub record RowTo (program : Program) (marks : Marks) (r x n : ℕ) (before now : Page) : Type 0 where
  pub puts : Puts before (row_to program marks r x n) now

pub row_none : (program : Program) (marks : Marks) (r x : ℕ) (page : Page) → RowTo program marks r x 0 page page
unfolding row_to up_to from only
row_none program marks r x page = record { puts = puts_none page }

module _ {program : Program} {marks : Marks} {r x n : ℕ} {before now : Page} (row : RowTo program marks r x n before now)
    {step : Step} (read : step ≡ step_marked marks x n) where
  -- a step of another round is passed over
  row_same : (step.round.0 ≡ r → ⊥) → row_to program marks r x n ≡ row_to program marks r x (n + 1)
  unfolding row_to
  row_same other =
      let test : Step → Bool = λ step. eqb step.round.0 r in
      let fails : test (step_marked marks x n) ≡ false =
      ne_eqb (step_marked marks x n).round.0 r (λ e. other (ap (λ (s : Step). s.round.0) read ∙ e)) in
      sym (ap (map (λ step. written_byte (owner_in program x) step.value))
      (ap (only test) (values_snoc (step_marked marks x) n)
      ∙ only_drops test (map (step_marked marks x) (up_to n)) (step_marked marks x n) fails))

  pub row_skip : {page : Page} → (step.round.0 ≡ r → ⊥) → page ≡ now → RowTo program marks r x (n + 1) before page
  row_skip other same = rw same (record { puts = puts_same (row_same other) row.puts })

  -- and one of the round adds its byte
  row_byte : step.round.0 ≡ r
      → row_to program marks r x (n + 1)
      ≡ row_to program marks r x n ++ (written_byte (owner_in program x) (step_marked marks x n).value ∷ [])
  unfolding row_to only
  row_byte here =
      let test : Step → Bool = λ step. eqb step.round.0 r in
      let byte : Step → ℕ = λ step. written_byte (owner_in program x) step.value in
      let earlier = map (step_marked marks x) (up_to n) in
      let holds : test (step_marked marks x n) ≡ true =
      eq-eqb (step_marked marks x n).round.0 r (sym (ap (λ (s : Step). s.round.0) read) ∙ here) in
      ap (λ (steps : List Step). map byte (only test steps)) (values_snoc (step_marked marks x) n)
      ∙ ap (map byte) (only_append test earlier (step_marked marks x n ∷ [])
      ∙ ap (λ (steps : List Step). only test earlier ++ steps) (only_in test (step_marked marks x n) [] holds))
      ∙ map_snoc byte (only test earlier) (step_marked marks x n)

  pub row_more : {byte : ℕ} {after page : Page} → step.round.0 ≡ r
      → byte ≡ written_byte (owner_in program x) step.value → Puts now (byte ∷ []) after → page ≡ after
      → RowTo program marks r x (n + 1) before page
  row_more {byte} {after} {page} here made puts same =
      let is : byte ≡ written_byte (owner_in program x) (step_marked marks x n).value =
      made ∙ ap (λ (s : Step). written_byte (owner_in program x) s.value) read in
      let bytes : row_to program marks r x n ++ (byte ∷ []) ≡ row_to program marks r x (n + 1) =
      ap (λ (b : ℕ). row_to program marks r x n ++ (b ∷ [])) is ∙ sym (row_byte here) in
      rw same (record { puts = puts_same bytes (puts_more row.puts puts) })

pub row_all : {program : Program} {marks : Marks} {r x n : ℕ} {before now : Page}
    → RowTo program marks r x n before now → n ≡ step_count marks x → Puts before (job_row program marks r x) now
unfolding job_row row_to steps_marked
row_all {program} {marks} {r} {x} row all = puts_same (ap (row_to program marks r x) all) row.puts

-- ---- the jobs of a round, and the rounds, from a place of a buffer on

-- the parts of the first n of k numbers were written
pub record PartsTo (part : ℕ → List ℕ) (k at : ℕ) (before now : List ℕ) (next n : ℕ) : Type 0 where
  pub is : Appends 512 before at (each (up_to n) part) now next
  pub most : n ≤ k

pub row_parts_none : (part : ℕ → List ℕ) (k at : ℕ) (before : List ℕ) → PartsTo part k at before before at 0
unfolding each up_to from
row_parts_none part k at before = record { is = appends_none 512 before at; most = omega arith }

pub parts_more : {part : ℕ → List ℕ} {k at : ℕ} {before now : List ℕ} {next n : ℕ} {after : List ℕ} {m : ℕ}
    → PartsTo part k at before now next n → 512 ≤ length before → n < k → Appends 512 now next (part n) after m
    → PartsTo part k at before after m (n + 1)
parts_more {part} {k} {at} {before} {now} {next} {n} {after} {m} parts room inside appends =
    let bytes : each (up_to n) part ++ part n ≡ each (up_to (n + 1)) part =
    sym (each_snoc n part) ∙ ap (λ (j : ℕ). each (up_to j) part) (sym (add-one n)) in
    record {
      is = subst (λ (l : List ℕ). Appends 512 before at l after m) bytes (appends_more room parts.is appends);
      most = omega arith;
    }

pub row_parts_all : {part : ℕ → List ℕ} {k at : ℕ} {before now : List ℕ} {next n : ℕ} → PartsTo part k at before now next n
    → k ≤ n → Appends 512 before at (each (up_to k) part) now next
row_parts_all {part} {k} {at} {before} {now} {next} {n} parts enough =
    let all : n ≡ k = omega (arith, parts.most) in
    subst (λ (j : ℕ). Appends 512 before at (each (up_to j) part) now next) all parts.is

-- a buffer keeps its length
pub parts_length : {part : ℕ → List ℕ} {k at : ℕ} {before now : List ℕ} {next n : ℕ}
    → PartsTo part k at before now next n → 512 ≤ length before → length now ≡ length before
parts_length parts room = appends_length parts.is room
