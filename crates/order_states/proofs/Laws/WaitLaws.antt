-- Laws of the wait table: how it grows job by job, and, made from the times of an accepted table, what it says: of each
-- task's jobs those that come before a job are the first few.
-- Assumes nothing.
use Rattle.std.specs.Prelude.{◌≡◌, ℕ, zero, suc, ◌+◌, ◌*◌, ◌≤◌, ◌<◌, false, ◌&&◌, List, length, set, replicate, ltb, eqb}
use Rattle.std.proofs.Math.Path.{refl, sym, ap}
use Rattle.std.proofs.Common.{◌∙◌, inl, inr, arith, get_or-set_same}
use Rattle.std.proofs.Math.Decide.{ℕ_discrete}
use Rattle.std.proofs.Math.Numerals.{add-one}
use Rattle.std.proofs.Math.Bool.{true, not}
use Rattle.std.proofs.Math.ListN.{get_or, length-set}
use Rattle.std.proofs.lemmas.List.{length-replicate, get_or-replicate}
use Rattle.std.proofs.Math.Seq.{get_or-set_other}
use borrow.Author.Tests.{ltb-true, eqb-true, eqb-false, eq-eqb, ne_eqb, lt-ltb, not-true}
use Rattle.taskfile.specs.declared.Ceilings.{Ceilings}
use Rattle.notation.specs.Laws.TestLaws.{and_both, and_holds, and_first, and_second, and_last, test_decided, not_both, both_ways}
use Rattle.timing.specs.declared.Job.{Job}
use Rattle.timing.specs.Accepted.{Accepted}
use Rattle.timing.specs.Code.IsAccepted.{IsAccepted}
use Rattle.timing.proofs.Laws.BaseLaws.{base_small, earlier_too}
use Rattle.timing.proofs.Laws.JobFacts.{same_task}
use Rattle.timing.proofs.Laws.RelationLaws.{before_says, before_one_way}
use Rattle.timing.specs.Relations.{IsJob, base, before}
use Rattle.order_states.specs.Code.Lent.{precedes, waited_of, wait_among, RowFilled, WaitsTo}
use Rattle.order_states.specs.Code.Shows.{LendsTimes, Lends}
use Rattle.order_states.specs.Code.SnapshotSteps.{owner_in, before_in, wait_in}
use Rattle.order_states.proofs.Laws.ShowLaws.{before_lent}

-- ---- one job more

module _ (program times : List ℕ) (y k n : ℕ) where
  pub among_waited : waited_of program times y k n ≡ true → wait_among program times y k (suc n) ≡ suc n
  unfolding wait_among
  among_waited h = rw h refl

  pub among_other : waited_of program times y k n ≡ false
      → wait_among program times y k (suc n) ≡ wait_among program times y k n
  unfolding wait_among
  among_other h = rw h refl

-- ---- who goes first

module _ (program times : List ℕ) (x y : ℕ) where
  pub precedes_itself : x ≡ y → precedes program times x y ≡ false
  unfolding precedes
  precedes_itself e = and_first (not (eqb x y)) _ (ap not (eq-eqb x y e))

  pub precedes_other : (x ≡ y → ⊥) → precedes program times x y ≡ before_in program times x y
  unfolding precedes
  precedes_other apart = and_second (not (eqb x y)) _ (ap not (ne_eqb x y apart))

-- ---- one row, as it is filled

module _ {program times : List ℕ} {y : ℕ} {before : List ℕ} where
  pub row_starts : ((k : ℕ) → k < 8 → wait_in before y k ≡ 0) → RowFilled program times y 0 before before
  unfolding wait_among
  row_starts blank = record { row = blank; others = λ z k apart lt. refl; same = refl }

  module _ {n : ℕ} {now : List ℕ} (filled : RowFilled program times y n before now) where
    -- a job that is not waited for leaves it as it is
    row_passed : ((k : ℕ) → k < 8 → waited_of program times y k n ≡ false)
        → RowFilled program times y (n + 1) before now
    row_passed none = record {
      row = λ k lt.
          filled.row k lt ∙ sym (among_other program times y k n (none k lt)) ∙ ap (wait_among program times y k) (sym (add-one n));
      others = filled.others;
      same = filled.same;
    }

    -- one of no task, and one that does not go first
    pub row_unowned : 8 ≤ owner_in program n → RowFilled program times y (n + 1) before now
    unfolding waited_of
    row_unowned high = row_passed (λ k lt. and_first (eqb (owner_in program n) k) _ (ne_eqb (owner_in program n) k (λ e. omega arith)))

    pub row_later : precedes program times n y ≡ false → RowFilled program times y (n + 1) before now
    unfolding waited_of
    row_later h = row_passed (λ k lt. and_last (eqb (owner_in program n) k) _ h)

    -- one that does is noted in its task's byte
    module _ (small : owner_in program n < 8) (first : precedes program times n y ≡ true) (job : y < 32) (room : length before ≡ 256) where
      abbrev at : ℕ
      at = 8 * y + owner_in program n

      here : get_or (set now at (n + 1)) at 0 ≡ n + 1
      here = get_or-set_same now at (n + 1) 0 (omega (arith, filled.same))

      byte_here : (k : ℕ) → k ≡ owner_in program n → wait_in (set now at (n + 1)) y k ≡ wait_among program times y k (n + 1)
      unfolding wait_in waited_of
      byte_here k e =
          ap (λ (m : ℕ). get_or (set now at (n + 1)) (8 * y + m) 0) e ∙ here ∙ add-one n
          ∙ sym (among_waited program times y k n (and_holds (eqb (owner_in program n) k) _ (eq-eqb _ _ (sym e)) first))
          ∙ ap (wait_among program times y k) (sym (add-one n))

      byte_other : (k : ℕ) → k < 8 → (k ≡ owner_in program n → ⊥) → wait_in (set now at (n + 1)) y k ≡ wait_among program times y k (n + 1)
      unfolding wait_in waited_of
      byte_other k lt apart =
          get_or-set_other now at (8 * y + k) (n + 1) 0 (λ e. apart (omega arith)) ∙ filled.row k lt
          ∙ sym (among_other program times y k n (and_first (eqb (owner_in program n) k) _ (ne_eqb (owner_in program n) k (λ e. apart (sym e)))))
          ∙ ap (wait_among program times y k) (sym (add-one n))

      pub row_noted : RowFilled program times y (n + 1) before (set now at (n + 1))
      unfolding wait_in
      row_noted = record {
        row = λ k lt. elim (ℕ_discrete k (owner_in program n)) [ yes e ↦ byte_here k e | no apart ↦ byte_other k lt apart ];
        others = λ z k apart lt.
            get_or-set_other now at (8 * z + k) (n + 1) 0 (λ e. apart (omega arith)) ∙ filled.others z k apart lt;
        same = length-set now at (n + 1) ∙ filled.same;
      }

-- ---- the rows, one after the other

zeros : (k n : ℕ) → k < n → ◌≡◌ {A = ℕ} (get_or (replicate n 0) k 0) 0
zeros k n lt = get_or-replicate n k 0 0 lt

pub waits_none : (program times : List ℕ) (n : ℕ) → WaitsTo program times n 0 (replicate 256 0)
unfolding wait_in
waits_none program times n = record {
  rows = λ y lt. absurd (omega arith);
  blank = λ y k low high small. zeros (8 * y + k) 256 (omega arith);
  room = length-replicate {A = ℕ} 256 0;
}

pub waits_more : {program times : List ℕ} {n m : ℕ} {before after : List ℕ} → WaitsTo program times n m before
    → RowFilled program times m n before after → WaitsTo program times n (m + 1) after
waits_more {program} {times} {n} {m} made filled = record {
  rows = λ y lt k small. elim (ℕ_discrete y m) [
    | yes e ↦ rw e (filled.row k small)
    | no apart ↦ filled.others y k apart small ∙ made.rows y (omega arith) k small
  ];
  blank = λ y k low high small. filled.others y k (λ e. omega arith) small ∙ made.blank y k (omega arith) high small;
  room = filled.same ∙ made.room;
}

-- ---- the last that is waited for

-- a byte above 0 is one past a job that is waited for
among_last : (program times : List ℕ) (y k n m : ℕ) → wait_among program times y k n ≡ suc m
    → (m < n) × (waited_of program times y k m ≡ true)
unfolding wait_among
among_last program times y k zero m e = absurd (omega arith)
among_last program times y k (suc n) m e = elim (test_decided (waited_of program times y k n)) [
  | inl h ↦
      let same : n ≡ m = omega (arith, among_waited program times y k n h) in
      (omega arith, ap (waited_of program times y k) (sym same) ∙ h)
  | inr h ↦
      let earlier = among_last program times y k n m (sym (among_other program times y k n h) ∙ e) in
      (omega (arith, earlier.0), earlier.1)
]

-- a job that is waited for is below the byte
among_below : (program times : List ℕ) (y k n x : ℕ) → x < n → waited_of program times y k x ≡ true
    → x < wait_among program times y k n
among_below program times y k zero x lt w = absurd (omega arith)
among_below program times y k (suc n) x lt w = elim (test_decided (waited_of program times y k n)) [
  | inl h ↦ omega (arith, among_waited program times y k n h)
  | inr h ↦
      let apart : x ≡ n → ⊥ = λ same. not_both _ w (ap (waited_of program times y k) same ∙ h) in
      omega (arith, among_other program times y k n h, among_below program times y k n x (omega arith) w)
]

-- ---- what it says of an accepted table

module _ {a : Accepted} (ok : IsAccepted a) {program times : List ℕ} {locks : Ceilings} (lends : LendsTimes a program times locks) where
  -- whom a job waits for
  precedes_before : (x y : Job) → IsJob a x → IsJob a y → precedes program times x.0 y.0 ≡ before a x y
  unfolding precedes
  precedes_before x y is_x isY = both_ways _ _ says holds
    where
      says : (not (eqb x.0 y.0) && before_in program times x.0 y.0) ≡ true → before a x y ≡ true
      says h =
          let parts = and_both (not (eqb x.0 y.0)) _ h in
          sym (before_lent lends x y is_x isY (eqb-false _ _ (not-true _ parts.0))) ∙ parts.1

      holds : before a x y ≡ true → (not (eqb x.0 y.0) && before_in program times x.0 y.0) ≡ true
      holds h =
          let apart = (before_says a x y h).0 in
          and_holds (not (eqb x.0 y.0)) _ (ap not (ne_eqb _ _ apart)) (before_lent lends x y is_x isY apart ∙ h)

  waited_before : (x y : Job) → IsJob a x → IsJob a y → waited_of program times y.0 (base a x) x.0 ≡ before a x y
  unfolding waited_of
  waited_before x y is_x isY =
      and_second (eqb (owner_in program x.0) (base a x)) _ (eq-eqb _ _ (lends.table.owner x is_x)) ∙ precedes_before x y is_x isY

  module _ (y : Job) (isY : IsJob a y) where
    abbrev byte : ℕ → ℕ
    byte k = wait_among program times y.0 k (length a.jobs)

    -- a byte above 0 is one past a job of the task that comes before y
    pub byte_last : (k n : ℕ) → byte k ≡ suc n
        → IsJob a (record { 0 = n }) × (base a (record { 0 = n }) ≡ k) × (before a (record { 0 = n }) y ≡ true)
    unfolding waited_of
    byte_last k n e =
        let last = among_last program times y.0 k (length a.jobs) n e in
        let x : Job = record { 0 = n } in
        let owned = and_both (eqb (owner_in program n) k) _ last.1 in
        let task : base a x ≡ k = sym (lends.table.owner x last.0) ∙ eqb-true _ _ owned.0 in (
          last.0,
          task,
          sym (waited_before x y last.0 isY) ∙ ap (λ (j : ℕ). waited_of program times y.0 j n) task ∙ last.1,
        )

    -- the jobs of a task below it come before y
    byte_before : (x : Job) → IsJob a x → x.0 < byte (base a x) → before a x y ≡ true
    byte_before x is_x lt = go (byte (base a x)) refl lt
      where
        go : (n : ℕ) → byte (base a x) ≡ n → x.0 < n → before a x y ≡ true
        go zero e low = absurd (omega arith)
        go (suc n) e low =
            let last = byte_last (base a x) n e in
            let z : Job = record { 0 = n } in
            let apart : x.0 ≡ y.0 → ⊥ = λ same.
            (let other = (before_says a z y last.2).0 in
            let tasks : base a y ≡ base a z = ap (λ (m : ℕ). base a (record { 0 = m })) (sym same) ∙ sym last.1 in
            before_one_way ok.is_timed z y last.0 isY last.2 (same_task ok.is_timed y z (omega (arith, other)) last.0 tasks)) in
            earlier_too ok x z y (omega arith) last.0 (sym last.1) apart last.2

    -- so before is a matter of the byte
    pub byte_says : (x : Job) → IsJob a x → before a x y ≡ ltb x.0 (byte (base a x))
    byte_says x is_x =
        both_ways _ _
        (λ h. lt-ltb _ _ (among_below program times y.0 (base a x) (length a.jobs) x.0 is_x (waited_before x y is_x isY ∙ h)))
        (λ h. byte_before x is_x (ltb-true _ _ h))

  -- the made table is what the steps are lent
  pub waits_lent : {waits : List ℕ} → WaitsTo program times (length a.jobs) (length a.jobs) waits
      → Lends a program waits locks
  waits_lent made = record {
    table = lends.table;
    preceding = λ x y is_x isY.
        byte_says y isY x is_x ∙ ap (ltb x.0) (sym (made.rows y.0 isY (base a x) (base_small ok x is_x)));
    waited = λ y k n isY small e.
        (let last = byte_last y isY k n (sym (made.rows y.0 isY k small) ∙ e) in (last.0, last.1));
  }
