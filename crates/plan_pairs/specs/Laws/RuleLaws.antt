-- Laws of the rules for two jobs: the answer of a rule from those of its parts, where its function asks the second part
-- only if the first leaves it open.
-- Assumes nothing.
use Rattle.std.specs.Prelude.{◌≡◌, refl, ℕ, ◌≤◌, ◌<◌, Bool, true, false, not, ◌&&◌, ◌||◌}
use Rattle.std.proofs.Common.{◌∙◌}
use Rattle.std.proofs.Math.Dec.{ltb}
use borrow.Author.Tests.{le-leb, lt-leb, not-true, not-false}
use Rattle.notation.specs.Laws.TestLaws.{and_first, and_second, and_last, and_holds, or_left, or_right, or_second}
use Rattle.std.proofs.Math.Path.{sym, ap}
use Rattle.plan.specs.declared.Round.{Round}
use Rattle.plan.specs.Runs.{earlier, not_later}
use Rattle.order_states.specs.Code.SnapshotSteps.{Program, LentTimes, owner_in, before_in, preempts_in}
use Rattle.plan_marks.specs.declared.Marks.{Marks}
use Rattle.plan_marks.specs.Code.PairParts.{round_of_start, round_of_end, before_kept, rounds_apart, rounds_nested, none_within}
use Rattle.plan_marks.specs.Code.PairParts.{preempt_kept, priority_reached, lock_kept, order_faulty, lock_faulty}

-- ---- one of two parts

-- the first holds
pub first_holds : {a p : Bool} (q : Bool) → a ≡ p → a ≡ true → a ≡ (p || q)
first_holds {a} {p} q same h = h ∙ sym (or_left p q (sym same ∙ h))

-- it does not, and the second decides
pub second_decides : {a c p q : Bool} → a ≡ p → a ≡ false → c ≡ q → c ≡ (p || q)
second_decides {a} {c} {p} {q} same h other = other ∙ sym (or_second p q (sym same ∙ h))

-- ---- both parts

-- the first fails
pub first_fails : {a p : Bool} (q : Bool) → a ≡ p → a ≡ false → a ≡ (p && q)
first_fails {a} {p} q same h = h ∙ sym (and_first p q (sym same ∙ h))

-- it holds, and the second decides
pub second_left : {a c p q : Bool} → a ≡ p → a ≡ true → c ≡ q → c ≡ (p && q)
second_left {a} {c} {p} {q} same h other = other ∙ sym (and_second p q (sym same ∙ h))

-- one of two fails where not both hold
pub not_both : (p q : Bool) → (not p || not q) ≡ not (p && q)
not_both true q = refl
not_both false q = refl

-- ---- two rounds that were read stand as those that are meant

pub earlier_read : {e s e' s' : Round} → e ≡ e' → s ≡ s' → earlier e s ≡ earlier e' s'
earlier_read p q = λ j. earlier (p j) (q j)

pub not_later_read : {e s e' s' : Round} → e ≡ e' → s ≡ s' → not_later e s ≡ not_later e' s'
not_later_read p q = λ j. not_later (p j) (q j)

-- ---- over plain tests

-- a rule that is not asked is kept
unasked : (p q : Bool) {b : Bool} → b ≡ p → not b ≡ true → (not p || q) ≡ true
unasked p q {b} same h = or_left (not p) q (ap not (sym same) ∙ h)

-- one that is asked goes by its second part
asked : (p q : Bool) {b : Bool} → b ≡ p → not b ≡ false → (not p || q) ≡ q
asked p q {b} same h = or_second (not p) q (ap not (sym same) ∙ h)

-- ---- each rule, case by case: rounds

module _ (marks : Marks) (x y : ℕ) where
  -- x ends before y starts
  abbrev first : Bool
  first = earlier (round_of_end marks x) (round_of_start marks y)

  pub apart_first : {b : Bool} → b ≡ earlier (round_of_end marks x) (round_of_start marks y) → b ≡ true
      → true ≡ rounds_apart marks x y
  unfolding rounds_apart
  apart_first is h = sym (or_left first _ (sym is ∙ h))

  pub apart_second : {b c : Bool} → b ≡ earlier (round_of_end marks x) (round_of_start marks y) → b ≡ false
      → c ≡ earlier (round_of_end marks y) (round_of_start marks x) → c ≡ rounds_apart marks x y
  unfolding rounds_apart
  apart_second is h other = other ∙ sym (or_second first _ (sym is ∙ h))

  -- y starts before x: it is not nested in it
  pub nested_early : {s t : Round} → s ≡ round_of_start marks y → t ≡ round_of_start marks x → s.0 < t.0
      → false ≡ rounds_nested marks y x
  unfolding rounds_nested
  nested_early {s} {t} starts starts' h =
      sym (and_first (not_later (round_of_start marks x) (round_of_start marks y)) _
      (sym (not_later_read starts' starts) ∙ lt-leb t.0 s.0 h))

  pub nested_ends : {s t e f : Round} → s ≡ round_of_start marks y → t ≡ round_of_start marks x → t.0 ≤ s.0
      → e ≡ round_of_end marks y → f ≡ round_of_end marks x → earlier e f ≡ rounds_nested marks y x
  unfolding rounds_nested
  nested_ends {s} {t} starts starts' h ends ends' =
      earlier_read ends ends'
      ∙ sym (and_second (not_later (round_of_start marks x) (round_of_start marks y)) _
      (sym (not_later_read starts' starts) ∙ le-leb t.0 s.0 h))

-- ---- rules

module _ (program : Program) (times : LentTimes) (marks : Marks) (x y : ℕ) where
  pub before_free : {b : Bool} → b ≡ before_in program times x y → not b ≡ true
      → true ≡ before_kept program times marks x y
  unfolding before_kept
  before_free same h = sym (unasked (before_in program times x y) _ same h)

  pub before_rounds : {b : Bool} → b ≡ before_in program times x y → not b ≡ false
      → {c : Bool} → c ≡ earlier (round_of_end marks x) (round_of_start marks y) → c ≡ before_kept program times marks x y
  unfolding before_kept
  before_rounds same h ends = ends ∙ sym (asked (before_in program times x y) _ same h)

module _ (program : Program) (times : LentTimes) (marks : Marks) (y x : ℕ) where
  abbrev preempts : Bool
  preempts = preempts_in program times y x

  abbrev is_apart : Bool
  is_apart = rounds_apart marks x y

  abbrev nested : Bool
  nested = rounds_nested marks y x

  pub preempt_free : {b : Bool} → b ≡ preempts_in program times y x → not b ≡ true
      → true ≡ preempt_kept program times marks y x
  unfolding preempt_kept
  preempt_free same h = sym (or_left (not preempts || is_apart) _ (unasked preempts is_apart same h))

  pub preempt_apart : {c : Bool} → c ≡ rounds_apart marks x y → c ≡ true → true ≡ preempt_kept program times marks y x
  unfolding preempt_kept
  preempt_apart same h = sym (or_left (not preempts || is_apart) _ (or_right (not preempts) is_apart (sym same ∙ h)))

  module _ {b : Bool} (may : b ≡ preempts_in program times y x) (asks : not b ≡ false) where
    module _ {c : Bool} (apart : c ≡ rounds_apart marks x y) (meet : c ≡ false) where
      -- the two meet: the nested job's rounds decide
      preempt_meets : preempt_kept program times marks y x
          ≡ (rounds_nested marks y x && none_within marks x (round_of_start marks y) (round_of_end marks y))
      unfolding preempt_kept
      preempt_meets = or_second (not preempts || is_apart) _ (asked preempts is_apart may asks ∙ sym apart ∙ meet)

      pub preempt_crossed : {d : Bool} → d ≡ rounds_nested marks y x → not d ≡ true
          → false ≡ preempt_kept program times marks y x
      preempt_crossed {d} same h = sym (preempt_meets ∙ and_first nested _ (sym same ∙ not-true d h))

      pub preempt_within : {d : Bool} → d ≡ rounds_nested marks y x → not d ≡ false
          → {s e : Round} → s ≡ round_of_start marks y → e ≡ round_of_end marks y
          → {r : Bool} → r ≡ none_within marks x s e → r ≡ preempt_kept program times marks y x
      preempt_within {d} same h starts ends kept =
          kept ∙ (λ j. none_within marks x (starts j) (ends j))
          ∙ sym (preempt_meets ∙ and_second nested _ (sym same ∙ not-false d h))

    pub lock_apart : {d : Bool} → d ≡ rounds_nested marks y x → not d ≡ true → true ≡ lock_kept program times marks y x
    unfolding lock_kept
    lock_apart {d} same h =
        sym (or_left (not (preempts && nested)) _ (ap not (and_last preempts nested (sym same ∙ not-true d h))))

    -- x's priority up to y's start decides
    pub lock_priority : {d : Bool} → d ≡ rounds_nested marks y x → not d ≡ false
        → {s : Round} → s ≡ round_of_start marks y → {p : ℕ} → p ≡ priority_reached marks (owner_in program x) x s
        → ltb p (owner_in program y) ≡ lock_kept program times marks y x
    unfolding lock_kept
    lock_priority {d} same h starts held =
        ap (λ (p : ℕ). ltb p (owner_in program y))
        (held ∙ ap (priority_reached marks (owner_in program x) x) starts)
        ∙ sym (or_second (not (preempts && nested)) _
        (ap not (and_holds preempts nested (sym may ∙ not-false _ asks) (sym same ∙ not-false d h))))

  pub lock_free : {b : Bool} → b ≡ preempts_in program times y x → not b ≡ true → true ≡ lock_kept program times marks y x
  unfolding lock_kept
  lock_free {b} same h =
      sym (or_left (not (preempts && nested)) _ (ap not (and_first preempts nested (sym same ∙ not-true b h))))

-- ---- the faults

-- of four rules in a row
four_first : (p q r s : Bool) → p ≡ false → not (p && q && r && s) ≡ true
four_first p q r s h = ap not (and_first (p && q && r) s (and_first (p && q) r (and_first p q h)))

four_second : (p q r s : Bool) → q ≡ false → not (p && q && r && s) ≡ true
four_second p q r s h = ap not (and_first (p && q && r) s (and_first (p && q) r (and_last p q h)))

four_third : (p q r s : Bool) → r ≡ false → not (p && q && r && s) ≡ true
four_third p q r s h = ap not (and_first (p && q && r) s (and_last (p && q) r h))

four_last : (p q r s : Bool) → p ≡ true → q ≡ true → r ≡ true → not (p && q && r && s) ≡ not s
four_last p q r s h k l =
    ap not (and_second (p && q && r) s (and_holds (p && q) r (and_holds p q h k) l))

module _ (program : Program) (times : LentTimes) (marks : Marks) (x y : ℕ) where
  abbrev kept : ℕ → ℕ → Bool
  kept = before_kept program times marks

  abbrev over : ℕ → ℕ → Bool
  over = preempt_kept program times marks

  pub order_first_lem : {b : Bool} → b ≡ before_kept program times marks x y → not b ≡ true
      → true ≡ order_faulty program times marks x y
  unfolding order_faulty
  order_first_lem {b} same h = sym (four_first (kept x y) (kept y x) (over y x) (over x y) (sym same ∙ not-true b h))

  pub order_second : {b : Bool} → b ≡ before_kept program times marks y x → not b ≡ true
      → true ≡ order_faulty program times marks x y
  unfolding order_faulty
  order_second {b} same h = sym (four_second (kept x y) (kept y x) (over y x) (over x y) (sym same ∙ not-true b h))

  pub order_third : {b : Bool} → b ≡ preempt_kept program times marks y x → not b ≡ true
      → true ≡ order_faulty program times marks x y
  unfolding order_faulty
  order_third {b} same h = sym (four_third (kept x y) (kept y x) (over y x) (over x y) (sym same ∙ not-true b h))

  pub order_last : {b : Bool} → b ≡ before_kept program times marks x y → not b ≡ false
      → {c : Bool} → c ≡ before_kept program times marks y x → not c ≡ false
      → {d : Bool} → d ≡ preempt_kept program times marks y x → not d ≡ false
      → {e : Bool} → e ≡ preempt_kept program times marks x y → not e ≡ order_faulty program times marks x y
  unfolding order_faulty
  order_last {b} first h {c} second k {d} third l last =
      ap not last
      ∙ sym (four_last (kept x y) (kept y x) (over y x) (over x y) (sym first ∙ not-false b h)
      (sym second ∙ not-false c k) (sym third ∙ not-false d l))

  pub locks_first : {b : Bool} → b ≡ lock_kept program times marks y x → not b ≡ true
      → true ≡ lock_faulty program times marks x y
  unfolding lock_faulty
  locks_first {b} same h = sym (ap not (and_first (lock_kept program times marks y x) _ (sym same ∙ not-true b h)))

  pub locks_last : {b : Bool} → b ≡ lock_kept program times marks y x → not b ≡ false
      → {c : Bool} → c ≡ lock_kept program times marks x y → not c ≡ lock_faulty program times marks x y
  unfolding lock_faulty
  locks_last {b} first h second =
      ap not second ∙ sym (ap not (and_second (lock_kept program times marks y x) _ (sym first ∙ not-false b h)))
