-- Where the reading of a history by rows stands before one of its steps, the history is cut: the steps before it are
-- made, and that one is next.
-- Assumes nothing.
use Rattle.std.specs.Prelude.{◌≡◌, refl, ℕ, zero, suc, ◌≤◌, ◌<◌, Bool, true, false, List, [], ◌∷◌, ◌++◌, length, get_or, replicate, eqb}
use Rattle.std.proofs.Common.{sym, ap, subst, ◌∙◌, arith, eqb-true, ne_eqb}
use Rattle.std.proofs.Math.Decide.{dec_lt, ℕ_discrete}
use Rattle.std.proofs.Math.ListN.{get_or-eq_default}
use Rattle.std.specs.Prelude.{if◌then◌else◌}
use Rattle.notation.specs.Lists.{from, up_to, only, each}
use Rattle.notation.specs.Laws.PairLaws.{every_imp, every_append, every_map, ordered_append, every_ordered, ordered_split}
use Rattle.notation.specs.Ordered.{Every, Ordered}
use Rattle.matching.proofs.Laws.FromPlan.Cuts.{Placed, Cut, row_steps, sequence, gathered}
use Rattle.matching.proofs.Laws.History.Histories.{Mark, Marks, in_round}
use Rattle.notation.specs.Laws.ElementLaws.{each_snoc, only_out, nothing_left}
use Rattle.matching.proofs.Laws.FromPlan.SequenceLaws.{AllRounds, of_job, of_job_append, of_job_own, of_job_other}
use Rattle.matching.proofs.Laws.FromPlan.SequenceLaws.{placed, sequence_job, gathered_own, gathered_long}

-- ---- lists

module _ {A : Type 0} (P Q : A → Type 0) (R : A → A → Type 0) (imp : (x y : A) → P x → Q y → R x y) where
  -- elements of one kind, each related to every one of another kind
  every_across : (xs ys : List A) → Every P xs → Every Q ys → Every (λ x. Every (R x) ys) xs
  every_across xs ys first second =
      every_imp P (λ x. Every (R x) ys) (λ x isP. every_imp Q (R x) (λ y isQ. imp x y isP isQ) ys second) xs first

-- ---- the order of the steps

-- p's round is not after q's, and in the same round its number is not above q's
pub record NoLater (p q : Placed) : Type 0 where
  pub rounds : p.mark.round ≤ q.mark.round
  pub numbers : p.mark.round ≡ q.mark.round → p.number ≤ q.number

-- a step of job x in round r, and one of a job from number x on
record Own (r x : ℕ) (p : Placed) : Type 0 where
  round : p.mark.round ≡ r
  number : p.number ≡ x

record Within (r x : ℕ) (p : Placed) : Type 0 where
  round : p.mark.round ≡ r
  number : x ≤ p.number

own_own : (r x : ℕ) (p q : Placed) → Own r x p → Own r x q → NoLater p q
own_own r x p q first second =
    record { rounds = omega (arith, first.round, second.round); numbers = λ e. omega (arith, first.number, second.number) }

own_within : (r x : ℕ) (p q : Placed) → Own r x p → Within r (suc x) q → NoLater p q
own_within r x p q first second =
    record { rounds = omega (arith, first.round, second.round); numbers = λ e. omega (arith, first.number, second.number) }

earlier_within : (n : ℕ) (p q : Placed) → p.mark.round < n → Within n 0 q → NoLater p q
earlier_within n p q first second = record { rounds = omega (arith, second.round); numbers = λ e. absurd (omega (arith, second.round)) }

-- one job's steps in a round
all_in : (r : ℕ) (ms : List Mark) → Every (λ m. m.round ≡ r) (in_round r ms)
unfolding in_round only
all_in r [] = tt
all_in r (m ∷ ms) = go (eqb m.round r) refl (all_in r ms)
  where
    go : (b : Bool) → eqb m.round r ≡ b → Every (λ m. m.round ≡ r) (in_round r ms)
        → Every (λ m. m.round ≡ r) (if b then m ∷ in_round r ms else in_round r ms)
    go true e later = (eqb-true m.round r e, later)
    go false e later = later

all_own : (r x : ℕ) (ms : List Mark) → Every (Own r x) (placed x (in_round r ms))
unfolding placed
all_own r x ms =
    every_map (Own r x) (λ m. record { number = x; mark = m }) (in_round r ms)
    (every_imp (λ m. m.round ≡ r) (λ m. Own r x (record { number = x; mark = m })) (λ m e. record { round = e; number = refl }) (in_round r ms)
    (all_in r ms))

-- a row
row_within : (r x : ℕ) (h : Marks) → Every (Within r x) (row_steps r x h)
unfolding row_steps placed
row_within r x [] = tt
row_within r x (ms ∷ h) =
    let own = placed x (in_round r ms) in
    let others = row_steps r (suc x) h in
    every_append (Within r x) own others
    (every_imp (Own r x) (Within r x) (λ p at. record { round = at.round; number = omega (arith, at.number) }) own (all_own r x ms))
    (every_imp (Within r (suc x)) (Within r x) (λ p at. record { round = at.round; number = omega (arith, at.number) }) others
    (row_within r (suc x) h))

row_ordered : (r x : ℕ) (h : Marks) → Ordered NoLater (row_steps r x h)
unfolding row_steps placed
row_ordered r x [] = tt
row_ordered r x (ms ∷ h) =
    let own = placed x (in_round r ms) in
    let others = row_steps r (suc x) h in
    ordered_append NoLater own others (every_ordered (Own r x) NoLater (own_own r x) own (all_own r x ms)) (row_ordered r (suc x) h)
    (every_across (Own r x) (Within r (suc x)) NoLater (own_within r x) own others (all_own r x ms) (row_within r (suc x) h))

-- the rows, one after the other
sequence_snoc : (n : ℕ) (h : Marks) → sequence (suc n) h ≡ sequence n h ++ row_steps n 0 h
unfolding sequence
sequence_snoc n h = each_snoc n (λ r. row_steps r 0 h)

sequence_below : (n : ℕ) (h : Marks) → Every (λ p. p.mark.round < n) (sequence n h)
unfolding sequence up_to from each
sequence_below zero h = tt
sequence_below (suc n) h =
    subst (Every (λ p. p.mark.round < suc n)) (sym (sequence_snoc n h))
    (every_append (λ p. p.mark.round < suc n) (sequence n h) (row_steps n 0 h)
    (every_imp (λ p. p.mark.round < n) (λ p. p.mark.round < suc n) (λ p lt. omega arith) (sequence n h) (sequence_below n h))
    (every_imp (Within n 0) (λ p. p.mark.round < suc n) (λ p row. omega (arith, row.round)) (row_steps n 0 h) (row_within n 0 h)))

-- the steps stand in the order of rounds, and in a round in the order of numbers
pub sequence_ordered : (n : ℕ) (h : Marks) → Ordered NoLater (sequence n h)
unfolding sequence up_to from each
sequence_ordered zero h = tt
sequence_ordered (suc n) h =
    subst (Ordered NoLater) (sym (sequence_snoc n h))
    (ordered_append NoLater (sequence n h) (row_steps n 0 h) (sequence_ordered n h) (row_ordered n 0 h)
    (every_across (λ p. p.mark.round < n) (Within n 0) NoLater (earlier_within n) (sequence n h) (row_steps n 0 h) (sequence_below n h)
    (row_within n 0 h)))

-- ---- the cut

-- no step of job y is in round q
none_in : (q y : ℕ) (ps : List Placed) → Every (λ p. p.number ≡ y → p.mark.round ≡ q → ⊥) ps
    → in_round q (of_job y ps) ≡ []
unfolding in_round of_job only
none_in q y [] none = refl
none_in q y (p ∷ ps) none =
    let later = none_in q y ps none.1 in
    elim (ℕ_discrete p.number y) [
      | yes same ↦
          ap (in_round q) (of_job_own y p ps same)
          ∙ only_out (λ m. eqb m.round q) p.mark (of_job y ps) (ne_eqb p.mark.round q (none.0 same))
          ∙ later
      | no apart ↦ ap (in_round q) (of_job_other y p ps apart) ∙ later
    ]

module _ (n : ℕ) (h : Marks) (done : List Placed) (p : Placed) (rest : List Placed) (climbs : AllRounds n h)
    (split : sequence n h ≡ done ++ (p ∷ rest)) where
  abbrev now : Marks
  now = gathered (replicate (length h) []) done

  -- a job's steps are those made and those left
  parts : (y : ℕ) → get_or h y [] ≡ of_job y done ++ of_job y (p ∷ rest)
  parts y = sym (sequence_job n h climbs y) ∙ ap (of_job y) split ∙ of_job_append y done (p ∷ rest)

  made_of : (y : ℕ) → get_or now y [] ≡ of_job y done
  made_of y =
      elim (dec_lt y (length h)) [
        | yes lt ↦ gathered_own (length h) done y lt
        | no out ↦
            let empty = get_or-eq_default h [] {n = y} (omega arith) in
            get_or-eq_default now [] {n = y} (omega (arith, gathered_long (length h) done))
            ∙ sym (nothing_left (of_job y done) (of_job y (p ∷ rest)) (sym (parts y) ∙ empty)).0
      ]

  next_of : of_job p.number (p ∷ rest) ≡ p.mark ∷ of_job p.number rest
  next_of = of_job_own p.number p rest refl

  -- the next step's job is one of the history
  is_job : p.number < length h
  is_job =
      elim (dec_lt p.number (length h)) [
        | yes lt ↦ lt
        | no out ↦
            let empty = get_or-eq_default h [] {n = p.number} (omega arith) in
            let left = (nothing_left (of_job p.number done) (of_job p.number (p ∷ rest)) (sym (parts p.number) ∙ empty)).1 in
            absurd (omega (arith, ap length (sym next_of ∙ left)))
      ]

  before : Every (λ d. NoLater d p) done
  before = (ordered_split NoLater done p rest (subst (Ordered NoLater) split (sequence_ordered n h))).0

  -- the next step and those behind it
  behind : Every (NoLater p) (p ∷ rest)
  behind = (
    record { rounds = omega arith; numbers = λ e. omega arith },
    (ordered_split NoLater done p rest (subst (Ordered NoLater) split (sequence_ordered n h))).1,
  )

  none_made : (y q : ℕ) → ((d : Placed) → NoLater d p → d.number ≡ y → d.mark.round ≡ q → ⊥)
      → in_round q (get_or now y []) ≡ []
  none_made y q none =
      ap (in_round q) (made_of y)
      ∙ none_in q y done (every_imp (λ d. NoLater d p) (λ d. d.number ≡ y → d.mark.round ≡ q → ⊥) none done before)

  none_left : (y q : ℕ) → ((d : Placed) → NoLater p d → d.number ≡ y → d.mark.round ≡ q → ⊥)
      → in_round q (of_job y (p ∷ rest)) ≡ []
  none_left y q none =
      none_in q y (p ∷ rest) (every_imp (NoLater p) (λ d. d.number ≡ y → d.mark.round ≡ q → ⊥) none (p ∷ rest) behind)

  pub sequence_cut : Cut h (gathered (replicate (length h) []) done) p.number p.mark
  sequence_cut =
      record {
        rest = λ y. of_job y (p ∷ rest);
        more = of_job p.number rest;
        same = gathered_long (length h) done;
        known = is_job;
        whole = λ y. parts y ∙ ap (λ (l : List Mark). l ++ of_job y (p ∷ rest)) (sym (made_of y));
        next = next_of;
        made = λ y q lt. none_made y q (λ d order number round. omega (arith, order.rounds));
        left = λ y q lt. none_left y q (λ d order number round. omega (arith, order.rounds));
        row_made = λ y lt. none_made y p.mark.round (λ d order number round. omega (arith, order.numbers round));
        row_left = λ y lt. none_left y p.mark.round (λ d order number round. omega (arith, order.numbers (sym round)));
      }
