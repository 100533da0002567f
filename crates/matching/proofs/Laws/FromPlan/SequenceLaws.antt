-- Laws of a history's steps in the order of its rows: their bytes are the reading by rows, and each job's own steps
-- among them, gathered one after the other, are the history again.
-- Assumes nothing.
use Rattle.std.specs.Prelude.{◌≡◌, ◌≢◌, ℕ, zero, suc, ◌+◌, ◌≤◌, ◌<◌, Bool, length, get_or, replicate, eqb, ltb}
use Rattle.std.proofs.Math.Path.{refl, sym, ap}
use Rattle.std.proofs.Common.{subst, ◌∙◌, arith, length-set, get_or-set_same, get_or-set_other, ext_get_or, eq-eqb, ne_eqb, lt-ltb, le-ltb}
use Rattle.std.proofs.Math.Decide.{dec_lt, ℕ_discrete}
use mathlib.Core.List.{List, [], ◌∷◌, ◌++◌, map, map-append, map-map, append_assoc, append-nil}
use Rattle.std.proofs.lemmas.List.{length-replicate, get_or-replicate}
use Rattle.std.proofs.Math.ListN.{get_or-eq_default}
use Rattle.notation.specs.Lists.{from, up_to, only, each}
use Rattle.timing.specs.Accepted.{Accepted}
use Rattle.matching.proofs.Laws.FromPlan.Cuts.{Placed, row_steps, sequence, placed_byte, gathered}
use Rattle.matching.proofs.Laws.History.Histories.{Mark, Marks, round, marked, bytes_of, in_round, row_from, rows}
use Rattle.notation.specs.Laws.ElementLaws.{only_append, each_snoc, only_in, only_out}
use Rattle.matching.proofs.Laws.FromPlan.RunLaws.{Climbs}

-- ---- the bytes of the steps are the reading by rows

module _ (a : Accepted) where
  row_bytes : (r x : ℕ) (h : Marks) → map (placed_byte a) (row_steps r x h) ≡ row_from a r x h
  unfolding row_steps row_from bytes_of placed_byte
  row_bytes r x [] = refl
  row_bytes r x (ms ∷ h) =
      let place : Mark → Placed = λ m. record { number = x; mark = m } in
      map-append (placed_byte a) (map place (in_round r ms)) (row_steps r (suc x) h)
      ∙ ap (λ (l : List ℕ). l ++ map (placed_byte a) (row_steps r (suc x) h)) (map-map (placed_byte a) place (in_round r ms))
      ∙ ap (λ (l : List ℕ). bytes_of a x (in_round r ms) ++ l) (row_bytes r (suc x) h)

  all_bytes : (rs : List ℕ) (h : Marks)
      → map (placed_byte a) (each rs (λ r. row_steps r 0 h)) ≡ each rs (λ r. row_from a r 0 h)
  unfolding each
  all_bytes [] h = refl
  all_bytes (r ∷ rs) h =
      map-append (placed_byte a) (row_steps r 0 h) (each rs (λ r. row_steps r 0 h))
      ∙ ap (λ (l : List ℕ). l ++ map (placed_byte a) (each rs (λ r. row_steps r 0 h))) (row_bytes r 0 h)
      ∙ ap (λ (l : List ℕ). row_from a r 0 h ++ l) (all_bytes rs h)

  pub rows_sequence : (n : ℕ) (h : Marks) → rows a n h ≡ map (placed_byte a) (sequence n h)
  unfolding rows sequence
  rows_sequence n h = sym (all_bytes (up_to n) h)

-- ---- one job's steps among others

abbrev is_of : ℕ → Placed → Bool
is_of y p = eqb p.number y

-- the steps of job y among these, in order
unfoldable pub of_job : ℕ → List Placed → List Mark
of_job y ps = map (λ p. p.mark) (only (is_of y) ps)

pub of_job_append : (y : ℕ) (ps qs : List Placed) → of_job y (ps ++ qs) ≡ of_job y ps ++ of_job y qs
unfolding of_job
of_job_append y ps qs =
    ap (map (λ (p : Placed). p.mark)) (only_append (is_of y) ps qs) ∙ map-append (λ (p : Placed). p.mark) (only (is_of y) ps) (only (is_of y) qs)

pub of_job_own : (y : ℕ) (p : Placed) (ps : List Placed) → p.number ≡ y → of_job y (p ∷ ps) ≡ p.mark ∷ of_job y ps
unfolding of_job
of_job_own y p ps same = ap (map (λ (p : Placed). p.mark)) (only_in (is_of y) p ps (eq-eqb p.number y same))

pub of_job_other : (y : ℕ) (p : Placed) (ps : List Placed) → p.number ≢ y → of_job y (p ∷ ps) ≡ of_job y ps
unfolding of_job
of_job_other y p ps apart = ap (map (λ (p : Placed). p.mark)) (only_out (is_of y) p ps (ne_eqb p.number y apart))

-- steps that are all job x's: all of them for x, and none for another
unfoldable pub placed : ℕ → List Mark → List Placed
placed x ms = map (λ m. record { number = x; mark = m }) ms

all_own : (x : ℕ) (ms : List Mark) → of_job x (placed x ms) ≡ ms
unfolding placed of_job only
all_own x [] = refl
all_own x (m ∷ ms) =
    of_job_own x (record { number = x; mark = m }) (placed x ms) refl ∙ ap (λ (l : List Mark). m ∷ l) (all_own x ms)

all_other : (y x : ℕ) (ms : List Mark) → x ≢ y → of_job y (placed x ms) ≡ []
unfolding placed of_job only
all_other y x [] apart = refl
all_other y x (m ∷ ms) apart =
    of_job_other y (record { number = x; mark = m }) (placed x ms) apart ∙ all_other y x ms apart

-- ---- one job's steps in a row, and in all of them

-- in a row from number x on, a job below x has none, and job x + y those of its column in that round
row_below : (r x y : ℕ) (h : Marks) → y < x → of_job y (row_steps r x h) ≡ []
unfolding row_steps placed of_job only
row_below r x y [] lt = refl
row_below r x y (ms ∷ h) lt =
    of_job_append y (placed x (in_round r ms)) (row_steps r (suc x) h)
    ∙ ap (λ (l : List Mark). l ++ of_job y (row_steps r (suc x) h)) (all_other y x (in_round r ms) (λ e. omega arith))
    ∙ row_below r (suc x) y h (omega arith)

row_job : (r x y : ℕ) (h : Marks) → of_job (x + y) (row_steps r x h) ≡ in_round r (get_or h y [])
unfolding row_steps placed of_job only in_round
row_job r x y [] = refl
row_job r x zero (ms ∷ h) =
    let place : x + 0 ≡ x = omega arith in
    rw place
    (of_job_append x (placed x (in_round r ms)) (row_steps r (suc x) h)
    ∙ ap (λ (l : List Mark). l ++ of_job x (row_steps r (suc x) h)) (all_own x (in_round r ms))
    ∙ ap (λ (l : List Mark). in_round r ms ++ l) (row_below r (suc x) x h (omega arith))
    ∙ append-nil (in_round r ms))
row_job r x (suc y) (ms ∷ h) =
    let place : x + suc y ≡ suc x + y = omega arith in
    of_job_append (x + suc y) (placed x (in_round r ms)) (row_steps r (suc x) h)
    ∙ ap (λ (l : List Mark). l ++ of_job (x + suc y) (row_steps r (suc x) h)) (all_other (x + suc y) x (in_round r ms) (λ e. omega arith))
    ∙ ap (λ (k : ℕ). of_job k (row_steps r (suc x) h)) place
    ∙ row_job r (suc x) y h

rows_job : (y : ℕ) (h : Marks) (rs : List ℕ)
    → of_job y (each rs (λ r. row_steps r 0 h)) ≡ each rs (λ r. in_round r (get_or h y []))
unfolding each of_job only
rows_job y h [] = refl
rows_job y h (r ∷ rs) =
    let place : 0 + y ≡ y = omega arith in
    let row : of_job y (row_steps r 0 h) ≡ in_round r (get_or h y []) = rw place at (row_job r 0 y h) in
    of_job_append y (row_steps r 0 h) (each rs (λ r. row_steps r 0 h))
    ∙ ap (λ (l : List Mark). l ++ of_job y (each rs (λ r. row_steps r 0 h))) row
    ∙ ap (λ (l : List Mark). in_round r (get_or h y []) ++ l) (rows_job y h rs)

-- ---- rounds that do not fall

-- the rounds of these steps do not fall, from p on, and are below n
abbrev pub RoundsFrom : ℕ → ℕ → List Mark → Type 0
RoundsFrom n p ms = Climbs n (round p) (map (λ m. round m.round) ms)

abbrev pub Rounds : ℕ → List Mark → Type 0
Rounds n ms = RoundsFrom n 0 ms

-- every job's
abbrev pub AllRounds : ℕ → Marks → Type 0
AllRounds n h = (y : ℕ) → y < length h → Rounds n (get_or h y [])

abbrev is_below : ℕ → Mark → Bool
is_below n m = ltb m.round n

-- no step is in a round below the first's
none_below : (k p n : ℕ) (ms : List Mark) → RoundsFrom k p ms → n ≤ p → only (is_below n) ms ≡ []
unfolding only
none_below k p n [] climbs le = refl
none_below k p n (m ∷ ms) climbs le =
    only_out (is_below n) m ms (le-ltb m.round n (omega (arith, climbs.0)))
    ∙ none_below k m.round n ms climbs.2 (omega (arith, climbs.0))

all_below : (n p : ℕ) (ms : List Mark) → RoundsFrom n p ms → only (is_below n) ms ≡ ms
unfolding only
all_below n p [] climbs = refl
all_below n p (m ∷ ms) climbs =
    only_in (is_below n) m ms (lt-ltb m.round n climbs.1)
    ∙ ap (λ (l : List Mark). m ∷ l) (all_below n m.round ms climbs.2)

-- the steps below round n + 1 are those below n and then those of round n: where the first is in round n, before it
-- or behind it
abbrev Splits : ℕ → List Mark → Type 0
Splits n ms = only (is_below (suc n)) ms ≡ only (is_below n) ms ++ in_round n ms

splits_at : (k n : ℕ) (m : Mark) (ms : List Mark) → RoundsFrom k m.round ms → m.round ≡ n → Splits n ms
    → Splits n (m ∷ ms)
unfolding in_round
splits_at k n m ms climbs same later =
    let own : Mark → Bool = λ m. eqb m.round n in
    let none = none_below k m.round n ms climbs (omega arith) in
    let without = only_out (is_below n) m ms (le-ltb m.round n (omega arith)) ∙ none in
    only_in (is_below (suc n)) m ms (lt-ltb m.round (suc n) (omega arith))
    ∙ ap (λ (l : List Mark). m ∷ l) (later ∙ ap (λ (l : List Mark). l ++ only own ms) none)
    ∙ sym (only_in own m ms (eq-eqb m.round n same))
    ∙ ap (λ (l : List Mark). l ++ only own (m ∷ ms)) (sym without)

splits_before : (n : ℕ) (m : Mark) (ms : List Mark) → m.round < n → Splits n ms → Splits n (m ∷ ms)
unfolding in_round
splits_before n m ms lt later =
    let own : Mark → Bool = λ m. eqb m.round n in
    only_in (is_below (suc n)) m ms (lt-ltb m.round (suc n) (omega arith))
    ∙ ap (λ (l : List Mark). m ∷ l) later
    ∙ ap (λ (l : List Mark). l ++ only own ms) (sym (only_in (is_below n) m ms (lt-ltb m.round n lt)))
    ∙ ap (λ (l : List Mark). only (is_below n) (m ∷ ms) ++ l) (sym (only_out own m ms (ne_eqb m.round n (λ e. omega arith))))

splits_behind : (n : ℕ) (m : Mark) (ms : List Mark) → n < m.round → Splits n ms → Splits n (m ∷ ms)
unfolding in_round
splits_behind n m ms lt later =
    let own : Mark → Bool = λ m. eqb m.round n in
    only_out (is_below (suc n)) m ms (le-ltb m.round (suc n) (omega arith))
    ∙ later
    ∙ ap (λ (l : List Mark). l ++ only own ms) (sym (only_out (is_below n) m ms (le-ltb m.round n (omega arith))))
    ∙ ap (λ (l : List Mark). only (is_below n) (m ∷ ms) ++ l) (sym (only_out own m ms (ne_eqb m.round n (λ e. omega arith))))

below_suc : (k p n : ℕ) (ms : List Mark) → RoundsFrom k p ms → Splits n ms
unfolding only in_round
below_suc k p n [] climbs = refl
below_suc k p n (m ∷ ms) climbs =
    let later = below_suc k m.round n ms climbs.2 in
    elim (ℕ_discrete m.round n) [
      | yes same ↦ splits_at k n m ms climbs.2 same later
      | no apart ↦
          elim (dec_lt m.round n) [
            | yes lt ↦ splits_before n m ms lt later
            | no other ↦ splits_behind n m ms (omega arith) later
          ]
    ]

-- so the steps round by round are the steps in order
by_rounds : (k p n : ℕ) (ms : List Mark) → RoundsFrom k p ms → each (up_to n) (λ r. in_round r ms) ≡ only (is_below n) ms
unfolding up_to from each
by_rounds k p zero ms climbs = sym (none_below k p 0 ms climbs (omega arith))
by_rounds k p (suc n) ms climbs =
    each_snoc n (λ r. in_round r ms)
    ∙ ap (λ (l : List Mark). l ++ in_round n ms) (by_rounds k p n ms climbs)
    ∙ sym (below_suc k p n ms climbs)

column_rounds : (n : ℕ) (h : Marks) → AllRounds n h → (y : ℕ) → Rounds n (get_or h y [])
column_rounds n h climbs y =
    elim (dec_lt y (length h)) [
      | yes lt ↦ climbs y lt
      | no out ↦ rw (get_or-eq_default h [] {n = y} (omega arith)) tt
    ]

-- the steps of a job in the sequence, in order, are its column
pub sequence_job : (n : ℕ) (h : Marks) → AllRounds n h → (y : ℕ) → of_job y (sequence n h) ≡ get_or h y []
unfolding sequence
sequence_job n h climbs y =
    let column = column_rounds n h climbs y in
    rows_job y h (up_to n) ∙ by_rounds n 0 n (get_or h y []) column ∙ all_below n 0 (get_or h y []) column

-- ---- steps gathered one after the other

pub gathered_length : (h : Marks) (ps : List Placed) → length (gathered h ps) ≡ length h
unfolding gathered marked
gathered_length h [] = refl
gathered_length h (p ∷ ps) = gathered_length (marked h p.number p.mark) ps ∙ length-set h p.number _

-- a step more of a job is one more at its end
own_more : (h : Marks) (p : Placed) (ps : List Placed) → p.number < length h
    → get_or (marked h p.number p.mark) p.number [] ++ of_job p.number ps ≡ get_or h p.number [] ++ of_job
    p.number (p ∷ ps)
unfolding marked
own_more h p ps lt =
    let column : List Mark = get_or h p.number [] in
    ap (λ (l : List Mark). l ++ of_job p.number ps) (get_or-set_same h p.number (column ++ (p.mark ∷ [])) [] lt)
    ∙ append_assoc column (p.mark ∷ []) (of_job p.number ps)
    ∙ ap (λ (l : List Mark). column ++ l) (sym (of_job_own p.number p ps refl))

other_more : (h : Marks) (p : Placed) (ps : List Placed) (y : ℕ) → p.number ≢ y
    → get_or (marked h p.number p.mark) y [] ++ of_job y ps ≡ get_or h y [] ++ of_job y (p ∷ ps)
unfolding marked
other_more h p ps y apart =
    ap (λ (l : List Mark). l ++ of_job y ps) (get_or-set_other h p.number y _ [] (λ e. apart (sym e)))
    ∙ ap (λ (l : List Mark). get_or h y [] ++ l) (sym (of_job_other y p ps apart))

-- so each job's steps are those before, and then its own of the new ones
pub gathered_job : (h : Marks) (ps : List Placed) (y : ℕ) → y < length h
    → get_or (gathered h ps) y [] ≡ get_or h y [] ++ of_job y ps
unfolding gathered marked of_job only
gathered_job h [] y lt = sym (append-nil (get_or h y []))
gathered_job h (p ∷ ps) y lt =
    let long = length-set h p.number (get_or h p.number [] ++ (p.mark ∷ [])) in
    gathered_job (marked h p.number p.mark) ps y (omega (arith, long))
    ∙ elim (ℕ_discrete p.number y) [
      | yes same ↦
          subst (λ (k : ℕ). get_or (marked h p.number p.mark) k [] ++ of_job k ps ≡ get_or h k [] ++ of_job k (p ∷ ps)) same
          (own_more h p ps (omega arith))
      | no apart ↦ other_more h p ps y apart
    ]

-- from no steps on, those are all
pub gathered_own : (n : ℕ) (ps : List Placed) (y : ℕ) → y < n → get_or (gathered (replicate n []) ps) y [] ≡ of_job y ps
gathered_own n ps y lt =
    let none : List Mark = [] in
    gathered_job (replicate n []) ps y (omega (arith, length-replicate n none))
    ∙ ap (λ (l : List Mark). l ++ of_job y ps) (get_or-replicate n y [] [] lt)

pub gathered_long : (n : ℕ) (ps : List Placed) → length (gathered (replicate n []) ps) ≡ n
gathered_long n ps = gathered_length (replicate n []) ps ∙ length-replicate n []

-- the steps in the order of the rows, gathered, are the history
pub sequence_gathered : (n : ℕ) (h : Marks) → AllRounds n h → gathered (replicate (length h) []) (sequence n h) ≡ h
sequence_gathered n h climbs =
    let long = gathered_long (length h) (sequence n h) in
    ext_get_or [] (gathered (replicate (length h) []) (sequence n h)) h long
    (λ y lt. gathered_own (length h) (sequence n h) y (omega (arith, long)) ∙ sequence_job n h climbs y)
