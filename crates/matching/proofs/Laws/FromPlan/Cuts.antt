-- A history cut where its reading by rows stands: some of each job's steps are made, and one step is next.
-- Assumes nothing.
use Rattle.std.specs.Prelude.{◌≡◌, ℕ, suc, ◌*◌, ◌+◌, ◌<◌, List, [], ◌∷◌, ◌++◌, map, length, get_or}
use Rattle.notation.specs.Lists.{up_to, each}
use Rattle.timing.specs.Accepted.{Accepted}
use Rattle.timing.specs.Relations.{base}
use Rattle.matching.proofs.Laws.History.Histories.{Mark, Marks, job, marked, in_round}

-- a step and its job's number
pub record Placed : Type 0 where
  pub number : ℕ
  pub mark : Mark

-- the steps of round r, job after job from number x on
unfoldable pub row_steps : ℕ → ℕ → Marks → List Placed
row_steps r x [] = []
row_steps r x (ms ∷ h) = map (λ m. record { number = x; mark = m }) (in_round r ms) ++ row_steps r (suc x) h

-- n rounds, one after the other
unfoldable pub sequence : ℕ → Marks → List Placed
sequence n h = each (up_to n) (λ r. row_steps r 0 h)

-- a step's order byte
unfoldable pub placed_byte : Accepted → Placed → ℕ
placed_byte a p = 16 * base a (job p.number) + p.mark.value

-- the history with these steps more, one after the other
unfoldable pub gathered : Marks → List Placed → Marks
gathered h [] = h
gathered h (p ∷ ps) = gathered (marked h p.number p.mark) ps

-- of h the steps `now` are made, and m of job x is next: rounds made come no later than m's and rounds left no
-- earlier, and in m's round no job above x has made a step and no job below x has one left
pub record Cut (h now : Marks) (x : ℕ) (m : Mark) : Type 0 where
  pub rest : ℕ → List Mark
  pub more : List Mark
  pub same : length now ≡ length h
  pub known : x < length h
  pub whole : (y : ℕ) → get_or h y [] ≡ get_or now y [] ++ rest y
  pub next : rest x ≡ m ∷ more
  pub made : (y q : ℕ) → m.round < q → in_round q (get_or now y []) ≡ []
  pub left : (y q : ℕ) → q < m.round → in_round q (rest y) ≡ []
  pub row_made : (y : ℕ) → x < y → in_round m.round (get_or now y []) ≡ []
  pub row_left : (y : ℕ) → y < x → in_round m.round (rest y) ≡ []
