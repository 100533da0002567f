-- A check either refuses, with a number of document 01 and a place, or passes a value on.
-- A definition written as a `do` block is read downwards: the first check that refuses decides.
-- Assumes nothing.
use Rattle.std.specs.Prelude.{ℕ, Bool, true, false, List, [], ◌∷◌}
use Rattle.std.proofs.Math.Option.{Option, none, some}
use Rattle.std.specs.Prelude.{if◌then◌else◌}

-- `P` is what a place is: a record, a step's index, an offset, a job or a round.
pub data Checked (P A : Type 0) : Type 0 where
  refused : (number : ℕ) (place : P) → Checked P A
  passed : A → Checked P A

unfoldable pub ◌>>=◌ : {P A B : Type 0} → Checked P A → (A → Checked P B) → Checked P B
◌>>=◌ (refused number place) rest = refused number place
◌>>=◌ (passed value) rest = rest value

unfoldable pub ◌>>◌ : {P A B : Type 0} → Checked P A → Checked P B → Checked P B
◌>>◌ (refused number place) rest = refused number place
◌>>◌ (passed value) rest = rest

-- refuses unless the test holds
unfoldable pub require : {P : Type 0} → Bool → ℕ → P → Checked P (Unit {0})
require true number place = passed tt
require false number place = refused number place

-- refuses unless there is a value, and passes it on
unfoldable pub given : {P A : Type 0} → Option A → ℕ → P → Checked P A
given none number place = refused number place
given (some value) number place = passed value

-- refuses at the first of the listed places where the fault stands
unfoldable pub none_of : {P : Type 0} → ℕ → (P → Bool) → List P → Checked P (Unit {0})
none_of number fault [] = passed tt
none_of number fault (place ∷ places) = if fault place then refused number place else none_of number fault places

-- the same check with its places renamed
unfoldable pub placed_by : {P Q A : Type 0} → (P → Q) → Checked P A → Checked Q A
placed_by f (refused number place) = refused number (f place)
placed_by f (passed value) = passed value

-- the same check with its value led to another
unfoldable pub mapped : {P A B : Type 0} → (A → B) → Checked P A → Checked P B
mapped f (refused number place) = refused number place
mapped f (passed value) = passed (f value)

-- the same check without its value
abbrev pub bare : {P A : Type 0} → Checked P A → Checked P (Unit {0})
bare check = mapped (λ _. tt) check
