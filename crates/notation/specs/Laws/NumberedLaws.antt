-- Checks whose refusals have numbers from 1 on, so that number 0 says that one passed.
-- Assumes nothing.
use Rattle.std.specs.Prelude.{ℕ, ◌≤◌, Bool, true, false, List, [], ◌∷◌}
use Rattle.std.proofs.Math.Option.{Option, none, some}
use Rattle.notation.specs.Checked.{Checked, refused, passed, require, given, none_of, placed_by, ◌>>=◌, ◌>>◌}
use Rattle.std.specs.Prelude.{if◌then◌else◌}

pub data Numbered {P A : Type 0} : Checked P A → Type 0 where
  by_number : {number : ℕ} {place : P} → 1 ≤ number → Numbered (refused number place)
  none_asked : {value : A} → Numbered (passed value)

pub bind_numbered : {P A B : Type 0} (c : Checked P A) {k : A → Checked P B} → Numbered c
    → ((x : A) → Numbered (k x)) → Numbered (◌>>=◌ c k)
unfolding ◌>>=◌
bind_numbered (refused number place) (by_number h) rest = by_number h
bind_numbered (passed value) h rest = rest value

pub then_numbered : {P A B : Type 0} (c : Checked P A) {d : Checked P B} → Numbered c → Numbered d → Numbered (◌>>◌ c d)
unfolding ◌>>◌
then_numbered (refused number place) (by_number h) rest = by_number h
then_numbered (passed value) h rest = rest

pub require_numbered : {P : Type 0} (test : Bool) (number : ℕ) (place : P) → 1 ≤ number
    → Numbered (require test number place)
unfolding require
require_numbered true number place h = none_asked
require_numbered false number place h = by_number h

pub given_numbered : {P A : Type 0} (o : Option A) (number : ℕ) (place : P) → 1 ≤ number
    → Numbered (given o number place)
unfolding given
given_numbered none number place h = by_number h
given_numbered (some value) number place h = none_asked

pub choice_numbered : {P A : Type 0} (test : Bool) {c d : Checked P A} → Numbered c → Numbered d
    → Numbered (if test then c else d)
choice_numbered true h g = h
choice_numbered false h g = g

pub none_of_numbered : {P : Type 0} (number : ℕ) (fault : P → Bool) (places : List P) → 1 ≤ number
    → Numbered (none_of number fault places)
unfolding none_of
none_of_numbered number fault [] h = none_asked
none_of_numbered number fault (place ∷ places) h =
    choice_numbered (fault place) (by_number h)
    (none_of_numbered number fault places h)

pub placed_numbered : {P Q A : Type 0} (f : P → Q) (c : Checked P A) → Numbered c → Numbered (placed_by f c)
unfolding placed_by
placed_numbered f (refused number place) (by_number h) = by_number h
placed_numbered f (passed value) h = none_asked
