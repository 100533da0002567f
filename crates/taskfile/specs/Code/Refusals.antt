-- What a function that may refuse answers, as the check that it makes: its value, or the number and the place.
-- Assumes nothing.
use Rattle.std.specs.Prelude.{ℕ, Result, Ok, Err}
use Rattle.notation.specs.Checked.{Checked, refused, passed}
use Rattle.taskfile.specs.declared.refusals.Refusal.{Refusal}
use Rattle.taskfile.specs.declared.refusals.Refusal.TheVariants.{Size, Kind, Chain, Field, Count, Stray, Body, Rate, Ceiling, Overload, Jobs}
use Rattle.taskfile.specs.declared.refusals.Refusal.TheVariants.{Room, Undecided, Step, Short, Extra, Task, Offer}
use Rattle.taskfile.specs.declared.refusals.Refusal.TheVariants.{Shape, Value, Round, Order, Lock, Guess, Line, Large, Long}
use Rattle.taskfile.specs.declared.refusals.Refused.{Refused}

-- the number of a refusal
abbrev pub number_of : Refusal → ℕ
number_of Size = 1
number_of Kind = 2
number_of Chain = 3
number_of Field = 4
number_of Count = 5
number_of Stray = 6
number_of Body = 7
number_of Rate = 8
number_of Ceiling = 9
number_of Overload = 10
number_of Jobs = 11
number_of Room = 20
number_of Undecided = 21
number_of Step = 30
number_of Short = 31
number_of Extra = 32
number_of Task = 33
number_of Offer = 34
number_of Shape = 40
number_of Value = 41
number_of Round = 42
number_of Order = 43
number_of Lock = 44
number_of Guess = 45
number_of Line = 60
number_of Large = 61
number_of Long = 62

-- the check that an answer makes
abbrev pub outcome : {P A : Type 0} → Result A (Refused P) → Checked P A
outcome (Ok value) = passed value
outcome (Err e) = refused (number_of e.why) e.place
