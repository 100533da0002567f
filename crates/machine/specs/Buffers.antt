-- What the entries answer for an order or a plan, and what a lent buffer then holds. Document 01, "Numbers by who
-- causes them": "an accepted, converted or found order or plan also returns its end store, the set of failed jobs and
-- any length written"; "zero-fills to 512 or 1,281; bytes beyond never change".
-- Assumes nothing.
use Rattle.std.specs.Prelude.{ℕ, List, [], ◌++◌, length, drop}
use Rattle.notation.specs.Checked.{Checked, refused, passed}
use Rattle.notation.specs.Lists.{padded}
use Rattle.machine.specs.declared.RunAnswer.{RunAnswer}
use Rattle.machine.specs.Ends.{no_flags, no_store}
use Rattle.machine.specs.declared.End.{End}

-- an end, and the bytes written for it
pub record Written : Type 0 where
  pub ending : End
  pub bytes : List ℕ

unfoldable pub run_answer : Checked ℕ Written → RunAnswer
run_answer (refused number place) =
    record { number = number; place = place; store = no_store; failed = no_flags; length = 0 }
run_answer (passed w) =
    record { number = 0; place = 0; store = w.ending.store; failed = w.ending.failed; length = length w.bytes }

-- a replay and a plan's check write nothing
unfoldable pub unwritten : Checked ℕ End → Checked ℕ Written
unwritten (refused number place) = refused number place
unwritten (passed end) = passed (record { ending = end; bytes = [] })

-- the sizes of the lent buffers: "order buffer below 512 bytes, plan buffer below 1,281"
abbrev pub order_room : ℕ
order_room = 512

abbrev pub plan_room : ℕ
plan_room = 1281

-- a buffer whose first `room` bytes hold the bytes and then zeros
unfoldable pub filled : ℕ → List ℕ → List ℕ → List ℕ
filled room bytes buffer = padded room 0 bytes ++ drop room buffer

-- "Conversions refuse by 30-45 and leave their buffer untouched."
unfoldable pub buffer_after : ℕ → Checked ℕ Written → List ℕ → List ℕ
buffer_after room (refused number place) buffer = buffer
buffer_after room (passed w) buffer = filled room w.bytes buffer
