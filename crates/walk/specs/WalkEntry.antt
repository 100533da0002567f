-- What the walk's entry answers, and what the lent order buffer then holds, for every input. Document 01, "Numbers by
-- who causes them".
-- Assumes nothing.
use Rattle.std.specs.Prelude.{ℕ, List, [], length, leb}
use Rattle.std.proofs.Math.Option.{Option, none, some}
use Rattle.notation.specs.Checked.{Checked, refused, passed, require, ◌>>=◌, ◌>>◌}
use Rattle.taskfile.specs.Records.{File}
use Rattle.timing.specs.Accepted.{Accepted, accept}
use Rattle.machine.specs.Ends.{no_flags, no_store}
use Rattle.machine.specs.Buffers.{order_room, filled}
use Rattle.walk.specs.declared.Verdict.TheVariants.{None, Holds, Fails}
use Rattle.walk.specs.declared.WalkAnswer.{WalkAnswer}
use Rattle.walk.specs.Walks.{EndedOrder, Walked, walk}

-- "20 ROOM: order buffer below 512 bytes .. place 0, buffer untouched": the table to walk, if there is one and room
-- for it
unfoldable pub admitted : File → List ℕ → Checked ℕ Accepted
admitted f buffer = do
  a ← accept f
  require (leb order_room (length buffer)) 20 0
  passed a

-- "21 UNDECIDED: the walk's count exceeds the allowance, and only then; place 0"
unfoldable pub decided : ℕ → Walked → Checked ℕ Walked
decided allowance walked = do
  require (leb walked.count allowance) 21 0
  passed walked

unfoldable pub refusal : ℕ → ℕ → WalkAnswer
refusal number place =
    record { number = number; place = place; verdict = None; count = 0; length = 0; store = no_store; failed = no_flags }

-- "a walk its verdict and count (only these if it holds)"
unfoldable pub verdict_of : ℕ → Option EndedOrder → WalkAnswer
verdict_of count none =
    record { number = 0; place = 0; verdict = Holds; count = count; length = 0; store = no_store; failed = no_flags }
verdict_of count (some found) =
    record {
      number = 0;
      place = 0;
      verdict = Fails;
      count = count;
      length = length found.bytes;
      store = found.ending.store;
      failed = found.ending.failed;
    }

unfoldable pub decided_answer : Checked ℕ Walked → WalkAnswer
decided_answer (refused number place) = refusal number place
decided_answer (passed walked) = verdict_of walked.count walked.failing

-- the order shown, if one is
unfoldable pub shown : Option EndedOrder → List ℕ
shown none = []
shown (some found) = found.bytes

-- "A walk that holds zeroes the first 512"; 21: "first 512 bytes zero"; a failing walk "zero-fills to 512"
unfoldable pub decided_bytes : Checked ℕ Walked → List ℕ
decided_bytes (refused number place) = []
decided_bytes (passed walked) = shown walked.failing

unfoldable pub walk_answer_of : ℕ → Checked ℕ Accepted → WalkAnswer
walk_answer_of allowance (refused number place) = refusal number place
walk_answer_of allowance (passed a) = decided_answer (decided allowance (walk a))

unfoldable pub walk_after_of : ℕ → Checked ℕ Accepted → List ℕ → List ℕ
walk_after_of allowance (refused number place) buffer = buffer
walk_after_of allowance (passed a) buffer = filled order_room (decided_bytes (decided allowance (walk a))) buffer

unfoldable pub walk_answer : File → ℕ → List ℕ → WalkAnswer
walk_answer f allowance buffer = walk_answer_of allowance (admitted f buffer)

unfoldable pub walk_after : File → ℕ → List ℕ → List ℕ
walk_after f allowance buffer = walk_after_of allowance (admitted f buffer) buffer
