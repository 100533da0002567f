-- The theorem of demand 2, for every file: "Response times are the least solutions of the response equation. If the
-- allowance covers the walk, a failing order is shown exactly if some complete order fails, and it is the first in the
-- fixed walk; else the answer is undecided." Document 01, "Response times and jobs", "Orders of steps" and "Numbers by
-- who causes them".
-- Assumes nothing.
use Rattle.std.specs.Prelude.{◌≡◌, ◌↔◌, ℕ, ◌≤◌, ◌<◌, length, take}
use mathlib.Core.List.{List, Memᴰ}
use Rattle.std.proofs.Math.Option.{none, some}
use Rattle.notation.specs.Checked.{passed}
use Rattle.notation.specs.Lists.{first_with}
use Rattle.notation.specs.Ordered.{Ordered}
use Rattle.taskfile.specs.Records.{File}
use Rattle.timing.specs.Accepted.{Accepted, accept}
use Rattle.timing.specs.ResponseDemand.{ResponseDemand}
use Rattle.machine.specs.Buffers.{order_room, filled}
use Rattle.machine.specs.declared.End.{End}
use Rattle.order.specs.Orders.{OrderEnds}
use Rattle.order.specs.States.{initial}
use Rattle.walk.specs.declared.Verdict.TheVariants.{Holds, Fails}
use Rattle.walk.specs.declared.WalkAnswer.{WalkAnswer}
use Rattle.walk.specs.FailingOrders.{SomeFails, FirstFailing, answered_end}
use Rattle.walk.specs.Paths.{Begun, BranchesLower, Sooner, UpTo, paths}
use Rattle.walk.specs.WalkEntry.{walk_answer, walk_after}
use Rattle.walk.specs.Walks.{EndedOrder, fails, orders, walk}

-- ---- the walk of an accepted table

pub record WalkDemand (a : Accepted) : Type 0 where
  -- the tree lists exactly the complete orders, with their ends
  pub listed : (order : List ℕ) (end : End)
      → OrderEnds a order end ↔ Memᴰ (record { bytes = order; ending = end }) (orders a)
  -- they are listed in ascending walk order, and so each once
  pub ascending : Ordered (λ f g. BranchesLower f.bytes g.bytes) (orders a)
  -- "stops at the first complete order with a failed assertion"
  pub first : (walk a).failing ≡ first_with (λ f. fails f.ending) (orders a)
  -- "Its count is the moves made up to there, each move of the tree once"
  pub count_up_to : (f : EndedOrder) → (walk a).failing ≡ some f → UpTo (walk a).count (paths a) f.bytes
  -- "or all moves of the tree if none fails"
  pub count_all : (walk a).failing ≡ none → (walk a).count ≡ length (paths a)
  -- the tree's moves are exactly the beginnings of orders
  pub moves : (bytes : List ℕ) → Begun a (initial a) bytes ↔ Memᴰ bytes (paths a)
  -- each move stands once: each path comes sooner than all later ones, and none than itself (`sooner_apart`)
  pub once : Ordered Sooner (paths a)

-- ---- what the walk's caller sees

-- the answer for an accepted table, and what a lent buffer that has room then holds
pub record WalkAnswers (a : Accepted) (allowance : ℕ) (buffer : List ℕ) (answer : WalkAnswer) (after : List ℕ)
    : Type 0 where
  -- "21 UNDECIDED: the walk's count exceeds the allowance, and only then"
  pub undecided : (answer.number ≡ 21) ↔ (allowance < (walk a).count)
  -- if the allowance covers the walk, a failing order is shown exactly if some complete order fails
  pub shows : (walk a).count ≤ allowance → (answer.verdict ≡ Fails) ↔ SomeFails a
  -- and the walk holds exactly if none fails
  pub holds : (walk a).count ≤ allowance → (answer.verdict ≡ Holds) ↔ (¬ SomeFails a)
  -- "a walk its verdict and count"
  pub counts : (walk a).count ≤ allowance → answer.count ≡ (walk a).count
  -- what is shown is a complete order that fails, with its end store and failed jobs, and the first in the walk
  pub shown : answer.verdict ≡ Fails → FirstFailing a (take answer.length after) (answered_end answer)
  -- zeros follow it up to 512 bytes, also where nothing is shown, and "bytes beyond never change"
  pub rest : after ≡ filled order_room (take answer.length after) buffer

-- ---- the theorem

-- of every file
pub record Demand2 (f : File) : Type 0 where
  -- "Response times are the least solutions of the response equation", and number 10 names the lowest task without one
  pub responses : ResponseDemand f
  -- the walk of an accepted file's table
  pub walks : (a : Accepted) → accept f ≡ passed a → WalkDemand a
  -- what its caller sees, whatever the allowance, where the lent buffer has room
  pub answers : (a : Accepted) → accept f ≡ passed a → (allowance : ℕ) (buffer : List ℕ) → order_room ≤ length buffer
      → WalkAnswers a allowance buffer (walk_answer f allowance buffer) (walk_after f allowance buffer)
