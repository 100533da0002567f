-- The theorem of demand 2 is proved: what every file's response times, its walk and the walk's entry are worth.
-- Assumes nothing.
use Rattle.std.specs.Prelude.{ℕ, List}
use Rattle.taskfile.specs.Records.{File}
use Rattle.timing.specs.Accepted.{Accepted}
use Rattle.timing.specs.Code.IsAccepted.{IsAccepted}
use Rattle.timing.proofs.Laws.AcceptedLaws.{file_accepted}
use Rattle.timing.proofs.Laws.ResponseDemandLaws.{response_demand}
use Rattle.machine.specs.Buffers.{order_room, filled}
use Rattle.order.proofs.Laws.StepLaws.{initial_invariant}
use Rattle.order.specs.States.{initial}
use Rattle.walk.specs.Code.FromState.{orders_from, paths_from, walk_from}
use Rattle.walk.specs.Demand2.{WalkDemand, WalkAnswers, Demand2}
use Rattle.walk.specs.Paths.{paths}
use Rattle.walk.specs.WalkEntry.{decided, decided_answer, decided_bytes}
use Rattle.walk.specs.Walks.{orders, walk}
use Rattle.walk.proofs.Laws.FailingLaws.{order_listed, listed_complete}
use Rattle.walk.proofs.Laws.ListedLaws.{from_ascends}
use Rattle.walk.proofs.Laws.MoveCountLaws.{from_counted, initial_sound}
use Rattle.walk.proofs.Laws.PathLaws.{path_listed, listed_path, from_once}
use Rattle.walk.proofs.Laws.ShownLaws.{answer_room, after_room}
use Rattle.walk.proofs.Laws.ShownLaws.{decided_fails, decided_holds, decided_counted, decided_first, decided_filled}
use Rattle.walk.proofs.Laws.WalkLaws.{walk_from_first, undecided_when}

walk_demand : {a : Accepted} → IsAccepted a → WalkDemand a
unfolding orders walk paths orders_from walk_from paths_from
walk_demand {a} ok =
    let counted = from_counted a order_room (initial a) (initial_sound a) in
    record {
      listed = λ order end. (order_listed ok, listed_complete ok (record { bytes = order; ending = end }));
      ascending = from_ascends ok order_room (initial_invariant a);
      first = walk_from_first a order_room (initial a);
      count_up_to = counted.found;
      count_all = counted.all;
      moves = λ bytes. (
        λ begun. path_listed ok bytes begun.allowed begun.filled,
        λ here. listed_path ok order_room (initial_invariant a) here,
      );
      once = from_once ok order_room (initial_invariant a);
    }

walk_answers : {a : Accepted} → IsAccepted a → (allowance : ℕ) (buffer : List ℕ)
    → let outcome = decided allowance (walk a) in
    WalkAnswers a allowance buffer (decided_answer outcome) (filled order_room (decided_bytes outcome) buffer)
walk_answers {a} ok allowance buffer =
    record {
      undecided = undecided_when allowance (walk a);
      shows = decided_fails ok allowance;
      holds = decided_holds ok allowance;
      counts = decided_counted ok allowance;
      shown = decided_first ok allowance buffer;
      rest = decided_filled ok allowance buffer;
    }

pub demand2 : (f : File) → Demand2 f
demand2 f =
    record {
      responses = response_demand f;
      walks = λ a e. walk_demand (file_accepted f e);
      answers = λ a e allowance buffer room.
          rw (answer_room f e allowance buffer room, after_room f e allowance buffer room)
          (walk_answers (file_accepted f e) allowance buffer);
    }
