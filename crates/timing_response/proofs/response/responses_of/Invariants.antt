-- `timing_response::response::responses_of` meets its contract. The loop's invariant: the response times of the tasks from task i on are
-- in the array, or the lowest of them that has none is known; and whether they all meet their periods where none waits. Assumes nothing.
use Rattle.timing.proofs.Laws.TableResponseLaws.{FoundFrom}
use Rattle.timing_response.proofs.response.responses_of.Given as goal

abbrev pub invariant-loop-i : goal.invariant-loop-i
invariant-loop-i l = FoundFrom l.t l.i l.responses l.fit l.late
