-- One name for all definitions of the walk, so that a proof by computing says `unfolding walks_opened`.
-- Assumes nothing.
use Rattle.walk.specs.Moves
use Rattle.walk.specs.Trees
use Rattle.walk.specs.WalkEntry
use Rattle.walk.specs.Walks

unfoldable pub walks_opened : Unit {0}
unfolding Moves.turn_moves Moves.running_moves Moves.start_moves Moves.moves Walks.fails Walks.starting
    Trees.through Trees.tree_from
    Walks.orders_of Walks.orders Walks.after_move Walks.at_end Walks.walk_of Walks.walk
    WalkEntry.admitted WalkEntry.decided WalkEntry.refusal WalkEntry.verdict_of
    WalkEntry.decided_answer WalkEntry.shown WalkEntry.decided_bytes WalkEntry.walk_answer_of WalkEntry.walk_after_of
    WalkEntry.walk_answer WalkEntry.walk_after
walks_opened = tt
