-- A file with its records in walk order. Document 02, E2: "an accepted file, read and written, is that file with its
-- records in walk order". Record k of the new file is the k-th record of the walk of records, with its links led to
-- where their records now stand.
-- Assumes nothing.
use Rattle.std.specs.Prelude.{ℕ, List, [], ◌∷◌, map, eqb}
use Rattle.std.specs.Prelude.{if◌then◌else◌}
use Rattle.notation.specs.Lists.{up_to, member, each}
use Rattle.taskfile.specs.Chains.{Chains, reached_by}
use Rattle.taskfile.specs.Records.{File, byte_at}
use Rattle.writer.specs.Positions.{position_of}

-- The bytes of a record that hold an index, by its kind: a header's first task and first lock; a task's next record and
-- first instruction; a lock's and an instruction's next record.
unfoldable pub link_bytes : ℕ → List ℕ
link_bytes kind =
    if eqb kind 1 then 2 ∷ 3 ∷ [] else
    if eqb kind 2 then 1 ∷ 2 ∷ [] else
    1 ∷ []

-- Record r of a file where the records stand as `walk` lists them. The header is the first, so a zero, which ends a
-- chain, stays zero.
unfoldable pub moved_record : File → List ℕ → ℕ → List ℕ
moved_record f walk r =
    map (λ k. if member k (link_bytes (byte_at f r 0)) then position_of (byte_at f r k) walk else byte_at f r k) (up_to 16)

-- the records in the order in which the walk of records reaches them
unfoldable pub in_walk_order : File → Chains → File
in_walk_order f c = each (reached_by c) (moved_record f (reached_by c))
