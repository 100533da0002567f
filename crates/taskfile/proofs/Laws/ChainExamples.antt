-- "On following an index: 3, 5, 2, 4", by examples: an index that earns two of these numbers is refused by the first.
-- Assumes nothing.
use Rattle.std.specs.Prelude.{◌≡◌, refl, true, false, [], replicate}
use Rattle.taskfile.specs.declared.Kind.TheVariants.{TaskRecord, LockRecord}
use Rattle.taskfile.specs.Chains.{record_of, follow}
use Rattle.notation.specs.Checked.{refused, require, ◌>>◌}
use Rattle.taskfile.specs.Records.{kind_number, records, byte_at}

-- 3 before 5: record 1 holds an index outside the file, or one already reached, and no more records are allowed
pub outside_and_many : follow TaskRecord 0 [] false 1 2 ≡ refused 3 1
unfolding follow records require ◌>>◌
outside_and_many = refl

pub again_and_many : follow LockRecord 0 (replicate 48 0) true 1 2 ≡ refused 3 1
unfolding follow records require ◌>>◌
again_and_many = refl

-- 5 before 2: record 2 is one too many, and of no kind at all
pub many_and_no_kind : follow LockRecord 0 (replicate 48 0) false 1 2 ≡ refused 5 2
unfolding follow records require ◌>>◌
many_and_no_kind = refl

-- 2 before 4: record 2 is of no kind at all, and its execution time is 0
pub no_kind_and_no_time : follow TaskRecord 1 (replicate 48 0) false 1 2 ≡ refused 2 2
unfolding follow record_of records require ◌>>◌ kind_number byte_at
no_kind_and_no_time = refl
