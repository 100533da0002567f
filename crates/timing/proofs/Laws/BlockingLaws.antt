-- Laws of how long a task may wait for a lower task's lock (document 02, E4): it is the longest holding time of the
-- locks that may keep the task waiting; where no lock has a holding time it is 0, and the response equation is that of
-- document 01; and it is worked out lock by lock, from the last down.
-- Assumes nothing.
use Rattle.std.specs.Prelude.{◌≡◌, ◌⊎◌, Bool, map, take}
use Rattle.std.proofs.lemmas.List.{take-take}
use Rattle.std.proofs.Math.Path.{refl, sym, ap}
use Rattle.std.proofs.Common.{◌∙◌, add-zero}
use Rattle.std.proofs.Math.Logic.{inl, inr, ⊎_elim}
use Prim.Native.Nat.{ℕ, max, ◌+◌, ◌-◌, ◌≤◌, ◌<◌}
use native.Mathlib.Omega.{arith}
use Rattle.std.proofs.Math.Bool.{true, false}
use Rattle.std.proofs.Math.ListN.{length, get_or}
use Rattle.std.proofs.Math.Seq.{get_or-take, length-take-le}
use borrow.Author.Tests.{le-leb, lt-leb}
use Rattle.taskfile.specs.declared.Table.{Table}
use Rattle.taskfile.specs.declared.Task.{Task}
use Rattle.taskfile.specs.declared.TaskEntry.{TaskEntry}
use Rattle.std.specs.Prelude.{if◌then◌else◌}
use Rattle.notation.specs.Lists.{from, up_to, any, only, largest}
use Rattle.notation.specs.Laws.LargestLaws.{largest_step, largest_most, largest_attained}
use Rattle.notation.specs.Laws.ListLaws.{up_to_length, get_or_up_to}
use Rattle.notation.specs.Laws.PairLaws.{every_at}
use Rattle.notation.specs.Laws.SearchLaws.{from_first, from_none}
use Rattle.notation.specs.Ordered.{Every}
use Rattle.taskfile.specs.Code.JudgingParts.{Shaped}
use Rattle.taskfile.proofs.Laws.JudgingLaws.{tasks_length}
use Rattle.taskfile.specs.Tables.{tasks_of, task_of, ceilings_of, holdings_of, lock_numbers, holding_of, no_task}
use Rattle.timing.specs.Blocking.{tasks_below, acquires, blocks, blocking}
use Rattle.timing.proofs.Laws.TimeableLaws.{task_read}
use Rattle.timing.specs.Response.{tasks_above, interference, need, demand}

-- ---- what it is

module _ (t : Table) (i : Task) where
  -- no lock that may keep task i waiting is held for longer
  pub blocking_most : (lock : ℕ) → lock < length (holdings_of t) → blocks t i lock ≡ true
      → holding_of t lock ≤ blocking t i
  unfolding blocking lock_numbers
  blocking_most lock lt holds =
      let n = length (holdings_of t) in
      let here : get_or (up_to n) lock 0 ≡ lock = get_or_up_to n lock 0 lt in
      let most = largest_most (holding_of t) (blocks t i) (up_to n) lock 0 (omega (arith, up_to_length n)) in
      omega (arith, most (ap (blocks t i) here ∙ holds), ap (holding_of t) here)

  -- and where it is not 0, it is the holding time of one of them
  pub record Blocker : Type 0 where
    pub lock : ℕ
    pub listed : lock < length (holdings_of t)
    pub may : blocks t i lock ≡ true
    pub longest : blocking t i ≡ holding_of t lock

  pub blocking_attained : (blocking t i ≡ 0) ⊎ Blocker
  unfolding blocking lock_numbers
  blocking_attained =
      let n = length (holdings_of t) in
      ⊎_elim (λ none. inl none) (λ found.
      let below : found.0 < n = omega (arith, found.1, up_to_length n) in
      let here : get_or (up_to n) found.0 0 ≡ found.0 = get_or_up_to n found.0 0 below in
      inr (record {
        lock = found.0;
        listed = below;
        may = ap (blocks t i) (sym here) ∙ found.2;
        longest = found.3 ∙ ap (holding_of t) here;
      })) (largest_attained (holding_of t) (blocks t i) (up_to n) 0)

  -- where no lock has a holding time, nobody waits
  pub blocking_none : Every (λ (h : ℕ). h ≡ 0) (holdings_of t) → blocking t i ≡ 0
  unfolding holding_of
  blocking_none zeros =
      ⊎_elim (λ none. none) (λ (b : Blocker).
      b.longest ∙ every_at (λ (h : ℕ). h ≡ 0) (holdings_of t) b.lock 0 zeros b.listed) blocking_attained

  -- and the response equation is that of document 01
  pub demand_unheld : Every (λ (h : ℕ). h ≡ 0) (holdings_of t) → (R : ℕ)
      → demand t i R ≡ (task_of t i).execution + interference (tasks_above t i) R
  unfolding demand need
  demand_unheld zeros R = rw (blocking_none zeros, add-zero)

-- ---- how it is worked out

-- the longest of the locks from one on
unfoldable pub longest_from : Table → Task → ℕ → ℕ
longest_from t i lock = largest (map (holding_of t) (only (blocks t i) (from lock (length (holdings_of t) - lock))))

module _ {t : Table} (shaped : Shaped t) where
  holdings_length : length (holdings_of t) ≡ t.locks
  unfolding holdings_of
  holdings_length = length-take-le t.locks t.holdings (omega (arith, shaped.holdings_full, shaped.locks_within))

  pub holding_read : (lock : ℕ) → lock < t.locks → get_or t.holdings lock 0 ≡ holding_of t lock
  unfolding holding_of holdings_of
  holding_read lock lt = sym (get_or-take t.locks t.holdings lock 0 lt)

  module _ (i : Task) where
    -- a lock with a ceiling below i, and one with a ceiling of at least i
    pub blocks_low : (lock : ℕ) → lock < t.locks → get_or t.ceilings lock 0 < i.0 → false ≡ blocks t i lock
    unfolding blocks ceilings_of
    blocks_low lock lt low = rw (get_or-take t.locks t.ceilings lock 0 lt, lt-leb i.0 (get_or t.ceilings lock 0) low)

    pub blocks_high : (lock : ℕ) → lock < t.locks → i.0 ≤ get_or t.ceilings lock 0 → {b : Bool}
        → b ≡ any (acquires lock) (tasks_below t i) → b ≡ blocks t i lock
    unfolding blocks ceilings_of
    blocks_high lock lt high e =
        rw (get_or-take t.locks t.ceilings lock 0 lt, le-leb i.0 (get_or t.ceilings lock 0) high) e

    -- the longest, lock by lock from the last down
    pub longest_none : longest_from t i t.locks ≡ 0
    unfolding longest_from only largest
    longest_none = rw (from_none t.locks (length (holdings_of t)) (omega (arith, holdings_length)))

    longest_step : (lock : ℕ) → lock < t.locks
        → longest_from t i lock ≡ max (if blocks t i lock then holding_of t lock else 0) (longest_from t i (lock + 1))
    unfolding longest_from
    longest_step lock lt =
        rw (from_first lock (length (holdings_of t)) (omega (arith, holdings_length)))
        (largest_step (holding_of t) (blocks t i) lock _)

    -- one lock more, as the code comes to it
    module _ (lock : ℕ) (some : 0 < lock) (le : lock ≤ t.locks) {holding longest : ℕ}
        (read : holding ≡ get_or t.holdings (lock - 1) 0) (so_far : longest ≡ longest_from t i lock) where
      longest_turn : (test : Bool) → blocks t i (lock - 1) ≡ test
          → longest_from t i (lock - 1) ≡ max (if test then holding else 0) longest
      longest_turn test e =
          let back : lock - 1 + 1 ≡ lock = omega arith in
          let held : holding_of t (lock - 1) ≡ holding = sym (read ∙ holding_read (lock - 1) (omega arith)) in
          longest_step (lock - 1) (omega arith)
          ∙ (λ j. max (if e j then held j else 0) (longest_from t i (back j)))
          ∙ ap (max (if test then holding else 0)) (sym so_far)

      -- it is one to wait for, and held for longer
      pub longest_more : blocks t i (lock - 1) ≡ true → longest < holding → longest_from t i (lock - 1) ≡ holding
      longest_more may longer = longest_turn true may ∙ omega arith

      -- it is none to wait for
      pub longest_other : blocks t i (lock - 1) ≡ false → longest_from t i (lock - 1) ≡ longest
      longest_other none = longest_turn false none ∙ omega arith

      -- it is not held for longer
      pub longest_kept : holding ≤ longest → longest_from t i (lock - 1) ≡ longest
      longest_kept short = longest_turn (blocks t i (lock - 1)) refl ∙ go (blocks t i (lock - 1))
        where
          go : (test : Bool) → max (if test then holding else 0) longest ≡ longest
          go true = omega arith
          go false = omega arith

    pub longest_all : longest_from t i 0 ≡ blocking t i
    unfolding longest_from blocking lock_numbers up_to
    longest_all =
        let all : length (holdings_of t) - 0 ≡ length (holdings_of t) = omega arith in
        ap (λ (n : ℕ). largest (map (holding_of t) (only (blocks t i) (from 0 n)))) all

    -- the tasks below, one by one
    pub below_length : i.0 ≤ t.tasks → length (tasks_below t i) ≡ i.0
    unfolding tasks_below
    below_length le = length-take-le i.0 (tasks_of t) (omega (arith, tasks_length t shaped))

    pub below_read : i.0 ≤ t.tasks → (k : ℕ) (d : TaskEntry) → k < i.0
        → get_or (tasks_below t i) k no_task ≡ get_or t.entries k d
    unfolding tasks_below task_of
    below_read le k d lt = get_or-take i.0 (tasks_of t) k no_task lt ∙ sym (task_read shaped k d (omega arith))

    -- they stand in the array in this order
    pub below_stored : i.0 ≤ t.tasks → take i.0 t.entries ≡ tasks_below t i
    unfolding tasks_below tasks_of
    below_stored le = sym (take-take i.0 t.tasks t.entries le)
