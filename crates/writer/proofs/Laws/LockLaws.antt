-- Laws of locks one by one: `lock_by_lock` joins two arrays of the same length, and gives both back.
-- Assumes nothing.
use Rattle.std.specs.Prelude.{◌≡◌, refl, ℕ, zero, suc, List, [], ◌∷◌, ◌++◌, map, length, get_or, take}
use Rattle.std.proofs.Common.{sym, ap, ◌∙◌, arith}
use Rattle.notation.specs.Laws.PaddedLaws.{every_take}
use Rattle.notation.specs.Laws.PairLaws.{every_append}
use Rattle.notation.specs.Ordered.{Every}
use Rattle.taskfile.specs.declared.Table.{Table}
use Rattle.taskfile.specs.Chains.{most_locks}
use Rattle.taskfile.specs.Records.{File, byte_at, wide_at}
use Rattle.writer.specs.declared.Lock.{Lock}
use Rattle.writer.specs.Claims.{claimed, lock_by_lock, lock_array, no_lock, claimed_locks}
use Rattle.writer.specs.Values.{Fits}
use Rattle.writer.proofs.Laws.WideBytesLaws.{Wide}

-- the lock of the record r
unfoldable pub lock_at : File → ℕ → Lock
lock_at f r = record { ceiling = byte_at f r 2; holding = wide_at f r 4 }

-- a holding time has 32 bits
abbrev pub HoldingFits : Lock → Type 0
HoldingFits lock = Wide lock.holding

pub locks_length : (ceilings holdings : List ℕ) → length ceilings ≡ length holdings
    → length (lock_by_lock ceilings holdings) ≡ length ceilings
unfolding lock_by_lock
locks_length [] holdings same = refl
locks_length (c ∷ ceilings) [] same = absurd (omega arith)
locks_length (c ∷ ceilings) (h ∷ holdings) same = ap suc (locks_length ceilings holdings (omega arith))

-- the ceilings of the locks, and their holding times
pub locks_ceilings : (ceilings holdings : List ℕ) → length ceilings ≡ length holdings
    → map (λ (lock : Lock). lock.ceiling) (lock_by_lock ceilings holdings) ≡ ceilings
unfolding lock_by_lock
locks_ceilings [] holdings same = refl
locks_ceilings (c ∷ ceilings) [] same = absurd (omega arith)
locks_ceilings (c ∷ ceilings) (h ∷ holdings) same =
    ap (λ (l : List ℕ). c ∷ l) (locks_ceilings ceilings holdings (omega arith))

pub locks_holdings : (ceilings holdings : List ℕ) → length ceilings ≡ length holdings
    → map (λ (lock : Lock). lock.holding) (lock_by_lock ceilings holdings) ≡ holdings
unfolding lock_by_lock
locks_holdings [] [] same = refl
locks_holdings [] (h ∷ holdings) same = absurd (omega arith)
locks_holdings (c ∷ ceilings) [] same = absurd (omega arith)
locks_holdings (c ∷ ceilings) (h ∷ holdings) same =
    ap (λ (l : List ℕ). h ∷ l) (locks_holdings ceilings holdings (omega arith))

-- the first n locks
pub locks_take : (n : ℕ) (ceilings holdings : List ℕ)
    → take n (lock_by_lock ceilings holdings) ≡ lock_by_lock (take n ceilings) (take n holdings)
unfolding lock_by_lock
locks_take zero ceilings holdings = refl
locks_take (suc n) [] holdings = refl
locks_take (suc n) (c ∷ ceilings) [] = refl
locks_take (suc n) (c ∷ ceilings) (h ∷ holdings) =
    ap (λ (l : List Lock). record { ceiling = c; holding = h } ∷ l) (locks_take n ceilings holdings)

-- lock l
pub locks_get_or : (ceilings holdings : List ℕ) (l : ℕ) → length ceilings ≡ length holdings
    → get_or (lock_by_lock ceilings holdings) l no_lock
    ≡ record { ceiling = get_or ceilings l 0; holding = get_or holdings l 0 }
unfolding lock_by_lock
locks_get_or [] [] l same = refl
locks_get_or [] (h ∷ holdings) l same = absurd (omega arith)
locks_get_or (c ∷ ceilings) [] l same = absurd (omega arith)
locks_get_or (c ∷ ceilings) (h ∷ holdings) zero same = refl
locks_get_or (c ∷ ceilings) (h ∷ holdings) (suc l) same = locks_get_or ceilings holdings l (omega arith)

-- the locks of records
pub locks_read_lem : (f : File) (rs : List ℕ)
    → lock_by_lock (map (λ r. byte_at f r 2) rs) (map (λ r. wide_at f r 4) rs) ≡ map (lock_at f) rs
unfolding lock_by_lock lock_at
locks_read_lem f [] = refl
locks_read_lem f (r ∷ rs) = ap (λ (l : List Lock). lock_at f r ∷ l) (locks_read_lem f rs)

pub locks_wide : (ceilings holdings : List ℕ) → Every Wide holdings
    → Every HoldingFits (lock_by_lock ceilings holdings)
unfolding lock_by_lock
locks_wide [] holdings small = tt
locks_wide (c ∷ ceilings) [] small = tt
locks_wide (c ∷ ceilings) (h ∷ holdings) small = (small.0, locks_wide ceilings holdings small.1)

-- a table that fits has as many locks as its arrays have places, and each lock that it claims fits
pub locks_full : (t : Table) → Fits t → length (lock_array t) ≡ most_locks
locks_full t fit =
    locks_length t.ceilings t.holdings (fit.ceilings ∙ sym fit.holdings_full) ∙ fit.ceilings

pub claimed_locks_fit : (t : Table) → Fits t → Every HoldingFits (claimed_locks t)
unfolding claimed_locks claimed
claimed_locks_fit t fit =
    let locks = lock_array t in
    every_take HoldingFits t.locks (locks ++ no_lock ∷ [])
    (every_append HoldingFits locks (no_lock ∷ []) (locks_wide t.ceilings t.holdings fit.holdings)
    (omega arith, tt))
