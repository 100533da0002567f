-- Laws of the held locks and of a job's priority, for those who use the names of `Held` and never its counts.
-- Assumes nothing.
use Prim.Native.Nat.{ℕ, zero, suc, max, ◌+◌, ◌-◌, ◌≤◌, ◌<◌}
use native.Mathlib.Omega.{arith}
use Rattle.std.proofs.Math.Decide.{dec_le, ℕ_discrete}
use Rattle.std.specs.Prelude.{◌≢◌, ◌⊎◌, ◌≡◌, Bool, true, false, length, set, take, drop}
use Rattle.std.proofs.Math.Logic.{inl, inr}
use Rattle.std.proofs.Math.Path.{refl, ap}
use Rattle.std.proofs.Common.{sym, ◌∙◌, length-set, drop_of_length-le, ext_get_or}
use mathlib.Core.List.{List, [], ◌∷◌, map}
use Rattle.std.proofs.Math.ListN.{get_or, length-take, get_or-eq_default}
use Rattle.std.proofs.lemmas.List.{get_or-replicate, length-replicate}
use Rattle.std.proofs.Math.Seq.{get_or-set_same, get_or-set_other, drop-cons, get_or-take}
use borrow.Author.Tests.{ltb-true, ltb-false, lt-ltb, le-ltb}
use Rattle.std.specs.Prelude.{if◌then◌else◌}
use Rattle.notation.specs.Lists.{from, up_to, only, largest}
use Rattle.notation.specs.Laws.LargestLaws.{largest_step}
use Rattle.notation.specs.Laws.SetLaws.{set_each}
use Rattle.notation.specs.Laws.TestLaws.{not_both, test_decided}
use Rattle.machine.specs.Held.{Held, count_of, no_locks, holds, acquire, release, held_ceilings, priority}
use Rattle.machine.specs.Code.Within.{Within}

-- ---- how many locks there are

pub none_length : length no_locks ≡ 8
unfolding no_locks
none_length = length-replicate {A = ℕ} 8 0

pub acquire_length : (held : Held) (lock : ℕ) → length (acquire held lock) ≡ length held
unfolding acquire
acquire_length held lock = length-set held lock (count_of held lock + 1)

pub release_length : (held : Held) (lock : ℕ) → length (release held lock) ≡ length held
unfolding release
release_length held lock =
    elim (test_decided (holds held lock)) [
      | inl some ↦ rw some (length-set held lock (count_of held lock - 1))
      | inr none ↦ rw none refl
    ]

-- ---- how often each is held

none_count : (lock : ℕ) → count_of no_locks lock ≡ 0
unfolding no_locks
none_count lock =
    elim (dec_le 8 lock) [
      | yes past ↦ get_or-eq_default no_locks 0 past
      | no below ↦ get_or-replicate {A = ℕ} 8 lock 0 0 (omega arith)
    ]

module _ (held : Held) (lock : ℕ) where
  -- past the last lock nothing is held
  none_past : length held ≤ lock → count_of held lock ≡ 0
  none_past past = get_or-eq_default held 0 past

  held_inside : 0 < count_of held lock → lock < length held
  held_inside some =
      elim (dec_le (length held) lock) [
        | yes past ↦ absurd (omega (arith, none_past past))
        | no below ↦ omega arith
      ]

  pub holds_some : holds held lock ≡ true → 0 < count_of held lock
  unfolding holds
  holds_some h = ltb-true 0 (count_of held lock) h

  pub holds_none : holds held lock ≡ false → count_of held lock ≡ 0
  unfolding holds
  holds_none h = omega (arith, ltb-false 0 (count_of held lock) h)

  pub some_holds : 0 < count_of held lock → holds held lock ≡ true
  unfolding holds
  some_holds some = lt-ltb 0 (count_of held lock) some

  pub none_holds : count_of held lock ≡ 0 → holds held lock ≡ false
  unfolding holds
  none_holds none = le-ltb 0 (count_of held lock) (omega arith)

module _ (held : Held) (lock : ℕ) where
  -- "up by one at Acquire"
  pub acquire_count : lock < length held → count_of (acquire held lock) lock ≡ count_of held lock + 1
  unfolding acquire
  acquire_count b = get_or-set_same held lock (count_of held lock + 1) 0 b

  -- "down by one at Release, unchanged at zero"
  pub release_count : count_of (release held lock) lock ≡ count_of held lock - 1
  unfolding release
  release_count =
      elim (test_decided (holds held lock)) [
        | inl some ↦
            let inside = held_inside held lock (holds_some held lock some) in
            rw some (get_or-set_same held lock (count_of held lock - 1) 0 inside)
        | inr none ↦ rw none (omega (arith, holds_none held lock none))
      ]

  pub release_some : holds held lock ≡ true → release held lock ≡ set held lock (count_of held lock - 1)
  unfolding release
  release_some some = rw some refl

  -- "unchanged at zero"
  pub release_none : holds held lock ≡ false → release held lock ≡ held
  unfolding release
  release_none none = rw none refl

  -- either keeps every other lock as it is
  pub acquire_count_other : (other : ℕ) → other ≢ lock → count_of (acquire held lock) other ≡ count_of held other
  unfolding acquire
  acquire_count_other other apart = get_or-set_other held lock other (count_of held lock + 1) 0 apart

  pub release_count_other : (other : ℕ) → other ≢ lock → count_of (release held lock) other ≡ count_of held other
  unfolding release
  release_count_other other apart =
      elim (test_decided (holds held lock)) [
        | inl some ↦ rw some (get_or-set_other held lock other (count_of held lock - 1) 0 apart)
        | inr none ↦ rw none refl
      ]

-- a helper that takes a lock and releases it leaves what was held, also if the lock was among it
pub acquire_release : (held : Held) (lock : ℕ) → lock < length held → release (acquire held lock) lock ≡ held
acquire_release held lock b =
    ext_get_or 0 (release (acquire held lock) lock) held
    (release_length (acquire held lock) lock ∙ acquire_length held lock) (λ k inside. same k (ℕ_discrete k lock))
  where
    same : (k : ℕ) → Dec (k ≡ lock) → get_or (release (acquire held lock) lock) k 0 ≡ get_or held k 0
    same k (yes is) = rw is (omega (arith, release_count (acquire held lock) lock, acquire_count held lock b))
    same k (no apart) = release_count_other (acquire held lock) lock k apart ∙ acquire_count_other held lock k apart

-- ---- how much is held at most

pub no_locks_within : (n : ℕ) → Within n no_locks
no_locks_within n = record { most = λ lock. omega (arith, none_count lock) }

-- the same of locks that are not there
pub nothing_within : (n : ℕ) → Within n []
nothing_within n = record { most = λ lock. omega arith }

module _ {n : ℕ} {held : Held} (within : Within n held) where
  pub within_more : (m : ℕ) → n ≤ m → Within m held
  within_more m le = record { most = λ lock. omega (arith, within.most lock) }

  pub acquire_within : (lock : ℕ) → Within (suc n) (acquire held lock)
  unfolding acquire
  acquire_within lock =
      let more = within_more (suc n) (omega arith) in
      let sum : count_of held lock + 1 ≤ suc n = omega (arith, within.most lock) in
      record { most = set_each (λ c. c ≤ suc n) 0 held more.most lock (count_of held lock + 1) sum }

  pub release_within : (lock : ℕ) → Within n (release held lock)
  release_within lock =
      let less : count_of held lock - 1 ≤ n = omega (arith, within.most lock) in
      elim (test_decided (holds held lock)) [
        | inl some ↦
            rw (release_some held lock some)
            (record { most = set_each (λ c. c ≤ n) 0 held within.most lock (count_of held lock - 1) less })
        | inr none ↦ rw (release_none held lock none) within
      ]

-- ---- which locks are held

pub none_held : (lock : ℕ) → holds no_locks lock ≡ false
none_held lock = none_holds no_locks lock (none_count lock)

module _ (held : Held) (lock : ℕ) where
  pub acquired : lock < length held → holds (acquire held lock) lock ≡ true
  acquired b = some_holds (acquire held lock) lock (omega (arith, acquire_count held lock b))

  -- the last Release frees the lock, and one before it does not
  pub released : count_of held lock ≤ 1 → holds (release held lock) lock ≡ false
  released few = none_holds (release held lock) lock (omega (arith, release_count held lock))

  pub still_held : 1 < count_of held lock → holds (release held lock) lock ≡ true
  still_held more = some_holds (release held lock) lock (omega (arith, release_count held lock))

  -- what is held stays held where a lock is acquired
  pub acquire_keeps : (other : ℕ) → holds held other ≡ true → holds (acquire held lock) other ≡ true
  acquire_keeps other h =
      elim (ℕ_discrete other lock) [
        | yes same ↦ rw same (acquired (held_inside held lock (holds_some held lock (rw same at h))))
        | no apart ↦
            some_holds (acquire held lock) other
            (omega (arith, acquire_count_other held lock other apart, holds_some held other h))
      ]

  -- what is held after a release was held before
  pub release_takes : (other : ℕ) → holds (release held lock) other ≡ true → holds held other ≡ true
  release_takes other h =
      let some = holds_some (release held lock) other h in
      elim (ℕ_discrete other lock) [
        | yes same ↦ some_holds held other (rw same (omega (arith, release_count held lock, rw same at some)))
        | no apart ↦ some_holds held other (omega (arith, release_count_other held lock other apart))
      ]

-- ---- the priority, for locks from one on

-- a ceiling that counts only if a test holds
counts_more : (p q : Bool) (x : ℕ) → (p ≡ true → q ≡ true) → (if p then x else 0) ≤ (if q then x else 0)
counts_more true true x f = omega arith
counts_more true false x f = absurd (not_both false (f refl) refl)
counts_more false q x f = omega arith

counted : (p : Bool) (x : ℕ) → p ≡ true → (if p then x else 0) ≡ x
counted p x h = rw h

-- the priority lock by lock: the largest of the base and the ceilings of the held locks, where the listed ceilings
-- are those from `lock` on
unfoldable pub raised : Held → ℕ → ℕ → List ℕ → ℕ
raised held base lock [] = base
raised held base lock (ceiling ∷ ceilings) =
    max (if holds held lock then ceiling else 0) (raised held base (suc lock) ceilings)

module _ (held : Held) (base : ℕ) where
  raised_base : (lock : ℕ) (ceilings : List ℕ) → base ≤ raised held base lock ceilings
  unfolding raised
  raised_base lock [] = omega arith
  raised_base lock (x ∷ xs) = omega (arith, raised_base (suc lock) xs)

  raised_ceiling : (lock : ℕ) (ceilings : List ℕ) (k : ℕ) → k < length ceilings → holds held (lock + k) ≡ true
      → get_or ceilings k 0 ≤ raised held base lock ceilings
  unfolding raised
  raised_ceiling lock [] k b h = absurd (omega arith)
  raised_ceiling lock (x ∷ xs) zero b h =
      let same : lock + 0 ≡ lock = omega arith in
      omega (arith, counted (holds held lock) x (rw same at h))
  raised_ceiling lock (x ∷ xs) (suc k) b h =
      let same : lock + suc k ≡ suc lock + k = omega arith in
      omega (arith, raised_ceiling (suc lock) xs k (omega arith) (rw same at h))

  -- the priority is the base or the ceiling of a held lock
  abbrev From : ℕ → List ℕ → ℕ → Type 0
  From lock ceilings p =
      (p ≡ base) ⊎ ((k : ℕ) × (k < length ceilings) × (holds held (lock + k) ≡ true) × (p ≡ get_or ceilings k 0))

  raised_from : (lock : ℕ) (ceilings : List ℕ) → From lock ceilings (raised held base lock ceilings)
  unfolding raised
  raised_from lock [] = inl refl
  raised_from lock (x ∷ xs) = go (holds held lock) refl (raised held base (suc lock) xs) (raised_from (suc lock) xs)
    where
      above : (p q : ℕ) → p ≡ q → From (suc lock) xs q → From lock (x ∷ xs) p
      above p q e (inl is) = inl (e ∙ is)
      above p q e (inr (k, b, h, is)) =
          let same : lock + suc k ≡ suc lock + k = omega arith in inr (suc k, omega arith, rw same h, e ∙ is)

      go : (test : Bool) → holds held lock ≡ test → (rest : ℕ) → From (suc lock) xs rest
          → From lock (x ∷ xs) (max (if test then x else 0) rest)
      go false e rest f = above _ rest (omega arith) f
      go true e rest f =
          elim (dec_le rest x) [
            | yes most ↦ (let same : lock + 0 ≡ lock = omega arith in inr (0, omega arith, rw same e, omega arith))
            | no less ↦ above _ rest (omega arith) f
          ]

raised_more : (before after : Held) (base : ℕ) → ((lock : ℕ) → holds before lock ≡ true → holds after lock ≡ true)
    → (lock : ℕ) (ceilings : List ℕ) → raised before base lock ceilings ≤ raised after base lock ceilings
unfolding raised
raised_more before after base more lock [] = omega arith
raised_more before after base more lock (x ∷ xs) =
    omega (arith, counts_more (holds before lock) (holds after lock) x (more lock), raised_more before after base more (suc lock) xs)

-- ---- the priority

module _ (held : Held) (base : ℕ) where
  -- the largest of the ceilings of the held locks from `lock` on, where `ceiling_of` gives the listed ceilings
  largest_raised : (ceiling_of : ℕ → ℕ) (lock : ℕ) (ceilings : List ℕ)
      → ((k : ℕ) → k < length ceilings → ceiling_of (lock + k) ≡ get_or ceilings k 0)
      → max base (largest (map ceiling_of (only (holds held) (from lock (length ceilings)))))
      ≡ raised held base lock ceilings
  unfolding raised from only largest
  largest_raised ceiling_of lock [] given = omega arith
  largest_raised ceiling_of lock (x ∷ xs) given =
      let here : lock + 0 ≡ lock = omega arith in
      let first : ceiling_of lock ≡ x = ap ceiling_of (sym here) ∙ given 0 (omega arith) in
      let one = largest_step ceiling_of (holds held) lock (from (suc lock) (length xs)) in
      let later = largest_raised ceiling_of (suc lock) xs
      (λ k b. let further : suc lock + k ≡ lock + suc k = omega arith in ap ceiling_of further ∙ given (suc k) (omega arith)) in
      omega (arith, rw first at one, later)

  -- so the priority is that
  pub priority_raised : (ceilings : List ℕ) → priority ceilings base held ≡ raised held base 0 ceilings
  unfolding priority held_ceilings up_to largest
  priority_raised ceilings =
      largest_raised (λ lock. get_or ceilings lock 0) 0 ceilings
      (λ k b. let same : 0 + k ≡ k = omega arith in ap (λ (j : ℕ). get_or ceilings j 0) same)

module _ (ceilings : List ℕ) (base : ℕ) where
  pub priority_base : (held : Held) → base ≤ priority ceilings base held
  priority_base held = rw (priority_raised held base ceilings) (raised_base held base 0 ceilings)

  pub priority_ceiling : (held : Held) (lock : ℕ) → lock < length ceilings → holds held lock ≡ true
      → get_or ceilings lock 0 ≤ priority ceilings base held
  priority_ceiling held lock b h =
      let same : 0 + lock ≡ lock = omega arith in
      rw (priority_raised held base ceilings) (raised_ceiling held base 0 ceilings lock b (rw same h))

  pub priority_from : (held : Held)
      → (priority ceilings base held ≡ base) ⊎ ((lock : ℕ) × (lock < length ceilings) × (holds held lock ≡ true)
      × (priority ceilings base held ≡ get_or ceilings lock 0))
  priority_from held =
      let worked = priority_raised held base ceilings in
      elim (raised_from held base 0 ceilings) [
        | inl is ↦ inl (worked ∙ is)
        | inr f ↦ (let same : 0 + f.0 ≡ f.0 = omega arith in inr (f.0, f.1, rw same at f.2, worked ∙ f.3))
      ]

  -- with no lock held it is the base
  pub priority_free : (held : Held) → ((lock : ℕ) → lock < length ceilings → holds held lock ≡ false)
      → priority ceilings base held ≡ base
  priority_free held free =
      elim (priority_from held) [
        | inl is ↦ is
        | inr f ↦ absurd (not_both _ f.2 (free f.0 f.1))
      ]

  pub priority_none : priority ceilings base no_locks ≡ base
  priority_none = priority_free no_locks (λ lock b. none_held lock)

  -- more held locks never lower it
  priority_more : (before after : Held) → ((lock : ℕ) → holds before lock ≡ true → holds after lock ≡ true)
      → priority ceilings base before ≤ priority ceilings base after
  priority_more before after more =
      rw (priority_raised before base ceilings, priority_raised after base ceilings)
      (raised_more before after base more 0 ceilings)

  pub acquire_raises : (held : Held) (lock : ℕ)
      → priority ceilings base held ≤ priority ceilings base (acquire held lock)
  acquire_raises held lock = priority_more held (acquire held lock) (acquire_keeps held lock)

  pub release_lowers : (held : Held) (lock : ℕ)
      → priority ceilings base (release held lock) ≤ priority ceilings base held
  release_lowers held lock = priority_more (release held lock) held (release_takes held lock)

-- ---- the priority worked out from the highest lock down

module _ (ceilings : List ℕ) (locks base : ℕ) (held : Held) where
  -- the largest of the base and the ceilings that are held from `lock` on
  abbrev pub highest_from : ℕ → ℕ
  highest_from lock = raised held base lock (drop lock (take locks ceilings))

  -- above the last lock it is the base
  pub highest_start : base ≡ highest_from locks
  unfolding raised
  highest_start = rw (drop_of_length-le (take locks ceilings) {i = locks} (omega (arith, length-take locks ceilings)))

  -- one lock more
  step : (lock : ℕ) → 0 < lock → lock ≤ locks → locks ≤ length ceilings
      → highest_from (lock - 1) ≡ max (if holds held (lock - 1) then get_or ceilings (lock - 1) 0 else 0)
      (highest_from lock)
  unfolding raised
  step zero some b c = absurd (omega arith)
  step (suc k) some b c =
      let same : suc k - 1 ≡ k = omega arith in
      rw (same, drop-cons (take locks ceilings) k 0 (omega (arith, length-take locks ceilings)), get_or-take locks ceilings k 0 (omega arith))

  pub highest_step : (lock highest : ℕ) (test : Bool) → 0 < lock → lock ≤ locks → locks ≤ length ceilings
      → highest ≡ highest_from lock → holds held (lock - 1) ≡ test
      → highest_from (lock - 1) ≡ max (if test then get_or ceilings (lock - 1) 0 else 0) highest
  highest_step lock highest test some b c is e = step lock some b c ∙ rw (e, is)
