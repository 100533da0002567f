-- The four laws of before and may preempt, for the jobs of an accepted table. All that is proved of orders and plans
-- goes by them.
-- Assumes nothing.
use Rattle.std.specs.Prelude.{◌≡◌, ◌⊎◌, ℕ, ◌≤◌, ◌<◌, true, not, ◌&&◌, leb, ltb, eqb}
use Rattle.std.proofs.Common.{ap, inl, inr, arith, ltb-true, leb-true, lt-ltb, le-leb, ne_eqb}
use Rattle.std.proofs.Math.Decide.{dec_le, dec_lt, ℕ_discrete}
use Rattle.std.proofs.lemmas.Bool.{eqb-false, not-true}
use Rattle.notation.specs.Laws.PairLaws.{every_at, ordered_at}
use Rattle.notation.specs.Laws.TestLaws.{and_both, or_either, and_holds, or_left, or_right}
use Rattle.timing.specs.declared.Job.{Job}
use Rattle.timing.specs.Accepted.{Accepted}
use Rattle.timing.proofs.Laws.JobLaws.{Earlier, jobs_last, jobs_numbered}
use Rattle.timing.specs.Code.IsAccepted.{Timed}
use Rattle.timing.specs.Relations.{no_job, job_at, base, before, may_preempt, IsJob}

-- ---- the two relations as orders of numbers

abbrev pub IsBefore : Accepted → Job → Job → Type 0
IsBefore a x y =
    ((job_at a x).latest ≤ (job_at a y).arrival) ⊎ (((job_at a x).arrival ≤ (job_at a y).arrival) × (base a y ≤ base a x))

pub before_says : (a : Accepted) (x y : Job) → before a x y ≡ true → (x.0 ≡ y.0 → ⊥) × IsBefore a x y
unfolding before
before_says a x y h =
    let parts = and_both (not (eqb x.0 y.0)) _ h in (
      eqb-false x.0 y.0 (not-true _ parts.0),
      elim (or_either (leb (job_at a x).latest (job_at a y).arrival) _ parts.1) [
        | inl first ↦ inl (leb-true _ _ first)
        | inr second ↦
            let orders = and_both (leb (job_at a x).arrival (job_at a y).arrival) _ second in
            inr (leb-true _ _ orders.0, leb-true _ _ orders.1)
      ],
    )

pub before_holds : (a : Accepted) (x y : Job) → (x.0 ≡ y.0 → ⊥) → IsBefore a x y → before a x y ≡ true
unfolding before
before_holds a x y apart h =
    and_holds (not (eqb x.0 y.0)) _ (ap not (ne_eqb _ _ apart))
    (elim h [
      | inl first ↦ or_left (leb (job_at a x).latest (job_at a y).arrival) _ (le-leb _ _ first)
      | inr orders ↦ or_right (leb (job_at a x).latest (job_at a y).arrival) _ (and_holds _ _ (le-leb _ _ orders.0) (le-leb _ _ orders.1))
    ])

pub record Preempts (a : Accepted) (y x : Job) : Type 0 where
  pub higher : base a x < base a y
  pub later : (job_at a x).arrival < (job_at a y).arrival
  pub during : (job_at a y).arrival < (job_at a x).latest

pub preempt_says : (a : Accepted) (y x : Job) → may_preempt a y x ≡ true → Preempts a y x
unfolding may_preempt
preempt_says a y x h =
    let parts = and_both (ltb (base a x) (base a y) && ltb (job_at a x).arrival (job_at a y).arrival) _ h in
    let front = and_both (ltb (base a x) (base a y)) _ parts.0 in
    record { higher = ltb-true _ _ front.0; later = ltb-true _ _ front.1; during = ltb-true _ _ parts.1 }

pub preempt_holds : (a : Accepted) (y x : Job) → Preempts a y x → may_preempt a y x ≡ true
unfolding may_preempt
preempt_holds a y x h =
    and_holds _ _ (and_holds _ _ (lt-ltb _ _ h.higher) (lt-ltb _ _ h.later)) (lt-ltb _ _ h.during)

-- ---- jobs by number

-- a job's latest finish is after its arrival
pub finish_after : {a : Accepted} → Timed a → (x : Job) → IsJob a x → (job_at a x).arrival < (job_at a x).latest
unfolding job_at
finish_after {a} timed x isJob = every_at (λ j. j.arrival < j.latest) a.jobs x.0 no_job (jobs_last timed) isJob

-- "Jobs are numbered by task, then by arrival."
pub jobs_by_number : {a : Accepted} → Timed a → (x y : Job) → x.0 < y.0 → IsJob a y
    → (base a x < base a y) ⊎ ((base a x ≡ base a y) × ((job_at a x).arrival < (job_at a y).arrival))
unfolding base job_at
jobs_by_number {a} timed x y lt isJob = ordered_at Earlier a.jobs x.0 y.0 no_job (jobs_numbered timed) lt isJob

-- ---- the four laws

-- Law 1: of two jobs one comes before the other, or the one with the higher number may preempt the one with the lower.
pub jobs_related : {a : Accepted} → Timed a → (x y : Job) → x.0 < y.0 → IsJob a y
    → (before a x y ≡ true) ⊎ (before a y x ≡ true) ⊎ (may_preempt a y x ≡ true)
jobs_related {a} timed x y lt isJob =
    let apart : x.0 ≡ y.0 → ⊥ = λ e. omega arith in
    elim (jobs_by_number timed x y lt isJob) [
      | inr same ↦ inl (before_holds a x y apart (inr (omega arith)))
      | inl below ↦
          elim (dec_le (job_at a x).latest (job_at a y).arrival) [
            | yes finished ↦ inl (before_holds a x y apart (inl finished))
            | no running ↦
                elim (dec_lt (job_at a x).arrival (job_at a y).arrival) [
                  | yes after ↦ inr (inr (preempt_holds a y x (record { higher = below; later = after; during = omega arith })))
                  | no earlier ↦ inr (inl (before_holds a y x (λ e. omega arith) (inr (omega arith))))
                ]
          ]
    ]

-- two distinct jobs of one task do not arrive together
arrive_apart : {a : Accepted} → Timed a → (x y : Job) → IsJob a x → IsJob a y → (x.0 ≡ y.0 → ⊥)
    → base a x ≡ base a y → (job_at a x).arrival ≡ (job_at a y).arrival → ⊥
arrive_apart {a} timed x y is_x isY apart same together =
    elim (dec_lt x.0 y.0) [
      | yes below ↦ elim (jobs_by_number timed x y below isY) [ inl h ↦ omega arith | inr h ↦ omega arith ]
      | no above ↦ elim (jobs_by_number timed y x (omega arith) is_x) [ inl h ↦ omega arith | inr h ↦ omega arith ]
    ]

-- Law 4: before has no cycle, since it raises the arrival or, at one arrival, lowers the base.
pub before_raises : {a : Accepted} → Timed a → (x y : Job) → IsJob a x → IsJob a y → before a x y ≡ true
    → ((job_at a x).arrival < (job_at a y).arrival) ⊎ (((job_at a x).arrival ≡ (job_at a y).arrival) × (base a y < base a x))
before_raises {a} timed x y is_x isY h =
    let says = before_says a x y h in
    elim says.1 [
      | inl finished ↦ inl (omega (arith, finish_after timed x is_x))
      | inr orders ↦
          elim (dec_lt (job_at a x).arrival (job_at a y).arrival) [
            | yes raised ↦ inl raised
            | no together ↦
                let apart : base a x ≡ base a y → ⊥ = λ same. arrive_apart timed x y is_x isY says.0 same (omega arith) in
                inr (omega arith)
          ]
    ]

-- Law 3: a job may preempt only jobs of a lower base, and so of a lower number.
pub preempts_lower : {a : Accepted} → Timed a → (y x : Job) → IsJob a x → may_preempt a y x ≡ true
    → (base a x < base a y) × (x.0 < y.0)
preempts_lower {a} timed y x is_x h =
    let higher = (preempt_says a y x h).higher in (
      higher,
      elim (dec_lt x.0 y.0) [
        | yes below ↦ below
        | no above ↦
            elim (ℕ_discrete x.0 y.0) [
              | yes same ↦ absurd (let equal : base a x ≡ base a y = ap (λ (n : ℕ). base a (record { 0 = n })) same in omega arith)
              | no apart ↦ absurd (elim (jobs_by_number timed y x (omega arith) is_x) [ inl g ↦ omega arith | inr g ↦ omega arith ])
            ]
      ],
    )

-- Law 2: the three exclude each other.
pub before_one_way : {a : Accepted} → Timed a → (x y : Job) → IsJob a x → IsJob a y → before a x y ≡ true
    → before a y x ≡ true → ⊥
before_one_way timed x y is_x isY h k =
    elim (before_raises timed x y is_x isY h) [
      | inl g ↦ elim (before_raises timed y x isY is_x k) [ inl e ↦ omega arith | inr e ↦ omega arith ]
      | inr g ↦ elim (before_raises timed y x isY is_x k) [ inl e ↦ omega arith | inr e ↦ omega arith ]
    ]

pub before_or_preempted : (a : Accepted) (x y : Job) → before a x y ≡ true → may_preempt a y x ≡ true → ⊥
before_or_preempted a x y h k =
    let p = preempt_says a y x k in
    elim (before_says a x y h).1 [ inl g ↦ omega arith | inr g ↦ omega arith ]

pub before_or_preempts : {a : Accepted} → Timed a → (x y : Job) → IsJob a y → before a y x ≡ true
    → may_preempt a y x ≡ true → ⊥
before_or_preempts {a} timed x y isY h k =
    let p = preempt_says a y x k in
    elim (before_says a y x h).1 [ inl g ↦ omega (arith, finish_after timed y isY) | inr g ↦ omega arith ]
