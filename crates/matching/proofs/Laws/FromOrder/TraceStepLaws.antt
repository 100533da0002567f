-- Laws of an order's trace: it holds the order's steps and the stores after its Ends, each in its place, so the plan
-- that the order is written as is the one with the trace's guesses and marks.
-- Assumes nothing.
use Rattle.std.specs.Prelude.{◌≡◌, ◌≢◌, Bool, length, take, eqb}
use Rattle.std.proofs.Math.Path.{refl, sym, ap, subst}
use Rattle.std.proofs.Common.{◌∙◌, get_or-take, length-take-le, ext_get_or, eq-eqb, ne_eqb}
use Prim.Native.Nat.{ℕ, zero, suc, ◌+◌, ◌≤◌, ◌<◌}
use Rattle.std.proofs.Math.Decide.{ℕ_discrete}
use native.Mathlib.Omega.{arith}
use Rattle.std.proofs.Math.Bool.{true, false}
use mathlib.Core.List.{List, [], ◌∷◌, ◌++◌, map, append_assoc, append-nil}
use Rattle.std.proofs.Math.Option.{Option, none, some}
use Rattle.std.proofs.Math.ListN.{get_or, length-set, length-replicate}
use Rattle.std.proofs.lemmas.List.{get_or-replicate}
use Rattle.std.proofs.Math.Seq.{get_or-set_same, get_or-set_other}
use Rattle.notation.specs.Laws.ElementLaws.{only_in, only_out}
use Rattle.notation.specs.Laws.ListLaws.{each_map}
use Rattle.std.specs.Prelude.{if◌then◌else◌}
use Rattle.notation.specs.Lists.{from, only, each}
use Rattle.timing.specs.declared.Job.{Job}
use Rattle.timing.specs.Accepted.{Accepted}
use Rattle.timing.specs.Relations.{job_numbers}
use Rattle.machine.specs.Instructions.{Store}
use Rattle.order.specs.OrderBytes.{task_of_byte, value_of_byte}
use Rattle.order.specs.Orders.{Turn, turn_of, performed}
use Rattle.order.specs.OrderSteps.{OrderStep, steps_from, order_steps, steps_of_job, is_end, ended_count}
use Rattle.order.specs.States.{State, initial}
use Rattle.plan.specs.Runs.{job_total}
use Rattle.matching.specs.Conversions.{job_bytes, end_stores, plan_of}
use Rattle.matching.proofs.Laws.History.Histories.{Mark, Marks, job, marked}
use Rattle.matching.proofs.Laws.History.PlanReading.{marks_bytes, written}
use Rattle.matching.proofs.Laws.History.PlanReadingLaws.{numbers_from}
use Rattle.matching.proofs.Laws.FromOrder.TraceSteps.{Trace, NotedStep, noted, of_job, numbered, counted_step, RoundsCounted}
use Rattle.matching.proofs.Laws.FromOrder.TraceSteps.{traced, trace_from, first_guess, start_trace, trace_of}

-- ---- lists

-- one part for each number from `start` on and one for each element are the same
each_numbered : {A B : Type 0} (start : ℕ) (xs : List A) (d : A) (f : A → List B) (g : ℕ → List B)
    → ((k : ℕ) → k < length xs → g (start + k) ≡ f (get_or xs k d)) → each (from start (length xs)) g ≡ each xs f
unfolding from each
each_numbered start [] d f g same = refl
each_numbered {A} {B} start (x ∷ xs) d f g same =
    let first : g start ≡ f x = rw place at (same 0 (omega arith)) in
    ap (λ (l : List B). l ++ each (from (suc start) (length xs)) g) first
    ∙ ap (λ (l : List B). f x ++ l) (each_numbered (suc start) xs d f g (λ k lt. rw (next k) at (same (suc k) (omega arith))))
  where
    place : start + 0 ≡ start
    place = omega arith

    next : (k : ℕ) → start + suc k ≡ suc start + k
    next k = omega arith

-- ---- one step

-- a job's steps where the first is its own, and where it is another's
steps_own : (x : ℕ) (step : NotedStep) (steps : List NotedStep) → step.job.0 ≡ x
    → of_job x (step ∷ steps) ≡ step ∷ of_job x steps
unfolding only
steps_own x step steps e = rw (eq-eqb step.job.0 x e) refl

steps_other : (x : ℕ) (step : NotedStep) (steps : List NotedStep) → step.job.0 ≢ x
    → of_job x (step ∷ steps) ≡ of_job x steps
unfolding only
steps_other x step steps apart = rw (ne_eqb step.job.0 x apart) refl

-- a mark at the end of its job's is the first of those that follow
marks_step : (marks : Marks) (step : NotedStep) (steps : List NotedStep) (x : ℕ) → x < length marks
    → get_or (marked marks step.job.0 (noted step)) x [] ++ map noted (of_job x steps) ≡ get_or marks x [] ++ map
    noted (of_job x (step ∷ steps))
unfolding marked noted
marks_step marks step steps x lt =
    elim (ℕ_discrete step.job.0 x) [
      | yes same ↦
          (let here : get_or (marked marks step.job.0 (noted step)) x [] ≡ get_or marks x [] ++ (noted step ∷ []) =
          rw same (get_or-set_same marks x (get_or marks x [] ++ (noted step ∷ [])) [] lt) in
          ap (λ (l : List Mark). l ++ map noted (of_job x steps)) here
          ∙ append_assoc (get_or marks x []) (noted step ∷ []) (map noted (of_job x steps))
          ∙ ap (λ (l : List NotedStep). get_or marks x [] ++ map noted l) (sym (steps_own x step steps same)))
      | no apart ↦
          ap (λ (l : List Mark). l ++ map noted (of_job x steps)) (get_or-set_other marks step.job.0 x _ [] (λ e. apart (sym e)))
          ∙ ap (λ (l : List NotedStep). get_or marks x [] ++ map noted l) (sym (steps_other x step steps apart))
    ]

-- ---- a trace and its steps

-- the stores stand among these guesses, from that of the round after r on
abbrev Stored : ℕ → Trace → Trace → List Store → Type 0
Stored r t end stores =
    (i : ℕ) → i < length stores → suc r + i < length t.guesses → get_or end.guesses (suc r + i) [] ≡ get_or stores i []

-- the trace `end` is t with these steps, from round r on
pub record Follows (r : ℕ) (t : Trace) (made : List OrderStep) (end : Trace) : Type 0 where
  pub jobs : length end.marks ≡ length t.marks
  pub rounds : length end.guesses ≡ length t.guesses
  -- each job's marks, then those of its steps
  pub steps : (x : ℕ) → x < length t.marks
      → get_or end.marks x [] ≡ get_or t.marks x [] ++ map noted (of_job x (numbered r made))
  -- the guesses up to round r, then the stores after the Ends
  pub kept : (q : ℕ) → q ≤ r → get_or end.guesses q [] ≡ get_or t.guesses q []
  pub stores : (i : ℕ) → i < length (end_stores made) → suc r + i < length t.guesses
      → get_or end.guesses (suc r + i) [] ≡ get_or (end_stores made) i []

follows_none : (r : ℕ) (t : Trace) → Follows r t [] t
unfolding only numbered end_stores
follows_none r t =
    record {
      jobs = refl;
      rounds = refl;
      steps = λ x lt. sym (append-nil (get_or t.marks x []));
      kept = λ q le. refl;
      stores = λ i lt room. absurd (omega arith);
    }

module _ (r : ℕ) (t : Trace) (step : OrderStep) (made : List OrderStep) (end : Trace) where
  -- the trace after the step, which may be an End
  abbrev now : Bool → Trace
  now ends = traced r step.job.0 step.value ends step.after.store t

  abbrev own : NotedStep
  own = record { job = step.job; round = r; value = step.value }

  marks_size : length (marked t.marks step.job.0 (noted own)) ≡ length t.marks
  unfolding marked
  marks_size = length-set t.marks step.job.0 (get_or t.marks step.job.0 [] ++ (noted own ∷ []))

  -- the marks where the round of the next step is known
  marks_on : (q : ℕ) → (if is_end step then suc r else r) ≡ q → (x : ℕ) → x < length t.marks
      → get_or (marked t.marks step.job.0 (noted own)) x [] ++ map noted (of_job x (numbered q made))
      ≡ get_or t.marks x [] ++ map noted (of_job x (numbered r (step ∷ made)))
  unfolding numbered
  marks_on q same x lt =
      marks_step t.marks own (numbered q made) x lt
      ∙ ap (λ (n : ℕ). get_or t.marks x [] ++ map noted (of_job x (own ∷ numbered n made))) (sym same)

  -- a step that is no End
  follows_on : is_end step ≡ false → Follows r (now false) made end → Follows r t (step ∷ made) end
  unfolding traced noted end_stores
  follows_on goes f =
      let same : (if is_end step then suc r else r) ≡ r = rw goes refl in
      let left : end_stores (step ∷ made) ≡ end_stores made =
      ap (map (λ (one : OrderStep). one.after.store)) (only_out is_end step made goes) in
      record {
        jobs = f.jobs ∙ marks_size;
        rounds = f.rounds;
        steps = λ x lt. f.steps x (omega (arith, marks_size)) ∙ marks_on r same x lt;
        kept = f.kept;
        stores = subst (Stored r t end) (sym left) f.stores;
      }

  -- the stores after an End: its own, then those of the rounds after the next
  end_stores_lem : Follows (suc r) (now true) made end → Stored r t end (step.after.store ∷ end_stores made)
  unfolding traced
  end_stores_lem f zero lt room =
      let place : suc r + 0 ≡ suc r = omega arith in
      ap (λ (k : ℕ). get_or end.guesses k []) place
      ∙ f.kept (suc r) (omega arith)
      ∙ get_or-set_same t.guesses (suc r) step.after.store [] (omega arith)
  end_stores_lem f (suc i) lt room =
      let place : suc r + suc i ≡ suc (suc r) + i = omega arith in
      ap (λ (k : ℕ). get_or end.guesses k []) place
      ∙ f.stores i (omega arith) (omega (arith, length-set t.guesses (suc r) step.after.store))

  -- an End, after which the next round begins
  follows_end : is_end step ≡ true → Follows (suc r) (now true) made end → Follows r t (step ∷ made) end
  unfolding traced noted end_stores
  follows_end ends f =
      let same : (if is_end step then suc r else r) ≡ suc r = rw ends refl in
      let left : end_stores (step ∷ made) ≡ step.after.store ∷ end_stores made =
      ap (map (λ (one : OrderStep). one.after.store)) (only_in is_end step made ends) in
      record {
        jobs = f.jobs ∙ marks_size;
        rounds = f.rounds ∙ length-set t.guesses (suc r) step.after.store;
        steps = λ x lt. f.steps x (omega (arith, marks_size)) ∙ marks_on (suc r) same x lt;
        kept = λ q le. f.kept q (omega arith)
            ∙ get_or-set_other t.guesses (suc r) q step.after.store [] (λ e. omega arith);
        stores = subst (Stored r t end) (sym left) (end_stores_lem f);
      }

  follows_step : Follows (if is_end step then suc r else r) (now (is_end step)) made end → Follows r t (step ∷ made) end
  follows_step f = go (is_end step) refl f
    where
      go : (b : Bool) → is_end step ≡ b → Follows (if b then suc r else r) (now b) made end → Follows r t (step ∷ made) end
      go true ends g = follows_end ends g
      go false goes g = follows_on goes g

module _ (a : Accepted) where
  -- the trace of an order's bytes is that of their steps
  pub trace_follows : (bytes : List ℕ) (s : State) (r : ℕ) (t : Trace)
      → Follows r t (steps_from a s bytes) (trace_from a s r t bytes)
  unfolding steps_from trace_from is_end
  trace_follows [] s r t = follows_none r t
  trace_follows (byte ∷ bytes) s r t = go (turn_of a s (task_of_byte byte)) refl (λ next later now. trace_follows bytes next later now)
    where
      go : (turn : Option Turn) → turn_of a s (task_of_byte byte) ≡ turn
          → ((next : State) (later : ℕ) (now : Trace) → Follows later now (steps_from a next bytes)
          (trace_from a next later now bytes))
          → Follows r t (steps_from a s (byte ∷ bytes)) (trace_from a s r t (byte ∷ bytes))
      go none e rest = rw (e, trace_from, steps_from) (follows_none r t)
      go (some turn) e rest =
          let next : State = performed a s (value_of_byte byte) turn in
          let first : OrderStep = record { job = turn.frame.job; value = value_of_byte byte; before = s; after = next } in
          rw (e, trace_from, steps_from) (follows_step r t first _ _ (rest next _ _))

-- ---- the plan

-- there are n guesses, the known one first
pub guess_length : (store : Store) (n : ℕ) → length (first_guess store n) ≡ n
unfolding first_guess
guess_length store zero = refl
guess_length store (suc n) = ap suc (length-replicate n [])

pub first_guess_lem : (store : Store) (n : ℕ) (d : Store) → 0 < n → get_or (first_guess store n) 0 d ≡ store
unfolding first_guess
first_guess_lem store zero d lt = absurd (omega arith)
first_guess_lem store (suc n) d lt = refl

-- a job's bytes are those of its marks
bytes_noted : (a : Accepted) (made : List OrderStep) (x : ℕ)
    → job_bytes a made (job x) ≡ marks_bytes (map noted (of_job x (map (counted_step a) made)))
unfolding job_bytes steps_of_job marks_bytes noted counted_step job only each
bytes_noted a [] x = refl
bytes_noted a (step ∷ made) x = go (eqb step.job.0 x) (bytes_noted a made x)
  where
    go : (b : Bool) → job_bytes a made (job x) ≡ marks_bytes (map noted (of_job x (map (counted_step a) made)))
        → each (if b then step ∷ steps_of_job made (job x) else steps_of_job made (job x))
        (λ one. ended_count a one.before ∷ one.value ∷ [])
        ≡ marks_bytes (map noted (if b then counted_step a step ∷ of_job x (map (counted_step a) made)
        else of_job x (map (counted_step a) made)))
    go true e = ap (λ (l : List ℕ). ended_count a step.before ∷ step.value ∷ l) e
    go false e = e

module _ (a : Accepted) (order : List ℕ) where
  -- the trace of the whole order
  pub traced_whole : Follows 0 (start_trace a) (order_steps a order) (trace_of a order)
  unfolding trace_of order_steps
  traced_whole = trace_follows a order (initial a) 0 (start_trace a)

  -- it has a guess and a list of marks for each job
  pub guesses_whole : length (trace_of a order).guesses ≡ job_total a
  unfolding start_trace
  guesses_whole = traced_whole.rounds ∙ guess_length a.table.store (job_total a)

  pub marks_whole : length (trace_of a order).marks ≡ job_total a
  unfolding start_trace
  marks_whole = traced_whole.jobs ∙ length-replicate (job_total a) []

  -- a job's marks are those of its steps
  pub marks_noted : (x : ℕ) → x < job_total a
      → get_or (trace_of a order).marks x [] ≡ map noted (of_job x (numbered 0 (order_steps a order)))
  unfolding start_trace
  marks_noted x lt =
      traced_whole.steps x (omega (arith, length-replicate {A = List Mark} (job_total a) []))
      ∙ ap (λ (l : List Mark). l ++ map noted (of_job x (numbered 0 (order_steps a order)))) (get_or-replicate (job_total a) x [] [] lt)

  -- so the bytes of all jobs are those of the marks
  jobs_written : RoundsCounted a order → each (job_numbers a) (job_bytes a (order_steps a order)) ≡ each
      (trace_of a order).marks marks_bytes
  jobs_written counts =
      let made : List OrderStep = order_steps a order in
      let marks : Marks = (trace_of a order).marks in
      let noting : (x : ℕ) → x < job_total a → job_bytes a made (job x) ≡ marks_bytes (get_or marks x []) = λ x lt.
      bytes_noted a made x
      ∙ ap (λ (l : List NotedStep). marks_bytes (map noted (of_job x l))) (sym counts)
      ∙ ap marks_bytes (sym (marks_noted x lt)) in
      ap (λ (xs : List Job). each xs (job_bytes a made)) (numbers_from a (length marks) marks_whole)
      ∙ each_map job (from 0 (length marks)) (job_bytes a made)
      ∙ each_numbered 0 marks [] marks_bytes (λ x. job_bytes a made (job x)) (λ k lt. rw (place k) (noting k (omega (arith, marks_whole))))
    where
      place : (k : ℕ) → 0 + k ≡ k
      place k = omega arith

  -- the guess of round i, if enough rounds have ended
  guess_at : job_total a ≤ suc (length (end_stores (order_steps a order))) → (i : ℕ) → i < job_total a
      → get_or (a.table.store ∷ end_stores (order_steps a order)) i [] ≡ get_or (trace_of a order).guesses i []
  unfolding start_trace
  guess_at enough zero lt = sym (traced_whole.kept 0 (omega arith) ∙ first_guess_lem a.table.store (job_total a) [] lt)
  guess_at enough (suc i) lt =
      let place : suc 0 + i ≡ suc i = omega arith in
      sym (rw place at (traced_whole.stores i (omega arith) (omega (arith, guess_length a.table.store (job_total a)))))

  pub guesses_taken : job_total a ≤ suc (length (end_stores (order_steps a order)))
      → take (job_total a) (a.table.store ∷ end_stores (order_steps a order)) ≡ (trace_of a order).guesses
  guesses_taken enough =
      let k : ℕ = job_total a in
      let stores : List Store = a.table.store ∷ end_stores (order_steps a order) in
      let size : length (take k stores) ≡ k = length-take-le k stores enough in
      ext_get_or [] (take k stores) (trace_of a order).guesses (size ∙ sym guesses_whole)
      (λ i lt. let below : i < k = omega (arith, size) in get_or-take k stores i [] below ∙ guess_at enough i below)

  -- the plan of an order in which enough rounds end is the one with the trace's guesses and marks
  pub plan_traced : RoundsCounted a order → job_total a ≤ suc (length (end_stores (order_steps a order)))
      → plan_of a order ≡ written a (trace_of a order).guesses (trace_of a order).marks
  unfolding plan_of written
  plan_traced counts enough =
      let jobs : List ℕ = each (job_numbers a) (job_bytes a (order_steps a order)) in
      ap (λ (stores : List Store). job_total a ∷ (each stores (λ store. store) ++ jobs)) (guesses_taken enough)
      ∙ ap (λ (l : List ℕ). job_total a ∷ (each (trace_of a order).guesses (λ store. store) ++ l)) (jobs_written counts)
