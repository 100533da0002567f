-- The moves of a state are its steps, each once: the walk's order of them is ascending in their byte, each is a step,
-- and each step is one of them.
-- Assumes nothing.
use Rattle.std.specs.Prelude.{◌≡◌, ℕ, ◌+◌, ◌*◌, ◌≤◌, ◌<◌, Bool, ◌&&◌, eqb}
use Rattle.std.proofs.Math.Path.{refl, subst}
use Rattle.std.proofs.Common.{sym, ap, ap₂, ◌∙◌, arith, ne_eqb}
use Rattle.std.proofs.Math.Logic.{inl, inr}
use Rattle.std.proofs.Math.Bool.{true, false}
use mathlib.Core.List.Memᴰ
use mathlib.Core.List.{List, [], ◌∷◌, ◌++◌, Memᴰ}
use Rattle.std.proofs.Math.Option.{Option, none, some}
use Rattle.taskfile.specs.declared.Task.{Task}
use Rattle.taskfile.specs.Judgement.{numbered, task_numbers}
use Rattle.taskfile.proofs.Laws.JudgementLaws.{task_listed}
use Rattle.notation.specs.Laws.ListLaws.{each_member, member_each}
use Rattle.std.specs.Prelude.{if◌then◌else◌}
use Rattle.notation.specs.Lists.{first_with, each}
use Rattle.notation.specs.Laws.PairLaws.{every_of, every_imp, every_map, every_each, ordered_imp, ordered_map, ordered_append, ordered_each, every_member}
use Rattle.notation.specs.Ordered.{Every, Ordered}
use Rattle.taskfile.proofs.Laws.TableLaws.{tasks_rise}
use Rattle.timing.specs.Accepted.{Accepted}
use Rattle.timing.proofs.Laws.RelationLaws.{preempt_says}
use Rattle.timing.specs.Relations.{base, job_at, job_numbers}
use Rattle.machine.specs.Instructions.{values}
use Rattle.machine.proofs.Laws.ValueLaws.{values_rise, values_small}
use Rattle.order.specs.OrderBytes.{order_byte, task_of_byte, value_of_byte}
use Rattle.order.specs.declared.Frame.{Frame}
use Rattle.order.specs.Code.Invariant.{Over, Invariant}
use Rattle.timing.proofs.Laws.JobFacts.{job_task}
use Rattle.order.specs.Orders.{Turn, start_of, turn_among, turn_of, next_of, performed, step}
use Rattle.order.proofs.Laws.ProgressLaws.{turn_step_lem, running_turn}
use Rattle.timing.specs.Code.IsAccepted.{IsAccepted}
use Rattle.order.specs.States.{State, may_start}
use Rattle.order.proofs.Laws.StepLaws.{map_some, good_start, good_turn, step_says}
use Rattle.walk.specs.Moves.{Move, turn_moves, running_moves, start_moves, moves}
use Rattle.notation.specs.Laws.MemberLaws.{member_holds, member_says}

-- ---- the moves of one turn

-- the byte of a move of task i
abbrev OfTask : ℕ → Move → Type 0
OfTask i m = (16 * i ≤ m.byte) × (m.byte < 16 * i + 16)

abbrev Ascending : Move → Move → Type 0
Ascending m n = m.byte < n.byte

module _ {a : Accepted} (ok : IsAccepted a) (s : State) (turn : Turn) where
  turn_values : Every (λ v. v < 16) (values (next_of a turn.frame))
  unfolding next_of
  turn_values =
      values_small (next_of a turn.frame)
      (ok.is_made.choices (job_at a turn.frame.job).task turn.frame.local.next)

  turn_bytes : Every (OfTask (base a turn.frame.job)) (turn_moves a s turn)
  unfolding turn_moves
  turn_bytes =
      every_map (OfTask (base a turn.frame.job)) _ (values (next_of a turn.frame))
      (every_imp (λ v. v < 16) _ (λ v small. omega arith) (values (next_of a turn.frame)) turn_values)

turn_ascends : (a : Accepted) (s : State) (turn : Turn) → Ordered Ascending (turn_moves a s turn)
unfolding turn_moves
turn_ascends a s turn =
    ordered_map Ascending _ (values (next_of a turn.frame))
    (ordered_imp ◌<◌ _ (λ v w lt. omega arith) (values (next_of a turn.frame)) (values_rise (next_of a turn.frame)))

-- moves of a lower task come first
tasks_ascend : (i j : ℕ) → i < j → (ms ns : List Move) → Every (OfTask i) ms → Every (OfTask j) ns
    → Every (λ m. Every (Ascending m) ns) ms
tasks_ascend i j lt ms ns lower higher =
    every_imp (OfTask i) _ (λ m below. every_imp (OfTask j) (Ascending m) (λ n above. omega arith) ns higher) ms lower

-- ---- starts

-- the moves of the start of task i, and of all starts by ascending task
abbrev starts_of : Accepted → State → Task → List Move
starts_of a s i = start_moves a s (start_of a s i.0)

abbrev all_starts : Accepted → State → List Move
all_starts a s = each (task_numbers a.table) (starts_of a s)

-- a start goes over all active jobs
start_under : (a : Accepted) (s : State) (i : ℕ) {turn : Turn} → start_of a s i ≡ some turn → turn.under ≡ s.active
unfolding start_of
start_under a s i {turn} e =
    let found = map_some _ (first_with (λ y. eqb (base a y) i && may_start a s y) (job_numbers a)) e in
    ap (λ (t : Turn). t.under) (sym found.2)

module _ {a : Accepted} (ok : IsAccepted a) {s : State} (inv : Invariant a s) where
  -- so its base is above theirs
  start_above : (i : ℕ) {turn : Turn} → start_of a s i ≡ some turn → Every (λ f. base a f.job < i) s.active
  start_above i {turn} e =
      let good = good_start ok inv i e in
      every_imp (Over a turn.frame) (λ f. base a f.job < i)
      (λ f over. omega (arith, preempt_says a turn.frame.job f.job over.preempts, good.1)) s.active
      (subst (Every (Over a turn.frame)) (start_under a s i e) good.0.over)

  -- the moves of the start of task i are of that task, and ascend
  start_bytes : (i : ℕ) → Every (OfTask i) (start_moves a s (start_of a s i))
  unfolding start_moves
  start_bytes i = go (start_of a s i) refl
    where
      go : (o : Option Turn) → start_of a s i ≡ o → Every (OfTask i) (start_moves a s o)
      go none e = tt
      go (some turn) e =
          let good = good_start ok inv i e in
          subst (λ (n : ℕ). Every (OfTask n) (turn_moves a s turn)) good.1 (turn_bytes ok s turn)

  start_ascends : (o : Option Turn) → Ordered Ascending (start_moves a s o)
  unfolding start_moves
  start_ascends none = tt
  start_ascends (some turn) = turn_ascends a s turn

  starts_ascend : Ordered Ascending (all_starts a s)
  starts_ascend =
      ordered_each Ascending (starts_of a s) (task_numbers a.table)
      (every_of _ (λ i. start_ascends (start_of a s i.0)) (task_numbers a.table))
      (tasks_rise a.table _ (λ i j lt. tasks_ascend i.0 j.0 lt (starts_of a s i) (starts_of a s j) (start_bytes i.0) (start_bytes j.0)))

  -- the moves of the running job come before all starts
  starts_above_lem : (f : Frame) (under : List Frame) → s.active ≡ f ∷ under
      → Every (λ n. order_byte (base a f.job) 16 ≤ n.byte) (all_starts a s)
  unfolding start_moves
  starts_above_lem f under same =
      every_each _ (starts_of a s) (task_numbers a.table)
      (every_of _ (λ i. go i.0 (start_of a s i.0) refl (start_bytes i.0)) (task_numbers a.table))
    where
      go : (i : ℕ) (o : Option Turn) → start_of a s i ≡ o → Every (OfTask i) (start_moves a s o)
          → Every (λ n. order_byte (base a f.job) 16 ≤ n.byte) (start_moves a s o)
      go i none e bytes = tt
      go i (some turn) e bytes =
          let above = (subst (Every (λ g. base a g.job < i)) same (start_above i e)).0 in
          every_imp (OfTask i) (λ n. order_byte (base a f.job) 16 ≤ n.byte) (λ n h. omega arith) (turn_moves a s turn) bytes

  among_ascend : (active : List Frame) → s.active ≡ active
      → Ordered Ascending (running_moves a s active ++ all_starts a s)
  unfolding running_moves
  among_ascend [] same = starts_ascend
  among_ascend (f ∷ under) same =
      let turn : Turn = record { frame = f; under = under } in
      let bytes = turn_bytes ok s turn in
      ordered_append Ascending (turn_moves a s turn) (all_starts a s) (turn_ascends a s turn) starts_ascend
      (every_imp (OfTask (base a f.job)) _
      (λ m h. every_imp _ (Ascending m) (λ n above. omega arith) (all_starts a s) (starts_above_lem f under same))
      (turn_moves a s turn) bytes)

  -- the moves ascend in their byte
  pub moves_ascend : Ordered (λ m n. m.byte < n.byte) (moves a s)
  unfolding moves
  moves_ascend = among_ascend s.active refl

module _ {a : Accepted} (ok : IsAccepted a) {s : State} (inv : Invariant a s) where
  -- a start has the turn of its task
  start_turn_lem : (i : ℕ) {turn : Turn} → start_of a s i ≡ some turn → turn_of a s i ≡ some turn
  unfolding turn_of turn_among
  start_turn_lem i {turn} e = go s.active (start_above ok inv i e)
    where
      go : (active : List Frame) → Every (λ f. base a f.job < i) active → turn_among a s i active ≡ some turn
      go [] above = e
      go (f ∷ under) above = rw (ne_eqb (base a f.job) i (λ same. omega (arith, above.0))) e

  -- a turn's moves are steps
  turn_steps : (i : ℕ) {turn : Turn} → turn_of a s i ≡ some turn → {m : Move} → Memᴰ m (turn_moves a s turn)
      → step a s m.byte ≡ some m.after
  unfolding turn_moves
  turn_steps i {turn} due {m} here =
      let good = good_turn ok inv i due in
      let at = Memᴰ.of_map _ (values (next_of a turn.frame)) here in
      let small = every_member (λ v. v < 16) _ (turn_values ok s turn) at.1 in
      subst (λ (m : Move). step a s m.byte ≡ some m.after) at.2
      (ap (λ (n : ℕ). step a s (16 * n + at.0)) good.1 ∙ turn_step_lem a s i at.0 due small (member_holds _ _ at.1))

  running_steps : (active : List Frame) → s.active ≡ active → {m : Move} → Memᴰ m (running_moves a s active)
      → step a s m.byte ≡ some m.after
  unfolding running_moves
  running_steps [] same here = absurd (Memᴰ.not-nil here)
  running_steps (f ∷ under) same here = turn_steps (base a f.job) (running_turn a s f under same) here

  start_steps : (i : ℕ) (o : Option Turn) → start_of a s i ≡ o → {m : Move} → Memᴰ m (start_moves a s o)
      → step a s m.byte ≡ some m.after
  unfolding start_moves
  start_steps i none e here = absurd (Memᴰ.not-nil here)
  start_steps i (some turn) e here = turn_steps i (start_turn_lem i e) here

  -- each move is a step
  pub move_is_step : {m : Move} → Memᴰ m (moves a s) → step a s m.byte ≡ some m.after
  unfolding moves
  move_is_step {m} here =
      elim (Memᴰ.append_cases (running_moves a s s.active) here) [
        | inl running ↦ running_steps s.active refl running
        | inr start ↦
            let task = member_each (task_numbers a.table) (starts_of a s) start in
            start_steps task.0.0 (start_of a s task.0.0) refl task.2
      ]

  -- the moves of a start are among the state's, and so are those of any turn
  start_listed : (i : ℕ) {turn : Turn} → start_of a s i ≡ some turn → {m : Move} → Memᴰ m (turn_moves a s turn)
      → Memᴰ m (moves a s)
  unfolding moves start_moves
  start_listed i {turn} e {m} here =
      let good = good_start ok inv i e in
      let known = job_task ok.is_timed turn.frame.job good.0.running.job in
      Memᴰ.append_right (running_moves a s s.active)
      (each_member (starts_of a s) (task_listed a.table (numbered i) (omega (arith, good.1, known)))
      (subst (λ (o : Option Turn). Memᴰ m (start_moves a s o)) (sym e) here))

  turn_listed : (i : ℕ) (active : List Frame) → s.active ≡ active → {turn : Turn} → turn_among a s i active ≡ some turn
      → {m : Move} → Memᴰ m (turn_moves a s turn) → Memᴰ m (moves a s)
  unfolding turn_among moves running_moves
  turn_listed i [] same e here = start_listed i e here
  turn_listed i (f ∷ under) same {turn} e {m} here = go (eqb (base a f.job) i) e
    where
      go : (b : Bool) → (if b then some (record { frame = f; under = under }) else start_of a s i) ≡ some turn
          → Memᴰ m (moves a s)
      go true h =
          let turns : turn ≡ record { frame = f; under = under } = cc in
          Memᴰ.append_left (all_starts a s)
          (subst (λ (fs : List Frame). Memᴰ m (running_moves a s fs)) (sym same)
          (subst (λ (t : Turn). Memᴰ m (turn_moves a s t)) turns here))
      go false h = start_listed i h here

  -- and each step is a move
  pub step_is_move : (byte : ℕ) {after : State} → step a s byte ≡ some after
      → Memᴰ (record { byte = byte; after = after }) (moves a s)
  unfolding turn_of turn_moves
  step_is_move byte {after} e =
      let made = step_says a s byte e in
      let turn : Turn = made.turn in
      let good = good_turn ok inv (task_of_byte byte) made.due in
      let bytes : byte ≡ order_byte (base a turn.frame.job) (value_of_byte byte) = omega (arith, good.1) in
      turn_listed (task_of_byte byte) s.active refl made.due
      (Memᴰ.cast (ap₂ (λ (n : ℕ) (t : State). record { byte = n; after = t }) bytes (sym made.made))
      (Memᴰ.map (λ v. record { byte = order_byte (base a turn.frame.job) v; after = performed a s v turn }) (member_says _ _ made.offered)))
