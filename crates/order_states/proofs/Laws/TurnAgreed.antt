-- The turn on a snapshot is the turn of `Orders`: that of the active job started last if it is of the task, and else
-- that of a job that may start, if there is one.
-- Assumes nothing.
use Rattle.std.specs.Prelude.{◌≡◌, ℕ, ◌-◌, ◌<◌, ◌&&◌, List, reverse, take, Option, Some, None, MatchOption}
use Rattle.std.proofs.Math.Path.{refl, sym, ap, subst}
use Rattle.std.proofs.Common.{◌∙◌, arith}
use Rattle.std.proofs.Math.Logic.{inl, inr}
use Rattle.std.proofs.Math.Decide.{dec_lt}
use Rattle.std.proofs.Math.Bool.{true, false}
use Rattle.std.proofs.Math.Option.{none, some}
use Rattle.std.proofs.Math.Dec.{ltb, eqb}
use borrow.Author.Tests.{ltb-true, ne_eqb, lt-ltb}
use Rattle.taskfile.specs.declared.Ceilings.{Ceilings}
use Rattle.std.specs.Prelude.{if◌then◌else◌}
use Rattle.notation.specs.Ordered.{Every}
use Rattle.notation.specs.Laws.TestLaws.{and_both, and_holds, test_decided, other_fails}
use Rattle.timing.specs.Accepted.{Accepted}
use Rattle.timing.specs.Relations.{IsJob, base}
use Rattle.order_states.specs.declared.Due.{Due}
use Rattle.order_states.specs.Code.Snapshots.{Snapshot}
use Rattle.order.specs.Code.Invariant.{IsRunning, Invariant}
use Rattle.timing.proofs.Laws.JobFacts.{jobs_few}
use Rattle.order.specs.Orders.{Turn, start_of, turn_among, turn_of}
use Rattle.timing.proofs.Laws.BaseLaws.{base_small}
use Rattle.order_states.specs.Code.Shows.{Lends, Shows}
use Rattle.order_states.specs.Code.SnapshotSteps.{owned_by, stack_of, level_in, starts_in, start_turn, start_in, top_of, runs_in, top_turn, turn_in}
use Rattle.timing.specs.Code.IsAccepted.{IsAccepted}
use Rattle.order_states.proofs.Laws.ShowLaws.{active_top, no_active}
use Rattle.order_states.proofs.Laws.StartLaws.{starts_says}
use Rattle.order_states.proofs.Laws.StartAgreed.{start_is, start_agreed_none}
use Rattle.order.specs.States.{State}

module _ {a : Accepted} (ok : IsAccepted a) {program waits : List ℕ} {locks : Ceilings} (lends : Lends a program waits locks)
    {p : Snapshot} {s : State} (inv : Invariant a s) (shows : Shows a p s) where
  -- a turn as the snapshot has it
  pub record Shown (i : ℕ) (d : Due) : Type 0 where
    pub turn : Turn
    pub due : turn_of a s i ≡ some turn
    pub frame : turn.frame ≡ d.frame
    pub under : turn.under ≡ reverse (take d.under p.stack)
    pub room : d.under < 8

  -- what is due is the turn, and if nobody is, there is none
  abbrev pub Turned : ℕ → Option Due → Type 0
  Turned i o = MatchOption o (turn_of a s i ≡ none) (Shown i)

  start_turned : (i : ℕ) → turn_of a s i ≡ start_of a s i → Turned i (start_in program waits locks p i)
  unfolding start_in start_turn stack_of
  start_turned i through =
      elim (test_decided (starts_in program waits locks p i)) [
        | inl e ↦
            let is : start_in program waits locks p i ≡ Some (start_turn p i) = rw e refl in
            subst (Turned i) (sym is)
            (record {
              turn = _;
              due = through ∙ start_is ok lends inv shows i e;
              frame = refl;
              under =
                  shows.active;
              room = (starts_says program waits (level_in program locks p) p i e).room;
            })
        | inr e ↦
            let is : start_in program waits locks p i ≡ None = rw e refl in
            subst (Turned i) (sym is) (through ∙ start_agreed_none ok lends inv shows i e)
      ]

  -- the active job started last is one of the table's
  top_job : 0 < p.depth → IsJob a (top_of p).job
  top_job lt = (subst (Every (IsRunning a s)) (active_top shows lt) inv.running).0.job

  top_owned : (i : ℕ) → 0 < p.depth → owned_by program i (top_of p).job.0 ≡ eqb (base a (top_of p).job) i
  unfolding owned_by
  top_owned i lt =
      let isJob = top_job lt in
      let small : (top_of p).job.0 < 32 = omega (arith, jobs_few ok.is_timed, isJob) in
      rw (lt-ltb (top_of p).job.0 32 small, lends.table.owner (top_of p).job isJob) refl

  own_turn : Turn
  own_turn = record { frame = top_of p; under = reverse (take (p.depth - 1) p.stack) }

  -- a byte of its task is its turn, and any other is a start
  turn_top : (i : ℕ) → 0 < p.depth
      → turn_of a s i ≡ (if eqb (base a (top_of p).job) i then some own_turn else start_of a s i)
  unfolding turn_of turn_among own_turn
  turn_top i lt = ap (turn_among a s i) (active_top shows lt)

  turn_none_active : (i : ℕ) → p.depth ≡ 0 → turn_of a s i ≡ start_of a s i
  unfolding turn_of turn_among
  turn_none_active i none-there = ap (turn_among a s i) (no_active shows none-there)

  runs_turned : (i : ℕ) → runs_in program p i ≡ true
      → Turned i (Some (top_turn p))
  unfolding runs_in top_turn own_turn
  runs_turned i h =
      let tests = and_both (ltb i 8 && ltb 0 p.depth) _ h in
      let lt = ltb-true 0 p.depth (and_both (ltb i 8) _ tests.0).1 in
      let own : eqb (base a (top_of p).job) i ≡ true = sym (top_owned i lt) ∙ tests.1 in
      record { turn = own_turn; due = turn_top i lt ∙ rw own refl; frame = refl; under = refl; room = omega (arith, shows.depth) }

  -- who does not run has no turn but a start
  other_turn : (i : ℕ) → runs_in program p i ≡ false → turn_of a s i ≡ start_of a s i
  unfolding runs_in
  other_turn i h =
      elim (dec_lt 0 p.depth) [
        | yes lt ↦
            let other : eqb (base a (top_of p).job) i ≡ false =
            elim (dec_lt i 8) [
              | yes small ↦
                  sym (top_owned i lt)
                  ∙ other_fails (ltb i 8 && ltb 0 p.depth) _ h (and_holds (ltb i 8) _ (lt-ltb i 8 small) (lt-ltb 0 p.depth lt))
              | no high ↦ ne_eqb (base a (top_of p).job) i (λ e. omega (arith, base_small ok (top_of p).job (top_job lt)))
            ] in
            turn_top i lt ∙ rw other refl
        | no flat ↦ turn_none_active i (omega arith)
      ]

  -- the turn is the active job started last, if it is of that task
  pub turn_turned : (i : ℕ) → Turned i (turn_in program waits locks p i)
  unfolding turn_in
  turn_turned i =
      elim (test_decided (runs_in program p i)) [
        | inl e ↦
            let is : turn_in program waits locks p i ≡ Some (top_turn p) = rw e refl in
            subst (Turned i) (sym is) (runs_turned i e)
        | inr e ↦
            let is : turn_in program waits locks p i ≡ start_in program waits locks p i = rw e refl in
            subst (Turned i) (sym is) (start_turned i (other_turn i e))
      ]
