-- Laws of the values that a job may take: the first from one on.
-- Assumes nothing.
use Rattle.std.specs.Prelude.{◌≡◌, refl, ℕ, ◌≤◌, ◌<◌, Bool, ◌&&◌, List, leb, max}
use Rattle.std.proofs.Common.{sym, ◌∙◌, arith}
use Rattle.std.proofs.Math.Path.{ap, subst}
use Rattle.std.proofs.Math.Logic.{inl, inr}
use Rattle.std.proofs.Math.Decide.{dec_lt}
use Rattle.std.proofs.Math.Bool.{true, false}
use Rattle.std.proofs.Math.Dec.{ltb}
use borrow.Author.Tests.{leb-true, ltb-true, leb-false, ltb-false, le-leb, lt-leb, lt-ltb, le-ltb}
use Rattle.taskfile.specs.declared.Instruction.{Instruction}
use Rattle.taskfile.specs.Code.Choices.{lowest, highest}
use Rattle.std.specs.Prelude.{if◌then◌else◌}
use Rattle.notation.specs.Lists.{member}
use Rattle.notation.specs.Laws.TestLaws.{and_both, and_holds, and_first, and_last, other_fails, test_decided}
use Rattle.machine.specs.Instructions.{values}
use Rattle.machine.proofs.Laws.ValueLaws.{offered_within, offered_below, offered_above}
use Rattle.order.specs.declared.Frame.{Frame}
use Rattle.order_states.specs.Code.SnapshotSteps.{instruction_in, offered_in}
use Rattle.walk_moves.specs.Code.MoveParts.{raised, first_from}

-- ---- the first value

-- r is the first number from v on below 16 of which the test holds, or 16
pub record FirstOf (test : ℕ → Bool) (v r : ℕ) : Type 0 where
  pub bounded : r ≤ 16
  pub ahead : r < 16 → v ≤ r
  pub held : r < 16 → test r ≡ true
  pub none_before : (w : ℕ) → v ≤ w → w < r → test w ≡ false

-- r is the larger of v and the lowest value
record Larger (v least r : ℕ) : Type 0 where
  from : v ≤ r
  over : least ≤ r
  below : (w : ℕ) → v ≤ w → w < r → w < least

pub raised_up : (v least : ℕ) → v < least → least ≡ raised v least
unfolding raised
raised_up v least lt = rw (lt-ltb v least lt) refl

pub raised_kept : (v least : ℕ) → least ≤ v → v ≡ raised v least
unfolding raised
raised_kept v least le = rw (le-ltb v least le) refl

pub raised_max : (v least : ℕ) → max v least ≡ raised v least
raised_max v least =
    elim (dec_lt v least) [
      | yes lt ↦ let is : max v least ≡ least = omega arith in is ∙ raised_up v least lt
      | no ge ↦ let is : max v least ≡ v = omega arith in is ∙ raised_kept v least (omega arith)
    ]

raised_larger : (v least : ℕ) → Larger v least (raised v least)
raised_larger v least =
    elim (dec_lt v least) [
      | yes lt ↦
          subst (Larger v least) (raised_up v least lt)
          (record { from = omega arith; over = omega arith; below = λ w le short. short })
      | no ge ↦
          subst (Larger v least) (raised_kept v least (omega arith))
          (record { from = omega arith; over = omega arith; below = λ w le short. absurd (omega arith) })
    ]

-- the test of the first value by its parts
module _ (o : Instruction) (v : ℕ) where
  from_test : (b : Bool) → (leb (raised v (lowest o)) (highest o) && ltb (raised v (lowest o)) 16) ≡ b
      → (if b then raised v (lowest o) else 16) ≡ first_from o v
  unfolding first_from
  from_test b e = ap (λ (t : Bool). if t then raised v (lowest o) else 16) (sym e)

  first_from_lem : FirstOf (λ w. member w (values o)) v (first_from o v)
  first_from_lem =
      let first = raised v (lowest o) in
      let larger = raised_larger v (lowest o) in
      elim (test_decided (leb first (highest o) && ltb first 16)) [
        | inl e ↦
            let both = and_both (leb first (highest o)) _ e in
            let small = ltb-true first 16 both.1 in
            subst (FirstOf _ v) (from_test true e) (record {
              bounded = omega arith;
              ahead = λ _. larger.from;
              held = λ _. offered_within o first larger.over (leb-true first (highest o) both.0);
              none_before = λ w le lt. offered_below o w (larger.below w le lt);
            })
        | inr e ↦
            subst (FirstOf _ v) (from_test false e) (record {
              bounded = omega arith;
              ahead = λ lt. absurd (omega arith);
              held = λ lt. absurd (omega arith);
              none_before = λ w le lt.
                  elim (dec_lt w first) [
                    | yes short ↦ offered_below o w (larger.below w le short)
                    | no far ↦ offered_above o w (past w lt (omega arith) e)
                  ];
            })
      ]
    where
      past : (w : ℕ) → w < 16 → raised v (lowest o) ≤ w
          → (leb (raised v (lowest o)) (highest o) && ltb (raised v (lowest o)) 16) ≡ false → highest o < w
      past w small far e =
          let first = raised v (lowest o) in
          elim (test_decided (leb first (highest o))) [
            | inl holds ↦ absurd (omega (arith, ltb-false first 16 (other_fails (leb first (highest o)) _ e holds)))
            | inr fails ↦ omega (arith, leb-false first (highest o) fails)
          ]

  -- case by case
  module _ {first : ℕ} (is : first ≡ raised v (lowest o)) where
    pub from_high : highest o < first → 16 ≡ first_from o v
    from_high lt =
        from_test false (and_first (leb (raised v (lowest o)) (highest o)) _ (lt-leb (raised v (lowest o)) (highest o) (omega (arith, is))))

    pub from_large : 15 < first → 16 ≡ first_from o v
    from_large lt =
        from_test false (and_last (leb (raised v (lowest o)) (highest o)) _ (le-ltb (raised v (lowest o)) 16 (omega (arith, is))))

    pub from_found : first ≤ highest o → first ≤ 15 → first ≡ first_from o v
    from_found le small =
        let larger = raised v (lowest o) in
        is
        ∙ from_test true
        (and_holds _ _ (le-leb larger (highest o) (omega (arith, is))) (lt-ltb larger 16 (omega (arith, is))))

module _ (program : List ℕ) (f : Frame) (i : ℕ) where
  -- past the body nothing is on offer
  pub past_offered : (v : ℕ) → 16 ≤ f.local.next → offered_in program f i v ≡ false
  unfolding offered_in
  past_offered v past = and_first (ltb f.local.next 16) _ (le-ltb f.local.next 16 past)

  module _ {o : Instruction} (read : o ≡ instruction_in program i f.local.next) where
    -- nor what the job's instruction does not offer
    not_offered : (v : ℕ) → member v (values o) ≡ false → offered_in program f i v ≡ false
    unfolding offered_in
    not_offered v none =
        and_last (ltb f.local.next 16) _ (ap (λ (n : Instruction). member v (values n)) (sym read) ∙ none)

    -- the first value from v on that it offers is on offer to the job, and none before it
    pub first_offered : f.local.next < 16 → (v : ℕ) → FirstOf (λ w. offered_in program f i w) v (first_from o v)
    unfolding offered_in
    first_offered inside v =
        let value = first_from_lem o v in
        record {
          bounded = value.bounded;
          ahead = value.ahead;
          held = λ lt.
              and_holds _ _ (lt-ltb f.local.next 16 inside)
              (ap (λ (n : Instruction). member (first_from o v) (values n)) (sym read) ∙ value.held lt);
          none_before = λ w le lt. not_offered w (value.none_before w le lt);
        }
