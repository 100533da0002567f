-- Laws of what the walk found, by the answer of the walk's outcome: undecided, no failing order, or one.
-- Assumes nothing.
use Rattle.std.proofs.Math.Path.{◌≡◌, refl, sym, ap, ap₂}
use Rattle.std.proofs.Common.{subst, ◌∙◌, arith}
use Rattle.std.specs.Prelude.{◌⊎◌, Bool, true, false, leb}
use Rattle.std.proofs.Math.Logic.{inl, inr}
use Prim.Native.Nat.{ℕ, ◌≤◌}
use mathlib.Core.List.{List, [], ◌∷◌, ◌++◌, map, map-map}
use Rattle.std.proofs.Math.Option.{Option, none, some}
use Rattle.std.proofs.Math.ListN.{length, get_or, take, length-take}
use Rattle.notation.specs.Checked.{refused, passed}
use Rattle.notation.specs.Laws.CheckedLaws.{require_holds, require_fails}
use Rattle.notation.specs.Laws.TestLaws.{test_decided}
use Rattle.std.specs.Prelude.{if◌then◌else◌}
use Rattle.notation.specs.Lists.{up_to, only, each}
use Rattle.notation.specs.Texts.{Text, decimal, line}
use Rattle.taskfile.specs.declared.Table.{Table}
use Rattle.timing.specs.Accepted.{Accepted}
use Rattle.timing.specs.Code.JobParts.{job_list_of}
use Rattle.timing.specs.Relations.{job_numbers}
use Rattle.timing.specs.declared.Job.{Job}
use Rattle.timing.specs.declared.JobList.{JobList}
use Rattle.order.specs.Orders.{OrderEnds}
use Rattle.plan.specs.Plans.{legal_run}
use Rattle.matching.specs.Conversions.{plan_of}
use Rattle.walk.proofs.Laws.FailingLaws.{walk_first}
use Rattle.walk.specs.WalkEntry.{decided, refusal, verdict_of, decided_answer, shown, decided_bytes}
use Rattle.walk.specs.Walks.{EndedOrder, Walked, walk}
use Rattle.walk.specs.declared.Verdict.TheVariants.{None, Holds, Fails}
use Rattle.walk.specs.declared.WalkAnswer.{WalkAnswer}
use Rattle.walk_trials.specs.Code.Outcomes.{Short, answer_of, shown_length}
use Rattle.walk_trials.specs.Laws.OutcomeLaws.{short_shown}
use Rattle.walk_trials.specs.declared.Outcome.{Outcome}
use Rattle.walk_trials.specs.Code.WalkParts.{WalkOf}
use Rattle.walk_trials.specs.Laws.WalkEntryLaws.{EntryOf, entry}
use Rattle.sheets.specs.Sheets.{sheet_allowance, refused_line, order_line, failed_line, rounds_lines, verdict_lines, findings}
use Rattle.sheets.specs.SheetWords.{failed_word, verdict_word, holds_word, fails_word}
use Rattle.notation_buffers.specs.declared.pages.Page.{Page}
use Rattle.notation_buffers.specs.Code.Pages.{Puts}
use Rattle.notation_buffers.specs.Laws.PageLaws.{puts_same, puts_more}
use Rattle.plan_marks.specs.declared.Marks.{Marks}
use Rattle.sheets_failing.specs.Code.LineParts.{job_line}
use Rattle.sheets_lines.specs.Code.SheetParts.{PartsOf, findings_of, PutsFailure, FailingParts, MarksOf}

-- the tag of a verdict that fails is none of the others'
pub other_verdict : {tag : ℕ} → tag ≡ 2 → (tag ≡ 0) ⊎ (tag ≡ 1) → ⊥
other_verdict is (inl none') = omega arith
other_verdict is (inr holds') = omega arith

-- ---- the cases of a walk

-- what the walk came to, for its answer and the bytes that it leaves
data Shows (a : Accepted) (w : WalkAnswer) (path : List ℕ) : Type 0 where
  undecided : w ≡ refusal 21 0 → findings_of a ≡ refused_line 21 0 → Shows a w path
  holds : w ≡ verdict_of (walk a).count none → findings_of a ≡ verdict_lines a (walk a).count none → Shows a w path
  fails : (found : EndedOrder) → (walk a).failing ≡ some found → decided sheet_allowance (walk a) ≡ passed (walk a)
      → w ≡ verdict_of (walk a).count (some found) → take w.length path ≡ found.bytes → Shows a w path

-- a walk is undecided, or decided
decided_cases : (allowance : ℕ) (walked : Walked)
    → (decided allowance walked ≡ refused 21 0) ⊎ (decided allowance walked ≡ passed walked)
unfolding decided
decided_cases allowance walked =
    elim (test_decided (leb walked.count allowance)) [
      | inl within ↦ inr (require_holds (leb walked.count allowance) 21 0 (passed walked) within)
      | inr beyond ↦ inl (require_fails (leb walked.count allowance) 21 0 (passed walked) beyond)
    ]

module _ {a : Accepted} {t : Table} {list : JobList} (p : PartsOf a t list) {before path : List ℕ} {r : Outcome}
    (walked : WalkOf t list sheet_allowance before path r) where
  -- the outcome's answer and the front of the path are the walk's
  fit : EntryOf (decided sheet_allowance (walk a)) path r
  fit = entry p.accepted (walked a p.accepted p.table p.listed)

  -- an order found is short
  pub found_short : Short r
  found_short = short_shown r (omega (arith, fit.counted, fit.short))

  module _ {w : WalkAnswer} (answers : w ≡ answer_of r) where
    answer_is : w ≡ decided_answer (decided sheet_allowance (walk a))
    answer_is = answers ∙ fit.answer

    decided_shows : decided sheet_allowance (walk a) ≡ passed (walk a) → (o : Option EndedOrder) → (walk a).failing ≡ o
        → Shows a w path
    unfolding decided_answer decided_bytes shown findings findings_of verdict_of
    decided_shows e none is =
        holds (answer_is ∙ ap decided_answer e ∙ ap (verdict_of (walk a).count) is)
        (ap (findings a) e ∙ ap (verdict_lines a (walk a).count) is)
    decided_shows e (some found) is =
        let answer = answer_is ∙ ap decided_answer e ∙ ap (verdict_of (walk a).count) is in
        let bytes : decided_bytes (decided sheet_allowance (walk a)) ≡ found.bytes = ap decided_bytes e ∙ ap shown is in
        let size : w.length ≡ shown_length r =
        ap (λ (x : WalkAnswer). x.length) answer ∙ sym (fit.counted ∙ ap (λ (l : List ℕ). length l) bytes) in
        fails found is e answer (ap (λ (k : ℕ). take k path) size ∙ fit.front ∙ bytes)

    shows : Shows a w path
    unfolding decided_answer findings findings_of
    shows =
        elim (decided_cases sheet_allowance (walk a)) [
          | inl e ↦ undecided (answer_is ∙ ap decided_answer e) (ap (findings a) e)
          | inr e ↦ decided_shows e (walk a).failing refl
        ]

    -- ---- by the answer

    refused_case : Shows a w path → (w.number ≡ 0 → ⊥) → findings_of a ≡ refused_line w.number w.place
    unfolding refusal verdict_of
    refused_case (undecided is found) Some-number =
        found ∙ sym (ap (λ (x : WalkAnswer). refused_line x.number x.place) is)
    refused_case (holds is found) Some-number = absurd (Some-number (ap (λ (x : WalkAnswer). x.number) is))
    refused_case (fails found e d is held) Some-number = absurd (Some-number (ap (λ (x : WalkAnswer). x.number) is))

    -- a number: its line
    pub findings_refused : (w.number ≡ 0 → ⊥) → {before after : Page}
        → Puts before (refused_line w.number w.place) after → Puts before (findings_of a) after
    findings_refused Some-number puts = puts_same (sym (refused_case shows Some-number)) puts

    -- what it found is that line
    pub refused_found : (w.number ≡ 0 → ⊥) → findings_of a ≡ refused_line w.number w.place
    refused_found Some-number = refused_case shows Some-number

    holds_case : Shows a w path → w.number ≡ 0 → (w.verdict ≡ Fails → ⊥)
        → findings_of a ≡ line verdict_word (holds_word ∷ decimal w.count ∷ [])
    unfolding refusal verdict_of verdict_lines
    holds_case (undecided is found) clean no-failure =
        absurd (let number : w.number ≡ 21 = ap (λ (x : WalkAnswer). x.number) is in omega arith)
    holds_case (holds is found) clean no-failure =
        found ∙ sym (ap (λ (x : WalkAnswer). line verdict_word (holds_word ∷ decimal x.count ∷ [])) is)
    holds_case (fails found e d is held) clean no-failure = absurd (no-failure (ap (λ (x : WalkAnswer). x.verdict) is))

    -- no number and no failure: the verdict that it holds
    pub findings_holds : w.number ≡ 0 → (w.verdict ≡ Fails → ⊥) → {before after : Page}
        → Puts before (line verdict_word (holds_word ∷ decimal w.count ∷ [])) after → Puts before (findings_of a) after
    findings_holds clean no-failure puts = puts_same (sym (holds_case shows clean no-failure)) puts

    -- what it found is that verdict
    pub holds_found : w.number ≡ 0 → (w.verdict ≡ Fails → ⊥)
        → findings_of a ≡ line verdict_word (holds_word ∷ decimal w.count ∷ [])
    holds_found clean no-failure = holds_case shows clean no-failure

    fails_case : Shows a w path → w.verdict ≡ Fails
        → (w.length ≤ length path) × FailingParts a t list w (take w.length path)
    unfolding refusal verdict_of
    fails_case (undecided is found) failure =
        let clash : None ≡ Fails = sym (ap (λ (x : WalkAnswer). x.verdict) is) ∙ failure in
        absurd (let z : ◌≡◌ {A = ℕ} 0 1 = cc in omega arith)
    fails_case (holds is found) failure =
        let clash : Holds ≡ Fails = sym (ap (λ (x : WalkAnswer). x.verdict) is) ∙ failure in
        absurd (let z : ◌≡◌ {A = ℕ} 0 1 = cc in omega arith)
    fails_case (fails found e d is held) failure =
        let size : w.length ≡ length found.bytes = ap (λ (x : WalkAnswer). x.length) is in (
          omega (arith, size, ap (λ (l : List ℕ). length l) held, length-take w.length path),
          record {
            parts = p;
            shown = found;
            fails = e;
            decides = d;
            count = ap (λ (x : WalkAnswer). x.count) is;
            failed = ap (λ (x : WalkAnswer). x.failed) is;
            bytes = held;
          },
        )

    -- a failure: the order at the front of the path
    pub findings_fail : w.verdict ≡ Fails
        → (w.length ≤ length path) × FailingParts a t list w (take w.length path)
    findings_fail failure = fails_case shows failure

-- ---- the lines of a failing order

only_of_map : {A B : Type 0} (g : A → B) (test : B → Bool) (xs : List A)
    → only test (map g xs) ≡ map g (only (λ x. test (g x)) xs)
unfolding only
only_of_map g test [] = refl
only_of_map {A} {B} g test (x ∷ xs) = go (test (g x)) (only_of_map g test xs)
  where
    go : (b : Bool) → only test (map g xs) ≡ map g (only (λ x. test (g x)) xs)
        → (if b then g x ∷ only test (map g xs) else only test (map g xs))
        ≡ map g (if b then x ∷ only (λ x. test (g x)) xs else only (λ x. test (g x)) xs)
    go true e = ap (λ (l : List B). g x ∷ l) e
    go false e = e

-- the failed jobs by number
failed_numbers : (a : Accepted) (flags : List Bool)
    → map decimal (only (λ x. get_or flags x false) (up_to (length a.jobs)))
    ≡ map (λ (x : Job). decimal x.0) (only (λ (x : Job). get_or flags x.0 false) (job_numbers a))
unfolding job_numbers
failed_numbers a flags =
    let job : ℕ → Job = λ n. record { 0 = n } in
    let kept = only (λ x. get_or flags x false) (up_to (length a.jobs)) in
    sym (ap (map (λ (x : Job). decimal x.0))
    (only_of_map job (λ (x : Job). get_or flags x.0 false) (up_to (length a.jobs)))
    ∙ map-map (λ (x : Job). decimal x.0) job kept)

module _ {a : Accepted} {t : Table} {list : JobList} {w : WalkAnswer} {order : List ℕ} (p : FailingParts a t list w order) where
  -- it is complete
  failing_ends : OrderEnds a order p.shown.ending
  failing_ends =
      subst (λ (l : List ℕ). OrderEnds a l p.shown.ending) (sym p.bytes)
      (walk_first p.parts.accepted p.shown p.fails).failing.complete

  failed_are : line failed_word (map decimal (only (λ x. get_or w.failed x false) (up_to list.count)))
      ≡ failed_line a p.shown
  unfolding failed_line job_list_of
  failed_are =
      let count : list.count ≡ length a.jobs = ap (λ (l : JobList). l.count) p.parts.listed in
      ap₂ (λ (flags : List Bool) (k : ℕ). line failed_word (map decimal (only (λ x. get_or flags x false) (up_to k))))
      p.failed count
      ∙ ap (line failed_word) (failed_numbers a p.shown.ending.failed)

  failure_is : {marks : Marks} → MarksOf t list order marks
      → ((line verdict_word (fails_word ∷ decimal w.count ∷ []) ++ order_line order)
      ++ line failed_word (map decimal (only (λ x. get_or w.failed x false) (up_to list.count))))
      ++ each (up_to list.count) (job_line marks)
      ≡ findings_of a
  unfolding findings findings_of verdict_lines
  failure_is {marks} marked =
      let verdict : ℕ → Text = λ n. line verdict_word (fails_word ∷ decimal n ∷ []) in
      let flags = line failed_word (map decimal (only (λ x. get_or w.failed x false) (up_to list.count))) in
      let rounds : List ℕ → Text = λ l. rounds_lines a (legal_run a (plan_of a l)) in
      ap (λ (l : Text). ((verdict w.count ++ order_line order) ++ flags) ++ l) (sym (marked.rounds a p.parts failing_ends))
      ∙ ap (λ (l : Text). ((verdict w.count ++ order_line order) ++ l) ++ rounds order) failed_are
      ∙ ap₂ (λ (n : ℕ) (l : List ℕ). ((verdict n ++ order_line l) ++ failed_line a p.shown) ++ rounds l)
      p.count p.bytes
      ∙ sym (ap (findings a) p.decides ∙ ap (verdict_lines a (walk a).count) p.fails)

-- the four lines one after the other
pub failure_put : {t : Table} {list : JobList} {w : WalkAnswer} {order : List ℕ} {marks : Marks} → MarksOf t list order marks
    → {before one two three after : Page} → Puts before (line verdict_word (fails_word ∷ decimal w.count ∷ [])) one
    → Puts one (order_line order) two
    → Puts two (line failed_word (map decimal (only (λ x. get_or w.failed x false) (up_to list.count)))) three
    → Puts three (each (up_to list.count) (job_line marks)) after → PutsFailure t list w order before after
failure_put marked first second third fourth a p =
    puts_same (failure_is p marked) (puts_more (puts_more (puts_more first second) third) fourth)
