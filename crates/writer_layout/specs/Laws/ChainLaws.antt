-- Laws of a chain's records, written part by part.
-- Assumes nothing.
use Rattle.std.specs.Prelude.{◌≡◌, refl, ℕ, zero, suc, ◌+◌, ◌<◌, List, [], ◌∷◌, ◌++◌, length, drop}
use Rattle.std.proofs.Common.{sym, ap, ◌∙◌, arith, add-one, append-nil, drop_of_length-le}
use Rattle.notation.specs.Lists.{from, up_to, each}
use Rattle.notation.specs.Laws.ListLaws.{each_append, from_snoc}
use Rattle.writer.specs.Layout.{link_to}
use Rattle.notation_buffers.specs.declared.pages.Page.{Page}
use Rattle.notation_buffers.specs.Code.Pages.{Puts}
use Rattle.notation_buffers.specs.Laws.PageLaws.{puts_same, puts_none, puts_more}
use Rattle.writer_layout.specs.Code.ClaimedParts.{link_at}
use Rattle.writer_layout.specs.Code.Layouts.{chain_records}
use Rattle.writer_layout.specs.Laws.LayingLaws.{Linked, link_after_lem}

module _ (records : ℕ → ℕ → List ℕ) where
  pub chain_none : (r count : ℕ) (page : Page) → Puts page (chain_records records r count 0) page
  unfolding chain_records each up_to from
  chain_none r count page = puts_none page

  pub chain_more : (r count k : ℕ) {link : ℕ} {before mid after : Page} → link ≡ link_at (r + k + 1) (k + 1) count
      → Puts before (chain_records records r count k) mid → Puts mid (records k link) after
      → Puts before (chain_records records r count (k + 1)) after
  unfolding chain_records each up_to from
  chain_more r count k linked so_far more =
      let f : ℕ → List ℕ = λ p. records p (link_at (r + p + 1) (p + 1) count) in
      let last : 0 + k ≡ k = omega arith in
      let one : each (from 0 (k + 1)) f ≡ each (from 0 k) f ++ f k =
      ap (λ (n : ℕ). each (from 0 n) f) (add-one k)
      ∙ ap (λ (l : List ℕ). each l f) (from_snoc 0 k)
      ∙ ap (λ (n : ℕ). each (from 0 k ++ (n ∷ [])) f) last
      ∙ each_append f (from 0 k) (k ∷ [])
      ∙ ap (λ (l : List ℕ). each (from 0 k) f ++ l) (append-nil (f k)) in
      puts_same (ap (λ (to : ℕ). each (from 0 k) f ++ records k to) linked ∙ sym one) (puts_more so_far more)

-- ---- the chain is the definition's

module _ {A : Type 0} {record_of : A → ℕ → List ℕ} {recordsFrom : ℕ → List A → List ℕ}
    (linked : Linked record_of recordsFrom)
    (parts : List A) (part : ℕ → A) (here : (p : ℕ) → p < length parts → drop p parts ≡ part p ∷ drop (suc p) parts)
    (r : ℕ) where
  parts_from : (p m : ℕ) → p + m ≡ length parts
      → each (from p m) (λ p. record_of (part p) (link_at (r + p + 1) (p + 1) (length parts)))
      ≡ recordsFrom (r + p) (drop p parts)
  unfolding each from
  parts_from p zero all =
      sym (ap (recordsFrom (r + p)) (drop_of_length-le parts (omega arith)) ∙ linked.none (r + p))
  parts_from p (suc m) all =
      let link : link_at (r + p + 1) (p + 1) (length parts) ≡ link_to (suc (r + p)) (drop (suc p) parts) =
      link_after_lem (r + p + 1) p parts refl refl
      ∙ ap (λ (k : ℕ). link_to k (drop (suc p) parts)) (add-one (r + p)) in
      let index : r + suc p ≡ suc (r + p) = omega arith in
      let rest = parts_from (suc p) m (omega arith) ∙ ap (λ (k : ℕ). recordsFrom k (drop (suc p) parts)) index in
      (λ j. record_of (part p) (link j) ++ rest j)
      ∙ sym (ap (recordsFrom (r + p)) (here p (omega arith)) ∙ linked.one (r + p) (part p) (drop (suc p) parts))

  pub chain_whole : {count : ℕ} → count ≡ length parts
      → chain_records (λ p link. record_of (part p) link) r count count ≡ recordsFrom r parts
  unfolding chain_records up_to
  chain_whole all =
      let start : r + 0 ≡ r = omega arith in
      ap (λ (k : ℕ). each (from 0 k) (λ p. record_of (part p) (link_at (r + p + 1) (p + 1) k))) all
      ∙ parts_from 0 (length parts) (omega arith)
      ∙ ap (λ (k : ℕ). recordsFrom k parts) start
