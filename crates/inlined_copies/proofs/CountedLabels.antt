-- What is counted round by round are the labels of copies, each at most the limit.
use Rattle.std.proofs.Common.{◌≡◌, ℕ, suc, ◌+◌, ◌≤◌, ◌⊎◌, Bool, true, false, if◌then◌else◌, min, List, [], ◌∷◌, length, sum_by, Option, Some, None, inl, inr, refl, sym, ap, ◌∙◌, arith}
use Rattle.std.proofs.lemmas.List.Sums.{sum_by-cons}
use Rattle.f77_tree.specs.declared.statements.Labelled.{Labelled}
use Rattle.program_units.specs.Units.{Call, call_in, unit_at, unit_of}
use Rattle.program_units.specs.Heights.{IsHeight}
use Rattle.inlined_copies.specs.LabelCounts.{AreCounted, count_at}
use Rattle.program_units.specs.Widths.{is_kept, labels, labels_by, body_labels}
use Rattle.program_units.specs.CallTable.{AreSettled, callee_of, callees}
use Rattle.inlined_copies.specs.LabelRows.{own_labels, own_labels_by, label_rows}
use Rattle.inlined_copies.proofs.Capped.{sum-capped}
use Rattle.inlined_copies.proofs.CountedRounds.{counts-of, settled-all}
use Rattle.unit_laws.proofs.Kept.{kept_or_none}
use Rattle.unit_laws.proofs.Settled.{labels_settle}

module _ (us : List (List Labelled)) where
  label-parts : (body : ℕ → ℕ) (kept : Bool) (label : ℕ) (call : Option Call) → (kept ≡ true) ⊎ (call ≡ None)
      → (if kept then labels_by body us label call else 0) ≡ (if kept then own_labels_by label call else 0) + sum_by body (callee_of us call)
  label-parts body true label None either = omega arith
  label-parts body true label (Some call) either = ap (λ (n : ℕ). 2 + n) (let e = sum_by-cons body (unit_of us call.name) [] in let sum : body (unit_of us call.name) ≡ sum_by body (unit_of us call.name ∷ []) = omega (arith, e) in sum)
  label-parts body false label None either = omega arith
  label-parts body false label (Some call) (inl is) = let h : false ≡ true = is in absurd cc
  label-parts body false label (Some call) (inr is) = let h : Some call ≡ None = is in absurd cc

  labels-split : (body : ℕ → ℕ) (k : ℕ) (s : Labelled) → labels body us k s ≡ own_labels k s + sum_by body (callee_of us (call_in s.stmt))
  labels-split body k s = label-parts body (is_kept k s.stmt) s.label (call_in s.stmt) (kept_or_none k s.stmt)

  module _ (limit : ℕ) where
    -- after one round more than there are units
    pub settled-labels : (height : ℕ → ℕ) → IsHeight us height → ((k : ℕ) → height k ≤ length us) → (counts : List ℕ) → AreSettled limit (label_rows limit us) counts → (k : ℕ) → count_at counts k ≡ min (body_labels us (suc (length us)) k) limit
    settled-labels height is few counts settled = settled-all us own_labels (λ body. labels body us) labels-split (body_labels us) (λ k. refl) (λ d k. refl) limit height is counts settled few

    -- where no unit calls itself, they are the sums of what they count
    pub counted-by : (height : ℕ → ℕ) → IsHeight us height → ((k : ℕ) → height k ≤ length us) → (counts : List ℕ) → ((k : ℕ) → count_at counts k ≡ min (body_labels us (suc (length us)) k) limit) → AreCounted us limit counts
    counted-by height is few counts exact k =
        let n = suc (length us) in
        let u = unit_at us k in
        let own = sum_by (own_labels k) u in
        let calls = callees us u in
        let most = few k in
        exact k
        ∙ ap (λ (x : ℕ). min x limit) (labels_settle us height is n (suc n) k (omega (arith, most)) (omega (arith, most)) ∙ counts-of us own_labels (λ body. labels body us) labels-split (body_labels us) (λ k. refl) (λ d k. refl) limit (body_labels us n) k u)
        ∙ sym (sum-capped (count_at counts) (body_labels us n) limit exact calls own)
        ∙ ap (λ (x : ℕ). min x limit) (sym (counts-of us own_labels (λ body. labels body us) labels-split (body_labels us) (λ k. refl) (λ d k. refl) limit (count_at counts) k u))
