-- How far storages reach, name by name.
use Rattle.std.proofs.Common.{◌≡◌, ◌≢◌, ℕ, ◌+◌, ◌<◌, ◌≤◌, ◌⊎◌, inr, ⊎_elim, ℤ, pos, ◌+ℤ◌, List, length, set, refl, sym, ap, subst, ◌∙◌, arith, w64, FitsSigned}
use Rattle.std.specs.Int.{int_min, int_max}
use mir.Val.{SFits}
use Rattle.std.proofs.lemmas.Int.{ints, to_z-of_z}
use Rattle.std.proofs.lemmas.Bool.{cases_eq}
use Rattle.std.proofs.lemmas.List.{get_or-set_same, get_or-set_other}
use Rattle.f77_tree.specs.declared.programs.NameInfo.{NameInfo}
use Rattle.storage_association.specs.declared.forest.Node.{Node}
use Rattle.storage_association.specs.declared.word_numbers.Span.{Span}
use Rattle.layout_rules.specs.Storage.{Spot, size_at}
use Rattle.storage_association.specs.Trees.{IsRoot, IsForest}
use Rattle.layout_rules.specs.Spots.{storage_at, distance_at, IsBelow}
use Rattle.storage_association.specs.WordNumbers.{IsReached, IsEnd, IsSpan, span_at, no_span, AreSpans}
use Rattle.storage_association.proofs.Forests.{IsClose}
use Rattle.storage_association.proofs.Joining.{again, close-fits}
use Rattle.layout_rules.proofs.Bounds.{min-cases, max-cases}

pub size-few : (names : List NameInfo) (k : ℕ) → size_at names k ≤ 262145
size-few names k = omega arith

-- ---- the end of a name, as the code computes it

pub end-fits : (d : ℤ) (n : ℕ) → IsClose d → n ≤ 262145 → FitsSigned w64 (d +ℤ pos n)
end-fits d n close few = omega (arith, ints, close.low, close.high)

size-fits : (n : ℕ) → n ≤ 262145 → SFits w64 (pos n)
size-fits n few = omega (arith, ints)

pub end-sum-fits : (d z : ℤ) (n : ℕ) → IsClose d → n ≤ 262145 → z ≡ pos n → FitsSigned w64 (again d +ℤ again z)
end-sum-fits d z n close few is = rw (to_z-of_z w64 d (close-fits d close), is, to_z-of_z w64 (pos n) (size-fits n few)) (end-fits d n close few)

pub end-is : (d z : ℤ) (n : ℕ) → IsClose d → n ≤ 262145 → z ≡ pos n → again (again d +ℤ again z) ≡ d +ℤ pos n
end-is d z n close few is = to_z-of_z w64 (again d +ℤ again z) (end-sum-fits d z n close few is) ∙ rw (to_z-of_z w64 d (close-fits d close), is, to_z-of_z w64 (pos n) (size-fits n few)) refl

-- ---- one name more

module _ (names : List NameInfo) (nodes : List Node) (spots : List Spot) (forest : IsForest nodes spots) (k r : ℕ) (d : ℤ) (lt : k < length spots) (known : r < length nodes) (root : IsRoot nodes r) (there : IsBelow spots k r d) where
  abbrev wider : Span → Span
  wider span = record { low = int_min span.low d; high = int_max span.high (d +ℤ pos (size_at names k)) }

  span-wider : (span : Span) → IsSpan names spots k r span → IsSpan names spots (k + 1) r (wider span)
  span-wider span is =
      let lows = min-cases span.low d in
      let highs = max-cases span.high (d +ℤ pos (size_at names k)) in
      record {
        low = omega (arith, ints, is.low);
        high = omega (arith, ints, is.high);
        least = λ y i same. ⊎_elim
            (λ (e : y ≡ k). let here : distance_at spots y ≡ distance_at spots k = ap (λ z. distance_at spots z) e in omega (arith, ints, there.beyond))
            (λ ne. omega (arith, ints, is.least y (omega (arith, ne)) same))
            (cases_eq y k);
        greatest = λ y i same. ⊎_elim
            (λ (e : y ≡ k).
            let here : distance_at spots y ≡ distance_at spots k = ap (λ z. distance_at spots z) e in
            let size : size_at names y ≡ size_at names k = ap (λ z. size_at names z) e in
            omega (arith, ints, there.beyond))
            (λ ne. omega (arith, ints, is.greatest y (omega (arith, ne)) same))
            (cases_eq y k);
        begins = ⊎_elim
            (λ e. subst (λ (z : ℤ). IsReached spots r z) (sym e) is.begins)
            (λ e. subst (λ (z : ℤ). IsReached spots r z) (sym e) (record { name = k; known = lt; there = there }))
            lows.2;
        ends = ⊎_elim
            (λ e. subst (λ (z : ℤ). (z ≡ pos 0) ⊎ IsEnd names spots r z) (sym e) is.ends)
            (λ e. subst (λ (z : ℤ). (z ≡ pos 0) ⊎ IsEnd names spots r z) (sym e) (inr (record { name = k; known = lt; together = there.together; there = omega (arith, ints, there.beyond) })))
            highs.2;
      }

  span-same : (x : ℕ) (span : Span) → storage_at spots x ≢ storage_at spots k → IsSpan names spots k x span → IsSpan names spots (k + 1) x span
  span-same x span ne is =
      let before : (y : ℕ) → y < k + 1 → storage_at spots x ≡ storage_at spots y → y < k = λ y i same. ⊎_elim (λ (e : y ≡ k). absurd (ne (same ∙ ap (λ z. storage_at spots z) e))) (λ nk. omega (arith, nk)) (cases_eq y k) in
      record {
        low = is.low;
        high = is.high;
        least = λ y i same. is.least y (before y i same) same;
        greatest = λ y i same. is.greatest y (before y i same) same;
        begins = is.begins;
        ends = is.ends;
      }

  pub spans-next : (spans : List Span) (new : Span) → r < length spans → new ≡ wider (span_at spans r) → AreSpans names nodes spots k spans → AreSpans names nodes spots (k + 1) (set spans r new)
  spans-next spans new in_spans is so_far x i is_root =
      ⊎_elim
      (λ (e : x ≡ r). subst (λ (y : ℕ). IsSpan names spots (k + 1) y (span_at (set spans r new) y)) (sym e) (rw (get_or-set_same spans r new no_span in_spans, is) (span-wider (span_at spans r) (so_far r known root))))
      (λ ne.
      let apart : storage_at spots x ≢ storage_at spots k = λ h. ne (forest.one_root x r i known is_root root (h ∙ sym there.together)) in
      rw (get_or-set_other spans r x new no_span ne) (span-same x (span_at spans x) apart (so_far x i is_root)))
      (cases_eq x r)

abbrev span-of : (low high : ℤ) → Span
span-of low high = record { low = low; high = high }

-- the span as the code computes it
pub span-read : (old was : Span) (d z low high : ℤ) (n : ℕ) → was ≡ old → IsClose d → n ≤ 262145 → z ≡ pos n → SFits w64 was.low → SFits w64 was.high → SFits w64 low → SFits w64 high → low ≡ int_min (again was.low) (again d) → high ≡ int_max (again was.high) (again (again d +ℤ again z)) → span-of (again low) (again high) ≡ span-of (int_min old.low d) (int_max old.high (d +ℤ pos n))
span-read old was d z low high n is close few size fits_a fits_b fits_low fits_high low_is high_is =
    let lows : again low ≡ int_min old.low d = to_z-of_z w64 low fits_low ∙ low_is ∙ ap (λ x. int_min x (again d)) (to_z-of_z w64 was.low fits_a) ∙ ap (λ x. int_min was.low x) (to_z-of_z w64 d (close-fits d close)) ∙ ap (λ (s : Span). int_min s.low d) is in
    let highs : again high ≡ int_max old.high (d +ℤ pos n) = to_z-of_z w64 high fits_high ∙ high_is ∙ ap (λ x. int_max x (again (again d +ℤ again z))) (to_z-of_z w64 was.high fits_b) ∙ ap (λ x. int_max was.high x) (end-is d z n close few size) ∙ ap (λ (s : Span). int_max s.high (d +ℤ pos n)) is in
    ap (λ x. span-of x (again high)) lows ∙ ap (λ x. span-of (int_min old.low d) x) highs
