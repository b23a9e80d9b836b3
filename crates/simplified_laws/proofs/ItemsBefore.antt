-- The next item after an item, and how many items stand before an executable.
use Rattle.std.proofs.Common.{◌≡◌, ℕ, zero, suc, ◌+◌, ◌-◌, ◌<◌, ◌≤◌, Bool, true, false, ap, subst, ⊎_elim, arith}
use Rattle.std.proofs.lemmas.Bool.{cases_Bool, cases_lt}
use Rattle.list_laws.proofs.Counts.{bit_true, bit_false}
use Rattle.simplified_forms.specs.Simplified.{items_before}
use Rattle.simplified_forms.proofs.RangeCounts.{count-range-more}

module _ (is_item : ℕ → Bool) where
  pub before-item : (k : ℕ) → is_item k ≡ true → items_before is_item (k + 1) ≡ items_before is_item k + 1
  before-item k item = let more = count-range-more is_item k in let one = bit_true (is_item k) item in omega (arith, more, one)

  pub before-none : (k : ℕ) → is_item k ≡ false → items_before is_item (k + 1) ≡ items_before is_item k
  before-none k none = let more = count-range-more is_item k in let one = bit_false (is_item k) none in omega (arith, more, one)

  pub before-rises : (a d : ℕ) → items_before is_item a ≤ items_before is_item (a + d)
  before-rises a zero = let same : a + 0 ≡ a = omega arith in let e = ap (items_before is_item) same in omega (arith, e)
  before-rises a (suc d) =
      let same : a + d + 1 ≡ a + suc d = omega arith in
      let e = ap (items_before is_item) same in
      let more = count-range-more is_item (a + d) in
      let rest = before-rises a d in
      omega (arith, e, more, rest)

  -- before an item there are fewer than before what stands after it
  pub before-less : (a b : ℕ) → is_item a ≡ true → a < b → items_before is_item a < items_before is_item b
  before-less a b item less =
      let same : a + 1 + (b - (a + 1)) ≡ b = omega (arith, less) in
      let e = ap (items_before is_item) same in
      let more = before-item a item in
      let rise = before-rises (a + 1) (b - (a + 1)) in
      omega (arith, e, more, rise)

  -- so two items before which there are as many are one
  pub before-same : (a b : ℕ) → is_item a ≡ true → is_item b ≡ true → items_before is_item a ≡ items_before is_item b → a ≡ b
  before-same a b first second same = ⊎_elim
      (λ (less : a < b). let fewer = before-less a b first less in absurd (omega (arith, fewer, same)))
      (λ (le : b ≤ a). ⊎_elim
      (λ (less : b < a). let fewer = before-less b a second less in absurd (omega (arith, fewer, same)))
      (λ (ge : a ≤ b). omega (arith, le, ge))
      (cases_lt b a))
      (cases_lt a b)

  pub record IsNextItem (k s : ℕ) : Type 0 where
    pub next : ℕ
    pub item : is_item next ≡ true
    pub after : k < next
    pub up_to : next ≤ s
    pub before : items_before is_item next ≡ items_before is_item k + 1

  next-from : (k s m d : ℕ) → is_item s ≡ true → k < m → m + d ≡ s → items_before is_item m ≡ items_before is_item k + 1 → IsNextItem k s
  next-from k s m zero item after same before =
      let here : s ≡ m = omega (arith, same) in
      record { next = m; item = subst (λ (x : ℕ). is_item x ≡ true) here item; after = after; up_to = omega (arith, same); before = before }
  next-from k s m (suc d) item after same before = ⊎_elim
      (λ (is : is_item m ≡ true). record { next = m; item = is; after = after; up_to = omega (arith, same); before = before })
      (λ (none : is_item m ≡ false).
      let on = before-none m none in
      next-from k s (m + 1) d item (omega (arith, after)) (omega (arith, same)) (omega (arith, on, before)))
      (cases_Bool (is_item m))

  -- the item after an item, where there is one
  pub next-item : (k s : ℕ) → is_item k ≡ true → is_item s ≡ true → k < s → IsNextItem k s
  next-item k s first item less = next-from k s (k + 1) (s - (k + 1)) item (omega arith) (omega (arith, less)) (before-item k first)
