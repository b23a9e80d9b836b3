-- Each number from 1 to the number of classes is the number of a word, and of a lowest one.
use Rattle.std.proofs.Common.{◌≡◌, ◌≢◌, ℕ, zero, suc, ◌<◌, ◌≤◌, ◌⊎◌, List, get_or, inl, inr, ⊎_elim, sym, subst, arith}
use Rattle.std.proofs.lemmas.Bool.{cases_eq, cases_lt}
use Rattle.std.proofs.lemmas.List.{get_or_past}
use Rattle.alias_classes.specs.Classes.{IsMet, IsNumbering}
use Rattle.alias_classes.proofs.OneNumbering.{word-below, below_suc}

-- the lowest word below n of which this holds, where it can be told
pub record IsLowest (P : ℕ → Type 0) (n w : ℕ) : Type 0 where
  pub inside : w < n
  pub is : P w
  pub lower : (v : ℕ) → v < w → P v → ⊥

pub lowest : (P : ℕ → Type 0) → ((w : ℕ) → P w ⊎ (P w → ⊥)) → (n : ℕ) → ((w : ℕ) × IsLowest P n w) ⊎ ((w : ℕ) → w < n → P w → ⊥)
lowest P tell zero = inr (λ w below. absurd (omega (arith, below)))
lowest P tell (suc n) = ⊎_elim
    (λ (found : (w : ℕ) × IsLowest P n w). let inside = found.1.inside in inl (found.0, record { inside = omega (arith, inside); is = found.1.is; lower = found.1.lower }))
    (λ (none : (w : ℕ) → w < n → P w → ⊥). ⊎_elim
    (λ (here : P n). inl (n, record { inside = omega arith; is = here; lower = none }))
    (λ (not_here : P n → ⊥). inr (λ w below is. ⊎_elim (λ (l : w < n). none w l is) (λ (same : w ≡ n). not_here (subst P same is)) (below_suc w n below)))
    (tell n))
    (lowest P tell n)

module _ (covers : ℕ → ℕ → Type 0) (words count : ℕ) (numbers : List ℕ) (is : IsNumbering covers words numbers count) where
  -- a word with a number is one of the words, and not no name covers it
  pub numbered-below : (w : ℕ) → 1 ≤ get_or numbers w 0 → w < words
  numbered-below w some = ⊎_elim
      (λ (h : w < words). h)
      (λ (h : words ≤ w). let none = get_or_past numbers w 0 (omega (arith, is.each, h)) in absurd (omega (arith, some, none)))
      (cases_lt w words)

  -- ---- a number that no word has is greater than those of all words that the walk meets

  module _ (m : ℕ) (low : 1 ≤ m) (absent : (w : ℕ) → get_or numbers w 0 ≢ m) where
    abbrev BelowBefore : ℕ → ℕ → Type 0
    BelowBefore k w = (v : ℕ) → IsMet covers k w v → get_or numbers v 0 < m

    below-here : (k w : ℕ) → BelowBefore k w → covers k w → get_or numbers w 0 < m
    below-here k w before has = ⊎_elim
        (λ (h : get_or numbers w 0 < m). h)
        (λ (h : m ≤ get_or numbers w 0).
        let new : (v : ℕ) → IsMet covers k w v → get_or numbers v 0 ≢ get_or numbers w 0 = λ v met same. let l = before v met in absurd (omega (arith, l, same, h)) in
        let next = is.first k w has new in
        let apart = absent w in
        absurd (⊎_elim
        (λ (start : get_or numbers w 0 ≡ 1). apart (omega (arith, start, h, low)))
        (λ (last : (v : ℕ) × IsMet covers k w v × (suc (get_or numbers v 0) ≡ get_or numbers w 0)).
        let l = before last.0 last.1 in let next_is = last.2 in apart (omega (arith, l, next_is, h)))
        next.least))
        (cases_lt (get_or numbers w 0) m)

    next-word : (k w : ℕ) → BelowBefore k w → BelowBefore k (suc w)
    next-word k w before v met = ⊎_elim
        (λ earlier. before v (record { name = met.name; has = met.has; before = inl earlier }))
        (λ (here : (met.name ≡ k) × (v < suc w)). ⊎_elim
        (λ (l : v < w). before v (record { name = met.name; has = met.has; before = inr (here.0, l) }))
        (λ (same : v ≡ w). subst (λ x. get_or numbers x 0 < m) (sym same) (below-here k w before (subst (λ x. covers k x) same (subst (λ x. covers x v) here.0 met.has))))
        (below_suc v w here.1))
        met.before

    all-words : (k w : ℕ) → BelowBefore k 0 → BelowBefore k w
    all-words k zero before = before
    all-words k (suc w) before = next-word k w (all-words k w before)

    all-names : (k : ℕ) → BelowBefore k 0
    all-names zero v met = ⊎_elim (λ (l : met.name < 0). absurd (omega (arith, l))) (λ (h : (met.name ≡ 0) × (v < 0)). let l = h.1 in absurd (omega (arith, l))) met.before
    all-names (suc k) v met = ⊎_elim
        (λ (l : met.name < suc k). ⊎_elim
        (λ (earlier : met.name < k). all-names k v (record { name = met.name; has = met.has; before = inl earlier }))
        (λ (same : met.name ≡ k). all-words k words (all-names k) v (record { name = met.name; has = met.has; before = inr (same, word-below covers words count numbers is met.name v met.has) }))
        (below_suc met.name k l))
        (λ (h : (met.name ≡ suc k) × (v < 0)). let l = h.1 in absurd (omega (arith, l)))
        met.before

    -- so it is greater than the number of classes
    above-all : count < m
    above-all = ⊎_elim
        (λ (h : count < m). h)
        (λ (h : m ≤ count). absurd (⊎_elim
        (λ (none : count ≡ 0). omega (arith, none, h, low))
        (λ (some : (w : ℕ) × (get_or numbers w 0 ≡ count)).
        let top = some.1 in
        let bare : (k : ℕ) → covers k some.0 → ⊥ = λ k has. let l = all-names (suc k) some.0 (record { name = k; has = has; before = inl (omega arith) }) in omega (arith, l, top, h) in
        let none = is.bare some.0 bare in
        omega (arith, none, top, h, low))
        is.reached))
        (cases_lt count m)

  -- the lowest word with the number
  pub taken : (m : ℕ) → 1 ≤ m → m ≤ count → (w : ℕ) × IsLowest (λ v. get_or numbers v 0 ≡ m) words w
  taken m low high = ⊎_elim
      (λ (found : (w : ℕ) × IsLowest (λ v. get_or numbers v 0 ≡ m) words w). found)
      (λ (none : (w : ℕ) → w < words → get_or numbers w 0 ≡ m → ⊥).
      let absent : (w : ℕ) → get_or numbers w 0 ≢ m = λ w same. none w (numbered-below w (omega (arith, same, low))) same in
      let above = above-all m low absent in
      absurd (omega (arith, above, high)))
      (lowest (λ v. get_or numbers v 0 ≡ m) (λ v. cases_eq (get_or numbers v 0) m) words)
