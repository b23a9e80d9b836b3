-- A table of names has one numbering of classes.
use Rattle.std.proofs.Common.{◌≡◌, ◌≢◌, ℕ, zero, suc, ◌<◌, ◌≤◌, ◌⊎◌, List, get_or, inl, inr, ⊎_elim, sym, ◌∙◌, subst, arith}
use Rattle.std.proofs.lemmas.Bool.{cases_order, cases_eq, cases_lt}
use Rattle.std.proofs.lemmas.List.{get_or_past}
use Rattle.std.proofs.lemmas.Grind.{same_number_lists}
use Rattle.f77_tree.specs.declared.programs.Program.{Program}
use Rattle.f77_tree.specs.Places.{IsWordOf}
use Rattle.alias_classes.specs.Classes.{ClassTable, IsMet, IsNextNumber, IsNumbering, IsClasses}

-- a word of a name has a number, so it is one of the words
pub word-below : (covers : ℕ → ℕ → Type 0) (words count : ℕ) (numbers : List ℕ) → IsNumbering covers words numbers count → (k w : ℕ) → covers k w → w < words
word-below covers words count numbers n k w has = ⊎_elim
    (λ (h : w < words). h)
    (λ (h : words ≤ w). let none = get_or_past numbers w 0 (omega (arith, n.each, h)) in absurd (omega (arith, n.some k w has, none)))
    (cases_lt w words)

pub below_suc : (v w : ℕ) → v < suc w → (v < w) ⊎ (v ≡ w)
below_suc v w h = ⊎_elim (λ same. inr same) (⊎_elim (λ l. inl l) (λ m. absurd (omega arith))) (cases_order v w)

module _ (covers : ℕ → ℕ → Type 0) (words c d : ℕ) (one two : List ℕ) (a : IsNumbering covers words one c) (b : IsNumbering covers words two d) where
  -- the numbers of the words that are met before are equal
  abbrev pub AgreeBefore : ℕ → ℕ → Type 0
  AgreeBefore k w = (v : ℕ) → IsMet covers k w v → get_or one v 0 ≡ get_or two v 0

  next-numbers : (k w : ℕ) → AgreeBefore k w → IsNextNumber covers one k w (get_or one w 0) → IsNextNumber covers two k w (get_or two w 0) → get_or one w 0 ≡ get_or two w 0
  next-numbers k w agree first second = ⊎_elim
      (λ (start : get_or one w 0 ≡ 1). ⊎_elim
      (λ (other_start : get_or two w 0 ≡ 1). start ∙ sym other_start)
      (λ (last : (v : ℕ) × IsMet covers k w v × (suc (get_or two v 0) ≡ get_or two w 0)).
      let same = agree last.0 last.1 in let low = first.above last.0 last.1 in let is = last.2 in omega (arith, same, low, is, start))
      second.least)
      (λ (last : (v : ℕ) × IsMet covers k w v × (suc (get_or one v 0) ≡ get_or one w 0)). ⊎_elim
      (λ (other_start : get_or two w 0 ≡ 1).
      let same = agree last.0 last.1 in let low = second.above last.0 last.1 in let is = last.2 in omega (arith, same, low, is, other_start))
      (λ (other_last : (v : ℕ) × IsMet covers k w v × (suc (get_or two v 0) ≡ get_or two w 0)).
      let same = agree last.0 last.1 in
      let other_same = agree other_last.0 other_last.1 in
      let low = second.above last.0 last.1 in
      let other_low = first.above other_last.0 other_last.1 in
      let is = last.2 in
      let other_is = other_last.2 in
      omega (arith, same, other_same, low, other_low, is, other_is))
      second.least)
      first.least

  agree-word : (k w : ℕ) → AgreeBefore k w → covers k w → get_or one w 0 ≡ get_or two w 0
  agree-word k w agree has = ⊎_elim
      (λ (same : get_or one w 0 ≡ get_or two w 0). same)
      (λ (differ : get_or one w 0 ≢ get_or two w 0).
      let here = word-below covers words c one a k w has in
      let below : (v : ℕ) → IsMet covers k w v → v < words = λ v met. word-below covers words c one a met.name v met.has in
      let new_one : (v : ℕ) → IsMet covers k w v → get_or one v 0 ≢ get_or one w 0 = λ v met same. differ (sym same ∙ agree v met ∙ (b.same v w (below v met) here).1 ((a.same v w (below v met) here).0 same)) in
      let new_two : (v : ℕ) → IsMet covers k w v → get_or two v 0 ≢ get_or two w 0 = λ v met same. differ (sym ((a.same v w (below v met) here).1 ((b.same v w (below v met) here).0 same)) ∙ agree v met ∙ same) in
      next-numbers k w agree (a.first k w has new_one) (b.first k w has new_two))
      (cases_eq (get_or one w 0) (get_or two w 0))

  next-word : (k w : ℕ) → AgreeBefore k w → AgreeBefore k (suc w)
  next-word k w agree v met = ⊎_elim
      (λ earlier. agree v (record { name = met.name; has = met.has; before = inl earlier }))
      (λ (here : (met.name ≡ k) × (v < suc w)). ⊎_elim
      (λ (l : v < w). agree v (record { name = met.name; has = met.has; before = inr (here.0, l) }))
      (λ (same : v ≡ w). subst (λ x. get_or one x 0 ≡ get_or two x 0) (sym same) (agree-word k w agree (subst (λ x. covers k x) same (subst (λ x. covers x v) here.0 met.has))))
      (below_suc v w here.1))
      met.before

  all-words : (k w : ℕ) → AgreeBefore k 0 → AgreeBefore k w
  all-words k zero agree = agree
  all-words k (suc w) agree = next-word k w (all-words k w agree)

  all-names : (k : ℕ) → AgreeBefore k 0
  all-names zero v met = ⊎_elim (λ (l : met.name < 0). absurd (omega (arith, l))) (λ (h : (met.name ≡ 0) × (v < 0)). let l = h.1 in absurd (omega (arith, l))) met.before
  all-names (suc k) v met = ⊎_elim
      (λ (l : met.name < suc k). ⊎_elim
      (λ (earlier : met.name < k). all-names k v (record { name = met.name; has = met.has; before = inl earlier }))
      (λ (same : met.name ≡ k). all-words k words (all-names k) v (record { name = met.name; has = met.has; before = inr (same, word-below covers words c one a met.name v met.has) }))
      (below_suc met.name k l))
      (λ (h : (met.name ≡ suc k) × (v < 0)). let l = h.1 in absurd (omega (arith, l)))
      met.before

  agree-all : (v : ℕ) → get_or one v 0 ≡ get_or two v 0
  agree-all v = ⊎_elim
      (λ (same : get_or one v 0 ≡ get_or two v 0). same)
      (λ (differ : get_or one v 0 ≢ get_or two v 0).
      let none : (k : ℕ) → covers k v → ⊥ = λ k has. differ (all-names (suc k) v (record { name = k; has = has; before = inl (omega arith) })) in
      a.bare v none ∙ sym (b.bare v none))
      (cases_eq (get_or one v 0) (get_or two v 0))

  pub same-numbers : one ≡ two
  same-numbers = same_number_lists one two (a.each ∙ sym b.each) (λ k h. agree-all k)

  count-within : c ≤ d
  count-within = ⊎_elim
      (λ (none : c ≡ 0). omega (arith, none))
      (λ (some : (w : ℕ) × (get_or one w 0 ≡ c)).
      let is = some.1 in let same = agree-all some.0 in let most = b.most some.0 in omega (arith, is, same, most))
      a.reached

pub same-counts : (covers : ℕ → ℕ → Type 0) (words c d : ℕ) (one two : List ℕ) → IsNumbering covers words one c → IsNumbering covers words two d → c ≡ d
same-counts covers words c d one two a b =
    let up = count-within covers words c d one two a b in
    let down = count-within covers words d c two one b a in
    omega (arith, up, down)

pub one-table : (p : Program) (t other : ClassTable) → IsClasses p t → IsClasses p other → t ≡ other
one-table p t other a b =
    let names : t.names ≡ other.names = a.names ∙ sym b.names in
    let numbers : t.numbers ≡ other.numbers = same-numbers (IsWordOf p.names) p.words t.word_classes other.word_classes t.numbers other.numbers a.numbering b.numbering in
    let counts : t.word_classes ≡ other.word_classes = same-counts (IsWordOf p.names) p.words t.word_classes other.word_classes t.numbers other.numbers a.numbering b.numbering in
    let loops : t.loops ≡ other.loops = a.loops ∙ sym b.loops in
    λ i. record { names = names i; numbers = numbers i; word_classes = counts i; loops = loops i }
