-- Units that are called, through any number of calls: as many calls as there are units are enough.
use Rattle.std.proofs.Common.{◌≡◌, ℕ, zero, suc, ◌+◌, ◌<◌, ◌≤◌, ◌==◌, ◌⊎◌, Bool, true, false, ◌&&◌, ◌||◌, List, length, get_or, count_by, nat_lt, inl, inr, ⊎_elim, refl, sym, subst, ◌∙◌, arith}
use Rattle.std.specs.List.{range_with_len}
use Rattle.std.proofs.lemmas.Bool.{and_parts, and_from, cases_Bool, ltb-true, ltb-false, eq-eqb}
use Rattle.std.proofs.lemmas.List.Folds.{list_any_at}
use Rattle.std.proofs.lemmas.List.FromFn.{get_or-range_with_len, length-range_with_len}
use Rattle.std.proofs.lemmas.List.Sums.{count_by-le-length}
use Rattle.f77_tree.specs.declared.statements.Labelled.{Labelled}
use Rattle.program_units.specs.Units.{calls, reaches}
use Rattle.program_units.proofs.Counting.{Found, any-found, or-left, or-right, count-back}

none-more : (n : ℕ) → 0 + n ≡ n
none-more n = omega arith

one-more : (e n : ℕ) → suc e + n ≡ suc (e + n)
one-more e n = omega arith

module _ (us : List (List Labelled)) where
  -- the first call of a chain, and the rest of it
  pub record Chain (depth j k : ℕ) : Type 0 where
    pub unit : ℕ
    pub inside : unit < length us
    pub called : calls us j unit ≡ true
    pub rest : ((unit == k) || reaches us depth unit k) ≡ true

  abbrev starts : (depth j k : ℕ) → ℕ → Bool
  starts depth j k m = calls us j m && ((m == k) || reaches us depth m k)

  abbrev all_units : List ℕ
  all_units = range_with_len 0 (length us)

  inside_of : (i : ℕ) → i < length all_units → i < length us
  inside_of i below = let e = length-range_with_len 0 (length us) in omega (arith, e, below)

  unit_there : (i : ℕ) → i < length us → get_or all_units i 0 ≡ i
  unit_there i below = get_or-range_with_len 0 (length us) i 0 below ∙ none-more i

  pub chain-from : (depth j k : ℕ) → reaches us (suc depth) j k ≡ true → Chain depth j k
  chain-from depth j k is =
      let found : Found (starts depth j k) 0 all_units = any-found (starts depth j k) 0 all_units is in
      let below : found.index < length us = inside_of found.index found.inside in
      let passes : starts depth j k found.index ≡ true = subst (λ m. starts depth j k m ≡ true) (unit_there found.index below) found.passes in
      let both = and_parts (calls us j found.index) ((found.index == k) || reaches us depth found.index k) passes in
      record { unit = found.index; inside = below; called = both.0; rest = both.1 }

  pub reach-by : (depth j k : ℕ) → Chain depth j k → reaches us (suc depth) j k ≡ true
  reach-by depth j k chain =
      let m = chain.unit in
      let passes : starts depth j k m ≡ true = and_from (calls us j m) ((m == k) || reaches us depth m k) chain.called chain.rest in
      let below : m < length all_units = (let e = length-range_with_len 0 (length us) in let h = chain.inside in omega (arith, e, h)) in
      list_any_at (starts depth j k) all_units m 0 below (subst (λ x. starts depth j k x ≡ true) (sym (unit_there m chain.inside)) passes)

  -- a chain whose rest can be had with other depths
  rest-by : (d e m k : ℕ) → (reaches us d m k ≡ true → reaches us e m k ≡ true) → ((m == k) || reaches us d m k) ≡ true → ((m == k) || reaches us e m k) ≡ true
  rest-by d e m k by either = either_by (m == k) (reaches us d m k) (reaches us e m k) by either
    where
      either_by : (a b c : Bool) → (b ≡ true → c ≡ true) → (a || b) ≡ true → (a || c) ≡ true
      either_by true b c by either = refl
      either_by false b c by either = by either

  pub chain-by : (d e j k : ℕ) → ((m : ℕ) → m < length us → reaches us d m k ≡ true → reaches us e m k ≡ true) → reaches us (suc d) j k ≡ true → reaches us (suc e) j k ≡ true
  chain-by d e j k by is =
      let chain : Chain d j k = chain-from d j k is in
      reach-by e j k (record { unit = chain.unit; inside = chain.inside; called = chain.called; rest = rest-by d e chain.unit k (by chain.unit chain.inside) chain.rest })

  -- ---- deeper

  pub deeper-one : (d j k : ℕ) → reaches us d j k ≡ true → reaches us (suc d) j k ≡ true
  deeper-one zero j k is = let h : false ≡ true = is in absurd cc
  deeper-one (suc d) j k is = chain-by d (suc d) j k (λ m inside. deeper-one d m k) is

  pub deeper : (e d j k : ℕ) → reaches us d j k ≡ true → reaches us (e + d) j k ≡ true
  deeper zero d j k is = subst (λ x. reaches us x j k ≡ true) (sym (none-more d)) is
  deeper (suc e) d j k is = subst (λ x. reaches us x j k ≡ true) (sym (one-more e d)) (deeper-one (e + d) j k (deeper e d j k is))

  -- ---- deep enough

  module _ (k : ℕ) where
    abbrev here : ℕ → ℕ → Bool
    here d j = reaches us d j k

    -- one call more reaches nothing more
    abbrev pub Settled : ℕ → Type 0
    Settled d = (j : ℕ) → j < length us → reaches us (suc d) j k ≡ true → reaches us d j k ≡ true

    settled-next : (d : ℕ) → Settled d → Settled (suc d)
    settled-next d settled j inside is = chain-by (suc d) d j k settled is

    settled-by : (d : ℕ) → count_by (here (suc d)) all_units ≤ count_by (here d) all_units → Settled d
    settled-by d le j inside is =
        let below : j < length all_units = (let e = length-range_with_len 0 (length us) in omega (arith, e, inside)) in
        subst (λ x. here d x ≡ true) (unit_there j inside)
        (count-back (here d) (here (suc d)) (λ x. deeper-one d x k) all_units le j below (subst (λ x. here (suc d) x ≡ true) (sym (unit_there j inside)) is))

    grown : (d : ℕ) → Settled d ⊎ (d ≤ count_by (here d) all_units)
    grown zero = inr (omega arith)
    grown (suc d) = ⊎_elim
        (λ settled. inl (settled-next d settled))
        (λ many. grown-more d many)
        (grown d)
      where
        grown-more : (d : ℕ) → d ≤ count_by (here d) all_units → Settled (suc d) ⊎ (suc d ≤ count_by (here (suc d)) all_units)
        grown-more d many = ⊎_elim
            (λ (less : nat_lt (count_by (here d) all_units) (count_by (here (suc d)) all_units) ≡ true).
            let lt = ltb-true (count_by (here d) all_units) (count_by (here (suc d)) all_units) less in
            inr (omega (arith, lt, many)))
            (λ (not_less : nat_lt (count_by (here d) all_units) (count_by (here (suc d)) all_units) ≡ false).
            inl (settled-next d (settled-by d (ltb-false (count_by (here d) all_units) (count_by (here (suc d)) all_units) not_less))))
            (cases_Bool (nat_lt (count_by (here d) all_units) (count_by (here (suc d)) all_units)))

    pub settled-at_length : Settled (length us)
    settled-at_length = ⊎_elim
        (λ settled. settled)
        (λ (many : length us ≤ count_by (here (length us)) all_units). full many)
        (grown (length us))
      where
        full : length us ≤ count_by (here (length us)) all_units → Settled (length us)
        full many = settled-by (length us)
            (let most = count_by-le-length (here (suc (length us))) all_units in let e = length-range_with_len 0 (length us) in omega (arith, most, e, many))

    settled-far : (e : ℕ) → Settled (e + length us)
    settled-far zero = subst Settled (sym (none-more (length us))) settled-at_length
    settled-far (suc e) = subst Settled (sym (one-more e (length us))) (settled-next (e + length us) (settled-far e))

    back-far : (e j : ℕ) → j < length us → reaches us (e + length us) j k ≡ true → reaches us (length us) j k ≡ true
    back-far zero j inside is = subst (λ x. reaches us x j k ≡ true) (none-more (length us)) is
    back-far (suc e) j inside is = back-far e j inside (settled-far e j inside (subst (λ x. reaches us x j k ≡ true) (one-more e (length us)) is))

  -- what is reached through any number of calls is reached through at most as many as there are units
  pub reach-few : (d j k : ℕ) → j < length us → reaches us d j k ≡ true → reaches us (length us) j k ≡ true
  reach-few d j k inside is = back-far k d j inside (subst (λ e. reaches us e j k ≡ true) (order d) (deeper (length us) d j k is))
    where
      order : (d : ℕ) → length us + d ≡ d + length us
      order d = omega arith

  pub reach-over : (j m k : ℕ) → j < length us → m < length us → calls us j m ≡ true → reaches us (length us) m k ≡ true → reaches us (length us) j k ≡ true
  reach-over j m k inside below called is = reach-few (suc (length us)) j k inside (reach-by (length us) j k (record { unit = m; inside = below; called = called; rest = or-right (m == k) (reaches us (length us) m k) is }))

  pub reach-at : (j m : ℕ) → j < length us → m < length us → calls us j m ≡ true → reaches us (length us) j m ≡ true
  reach-at j m inside below called = reach-few 1 j m inside (reach-by 0 j m (record { unit = m; inside = below; called = called; rest = or-left (m == m) (reaches us 0 m m) (same m) }))
    where
      same : (m : ℕ) → (m == m) ≡ true
      same m = eq-eqb m m refl
