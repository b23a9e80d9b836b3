-- Where no unit calls itself, a unit that calls another reaches more units than it.
use Rattle.std.proofs.Common.{◌≡◌, ℕ, ◌+◌, ◌<◌, ◌≤◌, Bool, true, false, if◌then◌else◌, List, [], ◌∷◌, length, get_or, count_by, nat_lt, Option, Some, None, ⊎_elim, refl, sym, ap, subst, ◌∙◌, arith}
use Rattle.std.specs.List.{list_all, list_any, range_with_len}
use Rattle.std.proofs.lemmas.Bool.{cases_Bool, and_from, eq-eqb, ltb-true, ltb-false, lt-ltb}
use Rattle.std.proofs.lemmas.List.FromFn.{get_or-range_with_len, length-range_with_len}
use Rattle.std.proofs.lemmas.List.Sums.{count_by-le-length}
use Rattle.std.proofs.lemmas.Option.{slice_get_past}
use Rattle.f77_tree.specs.declared.statements.Labelled.{Labelled}
use Rattle.program_units.specs.Units.{Call, call_in, calls, calls_unit, reaches, unit_at, unit_of, unit_or_none}
use Rattle.program_units.specs.Heights.{calls_below, IsHeight, NoneCallsItself, reached, height}
use Rattle.program_units.proofs.Counting.{or-left, or-right, count-back}
use Rattle.program_units.proofs.CallReach.{reach-over, reach-at}

module _ (us : List (List Labelled)) (none : NoneCallsItself us) where
  abbrev all_units : List ℕ
  all_units = range_with_len 0 (length us)

  there : (m : ℕ) → m < length us → get_or all_units m 0 ≡ m
  there m below = get_or-range_with_len 0 (length us) m 0 below ∙ (let e : 0 + m ≡ m = omega arith in e)

  at : (m : ℕ) → m < length us → m < length all_units
  at m below = let e = length-range_with_len 0 (length us) in omega (arith, e, below)

  not_both : (m : ℕ) → m < length us → reaches us (length us) m (get_or all_units m 0) ≡ true → ⊥
  not_both m below is =
      let itself : reaches us (length us) m m ≡ true = subst (λ x. reaches us (length us) m x ≡ true) (there m below) is in
      let not_itself : reaches us (length us) m m ≡ false = none m below in
      cc

  more_reached : (j m : ℕ) → j < length us → m < length us → calls us j m ≡ true → reached us m < reached us j
  more_reached j m inside below called = ⊎_elim
      (λ (less : nat_lt (reached us m) (reached us j) ≡ true). ltb-true (reached us m) (reached us j) less)
      (λ (not_less : nat_lt (reached us m) (reached us j) ≡ false).
      let le : reached us j ≤ reached us m = ltb-false (reached us m) (reached us j) not_less in
      let is : reaches us (length us) j (get_or all_units m 0) ≡ true = subst (λ x. reaches us (length us) j x ≡ true) (sym (there m below)) (reach-at us j m inside below called) in
      absurd (not_both m below (count-back (reaches us (length us) m) (reaches us (length us) j) (λ x. reach-over us j m x inside below called) all_units le m (at m below) is)))
      (cases_Bool (nat_lt (reached us m) (reached us j)))

  few_reached : (k : ℕ) → k < length us → reached us k < length us
  few_reached k inside = ⊎_elim
      (λ (less : nat_lt (reached us k) (length us) ≡ true). ltb-true (reached us k) (length us) less)
      (λ (not_less : nat_lt (reached us k) (length us) ≡ false).
      let le : length us ≤ reached us k = ltb-false (reached us k) (length us) not_less in
      let most : count_by (λ (x : ℕ). true) all_units ≤ length all_units = count_by-le-length (λ (x : ℕ). true) all_units in
      let e = length-range_with_len 0 (length us) in
      let many : count_by (λ (x : ℕ). true) all_units ≤ reached us k = omega (arith, le, most, e) in
      absurd (not_both k inside (count-back (reaches us (length us) k) (λ (x : ℕ). true) (λ x is. refl) all_units many k (at k inside) refl)))
      (cases_Bool (nat_lt (reached us k) (length us)))

  -- ---- heights

  by_test : (k : ℕ) (b : Bool) → nat_lt k (length us) ≡ b → height us k ≡ (if b then 1 + reached us k else 0)
  by_test k b is = ap (λ (c : Bool). if c then 1 + reached us k else 0) is

  lower : (k m : ℕ) → k < length us → calls us k m ≡ true → height us m < height us k
  lower k m inside called = ⊎_elim
      (λ (below : nat_lt m (length us) ≡ true).
      let a : height us m ≡ 1 + reached us m = by_test m true below in
      let b : height us k ≡ 1 + reached us k = by_test k true (lt-ltb k (length us) inside) in
      let less = more_reached k m inside (ltb-true m (length us) below) called in
      omega (arith, a, b, less))
      (λ (outside : nat_lt m (length us) ≡ false).
      let a : height us m ≡ 0 = by_test m false outside in
      let b : height us k ≡ 1 + reached us k = by_test k true (lt-ltb k (length us) inside) in
      omega (arith, a, b))
      (cases_Bool (nat_lt m (length us)))

  lower_call : (k : ℕ) → k < length us → (call : Option Call) → ((m : ℕ) → calls_unit us m call ≡ true → calls us k m ≡ true) → calls_below (height us) us k call ≡ true
  lower_call k inside None by = refl
  lower_call k inside (Some call) by = lt-ltb (height us (unit_of us call.name)) (height us k) (lower k (unit_of us call.name) inside (by (unit_of us call.name) (eq-eqb (unit_of us call.name) (unit_of us call.name) refl)))

  lower_calls : (k : ℕ) → k < length us → (stmts : List Labelled) → ((m : ℕ) → list_any (λ s. calls_unit us m (call_in s.stmt)) stmts ≡ true → calls us k m ≡ true) → list_all (λ s. calls_below (height us) us k (call_in s.stmt)) stmts ≡ true
  lower_calls k inside [] by = refl
  lower_calls k inside (s ∷ rest) by =
      and_from (calls_below (height us) us k (call_in s.stmt)) (list_all (λ a. calls_below (height us) us k (call_in a.stmt)) rest)
      (lower_call k inside (call_in s.stmt) (λ m is. by m (or-left (calls_unit us m (call_in s.stmt)) (list_any (λ a. calls_unit us m (call_in a.stmt)) rest) is)))
      (lower_calls k inside rest (λ m is. by m (or-right (calls_unit us m (call_in s.stmt)) (list_any (λ a. calls_unit us m (call_in a.stmt)) rest) is)))

  pub are-heights : IsHeight us (height us)
  are-heights k = ⊎_elim
      (λ (inside : nat_lt k (length us) ≡ true). lower_calls k (ltb-true k (length us) inside) (unit_at us k) (λ m is. is))
      (λ (outside : nat_lt k (length us) ≡ false).
      let no_unit : unit_at us k ≡ [] = ap unit_or_none (slice_get_past us k (ltb-false k (length us) outside)) in
      subst (λ (stmts : List Labelled). list_all (λ s. calls_below (height us) us k (call_in s.stmt)) stmts ≡ true) (sym no_unit) refl)
      (cases_Bool (nat_lt k (length us)))

  pub heights-few : (k : ℕ) → height us k ≤ length us
  heights-few k = ⊎_elim
      (λ (inside : nat_lt k (length us) ≡ true).
      let a : height us k ≡ 1 + reached us k = by_test k true inside in
      let few = few_reached k (ltb-true k (length us) inside) in
      omega (arith, a, few))
      (λ (outside : nat_lt k (length us) ≡ false). let a : height us k ≡ 0 = by_test k false outside in omega (arith, a))
      (cases_Bool (nat_lt k (length us)))
