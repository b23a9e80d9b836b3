-- What is counted for copies round by round, each at most the limit.
use Rattle.std.proofs.Common.{◌≡◌, ℕ, zero, suc, ◌+◌, ◌<◌, ◌≤◌, Bool, true, false, min, nat_lt, List, [], ◌∷◌, ◌++◌, map, length, get_or, sum_by, Option, Some, None, ⊎_elim, refl, sym, ap, subst, ◌∙◌, arith}
use Rattle.std.specs.List.{list_all, range_with_len}
use Rattle.std.proofs.lemmas.Bool.{and_from, and_parts, cases_Bool, ltb-true, ltb-false}
use Rattle.std.proofs.lemmas.List.{get_or-map, get_or_past, length-map}
use Rattle.std.proofs.lemmas.List.Concat.{flat_map-cons}
use Rattle.std.proofs.lemmas.List.FromFn.{get_or-map-range_with_len, length-map-range_with_len}
use Rattle.std.proofs.lemmas.List.Sums.{sum_by-cons, sum_by-append}
use Rattle.std.proofs.lemmas.Option.{slice_get_past}
use native.Mathlib.Nat.{zero-min}
use Rattle.f77_tree.specs.declared.statements.Labelled.{Labelled}
use Rattle.program_units.specs.Heights.{IsHeight, calls_below}
use Rattle.program_units.specs.Units.{Call, call_in, unit_at, unit_of, unit_or_none}
use Rattle.program_units.specs.CallTable.{AreSettled, CallRow, callee_of, callees, row_width, widths_from}
use Rattle.inlined_copies.proofs.Capped.{min-sum, sums-capped}

-- what a statement has of its own, and where copies of units have so much
module _ (us : List (List Labelled)) (own : (k : ℕ) → Labelled → ℕ) (count : (body : ℕ → ℕ) → (k : ℕ) → Labelled → ℕ) (splits : (body : ℕ → ℕ) (k : ℕ) (s : Labelled) → count body k s ≡ own k s + sum_by body (callee_of us (call_in s.stmt))) (total : (depth k : ℕ) → ℕ) (none : (k : ℕ) → total 0 k ≡ 0) (next : (d k : ℕ) → total (suc d) k ≡ sum_by (count (total d) k) (unit_at us k)) (limit : ℕ) where
  pub counts-of : (body : ℕ → ℕ) (k : ℕ) (stmts : List Labelled) → sum_by (count body k) stmts ≡ sum_by (own k) stmts + sum_by body (callees us stmts)
  counts-of body k [] = omega arith
  counts-of body k (s ∷ rest) =
      let here = splits body k s in
      let there = counts-of body k rest in
      let a = sum_by-cons (count body k) s rest in
      let b = sum_by-cons (own k) s rest in
      let split : sum_by body (callees us (s ∷ rest)) ≡ sum_by body (callee_of us (call_in s.stmt)) + sum_by body (callees us rest) =
      ap (sum_by body) (flat_map-cons (λ (x : Labelled). callee_of us (call_in x.stmt)) s rest) ∙ sum_by-append body (callee_of us (call_in s.stmt)) (callees us rest)
      in
      omega (arith, here, there, a, b, split)

  abbrev row : ℕ → CallRow
  row k = record { own = min (sum_by (own k) (unit_at us k)) limit; callees = callees us (unit_at us k) }

  abbrev rows : List CallRow
  rows = map row (range_with_len 0 (length us))

  pub rows-count : length rows ≡ length us
  rows-count = length-map-range_with_len row 0 (length us)

  row-at : (k : ℕ) (d : CallRow) → k < length us → get_or rows k d ≡ row k
  row-at k d inside = get_or-map-range_with_len row 0 (length us) k k d inside (let e : 0 + k ≡ k = omega arith in e)

  no_total : (d k : ℕ) → length us ≤ k → total d k ≡ 0
  no_total zero k past = none k
  no_total (suc d) k past = next d k ∙ ap (λ (u : List Labelled). sum_by (count (total d) k) u) (ap unit_or_none (slice_get_past us k past))

  -- ---- where each unit is higher than those that it calls

  module _ (height : ℕ → ℕ) (is : IsHeight us height) where
    abbrev lower : (k g : ℕ) → Bool
    lower k g = nat_lt (height g) (height k)

    lower-calls : (k : ℕ) (stmts : List Labelled) → list_all (λ s. calls_below height us k (call_in s.stmt)) stmts ≡ true → list_all (lower k) (callees us stmts) ≡ true
    lower-calls k [] all = refl
    lower-calls k (s ∷ rest) all =
        let both = and_parts (calls_below height us k (call_in s.stmt)) (list_all (λ a. calls_below height us k (call_in a.stmt)) rest) all in
        subst (λ (gs : List ℕ). list_all (lower k) gs ≡ true) (sym (flat_map-cons (λ (a : Labelled). callee_of us (call_in a.stmt)) s rest)) (with_call (call_in s.stmt) both.0 (lower-calls k rest both.1))
      where
        with_call : (call : Option Call) → calls_below height us k call ≡ true → list_all (lower k) (callees us rest) ≡ true → list_all (lower k) (callee_of us call ++ callees us rest) ≡ true
        with_call None below more = more
        with_call (Some call) below more = and_from (lower k (unit_of us call.name)) (list_all (lower k) (callees us rest)) below more

    -- one round more, by what was counted before of lower units
    row-total : (widths : List ℕ) (d k : ℕ) → ((g : ℕ) → height g < height k → get_or widths g 0 ≡ min (total d g) limit) → row_width limit widths (row k) ≡ min (total (suc d) k) limit
    row-total widths d k before =
        let alone = sum_by (own k) (unit_at us k) in
        let calls = callees us (unit_at us k) in
        sums-capped (lower k) (λ (g : ℕ). get_or widths g 0) (total d) limit (λ g below. before g (ltb-true (height g) (height k) below)) calls (lower-calls k (unit_at us k) (is k)) (min alone limit)
        ∙ min-sum alone (sum_by (total d) calls) limit
        ∙ ap (λ (n : ℕ). min n limit) (sym (next d k ∙ counts-of (total d) k (unit_at us k)))

    -- after more rounds than a unit is high, whatever they began with
    pub settled-at : (start : List ℕ) (d k : ℕ) → height k < d → get_or (widths_from limit rows start d) k 0 ≡ min (total d k) limit
    settled-at start zero k below = absurd (omega (arith, below))
    settled-at start (suc d) k below = ⊎_elim
        (λ (inside : nat_lt k (length us) ≡ true).
        let there : k < length us = ltb-true k (length us) inside in
        let at : k < length rows = (let e = rows-count in omega (arith, e, there)) in
        get_or-map (row_width limit (widths_from limit rows start d)) rows k (row k) 0 at
        ∙ ap (row_width limit (widths_from limit rows start d)) (row-at k (row k) there)
        ∙ row-total (widths_from limit rows start d) d k (λ g under. settled-at start d g (omega (arith, under, below))))
        (λ (outside : nat_lt k (length us) ≡ false).
        let past : length us ≤ k = ltb-false k (length us) outside in
        let beyond : length (map (row_width limit (widths_from limit rows start d)) rows) ≤ k = (let e = rows-count in let m = length-map rows (row_width limit (widths_from limit rows start d)) in omega (arith, e, m, past)) in
        get_or_past (map (row_width limit (widths_from limit rows start d)) rows) k 0 beyond
        ∙ sym (ap (λ (n : ℕ). min n limit) (no_total (suc d) k past) ∙ zero-min limit))
        (cases_Bool (nat_lt k (length us)))

    -- after one round more than there are units
    pub settled-all : (widths : List ℕ) → AreSettled limit rows widths → ((k : ℕ) → height k ≤ length us) → (k : ℕ) → get_or widths k 0 ≡ min (total (suc (length us)) k) limit
    settled-all widths settled few k =
        let most = few k in
        ap (λ (ws : List ℕ). get_or ws k 0) settled.is
        ∙ settled-at settled.start (suc (length rows)) k (let e = rows-count in omega (arith, e, most))
        ∙ ap (λ (n : ℕ). min (total (suc n) k) limit) rows-count
