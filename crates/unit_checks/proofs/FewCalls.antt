-- A text has at most as many units, and its units at most as many CALLs, as it has statements.
use Rattle.std.proofs.Common.{◌≡◌, ℕ, zero, suc, ◌+◌, ◌<◌, ◌≤◌, Bool, true, false, List, [], ◌∷◌, length, Option, Some, None, refl, ap, subst, ◌∙◌, arith, length-append}
use Rattle.std.specs.Prelude.{if◌then◌else◌}
use Rattle.std.proofs.lemmas.List.Concat.{flat_map-cons}
use Rattle.f77_tree.specs.declared.statements.Labelled.{Labelled}
use Rattle.program_units.specs.Units.{Call, call_in, in_first, is_end, unit_at, units}
use Rattle.program_units.specs.CallTable.{callee_of, callees}
use Rattle.closed_walks.specs.Graph.{edge_count}
use Rattle.unit_checks.specs.CallGraph.{call_graph, calls_below_unit, calls_from}
use Rattle.unit_checks.proofs.GrowingGraph.{paired, units-more}

-- the statements of all units
abbrev total : List (List Labelled) → ℕ
total [] = 0
total (u ∷ us) = length u + total us

-- those of the first units
abbrev first : ℕ → List (List Labelled) → ℕ
first zero us = 0
first (suc k) [] = 0
first (suc k) (u ∷ us) = length u + first k us

first-more : (us : List (List Labelled)) (k : ℕ) → first (suc k) us ≡ first k us + length (unit_at us k)
first-more [] zero = omega arith
first-more [] (suc k) = omega arith
first-more (u ∷ us) zero = omega arith
first-more (u ∷ us) (suc k) = let a = first-more us k in omega (arith, a)

first-least : (us : List (List Labelled)) (k : ℕ) → first k us ≤ total us
first-least us zero = omega arith
first-least [] (suc k) = omega arith
first-least (u ∷ us) (suc k) = let a = first-least us k in omega (arith, a)

in-first-total : (s : Labelled) (us : List (List Labelled)) → total (in_first s us) ≡ suc (total us)
in-first-total s [] = omega arith
in-first-total s (u ∷ us) = omega arith

in-first-length : (s : Labelled) (us : List (List Labelled)) → length (in_first s us) ≤ suc (length us)
in-first-length s [] = omega arith
in-first-length s (u ∷ us) = omega arith

units-total : (stmts : List Labelled) → total (units stmts) ≡ length stmts
units-total [] = refl
units-total (s ∷ rest) = by (is_end s.stmt) (units-total rest)
  where
    by : (b : Bool) → total (units rest) ≡ length rest → total (if b then (s ∷ []) ∷ units rest else in_first s (units rest)) ≡ suc (length rest)
    by true more = omega (arith, more)
    by false more = in-first-total s (units rest) ∙ ap suc more

pub units-few : (stmts : List Labelled) → length (units stmts) ≤ length stmts
units-few [] = omega arith
units-few (s ∷ rest) = by (is_end s.stmt) (units-few rest)
  where
    by : (b : Bool) → length (units rest) ≤ length rest → length (if b then (s ∷ []) ∷ units rest else in_first s (units rest)) ≤ suc (length rest)
    by true more = omega (arith, more)
    by false more = let a = in-first-length s (units rest) in omega (arith, more, a)

module _ (us : List (List Labelled)) where
  one-call : (call : Option Call) → length (callee_of us call) ≤ 1
  one-call None = omega arith
  one-call (Some call) = omega arith

  callees-few : (stmts : List Labelled) → length (callees us stmts) ≤ length stmts
  callees-few [] = omega arith
  callees-few (s ∷ rest) =
      let a = ap length (flat_map-cons (λ (a : Labelled). callee_of us (call_in a.stmt)) s rest) in
      let b = length-append (callee_of us (call_in s.stmt)) (callees us rest) in
      let c = one-call (call_in s.stmt) in
      let d = callees-few rest in
      omega (arith, a, b, c, d)

  calls-first : (k : ℕ) → length (calls_below_unit us k) ≤ first k us
  calls-first zero = omega arith
  calls-first (suc k) =
      let e : k + 1 ≡ suc k = omega arith in
      let a = ap length (units-more us k) in
      let b = length-append (calls_below_unit us k) (calls_from us k) in
      let c : length (calls_from us k) ≡ length (callees us (unit_at us k)) = paired us k (callees us (unit_at us k)) in
      let d = callees-few (unit_at us k) in
      let f = first-more us k in
      let g = calls-first k in
      let h : length (calls_below_unit us (k + 1)) ≤ first (suc k) us = omega (arith, a, b, c, d, f, g) in
      subst (λ n. length (calls_below_unit us n) ≤ first (suc k) us) e h

pub calls-few : (stmts : List Labelled) → length (calls_below_unit (units stmts) (length (units stmts))) ≤ length stmts
calls-few stmts =
    let us : List (List Labelled) = units stmts in
    let a = calls-first us (length us) in
    let b = first-least us (length us) in
    let c = units-total stmts in
    omega (arith, a, b, c)

pub few-units : (stmts : List Labelled) (us : List (List Labelled)) (most top : ℕ) → us ≡ units stmts → length stmts ≤ most → most < top → length us < top
few-units stmts us most top is few less =
    let a = ap length is in
    let b = units-few stmts in
    omega (arith, a, b, few, less)

pub few-edges : (stmts : List Labelled) (us : List (List Labelled)) (most top : ℕ) → us ≡ units stmts → length stmts ≤ most → most < top → edge_count (call_graph us) < top
few-edges stmts us most top is few less =
    let a : length (calls_below_unit us (length us)) ≡ length (calls_below_unit (units stmts) (length (units stmts))) = ap (λ (vs : List (List Labelled)). length (calls_below_unit vs (length vs))) is in
    let b = calls-few stmts in
    let c : length (calls_below_unit us (length us)) < top = omega (arith, a, b, few, less) in
    c
