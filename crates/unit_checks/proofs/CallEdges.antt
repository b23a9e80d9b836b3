-- The edges of the graph of CALLs: one leads from a unit to each unit that it calls, and there are no others.
use Rattle.std.proofs.Common.{◌≡◌, ℕ, ◌+◌, ◌<◌, ◌==◌, Bool, true, false, ◌&&◌, ◌||◌, List, [], ◌∷◌, ◌++◌, length, get_or, Option, Some, None, refl, sym, ap, subst, ◌∙◌, arith}
use Rattle.std.specs.Prelude.{flat_map}
use Rattle.std.specs.List.{list_any, range_with_len}
use Rattle.std.proofs.lemmas.Bool.{and_parts, and_from, eq-eqb, eqb-true}
use Rattle.std.proofs.lemmas.List.Concat.{flat_map-cons}
use Rattle.std.proofs.lemmas.List.Folds.{list_any_at, list_any-append}
use Rattle.std.proofs.lemmas.List.FromFn.{get_or-range_with_len, length-range_with_len}
use Rattle.f77_tree.specs.declared.statements.Labelled.{Labelled}
use Rattle.program_units.specs.Units.{Call, call_in, calls, calls_unit, unit_at, unit_of}
use Rattle.program_units.specs.CallTable.{callee_of, callees}
use Rattle.unit_checks.specs.CallGraph.{edges_from, calls_from, calls_below_unit}
use Rattle.program_units.proofs.Counting.{Found, any-found}

-- whether a pair leads from j to k
abbrev pub leads : (j k : ℕ) → ℕ × ℕ → Bool
leads j k edge = (edge.0 == j) && (edge.1 == k)

any-flat_map : {X A : Type 0} (p : A → Bool) (f : X → List A) (xs : List X) → list_any p (flat_map f xs) ≡ list_any (λ x. list_any p (f x)) xs
any-flat_map p f [] = refl
any-flat_map p f (x ∷ xs) =
    ap (list_any p) (flat_map-cons f x xs)
    ∙ list_any-append p (f x) (flat_map f xs)
    ∙ ap (λ b. list_any p (f x) || b) (any-flat_map p f xs)

and-or : (a b c : Bool) → ((a && b) || (a && c)) ≡ (a && (b || c))
and-or true b c = refl
and-or false b c = refl

and-none : (a : Bool) → false ≡ (a && false)
and-none true = refl
and-none false = refl

none-and : (a b : Bool) → (a && b) ≡ ((a && b) || false)
none-and true true = refl
none-and true false = refl
none-and false b = refl

module _ (us : List (List Labelled)) where
  -- ---- one unit

  leads-call : (i j k : ℕ) (call : Option Call) → list_any (leads j k) (edges_from i (callee_of us call)) ≡ ((i == j) && calls_unit us k call)
  leads-call i j k None = and-none (i == j)
  leads-call i j k (Some call) = sym (none-and (i == j) (unit_of us call.name == k))

  leads-calls : (i j k : ℕ) (stmts : List Labelled) → list_any (leads j k) (edges_from i (callees us stmts)) ≡ ((i == j) && list_any (λ s. calls_unit us k (call_in s.stmt)) stmts)
  leads-calls i j k [] = and-none (i == j)
  leads-calls i j k (s ∷ rest) =
      ap (λ (gs : List ℕ). list_any (leads j k) (edges_from i gs)) (flat_map-cons (λ (x : Labelled). callee_of us (call_in x.stmt)) s rest)
      ∙ ap (list_any (leads j k)) (map_parts (callee_of us (call_in s.stmt)) (callees us rest))
      ∙ list_any-append (leads j k) (edges_from i (callee_of us (call_in s.stmt))) (edges_from i (callees us rest))
      ∙ ap (λ b. b || list_any (leads j k) (edges_from i (callees us rest))) (leads-call i j k (call_in s.stmt))
      ∙ ap (λ b. ((i == j) && calls_unit us k (call_in s.stmt)) || b) (leads-calls i j k rest)
      ∙ and-or (i == j) (calls_unit us k (call_in s.stmt)) (list_any (λ x. calls_unit us k (call_in x.stmt)) rest)
    where
      map_parts : (xs ys : List ℕ) → edges_from i (xs ++ ys) ≡ edges_from i xs ++ edges_from i ys
      map_parts [] ys = refl
      map_parts (x ∷ xs) ys = ap (λ es. (i, x) ∷ es) (map_parts xs ys)

  -- ---- all units

  abbrev edges : List (ℕ × ℕ)
  edges = calls_below_unit us (length us)

  abbrev all_units : List ℕ
  all_units = range_with_len 0 (length us)

  abbrev calls_from_here : (j k : ℕ) → ℕ → Bool
  calls_from_here j k i = list_any (leads j k) (calls_from us i)

  leads-units : (j k : ℕ) → list_any (leads j k) edges ≡ list_any (calls_from_here j k) all_units
  leads-units j k = any-flat_map (leads j k) (calls_from us) all_units

  unit_there : (i : ℕ) → i < length us → get_or all_units i 0 ≡ i
  unit_there i below = get_or-range_with_len 0 (length us) i 0 below ∙ (let e : 0 + i ≡ i = omega arith in e)

  -- a unit below the number of units, with a CALL of another
  pub record IsCall (j k : ℕ) : Type 0 where
    pub inside : j < length us
    pub called : calls us j k ≡ true

  pub edge-calls : (e : ℕ) → e < length edges → IsCall (get_or edges e (0, 0)).0 (get_or edges e (0, 0)).1
  edge-calls e below =
      let j = (get_or edges e (0, 0)).0 in
      let k = (get_or edges e (0, 0)).1 in
      let here : leads j k (get_or edges e (0, 0)) ≡ true = and_from (j == j) (k == k) (eq-eqb j j refl) (eq-eqb k k refl) in
      let any : list_any (calls_from_here j k) all_units ≡ true = sym (leads-units j k) ∙ list_any_at (leads j k) edges e (0, 0) below here in
      let found : Found (calls_from_here j k) 0 all_units = any-found (calls_from_here j k) 0 all_units any in
      let i = found.index in
      let inside : i < length us = (let n = length-range_with_len 0 (length us) in let h = found.inside in omega (arith, n, h)) in
      let passes : calls_from_here j k i ≡ true = subst (λ x. calls_from_here j k x ≡ true) (unit_there i inside) found.passes in
      let both = and_parts (i == j) (calls us i k) (sym (leads-calls i j k (unit_at us i)) ∙ passes) in
      let same : i ≡ j = eqb-true i j both.0 in
      record { inside = subst (λ x. x < length us) same inside; called = subst (λ x. calls us x k ≡ true) same both.1 }

  -- an edge from j to k
  pub record HasEdge (j k : ℕ) : Type 0 where
    pub edge : ℕ
    pub exists : edge < length edges
    pub begins : (get_or edges edge (0, 0)).0 ≡ j
    pub ends : (get_or edges edge (0, 0)).1 ≡ k

  pub call-edge : (j k : ℕ) → IsCall j k → HasEdge j k
  call-edge j k call =
      let inside : j < length all_units = (let n = length-range_with_len 0 (length us) in let h = call.inside in omega (arith, n, h)) in
      let here : calls_from_here j k j ≡ true = leads-calls j j k (unit_at us j) ∙ and_from (j == j) (calls us j k) (eq-eqb j j refl) call.called in
      let any : list_any (calls_from_here j k) all_units ≡ true = list_any_at (calls_from_here j k) all_units j 0 inside (subst (λ x. calls_from_here j k x ≡ true) (sym (unit_there j call.inside)) here) in
      let found : Found (leads j k) (0, 0) edges = any-found (leads j k) (0, 0) edges (leads-units j k ∙ any) in
      let edge = get_or edges found.index (0, 0) in
      let both = and_parts (edge.0 == j) (edge.1 == k) found.passes in
      record { edge = found.index; exists = found.inside; begins = eqb-true edge.0 j both.0; ends = eqb-true edge.1 k both.1 }
