-- The graph of CALLs, made statement by statement and unit by unit.
use Rattle.std.proofs.Common.{◌≡◌, ℕ, zero, suc, ◌+◌, ◌-◌, ◌<◌, ◌≤◌, List, [], ◌∷◌, ◌++◌, map, length, get_or, take, drop, Option, Some, None, refl, sym, ap, subst, ◌∙◌, arith, append-nil, length-append, take-append-drop}
use Rattle.std.specs.Prelude.{flat_map}
use Rattle.std.specs.List.{range_with_len}
use Rattle.std.proofs.lemmas.Grind.{flat_map-append}
use Rattle.std.proofs.lemmas.List.{take_more}
use Rattle.std.proofs.lemmas.List.Concat.{flat_map-cons}
use Rattle.std.proofs.lemmas.List.FromFn.{map-range_with_len_more}
use Rattle.std.proofs.lemmas.List.Sums.{prefix_len-le-length}
use Rattle.std.specs.List.{list_any}
use Rattle.std.specs.Prelude.{not}
use Rattle.f77_tree.specs.declared.statements.Labelled.{Labelled}
use Rattle.layout_rules.specs.Faults.{first_answer, answer_or}
use Rattle.program_units.specs.Units.{call_in, is_sub_of, unit_at, unit_of}
use Rattle.program_units.specs.CallTable.{callee_of, callees}
use Rattle.unit_checks.specs.CallGraph.{edges_from, calls_from, calls_below_unit}

pub unit_of_few : (us : List (List Labelled)) (name : List ℕ) → unit_of us name ≤ length us
unit_of_few us name = prefix_len-le-length (λ (v : List Labelled). not (list_any (is_sub_of name) v)) us

module _ (us : List (List Labelled)) where
  -- ---- statement by statement

  abbrev calls_of : Labelled → List ℕ
  calls_of s = callee_of us (call_in s.stmt)

  take-next : (stmts : List Labelled) (i : ℕ) (s : Labelled) → i < length stmts → s ≡ get_or stmts i s → take (i + 1) stmts ≡ take i stmts ++ s ∷ []
  take-next stmts i s inside there = take_more stmts i s inside ∙ ap (λ (x : Labelled). take i stmts ++ x ∷ []) (sym there)

  callees-one : (s : Labelled) → callees us (s ∷ []) ≡ calls_of s
  callees-one s = flat_map-cons calls_of s [] ∙ append-nil (calls_of s)

  callees-more : (stmts : List Labelled) (i : ℕ) (s : Labelled) → i < length stmts → s ≡ get_or stmts i s → callees us (take (i + 1) stmts) ≡ callees us (take i stmts) ++ calls_of s
  callees-more stmts i s inside there =
      ap (callees us) (take-next stmts i s inside there)
      ∙ flat_map-append calls_of (take i stmts) (s ∷ [])
      ∙ ap (λ xs. callees us (take i stmts) ++ xs) (callees-one s)

  -- there are at least as many as of the first statements
  pub callees-least : (stmts : List Labelled) (i : ℕ) (s : Labelled) → i < length stmts → s ≡ get_or stmts i s → length (callees us (take i stmts)) + length (calls_of s) ≤ length (callees us stmts)
  callees-least stmts i s inside there =
      let a = length-append (callees us (take i stmts)) (calls_of s) in
      let b = ap length (callees-more stmts i s inside there) in
      let whole : callees us (take (i + 1) stmts) ++ callees us (drop (i + 1) stmts) ≡ callees us stmts =
      sym (flat_map-append calls_of (take (i + 1) stmts) (drop (i + 1) stmts)) ∙ ap (callees us) (take-append-drop (i + 1) stmts)
      in
      let c = length-append (callees us (take (i + 1) stmts)) (callees us (drop (i + 1) stmts)) in
      let d = ap length whole in
      omega (arith, a, b, c, d)

  -- ---- unit by unit

  abbrev before : ℕ → List (ℕ × ℕ)
  before k = calls_below_unit us k

  pub units-more : (k : ℕ) → before (k + 1) ≡ before k ++ calls_from us k
  units-more k =
      ap (flat_map (calls_from us)) (counting k)
      ∙ flat_map-append (calls_from us) (range_with_len 0 k) (k ∷ [])
      ∙ ap (λ es. before k ++ es) (flat_map-cons (calls_from us) k [] ∙ append-nil (calls_from us k))
    where
      same_map : (xs : List ℕ) → map (λ (x : ℕ). x) xs ≡ xs
      same_map [] = refl
      same_map (x ∷ xs) = ap (λ ys. x ∷ ys) (same_map xs)

      counting : (k : ℕ) → range_with_len 0 (k + 1) ≡ range_with_len 0 k ++ k ∷ []
      counting k =
          sym (same_map (range_with_len 0 (k + 1)))
          ∙ map-range_with_len_more (λ (x : ℕ). x) 0 k k (omega arith)
          ∙ ap (λ xs. xs ++ k ∷ []) (same_map (range_with_len 0 k))

  units-grow : (m k : ℕ) → length (before k) ≤ length (before (m + k))
  units-grow zero k = let e : 0 + k ≡ k = omega arith in subst (λ x. length (before k) ≤ length (before x)) (sym e) (omega arith)
  units-grow (suc m) k =
      let e : (m + k) + 1 ≡ suc m + k = omega arith in
      let a = ap length (units-more (m + k)) in
      let b = length-append (before (m + k)) (calls_from us (m + k)) in
      let c = units-grow m k in
      subst (λ x. length (before k) ≤ length (before x)) e (omega (arith, a, b, c))

  pub paired : (k : ℕ) (gs : List ℕ) → length (edges_from k gs) ≡ length gs
  paired k [] = refl
  paired k (g ∷ gs) = ap suc (paired k gs)

  -- there are at least as many as of the first units
  pub units-least : (k : ℕ) → k < length us → length (before k) + length (callees us (unit_at us k)) ≤ length (before (length us))
  units-least k inside =
      let e : (length us - (k + 1)) + (k + 1) ≡ length us = omega (arith, inside) in
      let a = ap length (units-more k) in
      let b = length-append (before k) (calls_from us k) in
      let c : length (calls_from us k) ≡ length (callees us (unit_at us k)) = paired k (callees us (unit_at us k)) in
      let d : length (before (k + 1)) ≤ length (before (length us)) = subst (λ x. length (before (k + 1)) ≤ length (before x)) e (units-grow (length us - (k + 1)) (k + 1)) in
      omega (arith, a, b, c, d)

-- ---- the first answer of numbers that follow one another

first-from : (f : ℕ → Option ℕ) (a n k x : ℕ) → k < n → ((j : ℕ) → j < k → f (a + j) ≡ None) → f (a + k) ≡ Some x → first_answer f (range_with_len a n) ≡ Some x
first-from f a zero k x inside none is = absurd (omega (arith, inside))
first-from f a (suc n) zero x inside none is =
    let here : a + 0 ≡ a = omega arith in
    ap (λ r. answer_or r (first_answer f (range_with_len (a + 1) n))) (subst (λ i. f i ≡ Some x) here is)
first-from f a (suc n) (suc k) x inside none is =
    let here : a + 0 ≡ a = omega arith in
    let none_here : f a ≡ None = subst (λ i. f i ≡ None) here (none 0 (omega arith)) in
    let there : a + suc k ≡ (a + 1) + k = omega arith in
    ap (λ r. answer_or r (first_answer f (range_with_len (a + 1) n))) none_here
    ∙ first-from f (a + 1) n k x (omega (arith, inside))
    (λ j below. let e : a + suc j ≡ (a + 1) + j = omega arith in subst (λ i. f i ≡ None) e (none (suc j) (omega (arith, below))))
    (subst (λ i. f i ≡ Some x) there is)

none-from : (f : ℕ → Option ℕ) (a n : ℕ) → ((j : ℕ) → j < n → f (a + j) ≡ None) → first_answer f (range_with_len a n) ≡ None
none-from f a zero none = refl
none-from f a (suc n) none =
    let here : a + 0 ≡ a = omega arith in
    let none_here : f a ≡ None = subst (λ i. f i ≡ None) here (none 0 (omega arith)) in
    ap (λ r. answer_or r (first_answer f (range_with_len (a + 1) n))) none_here
    ∙ none-from f (a + 1) n (λ j below. let e : a + suc j ≡ (a + 1) + j = omega arith in subst (λ i. f i ≡ None) e (none (suc j) (omega (arith, below))))

pub first-at : (f : ℕ → Option ℕ) (n k x : ℕ) → k < n → ((j : ℕ) → j < k → f j ≡ None) → f k ≡ Some x → first_answer f (range_with_len 0 n) ≡ Some x
first-at f n k x inside none is =
    first-from f 0 n k x inside
    (λ j below. let e : j ≡ 0 + j = omega arith in subst (λ i. f i ≡ None) e (none j below))
    (let e : k ≡ 0 + k = omega arith in subst (λ i. f i ≡ Some x) e is)

pub none-at : (f : ℕ → Option ℕ) (n : ℕ) → ((j : ℕ) → j < n → f j ≡ None) → first_answer f (range_with_len 0 n) ≡ None
none-at f n none = none-from f 0 n (λ j below. let e : j ≡ 0 + j = omega arith in subst (λ i. f i ≡ None) e (none j below))
