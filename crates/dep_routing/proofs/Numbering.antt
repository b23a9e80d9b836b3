-- The steps that note regions at their edges.
use Rattle.std.proofs.Common.{◌≡◌, ◌≢◌, ℕ, ◌+◌, ◌<◌, List, length, get_or, set, sym, ◌∙◌, subst, ⊎_elim, arith, get_or-set_same, get_or-set_other, length-set}
use Rattle.std.proofs.lemmas.Bool.{cases_eq}
use Rattle.dep_routing.specs.Numbers.{AreNumbersBelow}

module _ (count : ℕ) (edge_of : ℕ → ℕ) where
  pub AreNumbersBelow-step : (k : ℕ) (numbers : List ℕ) → 0 < k → edge_of k < count → ((r : ℕ) → 0 < r → r < k → edge_of r ≢ edge_of k) → AreNumbersBelow count k edge_of numbers → AreNumbersBelow count (k + 1) edge_of (set numbers (edge_of k) k)
  AreNumbersBelow-step k numbers some edge apart n =
      let inside : edge_of k < length numbers = omega (arith, edge, n.size) in
      let here : get_or (set numbers (edge_of k) k) (edge_of k) 0 ≡ k = get_or-set_same numbers (edge_of k) k 0 inside in
      record {
        size = length-set numbers (edge_of k) k ∙ n.size;
        found = λ r away less. ⊎_elim
            (λ (same : r ≡ k). subst (λ x. get_or (set numbers (edge_of k) k) (edge_of x) 0 ≡ x) (sym same) here)
            (λ (other : r ≢ k). let before : r < k = omega (arith, less, other) in get_or-set_other numbers (edge_of k) (edge_of r) k 0 (apart r away before) ∙ n.found r away before)
            (cases_eq r k);
        some = λ e away. ⊎_elim
            (λ (same : e ≡ edge_of k). let is : get_or (set numbers (edge_of k) k) e 0 ≡ k = subst (λ x. get_or (set numbers (edge_of k) k) x 0 ≡ k) (sym same) here in omega (arith, is))
            (λ (other : e ≢ edge_of k).
            let is : get_or (set numbers (edge_of k) k) e 0 ≡ get_or numbers e 0 = get_or-set_other numbers (edge_of k) e k 0 other in
            let old : get_or numbers e 0 < k = n.some e (λ none. away (is ∙ none)) in
            omega (arith, is, old))
            (cases_eq e (edge_of k));
        right = λ e away. ⊎_elim
            (λ (same : e ≡ edge_of k). let is : get_or (set numbers (edge_of k) k) e 0 ≡ k = subst (λ x. get_or (set numbers (edge_of k) k) x 0 ≡ k) (sym same) here in subst (λ x. edge_of x ≡ e) (sym is) (sym same))
            (λ (other : e ≢ edge_of k).
            let is : get_or (set numbers (edge_of k) k) e 0 ≡ get_or numbers e 0 = get_or-set_other numbers (edge_of k) e k 0 other in
            subst (λ x. edge_of x ≡ e) (sym is) (n.right e (λ none. away (is ∙ none))))
            (cases_eq e (edge_of k));
      }
