-- Tables that grow by one entry.
use Rattle.std.proofs.Common.{◌≡◌, ℕ, ◌+◌, List, [], ◌∷◌, ◌++◌, get_or, sym, ◌∙◌, subst, arith, ⊎_elim}
use Rattle.std.proofs.lemmas.Bool.{cases_eq}
use Rattle.std.proofs.lemmas.List.{get_or_append_left, get_or_push, length_push}
use Rattle.layout_rules.specs.Tables.{IsTable}

pub IsTable-push : (f : ℕ → ℕ) (n v : ℕ) (table : List ℕ) → IsTable f n table → v ≡ f n → IsTable f (n + 1) (table ++ v ∷ [])
IsTable-push f n v table is at = record {
  size = length_push table v ∙ omega (arith, is.size);
  entry = λ k below. ⊎_elim
      (λ (e : k ≡ n). subst (λ (j : ℕ). get_or (table ++ v ∷ []) j 0 ≡ f j) (sym e) (get_or_push table v 0 n is.size ∙ at))
      (λ ne. get_or_append_left table (v ∷ []) 0 k (omega (arith, is.size, ne)) ∙ is.entry k (omega (arith, ne)))
      (cases_eq k n);
}
