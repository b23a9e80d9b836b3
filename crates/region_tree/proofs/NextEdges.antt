-- The steps from the last edge of a list back to the first, which note the next edge of the same class.
use Rattle.std.proofs.Common.{◌≡◌, ◌≢◌, ℕ, ◌<◌, List, [], ◌∷◌, Option, Some, None, length, get_or, set, refl, sym, ◌∙◌, ⊎_elim, arith, get_or-set_same, get_or-set_other, length-set}
use Rattle.std.proofs.lemmas.Bool.{cases_eq, eq-eqb, ne_eqb}
use Rattle.region_tree.specs.Classes.{first_of, next_of}
use Rattle.region_tree.specs.Listing.{next_at}

-- What was noted of the edges of a list: the first of each class, and for each edge the next one.
pub record IsLinked (classes edges : List ℕ) (first next : List (Option ℕ)) : Type 0 where
  pub first_size : length first ≡ length classes
  pub next_size : length next ≡ length classes
  pub firsts : (class : ℕ) → class < length classes → next_at first class ≡ first_of classes class edges
  pub nexts : (e : ℕ) → e < length classes → next_at next e ≡ next_of classes e edges

module _ (classes : List ℕ) where
  pub IsLinked-step : (edges : List ℕ) (first next : List (Option ℕ)) (e : ℕ) → IsLinked classes edges first next → e < length classes → get_or classes e 0 < length classes → IsLinked classes (e ∷ edges) (set first (get_or classes e 0) (Some e)) (set next e (next_at first (get_or classes e 0)))
  IsLinked-step edges first next e l edge below =
      let class = get_or classes e 0 in
      let in_first : class < length first = omega (arith, below, l.first_size) in
      let in_next : e < length next = omega (arith, edge, l.next_size) in
      record {
        first_size = length-set first class (Some e) ∙ l.first_size;
        next_size = length-set next e (next_at first class) ∙ l.next_size;
        firsts = λ c within. ⊎_elim
            (λ (same : c ≡ class). rw (same, eq-eqb class class refl) (get_or-set_same first class (Some e) None in_first))
            (λ (apart : c ≢ class). rw (ne_eqb class c (λ same. apart (sym same))) (get_or-set_other first class c (Some e) None apart ∙ l.firsts c within))
            (cases_eq c class);
        nexts = λ x within. ⊎_elim
            (λ (same : x ≡ e). rw (same, eq-eqb e e refl) (get_or-set_same next e (next_at first class) None in_next ∙ l.firsts class below))
            (λ (apart : x ≢ e). rw (ne_eqb e x (λ same. apart (sym same))) (get_or-set_other next e x (next_at first class) None apart ∙ l.nexts x within))
            (cases_eq x e);
      }
