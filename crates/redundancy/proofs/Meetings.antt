-- Words that tell which sets meet another.
use Rattle.std.proofs.Common.{◌≡◌, ◌≢◌, ℕ, ◌+◌, ◌<◌, ◌≤◌, Bool, true, false, ◌==◌, ◌||◌, List, [], ◌∷◌, ◌++◌, length, get_or, refl, sym, ap, ◌∙◌, subst, ⊎_elim, arith}
use Rattle.std.specs.Prelude.{◌↔◌}
use Rattle.std.proofs.lemmas.Bool.{cases_eq, eq-eqb, ne_eqb, false≢true}
use Rattle.std.proofs.lemmas.List.{get_or_default, get_or_append_left, get_or_push}
use Rattle.class_set.specs.declared.ClassSet.{ClassSet}
use Rattle.redundancy.specs.Available.{has_bit}
use Rattle.redundancy.specs.Solving.{HasBit}
use Rattle.redundancy.specs.Killing.{Meet}
use Rattle.redundancy.specs.Numbers.{with_bit}
use Rattle.redundancy.proofs.Marking.{with_bit_tells}

or_right : (a b : Bool) → b ≡ true → (a || b) ≡ true
or_right true b is = refl
or_right false b is = is

or_none : (a b : Bool) → b ≡ false → (a || b) ≡ a
or_none true b is = refl
or_none false b is = is

module _ {W : ℕ} where
  -- the bits below i tell which of these sets meet the set, and no other is set
  pub record IsTold (sets : List (ClassSet W)) (set : ClassSet W) (i word : ℕ) : Type 0 where
    pub told : (j : ℕ) (d : ClassSet W) → j < i → (has_bit word j ≡ true) ↔ Meet (get_or sets j d) set
    pub blank : (j : ℕ) → i ≤ j → has_bit word j ≡ false

  module _ (sets : List (ClassSet W)) (set item : ClassSet W) (i word : ℕ) (few : i < 64) (within : i < length sets) (at : item ≡ get_or sets i item) (t : IsTold sets set i word) where
    same_item : (d : ClassSet W) → get_or sets i d ≡ item
    same_item d = get_or_default sets i d item within ∙ sym at

    pub told_meet : (new : ℕ) → new ≡ with_bit word i → Meet item set → IsTold sets set (i + 1) new
    told_meet new is meet = record {
      told = λ j d less. ⊎_elim
          (λ (same : j ≡ i). (
            λ has. subst (λ x. Meet (get_or sets x d) set) (sym same) (subst (λ y. Meet y set) (sym (same_item d)) meet),
            λ m. ap (λ w. has_bit w j) is ∙ with_bit_tells word i j few ∙ or_right (has_bit word j) (j == i) (eq-eqb j i same),
          ))
          (λ (apart : j ≢ i).
          let below : j < i = omega arith in
          let bit : has_bit new j ≡ has_bit word j = ap (λ w. has_bit w j) is ∙ with_bit_tells word i j few ∙ or_none (has_bit word j) (j == i) (ne_eqb j i apart) in
          (λ has. (t.told j d below).0 (sym bit ∙ has), λ m. bit ∙ (t.told j d below).1 m))
          (cases_eq j i);
      blank = λ j from.
          let apart : j ≢ i = omega arith in
          ap (λ w. has_bit w j) is ∙ with_bit_tells word i j few ∙ or_none (has_bit word j) (j == i) (ne_eqb j i apart) ∙ t.blank j (omega arith);
    }

    pub told_skip : (new : ℕ) → new ≡ word → (Meet item set → ⊥) → IsTold sets set (i + 1) new
    told_skip new is apart_sets = record {
      told = λ j d less. ⊎_elim
          (λ (same : j ≡ i). (
            λ has. absurd (false≢true (sym (t.blank j (omega (arith, same))) ∙ sym (ap (λ w. has_bit w j) is) ∙ has)),
            λ m. absurd (apart_sets (subst (λ y. Meet y set) (same_item d) (subst (λ x. Meet (get_or sets x d) set) same m))),
          ))
          (λ (apart : j ≢ i).
          let below : j < i = omega arith in
          let bit : has_bit new j ≡ has_bit word j = ap (λ w. has_bit w j) is in
          (λ has. (t.told j d below).0 (sym bit ∙ has), λ m. bit ∙ (t.told j d below).1 m))
          (cases_eq j i);
      blank = λ j from. ap (λ w. has_bit w j) is ∙ t.blank j (omega arith);
    }

  pub told-end : (sets : List (ClassSet W)) (set : ClassSet W) (i word : ℕ) → length sets ≤ i → IsTold sets set i word → (k : ℕ) (d : ClassSet W) → k < length sets → (has_bit word k ≡ true) ↔ Meet (get_or sets k d) set
  told-end sets set i word end t k d less = t.told k d (omega arith)

  -- one word more of a row
  pub kills_more : (needs writes : List (ClassSet W)) (item : ClassSet W) (row : List ℕ) (i word : ℕ) → length row ≡ i → i < length writes → item ≡ get_or writes i item
      → ((node k : ℕ) (d : ClassSet W) → node < i → k < length needs → HasBit row k node ↔ Meet (get_or needs k d) (get_or writes node d))
      → ((k : ℕ) (d : ClassSet W) → k < length needs → (has_bit word k ≡ true) ↔ Meet (get_or needs k d) item)
      → (node k : ℕ) (d : ClassSet W) → node < i + 1 → k < length needs → HasBit (row ++ word ∷ []) k node ↔ Meet (get_or needs k d) (get_or writes node d)
  kills_more needs writes item row i word count within at old new node k d less few = ⊎_elim
      (λ (same : node ≡ i).
      let here : get_or (row ++ word ∷ []) node 0 ≡ word = get_or_push row word 0 node (count ∙ sym same) in
      let item_is : get_or writes node d ≡ item = ap (λ x. get_or writes x d) same ∙ get_or_default writes i d item within ∙ sym at in (
        λ has. subst (λ y. Meet (get_or needs k d) y) (sym item_is) ((new k d few).0 (sym (ap (λ w. has_bit w k) here) ∙ has)),
        λ m. ap (λ w. has_bit w k) here ∙ (new k d few).1 (subst (λ y. Meet (get_or needs k d) y) item_is m),
      ))
      (λ (apart : node ≢ i).
      let below : node < i = omega arith in
      let here : get_or (row ++ word ∷ []) node 0 ≡ get_or row node 0 = get_or_append_left row (word ∷ []) 0 node (omega (arith, count)) in
      (λ has. (old node k d below few).0 (sym (ap (λ w. has_bit w k) here) ∙ has), λ m. ap (λ w. has_bit w k) here ∙ (old node k d below few).1 m))
      (cases_eq node i)
