-- Lists in a strict order: one is determined by its members.
use Rattle.std.proofs.Common.{◌≡◌, ◌≢◌, ℕ, ◌<◌, ◌≤◌, List, [], ◌∷◌, ◌++◌, length, refl, sym, ap₂, ◌∙◌, subst, inl, inr, ⊎_elim, arith}
use Rattle.std.proofs.lemmas.Bool.{cases_eq, eq-eqb, ne_eqb}
use Rattle.closed_walks.specs.Graph.{Graph}
use Rattle.closed_walks.specs.Walk.{Holds}
use Rattle.closed_walks.proofs.Walks.{Holds-append}
use Rattle.brackets.specs.Brackets.{without}
use Rattle.cycle_equiv.specs.DepthFirst.{Tree}
use Rattle.cycle_equiv.specs.BracketLists.{place, IsOver, AreInOrder}

-- the members of the one list are members of the other
abbrev pub IsWithin : List ℕ → List ℕ → Type 0
IsWithin xs ys = (z : ℕ) → Holds xs z → Holds ys z

module _ (g : Graph) (t : Tree) where
  pub over_apart : (b c : ℕ) → IsOver g t b c → IsOver g t c b → ⊥
  over_apart b c first second = grind arith

  -- a list within another one, without the first of each, or the whole within the rest
  tails_within : (x y : ℕ) (xs ys : List ℕ) → AreInOrder g t (x ∷ xs) → IsWithin (x ∷ xs) (y ∷ ys) → x ≡ y → IsWithin xs ys
  tails_within x y xs ys order within same z holds = grind (arith, over_apart x)

  whole_within : (x y : ℕ) (xs ys : List ℕ) → AreInOrder g t (x ∷ xs) → AreInOrder g t (y ∷ ys) → IsWithin (x ∷ xs) (y ∷ ys) → x ≢ y → IsWithin (x ∷ xs) ys
  whole_within x y xs ys order others within apart z holds = grind (arith, over_apart)

  pub not_longer : (xs ys : List ℕ) → AreInOrder g t xs → AreInOrder g t ys → IsWithin xs ys → length xs ≤ length ys
  not_longer [] ys order others within = omega arith
  not_longer (x ∷ xs) [] order others within = absurd (within x (inl refl))
  not_longer (x ∷ xs) (y ∷ ys) order others within = grind (arith, not_longer xs ys order.1 others.1, tails_within, whole_within)

  pub same_list : (xs ys : List ℕ) → AreInOrder g t xs → AreInOrder g t ys → IsWithin xs ys → length xs ≡ length ys → xs ≡ ys
  same_list [] [] order others within long = refl
  same_list [] (y ∷ ys) order others within long = absurd (omega (arith, long))
  same_list (x ∷ xs) [] order others within long = absurd (within x (inl refl))
  same_list (x ∷ xs) (y ∷ ys) order others within long = ⊎_elim
      (λ (same : x ≡ y). ap₂ (λ h r. h ∷ r) same (same_list xs ys order.1 others.1 (tails_within x y xs ys order within same) (omega (arith, long))))
      (λ (apart : x ≢ y). let rest = not_longer (x ∷ xs) ys order others.1 (whole_within x y xs ys order others within apart) in absurd (omega (arith, rest, long)))
      (cases_eq x y)

  -- lists in order with the same members are the same
  pub one_list : (xs ys : List ℕ) → AreInOrder g t xs → AreInOrder g t ys → IsWithin xs ys → IsWithin ys xs → xs ≡ ys
  one_list xs ys order others within back =
      grind (arith, not_longer xs ys order others within, not_longer ys xs others order back, same_list xs ys order others within)

  -- a list in order that has one member
  pub single : (xs : List ℕ) (b : ℕ) → AreInOrder g t xs → Holds xs b → ((z : ℕ) → Holds xs z → z ≡ b) → xs ≡ b ∷ []
  single xs b order holds alone = one_list xs (b ∷ []) order ((λ c h. absurd h), tt)
      (λ z h. inl (sym (alone z h)))
      (λ z h. ⊎_elim (λ (same : b ≡ z). subst (λ v. Holds xs v) same holds) (λ none. absurd none) h)

  -- the first of a list in order stands no lower than the others
  pub first_least : (x : ℕ) (xs : List ℕ) → AreInOrder g t (x ∷ xs) → (z : ℕ) → Holds (x ∷ xs) z → place g t x ≤ place g t z
  first_least x xs order z holds = grind arith

-- a list whose brackets have the same places in another tree
pub in_order_as : (g : Graph) (s t : Tree) (xs : List ℕ) → ((b : ℕ) → Holds xs b → place g t b ≡ place g s b) → AreInOrder g s xs → AreInOrder g t xs
in_order_as g s t [] same order = tt
in_order_as g s t (x ∷ xs) same order = (
  λ c holds.
      let first = same x (inl refl) in
      let other = same c (inr holds) in
      ⊎_elim
      (λ (less : place g s x < place g s c). inl (omega (arith, first, other, less)))
      (λ (level : (place g s x ≡ place g s c) × (c < x)). inr (first ∙ level.0 ∙ sym other, level.1))
      (order.0 c holds),
  in_order_as g s t xs (λ b holds. same b (inr holds)) order.1,
)

-- a list without one of its members, and two lists one under the other
module _ (g : Graph) (t : Tree) where
  pub without_was : (xs : List ℕ) (e c : ℕ) → Holds (without xs e) c → Holds xs c
  without_was [] e c holds = holds
  without_was (x ∷ xs) e c holds = ⊎_elim
      (λ (same : x ≡ e). inr (rw (eq-eqb x e same) at holds))
      (λ (apart : x ≢ e).
      let there : Holds (x ∷ without xs e) c = rw (ne_eqb x e apart) at holds in
      ⊎_elim (λ here. inl here) (λ (rest : Holds (without xs e) c). inr (without_was xs e c rest)) there)
      (cases_eq x e)

  pub in_order_without : (xs : List ℕ) (e : ℕ) → AreInOrder g t xs → AreInOrder g t (without xs e)
  in_order_without [] e order = tt
  in_order_without (x ∷ xs) e order = grind (arith, eq-eqb, ne_eqb, without_was xs, in_order_without xs)

  pub without_apart : (xs : List ℕ) (e c : ℕ) → AreInOrder g t xs → Holds (without xs e) c → c ≢ e
  without_apart [] e c order holds = absurd holds
  without_apart (x ∷ xs) e c order holds = ⊎_elim
      (λ (same : x ≡ e).
      let rest : Holds xs c = rw (eq-eqb x e same) at holds in
      λ equal. let over = order.0 c rest in over_apart g t x c over (subst (λ n. IsOver g t n x) (same ∙ sym equal) (subst (λ n. IsOver g t x n) (equal ∙ sym same) over)))
      (λ (apart : x ≢ e).
      let there : Holds (x ∷ without xs e) c = rw (ne_eqb x e apart) at holds in
      ⊎_elim (λ (here : x ≡ c). λ equal. apart (here ∙ equal)) (λ (rest : Holds (without xs e) c). without_apart xs e c order.1 rest) there)
      (cases_eq x e)

  pub without_still : (xs : List ℕ) (e c : ℕ) → Holds xs c → c ≢ e → Holds (without xs e) c
  without_still [] e c holds apart = holds
  without_still (x ∷ xs) e c holds apart = ⊎_elim
      (λ (same : x ≡ e). rw (eq-eqb x e same) (⊎_elim (λ (here : x ≡ c). absurd (apart (sym here ∙ same))) (λ (rest : Holds xs c). rest) holds))
      (λ (differs : x ≢ e). rw (ne_eqb x e differs) (⊎_elim (λ (here : x ≡ c). inl here) (λ (rest : Holds xs c). inr (without_still xs e c rest apart)) holds))
      (cases_eq x e)

  pub in_order_append : (xs ys : List ℕ) → AreInOrder g t xs → AreInOrder g t ys → ((b c : ℕ) → Holds xs b → Holds ys c → IsOver g t b c) → AreInOrder g t (xs ++ ys)
  in_order_append [] ys first second over = second
  in_order_append (x ∷ xs) ys first second over = (
    λ c holds. ⊎_elim
        (λ (h : Holds xs c). first.0 c h)
        (λ (h : Holds ys c). over x c (inl refl) h)
        (Holds-append xs ys c holds),
    in_order_append xs ys first.1 second (λ b c b_holds c_holds. over b c (inr b_holds) c_holds),
  )
