-- One after another, the capping brackets that lead to a place go out of a list.
use Rattle.std.proofs.Common.{◌≡◌, ◌≢◌, ℕ, zero, suc, ◌+◌, ◌<◌, ◌^◌, List, [], ◌∷◌, ◌++◌, length, set, refl, sym, ap, ◌∙◌, subst, inl, inr, ⊎_elim, arith, get_or-set_same, get_or-set_other}
use Rattle.std.proofs.lemmas.Bool.{cases_eq, eq-eqb, ne_eqb, lt-ltb}
use Rattle.brackets.specs.Brackets.{Stands, IsOnce, IsFree, list_at, without}
use Rattle.brackets.proofs.ApartLemmas.{stands_without}
use Rattle.brackets.proofs.DeleteLemmas.{list_inside}
use Rattle.cycle_equiv.specs.CapLists.{HaveCaps, caps_at, ended, ended_list}

pub set_twice : {A : Type 0} (xs : List A) (i : ℕ) (a b : A) → set (set xs i a) i b ≡ set xs i b
set_twice [] i a b = refl
set_twice (x ∷ xs) zero a b = refl
set_twice (x ∷ xs) (suc i) a b = ap (λ ys. x ∷ ys) (set_twice xs i a b)

pub stands_push : (xs : List ℕ) (x y : ℕ) → Stands xs y → Stands (xs ++ x ∷ []) y
stands_push [] x y stands = absurd stands
stands_push (z ∷ zs) x y stands = ⊎_elim (λ here. inl here) (λ (there : Stands zs y). inr (stands_push zs x y there)) stands

pub stands_last : (xs : List ℕ) (x : ℕ) → Stands (xs ++ x ∷ []) x
stands_last [] x = inl refl
stands_last (z ∷ zs) x = inr (stands_last zs x)

once_prefix : (xs : List ℕ) (x : ℕ) → IsOnce (xs ++ x ∷ []) → IsOnce xs
once_prefix [] x once = tt
once_prefix (z ∷ zs) x once = (λ stands. once.0 (stands_push zs x z stands), once_prefix zs x once.1)

once_last : (xs : List ℕ) (x : ℕ) → IsOnce (xs ++ x ∷ []) → Stands xs x → ⊥
once_last [] x once stands = absurd stands
once_last (z ∷ zs) x once stands = ⊎_elim
    (λ (here : z ≡ x). once.0 (subst (λ n. Stands (zs ++ x ∷ []) n) (sym here) (stands_last zs x)))
    (λ (there : Stands zs x). once_last zs x once.1 there)
    stands

stands_still : (xs : List ℕ) (e c : ℕ) → Stands xs c → c ≢ e → Stands (without xs e) c
stands_still [] e c stands apart = absurd stands
stands_still (x ∷ xs) e c stands apart = ⊎_elim
    (λ (same : x ≡ e). rw (eq-eqb x e same) (⊎_elim (λ (here : x ≡ c). absurd (apart (sym here ∙ same))) (λ (rest : Stands xs c). rest) stands))
    (λ (differs : x ≢ e). rw (ne_eqb x e differs) (⊎_elim (λ (here : x ≡ c). inl here) (λ (rest : Stands xs c). inr (stands_still xs e c rest apart)) stands))
    (cases_eq x e)

ended_push : (edges f : ℕ) (xs fs : List ℕ) → ended edges xs (fs ++ f ∷ []) ≡ ended edges (without xs (edges + f)) fs
ended_push edges f xs [] = refl
ended_push edges f xs (d ∷ fs) = ap (λ ys. without ys (edges + d)) (ended_push edges f xs fs)

module _ (edges f : ℕ) (fs : List ℕ) where
  pub caps_fewer : (xs : List ℕ) → HaveCaps edges xs (fs ++ f ∷ []) → HaveCaps edges (without xs (edges + f)) fs
  caps_fewer xs h = grind (arith, once_prefix fs f h.once, stands_still xs (edges + f), stands_push fs f, once_last fs f h.once)

  pub caps_last : (xs : List ℕ) → HaveCaps edges xs (fs ++ f ∷ []) → Stands xs (edges + f) × (edges + f < 2 ^ 32)
  caps_last xs h = (h.stand f (stands_last fs f), h.few f (stands_last fs f))

  pub caps_step : (lists : List (List ℕ)) (list : ℕ) → Stands (list_at lists list) (edges + f)
      → (list_at (set lists list (without (list_at lists list) (edges + f))) list ≡ without (list_at lists list) (edges + f))
      × (set (set lists list (without (list_at lists list) (edges + f))) list (ended edges (without (list_at lists list) (edges + f)) fs) ≡ set lists list (ended edges (list_at lists list) (fs ++ f ∷ [])))
  caps_step lists list stands =
      grind (arith, get_or-set_same lists list (without (list_at lists list) (edges + f)), list_inside lists list (edges + f) stands, set_twice lists list (without (list_at lists list) (edges + f)) (ended edges (without (list_at lists list) (edges + f)) fs), ended_push edges f (list_at lists list) fs)

-- ---- the node's own capping bracket

pub stands_ended : (edges : ℕ) (xs fs : List ℕ) (y : ℕ) → Stands (ended edges xs fs) y → Stands xs y
stands_ended edges xs [] y stands = stands
stands_ended edges xs (f ∷ fs) y stands = stands_ended edges xs fs y (stands_without (ended edges xs fs) (edges + f) y stands)

module _ (lists : List (List ℕ)) (f edges : ℕ) (inside : f < length lists) where
  -- a bracket in no list is in none after some went
  pub free_ended : (fs : List ℕ) (b : ℕ) → IsFree lists b → IsFree (set lists f (ended edges (list_at lists f) fs)) b
  free_ended fs b free l stands = grind (arith, stands_ended edges, get_or-set_same lists, get_or-set_other lists)

  pub own_pushed : (caps : List (List ℕ)) (place second : ℕ) (fs : List ℕ) (mid new : List (List ℕ)) → second < place → fs ≡ caps_at caps place
      → mid ≡ set lists f (ended edges (list_at lists f) fs) → new ≡ set mid f ((edges + f) ∷ list_at mid f) → new ≡ set lists f (ended_list edges lists caps f place second)
  own_pushed caps place second fs mid new above is first then = grind (arith, get_or-set_same lists f, set_twice lists f, lt-ltb second place above)
