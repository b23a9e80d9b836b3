-- Lists that have the values of a function.
use Rattle.std.proofs.Common.{◌≡◌, ◌≢◌, ℕ, ◌<◌, List, [], ◌∷◌, length, get_or, set, replicate, Option, unwrap_or, refl, sym, ap, ◌∙◌, ⊎_elim, arith, get_or-set_same, get_or-set_other, length-set, subst}
use Rattle.std.proofs.lemmas.Bool.{cases_eq}
use Rattle.std.proofs.lemmas.List.{length-replicate, get_or-replicate, get_or_default}
use Rattle.cycle_equiv.specs.Walking.{put}
use Rattle.cycle_equiv.specs.BracketLists.{top}
use Rattle.cycle_equiv.specs.WalkState.{IsTold}
use Rattle.cycle_equiv.specs.WalkTables.{IsTable}
use Rattle.cycle_equiv.proofs.Steps.{put_same, put_other}

module _ {A : Type 0} (n : ℕ) (default : A) where
  -- a write
  pub table_put : (xs : List A) (f : ℕ → A) (i : ℕ) (a : A) → i < length xs → IsTable n xs default f → IsTable n (set xs i a) default (put f i a)
  table_put xs f i a inside t = grind (arith, length-set xs, get_or-set_same xs, put_same f, get_or-set_other xs, put_other f)

  -- a function that has the same values
  pub table_as : (xs : List A) (f h : ℕ → A) → ((k : ℕ) → k < n → f k ≡ h k) → IsTable n xs default f → IsTable n xs default h
  table_as xs f h same t = record { size = t.size; exact = λ k less. t.exact k less ∙ same k less }

  pub table_full : (a : A) → IsTable n (replicate n a) default (λ k. a)
  table_full a = record { size = length-replicate n a; exact = λ k less. get_or-replicate n k a default less }

  pub table_inside : (xs : List A) (f : ℕ → A) → IsTable n xs default f → (k : ℕ) → k < n → k < length xs
  table_inside xs f t k less = let long = t.size in omega (arith, long, less)

  -- what is read is the function's value
  pub table_read : (xs : List A) (f : ℕ → A) (k : ℕ) (a : A) → k < length xs → a ≡ get_or xs k a → IsTable n xs default f → a ≡ f k
  table_read xs f k a inside is t = grind (arith, get_or_default xs k a default inside, t.exact k)

  pub table_set : (xs new : List A) (f : ℕ → A) (i : ℕ) (a : A) → i < n → new ≡ set xs i a → IsTable n xs default f → IsTable n new default (put f i a)
  table_set xs new f i a less is t = subst (λ ys. IsTable n ys default (put f i a)) (sym is) (table_put xs f i a (table_inside xs f t i less) t)

-- numbers that tell the tops of lists
pub tops_put : (n : ℕ) (xs new : List ℕ) (tops : ℕ → Option ℕ) (e : ℕ) (t : Option ℕ) → e < n → new ≡ set xs e (unwrap_or t 0) → IsTable n xs 0 (λ k. unwrap_or (tops k) 0) → IsTable n new 0 (λ k. unwrap_or (put tops e t k) 0)
tops_put n xs new tops e t less is table =
    table_as n 0 new (put (λ k. unwrap_or (tops k) 0) e (unwrap_or t 0)) (λ k. unwrap_or (put tops e t k) 0)
    (λ k inside. ⊎_elim
    (λ (same : k ≡ e). put_same (λ j. unwrap_or (tops j) 0) e (unwrap_or t 0) k same ∙ sym (ap (λ o. unwrap_or o 0) (put_same tops e t k same)))
    (λ (apart : k ≢ e). put_other (λ j. unwrap_or (tops j) 0) e (unwrap_or t 0) k apart ∙ sym (ap (λ o. unwrap_or o 0) (put_other tops e t k apart)))
    (cases_eq k e))
    (table_set n 0 xs new (λ k. unwrap_or (tops k) 0) e (unwrap_or t 0) less is table)

-- they tell them, with the sizes
pub told_put : (tops : ℕ → Option ℕ) (sizes : ℕ → ℕ) (e : ℕ) (t : Option ℕ) (n : ℕ) → IsTold t n → ((k : ℕ) → IsTold (tops k) (sizes k)) → (k : ℕ) → IsTold (put tops e t k) (put sizes e n k)
told_put tops sizes e t n here there k = grind (arith, put_same tops, put_same sizes, put_other tops, put_other sizes)

pub told_same : (s t : Option ℕ) (m n : ℕ) → IsTold s m → IsTold t n → m ≡ n → unwrap_or s 0 ≡ unwrap_or t 0 → s ≡ t
told_same h h2 m n s_told t_told same tops = grind arith

pub told_list : (xs : List ℕ) → IsTold (top xs) (length xs)
told_list [] = refl
told_list (x ∷ xs) = omega arith
