-- Brackets stand once: how this is kept while lists change.
use Rattle.std.proofs.Common.{◌≡◌, ◌≢◌, ◌==◌, ◌⊎◌, inl, inr, ℕ, ◌*◌, ◌<◌, ◌++◌, Bool, true, false, List, [], ◌∷◌, length, set, if◌then◌else◌, refl, sym, ap, subst, ◌∙◌, ⊎_elim, arith, length-set}
use Rattle.std.proofs.lemmas.Bool.{cases_eq}
use Rattle.std.proofs.lemmas.List.{get_or-set_same, get_or-set_other}
use Rattle.brackets.specs.Brackets.{AreApart, IsFree, IsOnce, Stands, list_at, without}

-- ---- one sequence

pub stands_append : (xs ys : List ℕ) (x : ℕ) → Stands (xs ++ ys) x → Stands xs x ⊎ Stands ys x
stands_append [] ys x stands = inr stands
stands_append (y ∷ xs) ys x (inl is) = inl (inl is)
stands_append (y ∷ xs) ys x (inr later) = ⊎_elim (λ upper. inl (inr upper)) (λ lower. inr lower) (stands_append xs ys x later)

pub once_append : (xs ys : List ℕ) → IsOnce xs → IsOnce ys → ((x : ℕ) → Stands xs x → Stands ys x → ⊥) → IsOnce (xs ++ ys)
once_append [] ys once other apart = other
once_append (x ∷ xs) ys (not, once) other apart = (
  λ stands. ⊎_elim (λ upper. not upper) (λ lower. apart x (inl refl) lower) (stands_append xs ys x stands),
  once_append xs ys once other (λ y upper lower. apart y (inr upper) lower),
)

stands_if : (b : Bool) (xs ys : List ℕ) (x : ℕ) → Stands (if b then xs else ys) x → Stands xs x ⊎ Stands ys x
stands_if true xs ys x stands = inl stands
stands_if false xs ys x stands = inr stands

kept_or : (z y : ℕ) (zs rest : List ℕ) → (Stands rest y → Stands zs y) → Stands (z ∷ rest) y → Stands (z ∷ zs) y
kept_or z y zs rest fewer (inl is) = inl is
kept_or z y zs rest fewer (inr lower) = inr (fewer lower)

pub stands_without : (xs : List ℕ) (x y : ℕ) → Stands (without xs x) y → Stands xs y
stands_without [] x y stands = stands
stands_without (z ∷ zs) x y stands = ⊎_elim
    (λ lower. inr lower)
    (λ later. kept_or z y zs (without zs x) (stands_without zs x y) later)
    (stands_if (z == x) zs (z ∷ without zs x) y stands)

-- ---- all lists

module _ (lists : List (List ℕ)) (are : AreApart lists) where
  -- one list is another one now, whose brackets stood there or were free
  pub apart_put : (l : ℕ) (xs : List ℕ) → l < length lists → IsOnce xs → ((x : ℕ) → Stands xs x → Stands (list_at lists l) x ⊎ IsFree lists x) → ((x : ℕ) → Stands xs x → x < 2 * length lists) → AreApart (set lists l xs)
  apart_put l xs inside once from range = record {
    in_range = λ m x stands. ⊎_elim
        (λ (same : m ≡ l). let here = subst (λ ys. Stands ys x) (at m same) stands in let lt = range x here in let many = length-set lists l xs in omega (arith, lt, many))
        (λ differ. let lt = are.in_range m x (subst (λ ys. Stands ys x) (other m differ) stands) in let many = length-set lists l xs in omega (arith, lt, many))
        (cases_eq m l);
    once = λ m. ⊎_elim
        (λ (same : m ≡ l). subst IsOnce (sym (at m same)) once)
        (λ differ. subst IsOnce (sym (other m differ)) (are.once m))
        (cases_eq m l);
    one_list = λ m n x first second. ⊎_elim
        (λ (same : m ≡ l). ⊎_elim
        (λ (too : n ≡ l). same ∙ sym too)
        (λ differ. sym (only n m x (subst (λ ys. Stands ys x) (at m same) first) (subst (λ ys. Stands ys x) (other n differ) second) same))
        (cases_eq n l))
        (λ apart. ⊎_elim
        (λ (too : n ≡ l). only m n x (subst (λ ys. Stands ys x) (at n too) second) (subst (λ ys. Stands ys x) (other m apart) first) too)
        (λ differ. are.one_list m n x (subst (λ ys. Stands ys x) (other m apart) first) (subst (λ ys. Stands ys x) (other n differ) second))
        (cases_eq n l))
        (cases_eq m l);
  }
    where
      at : (m : ℕ) → m ≡ l → list_at (set lists l xs) m ≡ xs
      at m same = ap (list_at (set lists l xs)) same ∙ get_or-set_same lists l xs [] inside

      other : (m : ℕ) → m ≢ l → list_at (set lists l xs) m ≡ list_at lists m
      other m differ = get_or-set_other lists l m xs [] differ

      only : (m n x : ℕ) → Stands xs x → Stands (list_at lists m) x → n ≡ l → m ≡ n
      only m n x here there same = ⊎_elim
          (λ old. are.one_list m l x there old ∙ sym same)
          (λ free. absurd (free m there))
          (from x here)
