-- What lists hold, and lists whose items all differ.
use Rattle.std.proofs.Common.{◌≡◌, ℕ, zero, suc, ◌<◌, ◌≤◌, ◌⊎◌, Bool, true, false, List, [], ◌∷◌, ◌++◌, length, take, replicate, get_or, refl, sym, ap, subst, inl, inr, ⊎_elim, arith}
use Rattle.std.proofs.lemmas.Bool.{cases_Bool}
use Rattle.std.proofs.lemmas.List.{get_or-replicate, get_or_past, length-replicate}
use Rattle.std.specs.List.{filter}
use Rattle.closed_walks.specs.Walk.{Holds}
use Rattle.closed_walks.specs.Cycle.{AllDiffer}

pub Holds-left : (xs ys : List ℕ) (e : ℕ) → Holds xs e → Holds (xs ++ ys) e
Holds-left [] ys e h = absurd h
Holds-left (x ∷ xs) ys e (inl same) = inl same
Holds-left (x ∷ xs) ys e (inr h) = inr (Holds-left xs ys e h)

pub Holds-right : (xs ys : List ℕ) (e : ℕ) → Holds ys e → Holds (xs ++ ys) e
Holds-right [] ys e h = h
Holds-right (x ∷ xs) ys e h = inr (Holds-right xs ys e h)

pub Holds-append : (xs ys : List ℕ) (e : ℕ) → Holds (xs ++ ys) e → Holds xs e ⊎ Holds ys e
Holds-append [] ys e h = inr h
Holds-append (x ∷ xs) ys e (inl same) = inl (inl same)
Holds-append (x ∷ xs) ys e (inr h) = ⊎_elim (λ l. inl (inr l)) (λ r. inr r) (Holds-append xs ys e h)

pub Holds-at : (xs : List ℕ) (k : ℕ) → k < length xs → Holds xs (get_or xs k 0)
Holds-at [] k within = absurd (omega (arith, within))
Holds-at (x ∷ xs) zero within = inl refl
Holds-at (x ∷ xs) (suc k) within = inr (Holds-at xs k (omega arith))

-- a place of an item
pub record IsAt (xs : List ℕ) (e : ℕ) : Type 0 where
  pub place : ℕ
  pub within : place < length xs
  pub is : get_or xs place 0 ≡ e

pub at_Holds : (xs : List ℕ) (e : ℕ) → Holds xs e → IsAt xs e
at_Holds [] e h = absurd h
at_Holds (x ∷ xs) e (inl same) = record { place = zero; within = omega arith; is = same }
at_Holds (x ∷ xs) e (inr h) = let p : IsAt xs e = at_Holds xs e h in record { place = suc p.place; within = omega (arith, p.within); is = p.is }

-- a longer prefix holds what the first list of two holds
pub Holds-take_append : (n : ℕ) (xs ys : List ℕ) (e : ℕ) → length xs ≤ n → Holds xs e → Holds (take n (xs ++ ys)) e
Holds-take_append n [] ys e long h = absurd h
Holds-take_append zero (x ∷ xs) ys e long h = absurd (omega (arith, long))
Holds-take_append (suc n) (x ∷ xs) ys e long (inl same) = inl same
Holds-take_append (suc n) (x ∷ xs) ys e long (inr h) = inr (Holds-take_append n xs ys e (omega arith) h)

-- ---- filters

pub Holds-filter : (test : ℕ → Bool) (xs : List ℕ) (e : ℕ) → Holds xs e → test e ≡ true → Holds (filter test xs) e
Holds-filter test [] e h passes = absurd h
Holds-filter test (x ∷ xs) e h passes = ⊎_elim
    (λ (yes_x : test x ≡ true). rw yes_x (⊎_elim (λ same. inl same) (λ rest. inr (Holds-filter test xs e rest passes)) h))
    (λ (no_x : test x ≡ false). rw no_x (⊎_elim (λ (same : x ≡ e). absurd (let other = ap test same in cc)) (λ rest. Holds-filter test xs e rest passes) h))
    (cases_Bool (test x))

pub filter-Holds : (test : ℕ → Bool) (xs : List ℕ) (e : ℕ) → Holds (filter test xs) e → Holds xs e × (test e ≡ true)
filter-Holds test [] e h = absurd h
filter-Holds test (x ∷ xs) e h = ⊎_elim
    (λ (yes_x : test x ≡ true).
    let there = rw yes_x at h in
    ⊎_elim (λ (same : x ≡ e). (inl same, subst (λ y. test y ≡ true) same yes_x)) (λ rest. let p = filter-Holds test xs e rest in (inr p.0, p.1)) there)
    (λ (no_x : test x ≡ false). let there = rw no_x at h in let p = filter-Holds test xs e there in (inr p.0, p.1))
    (cases_Bool (test x))

-- ---- lists whose items differ

pub AllDiffer-append : (xs ys : List ℕ) → AllDiffer xs → AllDiffer ys → ((e : ℕ) → Holds xs e → Holds ys e → ⊥) → AllDiffer (xs ++ ys)
AllDiffer-append [] ys first second apart = second
AllDiffer-append (x ∷ xs) ys first second apart = grind (arith, Holds-append xs ys x, AllDiffer-append xs ys first.1 second)

pub AllDiffer-apart : (xs ys : List ℕ) (e : ℕ) → AllDiffer (xs ++ ys) → Holds xs e → Holds ys e → ⊥
AllDiffer-apart [] ys e differ h r = h
AllDiffer-apart (x ∷ xs) ys e differ (inl same) r = differ.0 (Holds-right xs ys x (subst (λ n. Holds ys n) (sym same) r))
AllDiffer-apart (x ∷ xs) ys e differ (inr h) r = AllDiffer-apart xs ys e differ.1 h r

pub AllDiffer-filter : (test : ℕ → Bool) (xs : List ℕ) → AllDiffer xs → AllDiffer (filter test xs)
AllDiffer-filter test [] differ = tt
AllDiffer-filter test (x ∷ xs) differ = ⊎_elim
    (λ (yes_x : test x ≡ true). rw yes_x (λ h. differ.0 (filter-Holds test xs x h).0, AllDiffer-filter test xs differ.1))
    (λ (no_x : test x ≡ false). rw no_x (AllDiffer-filter test xs differ.1))
    (cases_Bool (test x))

pub AllDiffer-rising : (xs : List ℕ) → ((i j : ℕ) → i < j → j < length xs → get_or xs i 0 < get_or xs j 0) → AllDiffer xs
AllDiffer-rising [] rises = tt
AllDiffer-rising (x ∷ xs) rises = (
  λ h. let p : IsAt xs x = at_Holds xs x h in let up : x < get_or xs p.place 0 = rises zero (suc p.place) (omega arith) (omega (arith, p.within)) in let same = p.is in omega (arith, up, same),
  AllDiffer-rising xs (λ i j less within. rises (suc i) (suc j) (omega arith) (omega arith)),
)

pub AllDiffer-right : (xs ys : List ℕ) → AllDiffer (xs ++ ys) → AllDiffer ys
AllDiffer-right [] ys differ = differ
AllDiffer-right (x ∷ xs) ys differ = AllDiffer-right xs ys differ.1

-- what stands before an item, and what stands after it
pub record IsSplitAt (xs : List ℕ) (e : ℕ) : Type 0 where
  pub prefix : List ℕ
  pub back : List ℕ
  pub parts : xs ≡ prefix ++ e ∷ back

pub split_at : (xs : List ℕ) (e : ℕ) → Holds xs e → IsSplitAt xs e
split_at [] e h = absurd h
split_at (x ∷ xs) e (inl same) = record { prefix = []; back = xs; parts = ap (λ y. y ∷ xs) same }
split_at (x ∷ xs) e (inr h) = let s : IsSplitAt xs e = split_at xs e h in record { prefix = x ∷ s.prefix; back = s.back; parts = ap (λ ys. x ∷ ys) s.parts }

-- a list of zeros
pub zero_of : (xs : List ℕ) (n : ℕ) → xs ≡ replicate n 0 → (k : ℕ) → get_or xs k 0 ≡ 0
zero_of xs n is k = grind (arith, get_or-replicate, get_or_past, length-replicate {A = ℕ})
