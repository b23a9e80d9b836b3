-- Members of lists, and where they stand.
use Rattle.std.proofs.Common.{◌≡◌, ℕ, zero, suc, ◌+◌, ◌<◌, ◌≤◌, ◌⊎◌, Bool, true, false, cond, ◌||◌, List, [], ◌∷◌, ◌++◌, length, get_or, map, flat_map, filter, Contains, refl, sym, ap, ◌∙◌, subst, inl, inr, ⊎_elim, arith}
use Rattle.std.proofs.lemmas.Bool.{cases_Bool, or_right, or_cases, false≢true}
use Rattle.std.specs.List.{range_with_len, list_any}
use Rattle.list_laws.specs.Member.{Member}

module _ {X : Type 0} where
  pub Member-left : (xs ys : List X) (x : X) → Member xs x → Member (xs ++ ys) x
  Member-left [] ys x m = absurd m
  Member-left (z ∷ xs) ys x (inl same) = inl same
  Member-left (z ∷ xs) ys x (inr m) = inr (Member-left xs ys x m)

  pub Member-right : (xs ys : List X) (x : X) → Member ys x → Member (xs ++ ys) x
  Member-right [] ys x m = m
  Member-right (z ∷ xs) ys x m = inr (Member-right xs ys x m)

  pub Member-cases : (xs ys : List X) (x : X) → Member (xs ++ ys) x → Member xs x ⊎ Member ys x
  Member-cases [] ys x m = inr m
  Member-cases (z ∷ xs) ys x (inl same) = inl (inl same)
  Member-cases (z ∷ xs) ys x (inr m) = ⊎_elim (λ l. inl (inr l)) (λ r. inr r) (Member-cases xs ys x m)

  -- where it stands
  pub record IsAt (xs : List X) (x : X) : Type 0 where
    pub place : ℕ
    pub exists : place < length xs
    pub is : (d : X) → get_or xs place d ≡ x

  pub at_of : (xs : List X) (x : X) → Member xs x → IsAt xs x
  at_of [] x m = absurd m
  at_of (y ∷ ys) x (inl same) = record { place = 0; exists = omega arith; is = λ d. same }
  at_of (y ∷ ys) x (inr m) =
      let r : IsAt ys x = at_of ys x m in
      record { place = suc r.place; exists = omega (arith, r.exists); is = r.is }

  pub Member-at : (xs : List X) (i : ℕ) (d : X) → i < length xs → Member xs (get_or xs i d)
  Member-at [] i d below = absurd (omega (arith, below))
  Member-at (x ∷ xs) zero d below = inl refl
  Member-at (x ∷ xs) (suc i) d below = inr (Member-at xs i d (omega (arith, below)))

  pub Member-from_Contains : (xs : List X) (x : X) → Contains xs x → Member xs x
  Member-from_Contains xs x c = subst (λ y. Member xs y) c.2 (Member-at xs c.0 x c.1)

  pub Contains-from_Member : (xs : List X) (x : X) → Member xs x → Contains xs x
  Contains-from_Member xs x m = let r : IsAt xs x = at_of xs x m in (r.place, r.exists, r.is x)

  pub Member-filter : (test : X → Bool) (xs : List X) (x : X) → Member xs x → test x ≡ true → Member (filter test xs) x
  Member-filter test [] x m passes = absurd m
  Member-filter test (y ∷ ys) x (inl same) passes =
      let here : test y ≡ true = ap test same ∙ passes in
      subst (λ b. Member (cond b (y ∷ filter test ys) (filter test ys)) x) (sym here) (inl same)
  Member-filter test (y ∷ ys) x (inr m) passes =
      let rest : Member (filter test ys) x = Member-filter test ys x m passes in
      ⊎_elim
      (λ (h : test y ≡ true). subst (λ b. Member (cond b (y ∷ filter test ys) (filter test ys)) x) (sym h) (inr rest))
      (λ (h : test y ≡ false). subst (λ b. Member (cond b (y ∷ filter test ys) (filter test ys)) x) (sym h) rest)
      (cases_Bool (test y))

  pub Member-filtered : (test : X → Bool) (xs : List X) (x : X) → Member (filter test xs) x → Member xs x × (test x ≡ true)
  Member-filtered test [] x m = absurd m
  Member-filtered test (y ∷ ys) x m = ⊎_elim
      (λ (h : test y ≡ true).
      let at : Member (y ∷ filter test ys) x = subst (λ b. Member (cond b (y ∷ filter test ys) (filter test ys)) x) h m in
      let goal : Member (y ∷ filter test ys) x → Member (y ∷ ys) x × (test x ≡ true) = ⊎_elim
      (λ (same : y ≡ x). (inl same, sym (ap test same) ∙ h))
      (λ (rest : Member (filter test ys) x). let r = Member-filtered test ys x rest in (inr r.0, r.1)) in
      goal at)
      (λ (h : test y ≡ false).
      let at : Member (filter test ys) x = subst (λ b. Member (cond b (y ∷ filter test ys) (filter test ys)) x) h m in
      let r = Member-filtered test ys x at in
      (inr r.0, r.1))
      (cases_Bool (test y))

module _ {X Y : Type 0} where
  pub Member-map : (f : X → Y) (xs : List X) (x : X) → Member xs x → Member (map f xs) (f x)
  Member-map f [] x m = absurd m
  Member-map f (y ∷ ys) x (inl same) = inl (ap f same)
  Member-map f (y ∷ ys) x (inr m) = inr (Member-map f ys x m)

  pub record IsImage (f : X → Y) (xs : List X) (y : Y) : Type 0 where
    pub origin : X
    pub among : Member xs origin
    pub is : f origin ≡ y

  pub Member-mapped : (f : X → Y) (xs : List X) (y : Y) → Member (map f xs) y → IsImage f xs y
  Member-mapped f [] y m = absurd m
  Member-mapped f (x ∷ xs) y (inl same) = record { origin = x; among = inl refl; is = same }
  Member-mapped f (x ∷ xs) y (inr m) =
      let r : IsImage f xs y = Member-mapped f xs y m in
      record { origin = r.origin; among = inr r.among; is = r.is }

  pub Member-flat_map : (f : X → List Y) (xs : List X) (x : X) (y : Y) → Member xs x → Member (f x) y → Member (flat_map f xs) y
  Member-flat_map f [] x y m of_x = absurd m
  Member-flat_map f (z ∷ xs) x y (inl same) of_x = Member-left (f z) (flat_map f xs) y (subst (λ w. Member (f w) y) (sym same) of_x)
  Member-flat_map f (z ∷ xs) x y (inr m) of_x = Member-right (f z) (flat_map f xs) y (Member-flat_map f xs x y m of_x)

  pub record IsFromOne (f : X → List Y) (xs : List X) (y : Y) : Type 0 where
    pub origin : X
    pub among : Member xs origin
    pub has : Member (f origin) y

  pub Member-flat_mapped : (f : X → List Y) (xs : List X) (y : Y) → Member (flat_map f xs) y → IsFromOne f xs y
  Member-flat_mapped f [] y m = absurd m
  Member-flat_mapped f (x ∷ xs) y m = ⊎_elim
      (λ (here : Member (f x) y). record { origin = x; among = inl refl; has = here })
      (λ (rest : Member (flat_map f xs) y).
      let r : IsFromOne f xs y = Member-flat_mapped f xs y rest in
      record { origin = r.origin; among = inr r.among; has = r.has })
      (Member-cases (f x) (flat_map f xs) y m)

-- ---- numbers in a row

pub Member-range : (a n x : ℕ) → a ≤ x → x < a + n → Member (range_with_len a n) x
Member-range a zero x low high = absurd (omega arith)
Member-range a (suc n) x low high = ⊎_elim
    (λ (h : a ≡ x). inl h)
    (λ (h : a < x). inr (Member-range (a + 1) n x (omega arith) (omega arith)))
    (cases a x low)
  where
    cases : (a x : ℕ) → a ≤ x → (a ≡ x) ⊎ (a < x)
    cases a x low = grind arith

pub Member-in_range : (a n x : ℕ) → Member (range_with_len a n) x → (a ≤ x) × (x < a + n)
Member-in_range a zero x m = absurd m
Member-in_range a (suc n) x (inl same) = (omega arith, omega arith)
Member-in_range a (suc n) x (inr m) = let r = Member-in_range (a + 1) n x m in (omega (arith, r.0), omega (arith, r.1))

-- ---- a test of some element

pub list_any_member : {X : Type 0} (test : X → Bool) (xs : List X) (x : X) → Member xs x → test x ≡ true → list_any test xs ≡ true
list_any_member test [] x m passes = absurd m
list_any_member test (y ∷ ys) x (inl same) passes = subst (λ b. (b || list_any test ys) ≡ true) (sym (ap test same ∙ passes)) refl
list_any_member test (y ∷ ys) x (inr m) passes = or_right (test y) (list_any test ys) (list_any_member test ys x m passes)

pub record IsPassed {X : Type 0} (test : X → Bool) (xs : List X) : Type 0 where
  pub one : X
  pub among : Member xs one
  pub passes : test one ≡ true

pub member_of_list_any : {X : Type 0} (test : X → Bool) (xs : List X) → list_any test xs ≡ true → IsPassed test xs
member_of_list_any test [] any = absurd (false≢true any)
member_of_list_any test (y ∷ ys) any = ⊎_elim
    (λ (h : test y ≡ true). record { one = y; among = inl refl; passes = h })
    (λ (h : list_any test ys ≡ true).
    let r : IsPassed test ys = member_of_list_any test ys h in
    record { one = r.one; among = inr r.among; passes = r.passes })
    (or_cases (test y) (list_any test ys) any)
