-- Lists that have others from a place on.
use Rattle.std.proofs.Common.{◌≡◌, ℕ, zero, suc, ◌+◌, List, [], ◌∷◌, ◌++◌, length, take, drop, sum_by, Some, None, refl, sym, ap, subst, ◌∙◌, arith, length-append}
use Rattle.std.specs.List.{slice_get}
use Rattle.std.proofs.lemmas.List.{append_assoc, append-nil, drop-drop, drop_at, drop_all}
use Rattle.std.proofs.lemmas.List.Sums.{sum_by-cons}
use Rattle.program_units.specs.ListedCopies.{HasAt}

module _ {A : Type 0} where
  pub moved : (items part : List A) (n m : ℕ) → n ≡ m → HasAt items n part → HasAt items m part
  moved items part n m same has = subst (λ (x : ℕ). HasAt items x part) same has

  pub alike : (items part other : List A) (n : ℕ) → part ≡ other → HasAt items n part → HasAt items n other
  alike items part other n same has = subst (λ (x : List A). HasAt items n x) same has

  pub has_all : (items : List A) → HasAt items 0 items
  has_all items = record { is = sym (ap (λ (x : List A). items ++ x) (drop-whole items) ∙ append-nil items) }
    where
      drop-whole : (xs : List A) → drop (0 + length xs) xs ≡ []
      drop-whole xs = drop_all (0 + length xs) xs (omega arith)

  pub has_none : (items : List A) (n : ℕ) → HasAt items n []
  has_none items n = record { is = ap (λ (x : ℕ). drop x items) (let e : n ≡ n + 0 = omega arith in e) }

  -- what is behind a front
  behind_front : (items xs ys : List A) (n : ℕ) → drop n items ≡ xs ++ ys → drop (n + length xs) items ≡ ys
  behind_front items xs ys n is = sym (drop-drop (length xs) n items) ∙ ap (λ (x : List A). drop (length xs) x) is ∙ drop_at xs ys (length xs) refl

  pub has_first : (items xs ys : List A) (n : ℕ) → HasAt items n (xs ++ ys) → HasAt items n xs
  has_first items xs ys n has =
      let rest = drop (n + length (xs ++ ys)) items in
      let is : drop n items ≡ xs ++ (ys ++ rest) = has.is ∙ append_assoc xs ys rest in
      record { is = is ∙ ap (λ (x : List A). xs ++ x) (sym (behind_front items xs (ys ++ rest) n is)) }

  pub has_second : (items xs ys : List A) (n : ℕ) → HasAt items n (xs ++ ys) → HasAt items (n + length xs) ys
  has_second items xs ys n has =
      let rest = drop (n + length (xs ++ ys)) items in
      let is : drop n items ≡ xs ++ (ys ++ rest) = has.is ∙ append_assoc xs ys rest in
      let long = length-append xs ys in
      let same : n + length (xs ++ ys) ≡ n + length xs + length ys = omega (arith, long) in
      record { is = behind_front items xs (ys ++ rest) n is ∙ ap (λ (x : ℕ). ys ++ drop x items) same }

  -- an item is where the part has it
  pub get-drop : (items : List A) (n j : ℕ) → slice_get (drop n items) j ≡ slice_get items (n + j)
  get-drop items zero j = ap (λ (x : ℕ). slice_get items x) (let e : j ≡ 0 + j = omega arith in e)
  get-drop [] (suc n) j = refl
  get-drop (x ∷ items) (suc n) j = get-drop items n j ∙ ap (λ (k : ℕ). slice_get (x ∷ items) k) (let e : suc (n + j) ≡ suc n + j = omega arith in e)

  pub get-front : (xs ys : List A) (j : ℕ) (x : A) → slice_get xs j ≡ Some x → slice_get (xs ++ ys) j ≡ Some x
  get-front [] ys j x is = let e : None ≡ Some x = is in absurd cc
  get-front (y ∷ xs) ys zero x is = is
  get-front (y ∷ xs) ys (suc j) x is = get-front xs ys j x is

  pub got : (items part : List A) (n j : ℕ) (x : A) → HasAt items n part → slice_get part j ≡ Some x → slice_get items (n + j) ≡ Some x
  got items part n j x has is =
      sym (get-drop items n j)
      ∙ ap (λ (xs : List A). slice_get xs j) has.is
      ∙ get-front part (drop (n + length part) items) j x is

  -- ---- sums of fronts

  sum-short : (f : A → ℕ) (xs back : List A) (j : ℕ) (x : A) → slice_get xs j ≡ Some x → sum_by f (take j (xs ++ back)) ≡ sum_by f (take j xs)
  sum-short f [] back j x is = let e : None ≡ Some x = is in absurd cc
  sum-short f (y ∷ xs) back zero x is = refl
  sum-short f (y ∷ xs) back (suc j) x is =
      sum_by-cons f y (take j (xs ++ back))
      ∙ ap (λ (n : ℕ). f y + n) (sum-short f xs back j x is)
      ∙ sym (sum_by-cons f y (take j xs))

  pub sum-front : (f : A → ℕ) (front xs back : List A) (j : ℕ) (x : A) → slice_get xs j ≡ Some x → sum_by f (take (length front + j) (front ++ (xs ++ back))) ≡ sum_by f front + sum_by f (take j xs)
  sum-front f [] xs back j x is =
      ap (λ (n : ℕ). sum_by f (take n (xs ++ back))) (let e : 0 + j ≡ j = omega arith in e)
      ∙ sum-short f xs back j x is
      ∙ (let e : sum_by f (take j xs) ≡ 0 + sum_by f (take j xs) = omega arith in e)
  sum-front f (z ∷ front) xs back j x is =
      ap (λ (n : ℕ). sum_by f (take n (z ∷ (front ++ (xs ++ back))))) (let e : suc (length front) + j ≡ suc (length front + j) = omega arith in e)
      ∙ sum_by-cons f z (take (length front + j) (front ++ (xs ++ back)))
      ∙ ap (λ (n : ℕ). f z + n) (sum-front f front xs back j x is)
      ∙ (let a = sum_by-cons f z front in let e : f z + (sum_by f front + sum_by f (take j xs)) ≡ sum_by f (z ∷ front) + sum_by f (take j xs) = omega (arith, a) in e)

  -- one item more
  pub sum-next : (f : A → ℕ) (xs : List A) (j : ℕ) (x : A) → slice_get xs j ≡ Some x → sum_by f (take (j + 1) xs) ≡ sum_by f (take j xs) + f x
  sum-next f [] j x is = let e : None ≡ Some x = is in absurd cc
  sum-next f (y ∷ xs) zero x is = let e : Some y ≡ Some x = is in let same : y ≡ x = cc in ap (λ (z : A). 0 + f z) same
  sum-next f (y ∷ xs) (suc j) x is =
      let a = sum_by-cons f y (take (j + 1) xs) in
      let b = sum_by-cons f y (take j xs) in
      let c = sum-next f xs j x is in
      let e : sum_by f (y ∷ take (j + 1) xs) ≡ sum_by f (y ∷ take j xs) + f x = omega (arith, a, b, c) in
      ap (λ (n : ℕ). sum_by f (take n (y ∷ xs))) (let more : suc j + 1 ≡ suc (j + 1) = omega arith in more) ∙ e
