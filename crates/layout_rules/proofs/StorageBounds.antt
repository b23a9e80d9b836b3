-- Where a storage begins and ends, and that some name of it does.
use Rattle.std.proofs.Common.{◌≡◌, ℕ, zero, suc, ◌<◌, ◌⊎◌, inl, inr, ⊎_elim, ℤ, pos, ◌+ℤ◌, ◌≤ℤ◌, Bool, true, false, cond, ◌==◌, List, [], ◌∷◌, length, get_or, refl, sym, ap, subst, ◌∙◌, arith, Contains}
use Rattle.std.specs.Prelude.{fold, if◌then◌else◌}
use Rattle.std.specs.List.{range_with_len}
use Rattle.std.specs.Int.{int_min, int_max}
use Rattle.std.proofs.lemmas.Int.{ints}
use Rattle.std.proofs.lemmas.Bool.{eqb-true, eq-eqb}
use Rattle.std.proofs.lemmas.List.FromFn.{length-range_with_len, get_or-range_with_len}
use Rattle.f77_tree.specs.declared.programs.NameInfo.{NameInfo}
use Rattle.layout_rules.specs.Storage.{Spot, spot_at, size_at, low_of, high_of}
use Rattle.layout_rules.specs.Spots.{storage_at, distance_at, AreLowest}
use Rattle.layout_rules.proofs.Linking.{spot_at-get}
use Rattle.layout_rules.proofs.Bounds.{min-cases, max-cases}

-- ---- the least and the greatest value of a list

-- an element that passes has this value
pub record IsAmong {X : Type 0} (test : X → Bool) (f : X → ℤ) (xs : List X) (z : ℤ) : Type 0 where
  pub element : X
  pub there : Contains xs element
  pub passes : test element ≡ true
  pub value : z ≡ f element

-- of two numbers one is chosen, which comes before both
module _ {X : Type 0} (test : X → Bool) (f : X → ℤ) (choose : ℤ → ℤ → ℤ) (Before : ℤ → ℤ → Type 0) (itself : (x : ℤ) → Before x x) (through : (x y z : ℤ) → Before x y → Before y z → Before x z) (choice : (x y : ℤ) → Before (choose x y) x × Before (choose x y) y × ((choose x y ≡ x) ⊎ (choose x y ≡ y))) where
  abbrev chosen : ℤ → X → ℤ
  chosen z x = if test x then choose z (f x) else z

  -- before a and the values of the elements that pass, and one of these
  record IsExtreme (a : ℤ) (xs : List X) (z : ℤ) : Type 0 where
    first : Before z a
    each : (k : ℕ) (d : X) → k < length xs → test (get_or xs k d) ≡ true → Before z (f (get_or xs k d))
    one : (z ≡ a) ⊎ IsAmong test f xs z

  extreme : (a : ℤ) (xs : List X) → IsExtreme a xs (fold chosen a xs)
  extreme a [] = record { first = itself a; each = λ k d lt e. absurd (omega arith); one = inl refl }
  extreme a (x ∷ xs) =
      let rest = extreme (chosen a x) xs in
      let here = chosen-is (test x) refl in
      let z = fold chosen (chosen a x) xs in
      let each : (k : ℕ) (d : X) → k < length (x ∷ xs) → test (get_or (x ∷ xs) k d) ≡ true → Before z (f (get_or (x ∷ xs) k d)) = λ k d. by_case k d rest here.1 in
      record {
        first = through z (chosen a x) a rest.first here.0;
        each = each;
        one = ⊎_elim
            (λ e. ⊎_elim (λ l. inl (e ∙ l)) (λ r. inr (record { element = x; there = (0, omega arith, refl); passes = r.0; value = e ∙ r.1 })) here.2)
            (λ w. inr (record { element = w.element; there = (suc w.there.0, omega (arith, w.there.1), w.there.2); passes = w.passes; value = w.value }))
            rest.one;
      }
    where
      chosen-is : (b : Bool) → test x ≡ b → Before (cond b (choose a (f x)) a) a × (b ≡ true → Before (cond b (choose a (f x)) a) (f x)) × ((cond b (choose a (f x)) a ≡ a) ⊎ ((b ≡ true) × (cond b (choose a (f x)) a ≡ f x)))
      chosen-is true h = let m = choice a (f x) in (m.0, λ t. m.1, ⊎_elim (λ l. inl l) (λ r. inr (refl, r)) m.2)
      chosen-is false h = (itself a, λ t. absurd cc, inl refl)

      by_case : (k : ℕ) (d : X) → IsExtreme (chosen a x) xs (fold chosen (chosen a x) xs) → (test x ≡ true → Before (chosen a x) (f x)) → k < length (x ∷ xs) → test (get_or (x ∷ xs) k d) ≡ true → Before (fold chosen (chosen a x) xs) (f (get_or (x ∷ xs) k d))
      by_case zero d rest here lt e = through (fold chosen (chosen a x) xs) (chosen a x) (f x) rest.first (here e)
      by_case (suc k) d rest here lt e = rest.each k d (omega arith) e

abbrev Below : ℤ → ℤ → Type 0
Below x y = x ≤ℤ y

abbrev Above : ℤ → ℤ → Type 0
Above x y = y ≤ℤ x

-- ---- a storage

module _ (names : List NameInfo) (spots : List Spot) (lowest : AreLowest spots) (s : ℕ) (known : s < length spots) (own : storage_at spots s ≡ s) where
  pub at_zero : distance_at spots s ≡ pos 0
  at_zero = ap (λ y. distance_at spots y) (sym own) ∙ lowest.begins s known

  -- a name of the storage begins here
  pub record BeginsAt (z : ℤ) : Type 0 where
    pub name : ℕ
    pub inside : name < length spots
    pub together : storage_at spots name ≡ s
    pub there : distance_at spots name ≡ z

  -- a name of the storage ends here
  pub record EndsThere (z : ℤ) : Type 0 where
    pub name : ℕ
    pub inside : name < length spots
    pub together : storage_at spots name ≡ s
    pub there : distance_at spots name +ℤ pos (size_at names name) ≡ z

  abbrev in_storage : Spot → Bool
  in_storage spot = spot.storage == s

  low : IsExtreme in_storage (λ (spot : Spot). spot.distance) int_min Below (λ x. omega (arith, ints)) (λ x y z h g. omega (arith, ints)) min-cases (pos 0) spots (low_of spots s)
  low = extreme in_storage (λ (spot : Spot). spot.distance) int_min Below (λ x. omega (arith, ints)) (λ x y z h g. omega (arith, ints)) min-cases (pos 0) spots

  abbrev named_in : ℕ → Bool
  named_in k = (spot_at spots k).storage == s

  abbrev end_at : ℕ → ℤ
  end_at k = (spot_at spots k).distance +ℤ pos (size_at names k)

  high : IsExtreme named_in end_at int_max Above (λ x. omega (arith, ints)) (λ x y z h g. omega (arith, ints)) max-cases (pos 0) (range_with_len 0 (length spots)) (high_of names spots s)
  high = extreme named_in end_at int_max Above (λ x. omega (arith, ints)) (λ x y z h g. omega (arith, ints)) max-cases (pos 0) (range_with_len 0 (length spots))

  pub low-zero : low_of spots s ≤ℤ pos 0
  low-zero = low.first

  pub zero-high : pos 0 ≤ℤ high_of names spots s
  zero-high = high.first

  pub low-below : (x : ℕ) → x < length spots → storage_at spots x ≡ s → low_of spots s ≤ℤ distance_at spots x
  low-below x lt same =
      let d = spot_at spots x in
      let at = spot_at-get spots x d lt in
      let e : (get_or spots x d).distance ≡ distance_at spots x = ap (λ (spot : Spot). spot.distance) (sym at) in
      omega (arith, ints, low.each x d lt (eq-eqb (get_or spots x d).storage s (ap (λ (spot : Spot). spot.storage) (sym at) ∙ same)))

  pub below-high : (x : ℕ) → x < length spots → storage_at spots x ≡ s → (distance_at spots x +ℤ pos (size_at names x)) ≤ℤ high_of names spots s
  below-high x lt same =
      let at : get_or (range_with_len 0 (length spots)) x x ≡ x = get_or-range_with_len 0 (length spots) x x lt ∙ omega arith in
      let inside : x < length (range_with_len 0 (length spots)) = omega (arith, length-range_with_len 0 (length spots)) in
      subst (λ (y : ℕ). end_at y ≤ℤ high_of names spots s) at (high.each x x inside (ap named_in at ∙ eq-eqb (storage_at spots x) s same))

  pub low-reached : BeginsAt (low_of spots s)
  low-reached =
      ⊎_elim
      (λ e. record { name = s; inside = known; together = own; there = at_zero ∙ sym e })
      (λ w.
      let k = w.there.0 in
      let at : spot_at spots k ≡ w.element = spot_at-get spots k w.element w.there.1 ∙ w.there.2 in
      record { name = k; inside = w.there.1; together = ap (λ (spot : Spot). spot.storage) at ∙ eqb-true w.element.storage s w.passes; there = ap (λ (spot : Spot). spot.distance) at ∙ sym w.value })
      low.one

  pub high-one : (high_of names spots s ≡ pos 0) ⊎ EndsThere (high_of names spots s)
  high-one =
      ⊎_elim
      (λ e. inl e)
      (λ w.
      let k = w.there.0 in
      let inside : k < length spots = omega (arith, w.there.1, length-range_with_len 0 (length spots)) in
      let is : k ≡ w.element = (omega arith) ∙ sym (get_or-range_with_len 0 (length spots) k w.element inside) ∙ w.there.2 in
      inr (record { name = k; inside = inside; together = ap (λ y. storage_at spots y) is ∙ eqb-true (storage_at spots w.element) s w.passes; there = ap end_at is ∙ sym w.value }))
      high.one

  -- some name of a storage whose lowest name has words ends with it
  pub high-reached : 0 < size_at names s → EndsThere (high_of names spots s)
  high-reached some = ⊎_elim (λ e. absurd (omega (arith, ints, below-high s known own, at_zero))) (λ w. w) high-one
