-- Sizes and distances of arrays without fault: none is too great to count exactly in the equations of storage.
use Rattle.std.proofs.Common.{◌≡◌, ℕ, ◌+◌, ◌*◌, ◌<◌, ◌≤◌, ◌⊎◌, ⊎_elim, min, ℤ, pos, ◌+ℤ◌, ◌-ℤ◌, ◌*ℤ◌, nat_abs, false, List, [], ◌∷◌, refl, sym, ap, ◌∙◌, arith}
use Rattle.std.specs.Prelude.{int_lt}
use Rattle.std.proofs.Math.Nat.{mul-le-mul_left, mul_comm}
use Rattle.std.proofs.lemmas.Int.{ints}
use Rattle.f77_tree.specs.declared.declarations.Dim.{Dim}
use Rattle.f77_tree.specs.Value.{extent as width, size_of}
use Rattle.f77_tree.specs.Declarations.{AreWithin, offset_of}
use Rattle.f77_tree.proofs.Places.{nonneg}
use Rattle.layout_rules.specs.Storage.{too_many, extent, elements, subscripts_before, distance_of, size_of as counted}
use Rattle.layout_rules.specs.StorageFaults.{are_wrong_dims}
use Rattle.layout_rules.proofs.ElementCounts.{right-count, right-size, extent-pos}

-- ---- sizes

-- the size of an array without fault
pub size-exact : (dims : List Dim) → are_wrong_dims dims ≡ false → size_of dims ≡ pos (counted dims)
size-exact dims right =
    let most = (right-count dims right).1 in
    right-size dims right ∙ ap pos (omega (arith, most))

-- ---- distances

-- how many elements stand before one of them
record IsDistance (dims : List Dim) (subs : List ℤ) : Type 0 where
  distance : ℕ
  is : offset_of dims subs ≡ pos distance
  below : distance < elements dims

longer : (a b w n : ℕ) → a < w → b < n → a + w * b < w * n
longer a b w n first rest =
    let le : w * (b + 1) ≤ w * n = mul-le-mul_left w (omega (arith, rest)) in
    omega (arith, le, first)

distance-within : (dims : List Dim) (subs : List ℤ) → AreWithin dims subs → IsDistance dims subs
distance-within [] [] within = record { distance = 0; is = refl; below = omega arith }
distance-within [] (sub ∷ subs) within = absurd within
distance-within (dim ∷ dims) [] within = absurd within
distance-within (dim ∷ dims) (sub ∷ subs) within =
    let low = within.0 in
    let high = within.1 in
    let rest = distance-within dims subs within.2 in
    let wide = extent-pos dim (omega (arith, ints, low, high)) in
    let before = nat_abs (sub -ℤ dim.lo) in
    let is_before : (sub -ℤ dim.lo) ≡ pos before = nonneg (sub -ℤ dim.lo) (omega (arith, ints, low)) in
    let first : before < extent dim = omega (arith, ints, is_before, wide, high) in
    record {
      distance = before + extent dim * rest.distance;
      is = ap (λ z. z +ℤ width dim *ℤ offset_of dims subs) is_before
          ∙ ap (λ z. pos before +ℤ z *ℤ offset_of dims subs) wide
          ∙ ap (λ z. pos before +ℤ pos (extent dim) *ℤ z) rest.is;
      below = longer before rest.distance (extent dim) (elements dims) first rest.below;
    }

some-wide : (w n : ℕ) → 0 < w → n ≤ w * n
some-wide w n some =
    let more = mul-le-mul_left {m = 1} {n = w} n some in
    omega (arith, more, mul_comm n w)

-- the distance is counted exactly where there are few elements
distance-is : (dims : List Dim) (subs : List ℤ) (within : AreWithin dims subs) → elements dims ≤ 262144 → distance_of dims subs ≡ (distance-within dims subs within).distance
unfolding distance-within
distance-is [] [] within few = refl
distance-is [] (sub ∷ subs) within few = absurd within
distance-is (dim ∷ dims) [] within few = absurd within
distance-is (dim ∷ dims) (sub ∷ subs) within few =
    let low = within.0 in
    let high = within.1 in
    let rest = distance-within dims subs within.2 in
    let whole = distance-within (dim ∷ dims) (sub ∷ subs) within in
    let wide = extent-pos dim (omega (arith, ints, low, high)) in
    let is_before : (sub -ℤ dim.lo) ≡ pos (nat_abs (sub -ℤ dim.lo)) = nonneg (sub -ℤ dim.lo) (omega (arith, ints, low)) in
    let first : nat_abs (sub -ℤ dim.lo) < extent dim = omega (arith, ints, is_before, wide, high) in
    let fewer : elements dims ≤ 262144 = omega (arith, some-wide (extent dim) (elements dims) (omega (arith, first)), few) in
    let beyond : int_lt sub dim.lo ≡ false = grind (arith, ints) in
    let before : subscripts_before dim sub ≡ nat_abs (sub -ℤ dim.lo) = rw beyond refl in
    let below = whole.below in
    ap (λ n. min too_many (n + extent dim * distance_of dims subs)) before
    ∙ ap (λ n. min too_many (nat_abs (sub -ℤ dim.lo) + extent dim * n)) (distance-is dims subs within.2 fewer)
    ∙ omega (arith, below, few)

no_subscripts : (dims : List Dim) → offset_of dims [] ≡ pos (distance_of dims [])
no_subscripts [] = refl
no_subscripts (dim ∷ dims) = refl

-- how far a member of an array without fault lies after the first element
pub distance-exact : (dims : List Dim) (subs : List ℤ) → are_wrong_dims dims ≡ false → (subs ≡ []) ⊎ AreWithin dims subs → offset_of dims subs ≡ pos (distance_of dims subs)
distance-exact dims subs right is =
    ⊎_elim
    (λ (none : subs ≡ []). rw none (no_subscripts dims))
    (λ (within : AreWithin dims subs). (distance-within dims subs within).is ∙ ap pos (sym (distance-is dims subs within (right-count dims right).1)))
    is
