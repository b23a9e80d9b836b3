-- The number of elements of an array.
use Rattle.std.proofs.Common.{◌≡◌, ℕ, ◌+◌, ◌*◌, ◌<◌, ◌≤◌, pos, ◌*ℤ◌, ◌≤ℤ◌, Bool, true, false, ◌||◌, List, [], ◌∷◌, length, get_or, drop, refl, sym, ap, ◌∙◌, arith}
use Rattle.std.specs.Prelude.{int_lt, nat_lt}
use Rattle.std.specs.List.{list_any}
use Rattle.std.proofs.Math.Nat.{mul-le-mul_left, mul_assoc}
use Rattle.std.proofs.lemmas.Int.{ints}
use Rattle.std.proofs.lemmas.Bool.Decides.{nat_tests}
use Rattle.std.proofs.lemmas.Bool.{or_parts, ltb-false}
use Rattle.std.proofs.lemmas.List.{at_drop_more}
use Rattle.f77_tree.specs.declared.declarations.Dim.{Dim}
use Rattle.f77_tree.specs.Value.{extent as width, size_of}
use Rattle.f77_tree.proofs.Places.{nonneg}
use Rattle.layout_rules.specs.Storage.{extent, elements}
use Rattle.layout_rules.specs.StorageFaults.{are_wrong_dims}

-- ---- too many elements

abbrev is_backwards : Dim → Bool
is_backwards dim = int_lt dim.hi dim.lo

-- a dimension that doesn't run backwards has a subscript
extent-some : (dim : Dim) → is_backwards dim ≡ false → 1 ≤ extent dim
extent-some dim forward = rw forward (omega (arith, ints))

pub elements-some : (dims : List Dim) → list_any is_backwards dims ≡ false → 1 ≤ elements dims
elements-some [] forward = omega arith
elements-some (dim ∷ dims) forward =
    let parts = or_parts (is_backwards dim) (list_any is_backwards dims) forward in
    let one : 1 ≤ extent dim = extent-some dim parts.0 in
    let more : 1 ≤ elements dims = elements-some dims parts.1 in
    let le : extent dim * 1 ≤ extent dim * elements dims = mul-le-mul_left (extent dim) more in
    omega (arith, le)

-- what so many elements for each element of these dimensions make
abbrev pub is_too_large : ℕ → List Dim → Bool
is_too_large count dims = list_any is_backwards dims || nat_lt 262144 (count * elements dims)

pub too_large-more : (count : ℕ) (dims : List Dim) → 262144 < count → is_too_large count dims ≡ true
too_large-more count dims lt =
    let some : list_any is_backwards dims ≡ false → count * 1 ≤ count * elements dims = λ forward. mul-le-mul_left count (elements-some dims forward) in
    grind (arith, some, nat_tests)

module _ (count : ℕ) (dims : List Dim) (i : ℕ) (dim : Dim) (lt : i < length dims) (is : dim ≡ get_or dims i dim) where
  at_next : is_too_large count (drop i dims) ≡ is_too_large count (dim ∷ drop (i + 1) dims)
  at_next = at_drop_more (is_too_large count) dims i dim lt ∙ ap (λ (d : Dim). is_too_large count (d ∷ drop (i + 1) dims)) (sym is)

  pub too_large-next : is_backwards dim ≡ false → is_too_large count (drop i dims) ≡ is_too_large (count * extent dim) (drop (i + 1) dims)
  too_large-next forward =
      at_next
      ∙ ap (λ b. b || list_any is_backwards (drop (i + 1) dims) || nat_lt 262144 (count * (extent dim * elements (drop (i + 1) dims)))) forward
      ∙ ap (λ (n : ℕ). list_any is_backwards (drop (i + 1) dims) || nat_lt 262144 n) (sym (mul_assoc count (extent dim) (elements (drop (i + 1) dims))))

-- ---- the number of elements as f77_tree counts them

-- the number of subscripts, where there is one
pub extent-pos : (dim : Dim) → dim.lo ≤ℤ dim.hi → width dim ≡ pos (extent dim)
extent-pos dim order =
    let forward : int_lt dim.hi dim.lo ≡ false = grind (arith, ints) in
    rw forward (nonneg (width dim) (omega (arith, ints)))

-- the size of an array without fault
pub size-elements : (dims : List Dim) → list_any is_backwards dims ≡ false → size_of dims ≡ pos (elements dims)
size-elements [] forward = refl
size-elements (dim ∷ dims) forward =
    let parts = or_parts (is_backwards dim) (list_any is_backwards dims) forward in
    let order : dim.lo ≤ℤ dim.hi = grind (arith, ints, parts.0) in
    ap (λ z. z *ℤ size_of dims) (extent-pos dim order) ∙ ap (λ z. pos (extent dim) *ℤ z) (size-elements dims parts.1)

-- an array without fault has an element, and not too many
pub right-count : (dims : List Dim) → are_wrong_dims dims ≡ false → (1 ≤ elements dims) × (elements dims ≤ 262144)
right-count dims right =
    let parts = or_parts (list_any is_backwards dims) (nat_lt 262144 (elements dims)) right in
    (elements-some dims parts.0, ltb-false 262144 (elements dims) parts.1)

pub right-size : (dims : List Dim) → are_wrong_dims dims ≡ false → size_of dims ≡ pos (elements dims)
right-size dims right = size-elements dims (or_parts (list_any is_backwards dims) (nat_lt 262144 (elements dims)) right).0
