-- The offset of an element in its array, which operations move by each subscript, beside its word.
use Rattle.std.proofs.Common.{◌≡◌, ℕ, suc, ◌+◌, ◌*◌, ◌<◌, ◌≤◌, ℤ, pos, ◌+ℤ◌, ◌*ℤ◌, nat_abs, Bool, true, false, List, [], ◌∷◌, length, Ok, All, refl, sym, ap, subst, ◌∙◌, arith}
use Rattle.std.specs.Prelude.{int_le, int_lt, ◌&&◌}
use Rattle.std.proofs.lemmas.Int.{ints}
use Rattle.std.proofs.Math.Nat.{mul-le-mul_left, mul-le-mul_right, mul_assoc}
use Rattle.op_table.specs.declared.Op.TheVariants.{Bound, Place}
use Rattle.op_table.specs.Words.{IsWord}
use Rattle.op_table.specs.Operators.{applied}
use Rattle.op_table.proofs.Laws.{applied-Place}
use Rattle.f77_tree.specs.declared.declarations.Dim.{Dim}
use Rattle.f77_tree.specs.declared.programs.NameInfo.{NameInfo}
use Rattle.f77_tree.specs.Value.{and_then, extent, size_of, dims_of, place_of, ArePlaced}
use Rattle.f77_tree.proofs.Places.{IsOrdered, IsAt, All-head, All-tail, Bound-ok, count_of, count-is, count-one, extent-pos, moved-at, name-taken, nonneg, width_of}
use Rattle.op_board.specs.Effects.{is_place, word_at_place}

-- the array has its first word there, and these dimensions are still to come
abbrev pub IsOffsetAt : List Dim → (whole : ℕ) → (size p : ℤ) → Type 0
IsOffsetAt dims whole size p = IsAt dims 0 whole size p

-- a subscript within its bounds moves the offset and the word alike
pub record MovesBoth (dims : List Dim) (base whole : ℕ) (size p d next : ℤ) : Type 0 where
  pub offset : ℤ
  pub moves : applied Place (p ∷ d ∷ size ∷ []) ≡ Ok offset
  pub word : applied Place ((pos base +ℤ p) ∷ d ∷ size ∷ []) ≡ Ok (pos base +ℤ offset)
  pub at : IsOffsetAt dims whole next offset

module _ (base whole : ℕ) (few : base + whole ≤ 2147483647) where
  -- a part of the array after so many others of its size
  part_word : (here part width more n : ℕ) → 1 ≤ part → here < part → part * (width * more) ≤ whole → 1 ≤ more → n < width → here + n * part < whole
  part_word here part width more n some below fits one lt =
      let a : (suc n) * part ≤ width * part = mul-le-mul_right part lt in
      let b : part * width ≤ part * width * more = omega (arith, mul-le-mul_left (part * width) one) in
      let c : part * width * more ≡ part * (width * more) = mul_assoc part width more in
      omega (arith, below, fits, a, b, c)

  width_fits : (part width more : ℕ) → 1 ≤ part → part * (width * more) ≤ whole → 1 ≤ more → width ≤ whole
  width_fits part width more some fits one =
      let a : width * 1 ≤ width * more = mul-le-mul_left width one in
      let b : 1 * (width * more) ≤ part * (width * more) = mul-le-mul_right (width * more) some in
      omega (arith, fits, a, b)

  -- a subscript within its bounds
  record HasOffset (dim : Dim) (v d : ℤ) : Type 0 where
    count : ℕ
    is : d ≡ pos count
    below : count < width_of dim

  has_offset : (dim : Dim) (v d : ℤ) → IsOrdered dim → width_of dim ≤ whole → applied Bound (v ∷ dim.lo ∷ dim.hi ∷ []) ≡ Ok d → HasOffset dim v d
  has_offset dim v d order fits e =
      let width = extent-pos dim order in
      let off = Bound-ok v dim.lo dim.hi d (omega (arith, ints, width, fits, few)) e in
      let is = off.is in
      let above = off.above in
      let below = off.below in
      let whole_is : d ≡ pos (nat_abs d) = nonneg d (omega (arith, ints, is, above)) in
      record { count = nat_abs d; is = whole_is; below = omega (arith, ints, width, whole_is, is, below) }

  pub moves_both : (dim : Dim) (dims : List Dim) (size p v d : ℤ) → All IsOrdered (dim ∷ dims) → IsOffsetAt (dim ∷ dims) whole size p → applied Bound (v ∷ dim.lo ∷ dim.hi ∷ []) ≡ Ok d → MovesBoth dims base whole size p d (size *ℤ extent dim)
  moves_both dim dims size p v d all at e =
      let one = count-one dims (All-tail IsOrdered dim dims all) in
      let fits : at.part * (width_of dim * count_of dims) ≤ whole = let f = at.fits in omega (arith, f) in
      let off = has_offset dim v d (All-head IsOrdered dim dims all) (width_fits at.part (width_of dim) (count_of dims) at.some fits one) e in
      let low : at.here < at.part = let b = at.below in omega (arith, b) in
      let inside = part_word at.here at.part (width_of dim) (count_of dims) off.count at.some low fits one off.below in
      let there = at.here + off.count * at.part in
      let word : IsWord (pos at.here +ℤ pos off.count *ℤ pos at.part) = omega (arith, ints, inside, few) in
      let far : IsWord (pos base +ℤ pos at.here +ℤ pos off.count *ℤ pos at.part) = omega (arith, ints, inside, few) in
      let moves : applied Place (p ∷ d ∷ size ∷ []) ≡ Ok (pos there) =
      ap (λ x. applied Place (x ∷ d ∷ size ∷ [])) at.here_is ∙ ap (λ x. applied Place (pos at.here ∷ x ∷ size ∷ [])) off.is ∙ ap (λ x. applied Place (pos at.here ∷ pos off.count ∷ x ∷ [])) at.size_is
      ∙ applied-Place (pos at.here) (pos off.count) (pos at.part) word in
      let sum : (pos base +ℤ pos at.here +ℤ pos off.count *ℤ pos at.part) ≡ (pos base +ℤ pos there) = omega (arith, ints) in
      record {
        offset = pos there;
        moves = moves;
        word =
            ap (λ x. applied Place ((pos base +ℤ x) ∷ d ∷ size ∷ [])) at.here_is ∙ ap (λ x. applied Place ((pos base +ℤ pos at.here) ∷ x ∷ size ∷ [])) off.is ∙ ap (λ x. applied Place ((pos base +ℤ pos at.here) ∷ pos off.count ∷ x ∷ [])) at.size_is
            ∙ applied-Place (pos base +ℤ pos at.here) (pos off.count) (pos at.part) far
            ∙ ap (λ x. Ok x) sum;
        at = moved-at dim dims 0 whole size p v (pos there) (omega (arith, few)) all at (ap (and_then (λ x. applied Place (p ∷ x ∷ size ∷ []))) e ∙ moves);
      }

-- ---- where all subscripts are taken

le_true : (n : ℕ) → int_le (pos 0) (pos n) ≡ true
le_true n = by (int_le (pos 0) (pos n)) refl
  where
    by : (b : Bool) → int_le (pos 0) (pos n) ≡ b → b ≡ true
    by true e = refl
    by false e = absurd (omega (arith, ints))

lt_true : (n m : ℕ) → n < m → int_lt (pos n) (pos m) ≡ true
lt_true n m h = by (int_lt (pos n) (pos m)) refl
  where
    by : (b : Bool) → int_lt (pos n) (pos m) ≡ b → b ≡ true
    by true e = refl
    by false e = absurd (omega (arith, ints, h))

-- the offset lies in the array, and the word is that many after its first one
pub record IsInArray (names : List NameInfo) (name : ℕ) (p : ℤ) : Type 0 where
  pub inside : is_place names name p ≡ true
  pub word : nat_abs (pos (place_of names name) +ℤ p) ≡ word_at_place names name p

-- an array of the table, before any subscript
pub record IsArray (names : List NameInfo) (name whole : ℕ) : Type 0 where
  pub bounds : All IsOrdered (dims_of names name)
  pub size : size_of (dims_of names name) ≡ pos whole
  pub few : place_of names name + whole ≤ 2147483647
  pub start : IsOffsetAt (dims_of names name) whole (pos 1) (pos 0)

pub is_array : (names : List NameInfo) (name words : ℕ) → ArePlaced names words → name < length names → IsArray names name (count_of (dims_of names name))
is_array names name words placed known =
    let taken = name-taken names name words placed known in
    record {
      bounds = taken.bounds;
      size = count-is (dims_of names name) taken.bounds;
      few = taken.few;
      start = record { part = 1; here = 0; size_is = refl; here_is = refl; some = omega arith; above = omega arith; below = omega arith; fits = omega arith };
    }

pub in_array : (names : List NameInfo) (name whole : ℕ) (dims : List Dim) (size p : ℤ) → size_of (dims_of names name) ≡ pos whole → All IsOrdered dims → IsOffsetAt dims whole size p → IsInArray names name p
in_array names name whole dims size p whole_is all at =
    let one = count-one dims all in
    let low = at.below in
    let fits = at.fits in
    let m : at.part * 1 ≤ at.part * count_of dims = mul-le-mul_left at.part one in
    let inside : at.here < whole = omega (arith, low, fits, m) in
    let here : is_place names name (pos at.here) ≡ true = ap (λ b. b && int_lt (pos at.here) (size_of (dims_of names name))) (le_true at.here) ∙ ap (int_lt (pos at.here)) whole_is ∙ lt_true at.here whole inside in
    subst (IsInArray names name) (sym at.here_is) (record { inside = here; word = refl })
