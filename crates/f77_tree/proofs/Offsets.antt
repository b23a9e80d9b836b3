-- The word that an access names in a run is the one that declarations give to the element with the values of its subscripts.
use Rattle.std.proofs.Common.{◌≡◌, ℕ, suc, ◌+◌, ◌*◌, ◌<◌, ◌≤◌, ℤ, pos, ◌+ℤ◌, ◌-ℤ◌, ◌*ℤ◌, ◌≤ℤ◌, nat_abs, List, [], ◌∷◌, length, map, Ok, All, refl, sym, ap, ◌∙◌, arith, w32}
use Rattle.std.proofs.lemmas.Int.{int_wrap_fits, ints}
use Rattle.std.proofs.Math.Nat.{mul-le-mul_left, mul-le-mul_right, mul_assoc, mul_comm}
use Rattle.op_table.specs.declared.Op.TheVariants.{Place}
use Rattle.op_table.specs.Words.{IsWord, wrapped}
use Rattle.op_table.specs.Operators.{applied}
use Rattle.op_table.proofs.Laws.{applied-Place, applied-Bound}
use Rattle.f77_tree.specs.declared.declarations.Dim.{Dim}
use Rattle.f77_tree.specs.declared.programs.NameInfo.{NameInfo}
use Rattle.f77_tree.specs.Value.{and_then, moved, subscripted, word_of, extent, dims_of, place_of, ArePlaced}
use Rattle.f77_tree.specs.Declarations.{AreWithin, offset_of}
use Rattle.f77_tree.specs.InitialWords.{element_word}
use Rattle.f77_tree.proofs.Places.{IsOrdered, IsAt, All-head, All-tail, nonneg, width_of, count_of, count-one, extent-pos, moved-at, name-taken}

-- ---- one subscript

-- a subscript within its bounds lies so many elements above the lower one
record IsAbove (dim : Dim) (v : ℤ) : Type 0 where
  count : ℕ
  is : v -ℤ dim.lo ≡ pos count
  below : count < width_of dim

above : (dim : Dim) (v : ℤ) → IsOrdered dim → dim.lo ≤ℤ v → v ≤ℤ dim.hi → IsAbove dim v
above dim v order low high =
    let e = nonneg (v -ℤ dim.lo) (omega (arith, ints, low)) in
    let width = extent-pos dim order in
    record { count = nat_abs (v -ℤ dim.lo); is = e; below = omega (arith, ints, e, width, high) }

-- the part of a dimension that a subscript leaves lies among the words
inside : (first words part here width more n : ℕ) → words ≤ 2147483647 → 1 ≤ part → here < first + part → first + part * (width * more) ≤ words → 1 ≤ more → n < width → here + n * part ≤ 2147483647
inside first words part here width more n few some below fits one lt =
    let a : part * suc n ≤ part * width = mul-le-mul_left part (omega (arith, lt)) in
    let b : part * width ≤ part * width * more = omega (arith, mul-le-mul_left (part * width) one) in
    let c : part * width * more ≡ part * (width * more) = mul_assoc part width more in
    let d : n * part ≡ part * n = mul_comm n part in
    omega (arith, few, below, fits, a, b, c, d)

width-below : (words part width more : ℕ) → words ≤ 2147483647 → 1 ≤ part → part * (width * more) ≤ words → 1 ≤ more → width ≤ 2147483647
width-below words part width more few some fits one =
    let a : width * 1 ≤ width * more = mul-le-mul_left width one in
    let b : 1 * (width * more) ≤ part * (width * more) = mul-le-mul_right (width * more) some in
    omega (arith, few, fits, a, b)

moved-is : (dim : Dim) (dims : List Dim) (first words : ℕ) (size p v : ℤ) → words ≤ 2147483647 → All IsOrdered (dim ∷ dims) → (at : IsAt (dim ∷ dims) first words size p) → (n : ℕ) → v -ℤ dim.lo ≡ pos n → n < width_of dim → dim.lo ≤ℤ v → v ≤ℤ dim.hi → moved size dim p v ≡ Ok (pos (at.here + n * at.part))
moved-is dim dims first words size p v few all at n is lt low high =
    let one = count-one dims (All-tail IsOrdered dim dims all) in
    let fits = at.fits in
    let room = inside first words at.part at.here (width_of dim) (count_of dims) n few at.some at.below fits one lt in
    let width = width-below words at.part (width_of dim) (count_of dims) few at.some (omega (arith, fits)) one in
    let offset_word : IsWord (pos n) = omega (arith, ints, lt, width) in
    let sum_is : (pos at.here +ℤ pos n *ℤ pos at.part) ≡ pos (at.here + n * at.part) = refl in
    let sum_word : IsWord (pos at.here +ℤ pos n *ℤ pos at.part) = omega (arith, ints, room) in
    ap (and_then (λ d. applied Place (p ∷ d ∷ size ∷ []))) (applied-Bound v dim.lo dim.hi low high ∙ ap (λ z. Ok z) (ap (λ z. wrapped z) is ∙ int_wrap_fits w32 (pos n) offset_word))
    ∙ ap (λ x. applied Place (x ∷ pos n ∷ size ∷ [])) at.here_is
    ∙ ap (λ x. applied Place (pos at.here ∷ pos n ∷ x ∷ [])) at.size_is
    ∙ applied-Place (pos at.here) (pos n) (pos at.part) sum_word

-- ---- all subscripts

-- subscripts lead to the word that lies as far after as declarations say
record Reached (dims : List Dim) (subs : List ℤ) (size p : ℤ) (here part : ℕ) : Type 0 where
  count : ℕ
  offset_is : offset_of dims subs ≡ pos count
  is : subscripted dims size p (map (λ z. Ok z) subs) ≡ Ok (pos (here + part * count))

reached : (dims : List Dim) (subs : List ℤ) (first words : ℕ) (size p : ℤ) → words ≤ 2147483647 → All IsOrdered dims → AreWithin dims subs → (at : IsAt dims first words size p) → Reached dims subs size p at.here at.part
reached [] [] first words size p few all within at = record { count = 0; offset_is = refl; is = ap (λ z. Ok z) (at.here_is ∙ ap (λ n. pos n) (omega arith)) }
reached [] (sub ∷ subs) first words size p few all within at = absurd within
reached (dim ∷ dims) [] first words size p few all within at = absurd within
reached (dim ∷ dims) (sub ∷ subs) first words size p few all within at =
    let up = above dim sub (All-head IsOrdered dim dims all) within.0 within.1 in
    let step = moved-is dim dims first words size p sub few all at up.count up.is up.below within.0 within.1 in
    let next = moved-at dim dims first words size p sub (pos (at.here + up.count * at.part)) few all at step in
    let rest = reached dims subs first words (size *ℤ extent dim) (pos (at.here + up.count * at.part)) few (All-tail IsOrdered dim dims all) within.2 next in
    let width = extent-pos dim (All-head IsOrdered dim dims all) in
    let part_is : next.part ≡ at.part * width_of dim = ap nat_abs (sym next.size_is ∙ parts size (extent dim) at.part (width_of dim) at.size_is width) in
    let here_is : next.here ≡ at.here + up.count * at.part = ap nat_abs (sym next.here_is) in
    record {
      count = up.count + width_of dim * rest.count;
      offset_is = offsets (sub -ℤ dim.lo) (extent dim) (offset_of dims subs) up.count (width_of dim) rest.count up.is width rest.offset_is;
      is = ap (and_then (λ q. subscripted dims (size *ℤ extent dim) q (map (λ z. Ok z) subs))) step ∙ rest.is ∙ ap (λ n. Ok (pos n)) (whole next.here next.part rest.count at.here at.part up.count (width_of dim) here_is part_is);
    }
  where
    parts : (x y : ℤ) (a b : ℕ) → x ≡ pos a → y ≡ pos b → x *ℤ y ≡ pos (a * b)
    parts x y a b ex ey = rw (ex, ey) refl

    offsets : (x y z : ℤ) (a b c : ℕ) → x ≡ pos a → y ≡ pos b → z ≡ pos c → (x +ℤ y *ℤ z) ≡ pos (a + b * c)
    offsets x y z a b c ex ey ez = rw (ex, ey, ez) refl

    whole : (h q k here part n width : ℕ) → h ≡ here + n * part → q ≡ part * width → h + q * k ≡ here + part * (n + width * k)
    whole h q k here part n width eh eq =
        let a : part * width * k ≡ part * (width * k) = mul_assoc part width k in
        let b : n * part ≡ part * n = mul_comm n part in
        let c : part * (n + width * k) ≡ part * n + part * (width * k) = omega arith in
        ap (λ x. x + q * k) eh ∙ ap (λ x. here + n * part + x * k) eq ∙ omega (arith, a, b, c)

-- the word of an element within its bounds
pub word-is-element : (names : List NameInfo) (k words : ℕ) (subs : List ℤ) → ArePlaced names words → k < length names → AreWithin (dims_of names k) subs → word_of names k (map (λ z. Ok z) subs) ≡ Ok (element_word names k subs)
word-is-element names k words subs placed lt within =
    let taken = name-taken names k words placed lt in
    let at = taken.start in
    let there = reached (dims_of names k) subs (place_of names k) _ (pos 1) (pos (place_of names k)) taken.few taken.bounds within at in
    let here_is : at.here ≡ place_of names k = ap nat_abs (sym at.here_is) in
    let part_is : at.part ≡ 1 = ap nat_abs (sym at.size_is) in
    ap (and_then (λ p. Ok (nat_abs p))) there.is
    ∙ ap (λ n. Ok n) (ends at.here at.part there.count (place_of names k) here_is part_is ∙ ap (λ z. place_of names k + nat_abs z) (sym there.offset_is))
  where
    ends : (h q k place : ℕ) → h ≡ place → q ≡ 1 → h + q * k ≡ place + k
    ends h q k place eh eq = ap (λ x. x + q * k) eh ∙ ap (λ x. place + x * k) eq ∙ omega arith
