-- How many words the parts of dimensions have, while subscripts are taken one after another.
use Rattle.std.proofs.Common.{◌≡◌, ℕ, suc, ◌+◌, ◌*◌, ◌<◌, ◌≤◌, ℤ, pos, ◌*ℤ◌, ◌<ℤ◌, List, ◌∷◌, length, drop, get_or, All, refl, sym, ap, subst, ◌∙◌, add-one, drop-cons, arith}
use Rattle.std.proofs.lemmas.Int.{ints}
use Rattle.std.proofs.Math.Nat.{mul-le-mul_left, mul-le-mul_right, mul_assoc}
use Rattle.op_table.specs.Words.{IsWord}
use Rattle.f77_tree.specs.declared.declarations.Dim.{Dim}
use Rattle.f77_tree.specs.declared.programs.NameInfo.{NameInfo}
use Rattle.f77_tree.specs.Value.{dims_of, extent, ArePlaced}
use Rattle.f77_tree.proofs.Places.{IsOrdered, All-head, All-tail, width_of, extent-pos, extent-one, count_of, count-one, name-taken}

-- so many words of a part have room for what these dimensions leave
pub record HasParts (dims : List Dim) (size : ℤ) : Type 0 where
  pub part : ℕ
  pub size_is : size ≡ pos part
  pub some : 1 ≤ part
  pub fits : part * count_of dims ≤ 2147483647

-- a dimension that is still to come
pub record NextPart (dim : Dim) (more : List Dim) (size : ℤ) : Type 0 where
  pub is_dim : IsOrdered dim
  pub few : extent dim <ℤ pos 2147483648
  pub width : IsWord (extent dim)
  pub rest : All IsOrdered more
  pub size_word : IsWord (size *ℤ extent dim)
  pub parts : HasParts more (size *ℤ extent dim)

next-part : (dim : Dim) (more : List Dim) (size : ℤ) → All IsOrdered (dim ∷ more) → HasParts (dim ∷ more) size → NextPart dim more size
next-part dim more size all at =
    let is_dim = All-head IsOrdered dim more all in
    let rest = All-tail IsOrdered dim more all in
    let w = width_of dim in
    let c = count_of more in
    let width = extent-pos dim is_dim in
    let wide = extent-one dim is_dim in
    let one = count-one more rest in
    let fits = at.fits in
    let some = at.some in
    let m : w * 1 ≤ w * c = mul-le-mul_left w one in
    let n : 1 * (w * c) ≤ at.part * (w * c) = mul-le-mul_right (w * c) some in
    let whole : at.part * (w * c) ≡ at.part * w * c = sym (mul_assoc at.part w c) in
    let o : at.part * w * 1 ≤ at.part * w * c = mul-le-mul_left (at.part * w) one in
    let q : at.part * 1 ≤ at.part * w = mul-le-mul_left at.part wide in
    let small : w ≤ 2147483647 = omega (arith, m, n, fits) in
    let part_small : at.part * w ≤ 2147483647 = omega (arith, o, whole, fits) in
    let size_is : size *ℤ extent dim ≡ pos (at.part * w) = ap (λ x. x *ℤ extent dim) at.size_is ∙ ap (λ x. pos at.part *ℤ x) width in
    record {
      is_dim = is_dim;
      few = omega (arith, ints, width, small);
      width = subst IsWord (sym width) (record { sfits = omega (arith, small) });
      rest = rest;
      size_word = subst IsWord (sym size_is) (record { sfits = omega (arith, part_small) });
      parts = record { part = at.part * w; size_is = size_is; some = omega (arith, q, some); fits = omega (arith, whole, fits) };
    }

-- the dimension number k
pub part-at : (dims : List Dim) (k : ℕ) (dim : Dim) (size : ℤ) → k < length dims → dim ≡ get_or dims k dim → All IsOrdered (drop k dims) → HasParts (drop k dims) size → NextPart dim (drop (k + 1) dims) size
part-at dims k dim size lt is all at =
    let cons : drop k dims ≡ dim ∷ drop (suc k) dims = drop-cons dims k dim lt ∙ ap (λ d. d ∷ drop (suc k) dims) (sym is) in
    let rest : drop (suc k) dims ≡ drop (k + 1) dims = ap (λ n. drop n dims) (sym (add-one k)) in
    subst (λ ds. NextPart dim ds size) rest (next-part dim (drop (suc k) dims) size (subst (All IsOrdered) cons all) (subst (λ ds. HasParts ds size) cons at))

-- those of a name
pub record NameParts (dims : List Dim) : Type 0 where
  pub bounds : All IsOrdered dims
  pub parts : HasParts dims (pos 1)

pub name-parts : (names : List NameInfo) (k words : ℕ) → ArePlaced names words → k < length names → NameParts (dims_of names k)
name-parts names k words placed lt =
    let taken = name-taken names k words placed lt in
    let few = taken.few in
    record { bounds = taken.bounds; parts = record { part = 1; size_is = refl; some = omega arith; fits = omega (arith, few) } }
