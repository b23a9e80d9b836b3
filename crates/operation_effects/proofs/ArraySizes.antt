-- How many words a name has, as a number, and where they lie.
use Rattle.std.proofs.Common.{◌≡◌, ℕ, suc, zero, ◌+◌, ◌*◌, ◌<◌, ◌≤◌, pos, ◌≤ℤ◌, nat_abs, List, [], ◌∷◌, length, get_or, drop, All, add-one, drop-cons, refl, ap, sym, ◌∙◌, subst, arith}
use Rattle.std.proofs.Math.Nat.{mul_comm, mul_assoc, one-mul, mul-one, mul-le-mul_right, one-le-mul}
use Rattle.std.proofs.lemmas.List.{drop_all}
use Rattle.std.proofs.lemmas.Int.{ints}
use Rattle.f77_tree.specs.declared.declarations.Dim.{Dim}
use Rattle.f77_tree.specs.declared.programs.NameInfo.{NameInfo}
use Rattle.f77_tree.specs.Value.{extent, size_of, ArePlaced, IsPlaced}
use Rattle.f77_tree.proofs.Places.{IsOrdered, width_of, count_of, count-is, count-one, extent-one}

-- one factor more
factor_le : (s w r t : ℕ) → 1 ≤ s → 1 ≤ r → s * (w * r) ≡ t → (w ≤ t) × (s * w ≤ t)
factor_le s w r t s_some r_some is =
    let a : s * w ≤ s * w * r = subst (λ x. s * w ≤ x) (mul_comm r (s * w)) (subst (λ x. x ≤ r * (s * w)) (one-mul (s * w)) (mul-le-mul_right (s * w) r_some)) in
    let b : s * w * r ≡ t = mul_assoc s w r ∙ is in
    let d : w ≤ s * w = subst (λ x. x ≤ s * w) (one-mul w) (mul-le-mul_right w s_some) in
    (omega (arith, a, b, d), omega (arith, a, b))

all_dropped : (dims : List Dim) (i : ℕ) → All IsOrdered dims → All IsOrdered (drop i dims)
all_dropped dims zero all = all
all_dropped [] (suc i) all = all
all_dropped (dim ∷ dims) (suc i) all = all_dropped dims i (λ k d lt. all (suc k) d (omega (arith, lt)))

-- the size so far, and the next dimension
pub record NextSize (dims : List Dim) (i size : ℕ) (dim : Dim) : Type 0 where
  pub order : IsOrdered dim
  pub few : width_of dim ≤ 2147483647
  pub fits : size * width_of dim ≤ 2147483647
  pub some : 1 ≤ size * width_of dim
  pub whole : size * width_of dim * count_of (drop (i + 1) dims) ≡ count_of dims

pub next_size : (dims : List Dim) (i size : ℕ) (d : Dim) → All IsOrdered dims → size_of dims ≤ℤ pos 2147483647 → i < length dims → 1 ≤ size → size * count_of (drop i dims) ≡ count_of dims → NextSize dims i size (get_or dims i d)
next_size dims i size d all most lt some whole =
    let dim = get_or dims i d in
    let here : IsOrdered dim = all i d lt in
    let rest = count-one (drop (i + 1) dims) (all_dropped dims (i + 1) all) in
    let split : count_of (drop i dims) ≡ width_of dim * count_of (drop (i + 1) dims) = rw (add-one, drop-cons dims i d) refl in
    let product : size * (width_of dim * count_of (drop (i + 1) dims)) ≡ count_of dims = sym (ap (λ x. size * x) split) ∙ whole in
    let bounds = factor_le size (width_of dim) (count_of (drop (i + 1) dims)) (count_of dims) some rest product in
    let total : count_of dims ≤ 2147483647 = let is = count-is dims all in omega (arith, ints, most, is) in
    record {
      order = here;
      few = omega (arith, bounds.0, total);
      fits = omega (arith, bounds.1, total);
      some = one-le-mul some (extent-one dim here);
      whole = mul_assoc size (width_of dim) (count_of (drop (i + 1) dims)) ∙ product;
    }

pub whole_size : (dims : List Dim) (i size : ℕ) → All IsOrdered dims → length dims ≤ i → size * count_of (drop i dims) ≡ count_of dims → pos size ≡ size_of dims
whole_size dims i size all end whole =
    let none : drop i dims ≡ [] = drop_all i dims end in
    let is : size * 1 ≡ count_of dims = sym (ap (λ (ds : List Dim). size * count_of ds) none) ∙ whole in
    ap pos (sym (mul-one size) ∙ is) ∙ sym (count-is dims all)

pub width_nat : (w : ℕ) (dim : Dim) → pos w ≡ extent dim → w ≡ width_of dim
width_nat w dim is = ap nat_abs is

-- the words of a name of the table
pub record IsPlacedName (names : List NameInfo) (words k : ℕ) (info : NameInfo) : Type 0 where
  pub order : All IsOrdered info.dims
  pub few : size_of info.dims ≤ℤ pos 2147483647
  pub inside : (size : ℕ) → pos size ≡ size_of info.dims → info.place + size ≤ words
  pub word : info.place < words

pub placed_name : (names : List NameInfo) (words k : ℕ) (info : NameInfo) → ArePlaced names words → k < length names → info ≡ get_or names k info → IsPlacedName names words k info
placed_name names words k info placed lt is =
    let at : IsPlaced words info = subst (IsPlaced words) (sym is) (placed.each k info lt) in
    let inside = at.inside in
    let few = placed.few in
    let size = count-is info.dims at.bounds in
    let some = count-one info.dims at.bounds in
    record {
      order = at.bounds;
      few = omega (arith, ints, inside, few, size, some);
      inside = λ n same. omega (arith, ints, inside, same);
      word = omega (arith, ints, inside, size, some);
    }
