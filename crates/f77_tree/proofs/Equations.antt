-- The equations between places link names whose words overlap or meet.
use Rattle.std.proofs.Common.{◌≡◌, ℕ, suc, ◌+◌, ◌*◌, ◌<◌, ◌≤◌, ℤ, pos, List, [], ◌∷◌, ◌++◌, map, length, get_or, Bool, true, false, ◌⊎◌, inl, inr, refl, sym, subst, arith}
use Rattle.std.specs.Prelude.{All, ◌≤ℤ◌, ◌<ℤ◌, ◌+ℤ◌, ◌-ℤ◌, ◌*ℤ◌, nat_abs, flat_map, filter, cond, Option}
use Rattle.std.proofs.lemmas.Int.{ints}
use Rattle.std.proofs.Math.Nat.{mul-le-mul_left}
use Rattle.f77_tree.specs.declared.declarations.CommonPart.{CommonPart}
use Rattle.f77_tree.specs.declared.declarations.Decl.{Decl}
use Rattle.f77_tree.specs.declared.declarations.Dim.{Dim}
use Rattle.f77_tree.specs.declared.declarations.Member.{Member}
use Rattle.f77_tree.specs.declared.programs.NameInfo.{NameInfo}
use Rattle.f77_tree.specs.Value.{place_of, dims_of, extent, size_of}
use Rattle.f77_tree.specs.Declarations.{IsDim, AreWithin, IsMember, IsGroup, IsCommonPart, member_index, member_offset, offset_of, part_names, index_of}
use Rattle.f77_tree.specs.Places.{Equation, block_names, same_block, common_equations, equated, equations, group_equations, neighbours}
use Rattle.f77_tree.proofs.AllLemmas.{All-nil, All-cons, All-first, All-rest}
use Rattle.f77_tree.proofs.Coverage.{Touches}
use Rattle.f77_tree.proofs.Places.{IsOrdered, nonneg, count_of, extent-pos, count-is, count-one}

-- ---- offsets are counts

ordered : (dims : List Dim) → All IsDim dims → All IsOrdered dims
ordered dims all k d lt = (all k d lt).order

-- an element within the bounds lies among the elements
pub offset-below : (dims : List Dim) (subs : List ℤ) → All IsDim dims → AreWithin dims subs → (k : ℕ) × (offset_of dims subs ≡ pos k) × (k < count_of dims)
offset-below [] [] all is = (0, refl, omega arith)
offset-below [] (sub ∷ subs) all is = absurd is
offset-below (dim ∷ dims) [] all is = absurd is
offset-below (dim ∷ dims) (sub ∷ subs) all is =
    let order = (All-first IsDim dim dims all).order in
    let e = extent-pos dim order in
    let rest = offset-below dims subs (All-rest IsDim dim dims all) is.2 in
    let low = is.0 in
    let high = is.1 in
    let a = nonneg (sub -ℤ dim.lo) (omega (arith, ints, low)) in
    let m = nat_abs (extent dim) in
    let f : nat_abs (sub -ℤ dim.lo) < m = omega (arith, ints, a, e, high) in
    let k = rest.0 in
    let below : suc k ≤ count_of dims = omega (arith, rest.2) in
    let product = mul-le-mul_left m below in
    (nat_abs (sub -ℤ dim.lo) + m * k, whole (sub -ℤ dim.lo) (extent dim) (offset_of dims subs) (nat_abs (sub -ℤ dim.lo)) m k a e rest.1, under (nat_abs (sub -ℤ dim.lo)) m k (count_of dims) f product)
  where
    whole : (x y z : ℤ) (a m k : ℕ) → x ≡ pos a → y ≡ pos m → z ≡ pos k → (x +ℤ y *ℤ z) ≡ pos (a + m * k)
    whole x y z a m k ex ey ez = rw (ex, ey, ez) refl

    under : (a m k n : ℕ) → a < m → m * suc k ≤ m * n → a + m * k < m * n
    under a m k n lt le = omega (arith, lt, le)

offset-alone : (dims : List Dim) → offset_of dims [] ≡ pos 0
offset-alone [] = refl
offset-alone (dim ∷ dims) = refl

-- ---- lists

All-append : {Y : Type 0} (P : Y → Type 0) (xs ys : List Y) → All P xs → All P ys → All P (xs ++ ys)
All-append P [] ys all more = more
All-append P (x ∷ xs) ys all more = All-cons P x (xs ++ ys) (All-first P x xs all) (All-append P xs ys (All-rest P x xs all) more)

module _ {X Y : Type 0} (P : Y → Type 0) where
  pub All-flat : (f : X → List Y) (xs : List X) → ((k : ℕ) (d : X) → k < length xs → All P (f (get_or xs k d))) → All P (flat_map f xs)
  All-flat f [] all = All-nil P
  All-flat f (x ∷ xs) all = All-append P (f x) (flat_map f xs) (all 0 x (omega arith)) (All-flat f xs (λ k d lt. all (suc k) d (omega (arith, lt))))

  All-map : (f : X → Y) (xs : List X) → ((k : ℕ) (d : X) → k < length xs → P (f (get_or xs k d))) → All P (map f xs)
  All-map f [] all = All-nil P
  All-map f (x ∷ xs) all = All-cons P (f x) (map f xs) (all 0 x (omega arith)) (All-map f xs (λ k d lt. all (suc k) d (omega (arith, lt))))

pub All-filter : {X : Type 0} (P : X → Type 0) (test : X → Bool) (xs : List X) → All P xs → All P (filter test xs)
All-filter P test [] all = All-nil P
All-filter {X} P test (x ∷ xs) all = by (test x) (All-filter P test xs (All-rest P x xs all))
  where
    by : (b : Bool) → All P (filter test xs) → All P (cond b (x ∷ filter test xs) (filter test xs))
    by true more = All-cons P x (filter test xs) (All-first P x xs all) more
    by false more = more

-- ---- equations

module _ (names : List NameInfo) (bounds : (x : ℕ) → x < length names → All IsDim (dims_of names x)) where
  -- the equation, where it holds, links names whose words overlap or meet
  abbrev pub TouchesIfEqual : Equation → Type 0
  TouchesIfEqual e = pos (place_of names e.to) ≡ (pos (place_of names e.from) +ℤ e.distance) → Touches names e

  -- a name has at least one word
  pub size-one : (x : ℕ) → x < length names → pos 1 ≤ℤ size_of (dims_of names x)
  size-one x known =
      let s = count-is (dims_of names x) (ordered (dims_of names x) (bounds x known)) in
      let c = count-one (dims_of names x) (ordered (dims_of names x) (bounds x known)) in
      omega (arith, ints, s, c)

  neighbour-touches : (x y : ℕ) → x < length names → y < length names → TouchesIfEqual (record { from = x; to = y; distance = size_of (dims_of names x) })
  neighbour-touches x y x_known y_known equal =
      let a = size-one x x_known in
      let b = size-one y y_known in
      record { from_known = x_known; to_known = y_known; from_meets = omega (arith, ints, equal); to_meets = omega (arith, ints, equal, a, b) }

  neighbours-touch : (xs : List ℕ) → All (λ x. x < length names) xs → All TouchesIfEqual (neighbours names xs)
  neighbours-touch [] all = All-nil TouchesIfEqual
  neighbours-touch (x ∷ []) all = All-nil TouchesIfEqual
  neighbours-touch (x ∷ y ∷ rest) all =
      All-cons TouchesIfEqual _ (neighbours names (y ∷ rest)) (neighbour-touches x y (all 0 x (omega arith)) (all 1 x (omega arith))) (neighbours-touch (y ∷ rest) (All-rest (λ z. z < length names) x (y ∷ rest) all))

  pub member-below : (m : Member) → IsMember names m → (k : ℕ) × (member_offset names m ≡ pos k) × (pos k <ℤ size_of (dims_of names (member_index names m)))
  member-below m is = by is.element
    where
      by : (m.subs ≡ []) ⊎ AreWithin (dims_of names (member_index names m)) m.subs → (k : ℕ) × (member_offset names m ≡ pos k) × (pos k <ℤ size_of (dims_of names (member_index names m)))
      by (inl alone) =
          let s = size-one (member_index names m) is.known in
          (0, subst (λ subs. offset_of (dims_of names (member_index names m)) subs ≡ pos 0) (sym alone) (offset-alone (dims_of names (member_index names m))), omega (arith, ints, s))
      by (inr within) =
          let below = offset-below (dims_of names (member_index names m)) m.subs (bounds (member_index names m) is.known) within in
          let s = count-is (dims_of names (member_index names m)) (ordered (dims_of names (member_index names m)) (bounds (member_index names m) is.known)) in
          let lt = below.2 in
          (below.0, below.1, omega (arith, ints, s, lt))

  equated-touches : (a b : Member) → IsMember names a → IsMember names b → TouchesIfEqual (equated names a b)
  equated-touches a b is_a is_b equal =
      let m = member-below a is_a in
      let n = member-below b is_b in
      let e = m.1 in
      let f = n.1 in
      let g = m.2 in
      let h = n.2 in
      record { from_known = is_a.known; to_known = is_b.known; from_meets = omega (arith, ints, equal, e, f, g, h); to_meets = omega (arith, ints, equal, e, f, g, h) }

  group-touches : (group : List Member) → All (IsMember names) group → All TouchesIfEqual (group_equations names group)
  group-touches [] all = All-nil TouchesIfEqual
  group-touches (first ∷ rest) all = All-map TouchesIfEqual (equated names first) rest (λ k d lt. equated-touches first (get_or rest k d) (All-first (IsMember names) first rest all) (All-rest (IsMember names) first rest all k d lt))

  pub block-known : (commons : List CommonPart) (block : Option (List ℕ)) → All (IsCommonPart names) commons → All (λ x. x < length names) (block_names names commons block)
  block-known commons block all =
      let parts = All-filter (IsCommonPart names) (λ part. same_block part.block block) commons all in
      All-flat (λ x. x < length names) (part_names names) (filter (λ part. same_block part.block block) commons) (λ k d lt.
      let part = parts k d lt in
      All-map (λ x. x < length names) (λ (decl : Decl). index_of names decl.name) (get_or (filter (λ part. same_block part.block block) commons) k d).decls (λ j e below. (part.names_known j e below).known))

  -- each equation of a program, where it holds, links names whose words overlap or meet
  pub equations-touch : (commons : List CommonPart) (groups : List (List Member)) → All (IsCommonPart names) commons → All (IsGroup names) groups → All TouchesIfEqual (equations names commons groups)
  equations-touch commons groups common equivalence =
      All-append TouchesIfEqual (common_equations names commons) (flat_map (group_equations names) groups)
      (All-flat TouchesIfEqual (λ (part : CommonPart). neighbours names (block_names names commons part.block)) commons (λ k d lt. neighbours-touch (block_names names commons (get_or commons k d).block) (block-known commons (get_or commons k d).block common)))
      (All-flat TouchesIfEqual (group_equations names) groups (λ k d lt. group-touches (get_or groups k d) (equivalence k d lt).members))
