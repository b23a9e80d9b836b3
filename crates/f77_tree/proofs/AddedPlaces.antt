-- Scalars at the words after those of a program have right places, and leave those of the other names.
use Rattle.std.proofs.Common.{◌≡◌, ℕ, zero, suc, ◌+◌, ◌-◌, ◌<◌, ◌≤◌, ℤ, pos, ◌+ℤ◌, ◌-ℤ◌, ◌≤ℤ◌, List, [], ◌∷◌, ◌++◌, length, flat_map, All, Option, Some, slice_get, ◌⊎◌, inl, inr, refl, sym, ap, subst, ◌∙◌, ⊎_elim, arith, length-append}
use Rattle.std.specs.Prelude.{Contains, filter}
use Rattle.std.proofs.lemmas.Bool.{cases_lt}
use Rattle.std.proofs.lemmas.Int.{ints}
use Rattle.f77_tree.specs.declared.declarations.CommonPart.{CommonPart}
use Rattle.f77_tree.specs.declared.declarations.Dim.{Dim}
use Rattle.f77_tree.specs.declared.declarations.InitPart.{InitPart}
use Rattle.f77_tree.specs.declared.declarations.Member.{Member}
use Rattle.f77_tree.specs.declared.programs.NameInfo.{NameInfo}
use Rattle.f77_tree.specs.AddedNames.{AreNewScalars}
use Rattle.f77_tree.specs.Declarations.{IsDim, IsMember, IsGroup, IsCommonPart, part_names, member_index, member_offset}
use Rattle.f77_tree.specs.Places.{ArePlaces, BeginsAfter, EndsAt, Equation, IsEarlier, IsFirstOfBlock, IsLowest, Linked, itself, along, against, block_names, common_equations, end_of, equated, equations, group_equations, neighbours, same_block}
use Rattle.f77_tree.specs.Value.{place_in, dims_in, place_of, dims_of, size_of}
use Rattle.f77_tree.specs.WellFormed.{AreDeclarations}
use Rattle.f77_tree.proofs.AllLemmas.{All-rest, All-get, get-longer}
use Rattle.f77_tree.proofs.AddedNames.{map-same, flat-same, index-longer, dims-longer, place-longer, offset-longer, part_names-longer, known-longer}
use Rattle.f77_tree.proofs.Coverage.{Touches}
use Rattle.f77_tree.proofs.Equations.{All-filter, TouchesIfEqual, block-known, equations-touch}
use Rattle.f77_tree.proofs.WellFormedLaws.{table-bounds}

-- ---- items after those of a list

pub get-after : {X : Type 0} (xs ys : List X) (j : ℕ) → slice_get (xs ++ ys) (length xs + j) ≡ slice_get ys j
get-after [] ys j = let e : 0 + j ≡ j = omega arith in ap (slice_get ys) e
get-after (x ∷ xs) ys j = let e : suc (length xs) + j ≡ suc (length xs + j) = omega arith in ap (slice_get (x ∷ (xs ++ ys))) e ∙ get-after xs ys j

pub get-some : {X : Type 0} (xs : List X) (k : ℕ) → k < length xs → (x : X) × (slice_get xs k ≡ Some x)
get-some [] k lt = absurd (omega (arith, lt))
get-some (x ∷ xs) zero lt = (x, refl)
get-some (x ∷ xs) (suc k) lt = get-some xs k (omega (arith, lt))

-- ---- the equations are the same

module _ (names more : List NameInfo) (commons : List CommonPart) (common : All (IsCommonPart names) commons) (bounds : (x : ℕ) → x < length names → All IsDim (dims_of names x)) where
  pub blocks-longer : (block : Option (List ℕ)) → block_names (names ++ more) commons block ≡ block_names names commons block
  blocks-longer block =
      flat-same (IsCommonPart names) (part_names (names ++ more)) (part_names names) (part_names-longer names more)
      (filter (λ part. same_block part.block block) commons) (All-filter (IsCommonPart names) (λ part. same_block part.block block) commons common)

  neighbours-longer : (xs : List ℕ) → All (λ x. x < length names) xs → neighbours (names ++ more) xs ≡ neighbours names xs
  neighbours-longer [] known = refl
  neighbours-longer (x ∷ []) known = refl
  neighbours-longer (x ∷ y ∷ rest) known =
      let equation : List Dim → Equation = λ dims. record { from = x; to = y; distance = size_of dims } in
      ap (λ (dims : List Dim). equation dims ∷ neighbours (names ++ more) (y ∷ rest)) (dims-longer names more x (known 0 x (omega arith)))
      ∙ ap (λ es. equation (dims_of names x) ∷ es) (neighbours-longer (y ∷ rest) (All-rest (λ z. z < length names) x (y ∷ rest) known))

  common-same : common_equations (names ++ more) commons ≡ common_equations names commons
  common-same =
      flat-same (IsCommonPart names) (λ part. neighbours (names ++ more) (block_names (names ++ more) commons part.block)) (λ part. neighbours names (block_names names commons part.block))
      (λ part is. ap (neighbours (names ++ more)) (blocks-longer part.block) ∙ neighbours-longer (block_names names commons part.block) (block-known names bounds commons part.block common)) commons common

  equated-longer : (a b : Member) → IsMember names a → IsMember names b → equated (names ++ more) a b ≡ equated names a b
  equated-longer a b is also =
      let make : ℕ → ℕ → ℤ → Equation = λ x y d. record { from = x; to = y; distance = d } in
      ap (λ x. make x (member_index (names ++ more) b) (member_offset (names ++ more) a -ℤ member_offset (names ++ more) b)) (index-longer names more a.name is.known)
      ∙ ap (λ y. make (member_index names a) y (member_offset (names ++ more) a -ℤ member_offset (names ++ more) b)) (index-longer names more b.name also.known)
      ∙ ap (λ d. make (member_index names a) (member_index names b) (d -ℤ member_offset (names ++ more) b)) (offset-longer names more a is)
      ∙ ap (λ d. make (member_index names a) (member_index names b) (member_offset names a -ℤ d)) (offset-longer names more b also)

  group-same : (group : List Member) → All (IsMember names) group → group_equations (names ++ more) group ≡ group_equations names group
  group-same [] members = refl
  group-same (first ∷ rest) members =
      map-same (IsMember names) (equated (names ++ more) first) (equated names first) (λ b also. equated-longer first b (members 0 first (omega arith)) also) rest (All-rest (IsMember names) first rest members)

  pub equations-longer : (groups : List (List Member)) → All (IsGroup names) groups → equations (names ++ more) commons groups ≡ equations names commons groups
  equations-longer groups equivalence =
      ap (λ es. es ++ flat_map (group_equations (names ++ more)) groups) common-same
      ∙ ap (λ es. common_equations names commons ++ es) (flat-same (IsGroup names) (group_equations (names ++ more)) (group_equations names) (λ group is. group-same group is.members) groups equivalence)

-- ---- places

-- both ends of an equation are names of the table
pub record IsBetween (names : List NameInfo) (e : Equation) : Type 0 where
  pub from_known : e.from < length names
  pub to_known : e.to < length names

module _ (names more : List NameInfo) (words : ℕ) (new : AreNewScalars names more words) (commons : List CommonPart) (all : List Equation) (is : ArePlaces names commons all words)
    (between : (e : Equation) → Contains all e → IsBetween names e) (blocks : (block : Option (List ℕ)) → block_names (names ++ more) commons block ≡ block_names names commons block)
    (in_block : (block : Option (List ℕ)) → All (λ x. x < length names) (block_names names commons block)) where
  -- ---- what is linked to a name of the table is one

  linked-known : (x y : ℕ) → Linked all x y → x < length names → y < length names
  linked-known x y itself known = known
  linked-known x y (along e at rest) known = linked-known e.to y rest (between e at).to_known
  linked-known x y (against e at rest) known = linked-known e.from y rest (between e at).from_known

  linked-new : (x y : ℕ) → Linked all x y → length names ≤ x → x ≡ y
  linked-new x y itself le = refl
  linked-new x y (along e at rest) le = let lt = (between e at).from_known in absurd (omega (arith, le, lt))
  linked-new x y (against e at rest) le = let lt = (between e at).to_known in absurd (omega (arith, le, lt))

  linked-to-new : (x y : ℕ) → Linked all x y → length names ≤ y → x ≡ y
  linked-to-new x y linked le = ⊎_elim (λ (lt : x < length names). let below = linked-known x y linked lt in absurd (omega (arith, le, below))) (λ ge. linked-new x y linked ge) (cases_lt x (length names))

  -- ---- words of old names and of new ones

  end-old : (x : ℕ) → x < length names → end_of (names ++ more) x ≡ end_of names x
  end-old x lt = ap (λ (o : Option NameInfo). pos (place_in o) +ℤ size_of (dims_in o)) (get-longer names more x lt)

  -- the new name after j others
  record IsNew (x j : ℕ) : Type 0 where
    at : x ≡ length names + j
    below : j < length more
    place : place_of (names ++ more) x ≡ words + j
    ends : end_of (names ++ more) x ≡ pos (suc (words + j))

  is-new : (j : ℕ) → j < length more → IsNew (length names + j) j
  is-new j lt =
      let found = get-some more j lt in
      let entry : slice_get (names ++ more) (length names + j) ≡ Some found.0 = get-after names more j ∙ found.1 in
      let place : place_of (names ++ more) (length names + j) ≡ words + j = ap place_in entry ∙ new.places j found.0 found.1 in
      let dims : dims_of (names ++ more) (length names + j) ≡ [] = ap dims_in entry ∙ All-get (λ info. info.dims ≡ []) more j found.0 new.scalars found.1 in
      record {
        at = refl;
        below = lt;
        place = place;
        ends = ap (λ p. pos p +ℤ size_of (dims_of (names ++ more) (length names + j))) place ∙ ap (λ (ds : List Dim). pos (words + j) +ℤ size_of ds) dims ∙ omega (arith, ints);
      }

  new-at : (x : ℕ) → x < length (names ++ more) → length names ≤ x → (j : ℕ) × IsNew x j
  new-at x lt le =
      let both = length-append names more in
      let e : length names + (x - length names) ≡ x = omega (arith, le) in
      (x - length names, subst (λ y. IsNew y (x - length names)) e (is-new (x - length names) (omega (arith, lt, le, both))))

  old-or-new : (x : ℕ) → x < length (names ++ more) → (x < length names) ⊎ ((j : ℕ) × IsNew x j)
  old-or-new x lt = ⊎_elim (λ (old : x < length names). inl old) (λ le. inr (new-at x lt le)) (cases_lt x (length names))

  -- ---- the places of the longer table

  extended-longer : (x y : ℕ) → IsFirstOfBlock (names ++ more) commons x → Linked all x y → place_of (names ++ more) x ≤ place_of (names ++ more) y
  extended-longer x y first linked =
      let here : slice_get (block_names names commons first.block) 0 ≡ Some x = ap (λ (xs : List ℕ). slice_get xs 0) (sym (blocks first.block)) ∙ first.first in
      let x_known : x < length names = All-get (λ z. z < length names) (block_names names commons first.block) 0 x (in_block first.block) here in
      let old = is.extended x y (record { block = first.block; first = here }) linked in
      let a = place-longer names more x x_known in
      let b = place-longer names more y (linked-known x y linked x_known) in
      omega (arith, old, a, b)

  within-longer : (x : ℕ) → x < length (names ++ more) → end_of (names ++ more) x ≤ℤ pos (words + length more)
  within-longer x lt = by (old-or-new x lt)
    where
      by : (x < length names) ⊎ ((j : ℕ) × IsNew x j) → end_of (names ++ more) x ≤ℤ pos (words + length more)
      by (inl old) = let e = end-old x old in let inside = is.within x old in omega (arith, ints, e, inside)
      by (inr added) = let e = added.1.ends in let below = added.1.below in omega (arith, ints, e, below)

  ordered-longer : (x y : ℕ) → x < length (names ++ more) → y < length (names ++ more) → IsEarlier all x y → end_of (names ++ more) x ≤ℤ pos (place_of (names ++ more) y)
  ordered-longer x y x_lt y_lt earlier = by (old-or-new x x_lt) (old-or-new y y_lt)
    where
      -- a new name is earlier than no name before it
      later : (j : ℕ) → IsNew x j → x < y
      later j added =
          let at = added.at in
          let same : earlier.witness ≡ x = linked-to-new earlier.witness x earlier.linked (omega (arith, at)) in
          let before = earlier.before y itself in
          omega (arith, same, before)

      by : (x < length names) ⊎ ((j : ℕ) × IsNew x j) → (y < length names) ⊎ ((k : ℕ) × IsNew y k) → end_of (names ++ more) x ≤ℤ pos (place_of (names ++ more) y)
      by (inl old) (inl also) =
          let e = end-old x old in
          let p = place-longer names more y also in
          let h = is.ordered x y old also earlier in
          omega (arith, ints, e, p, h)
      by (inl old) (inr added) =
          let e = end-old x old in
          let p = added.1.place in
          let h = is.within x old in
          omega (arith, ints, e, p, h)
      by (inr added) (inl old) = let lt = later added.0 added.1 in let at = added.1.at in absurd (omega (arith, lt, at, old))
      by (inr added) (inr also) =
          let lt = later added.0 added.1 in
          let at = added.1.at in
          let there = also.1.at in
          let e = added.1.ends in
          let p = also.1.place in
          omega (arith, ints, lt, at, there, e, p)

  -- each name before a new one is earlier
  earlier-new : (x y : ℕ) → x < y → length names ≤ y → IsEarlier all x y
  earlier-new x y lt le = record { witness = x; linked = itself; before = λ z linked. let same = linked-to-new z y linked le in omega (arith, same, lt) }

  begins-new : (y j : ℕ) → IsNew y j → (place_of (names ++ more) y ≡ 0) ⊎ BeginsAfter (names ++ more) all y
  begins-new y zero added = by is.ends
    where
      by : (words ≡ 0) ⊎ EndsAt names words → (place_of (names ++ more) y ≡ 0) ⊎ BeginsAfter (names ++ more) all y
      by (inl none) = let p = added.place in inl (omega (arith, none, p))
      by (inr ends) =
          let at = added.at in
          let known = ends.known in
          let p = added.place in
          let place_is : words ≡ place_of (names ++ more) y = omega (arith, p) in
          inr (record {
            name = ends.name;
            known = known-longer names more ends.name known;
            earlier = earlier-new ends.name y (omega (arith, at, known)) (omega (arith, at));
            meets = end-old ends.name known ∙ ends.meets ∙ ap pos place_is;
          })
  begins-new y (suc i) added =
      let below = added.below in
      let at = added.at in
      let p = added.place in
      let last = is-new i (omega (arith, below)) in
      let both = length-append names more in
      let place_is : suc (words + i) ≡ place_of (names ++ more) y = omega (arith, p) in
      inr (record {
        name = length names + i;
        known = omega (arith, below, both);
        earlier = earlier-new (length names + i) y (omega (arith, at)) (omega (arith, at));
        meets = last.ends ∙ ap pos place_is;
      })

  begins-longer : (y : ℕ) → y < length (names ++ more) → IsLowest (names ++ more) all y → (place_of (names ++ more) y ≡ 0) ⊎ BeginsAfter (names ++ more) all y
  begins-longer y lt lowest = by (old-or-new y lt)
    where
      old-begins : y < length names → (place_of names y ≡ 0) ⊎ BeginsAfter names all y → (place_of (names ++ more) y ≡ 0) ⊎ BeginsAfter (names ++ more) all y
      old-begins old (inl first) = inl (place-longer names more y old ∙ first)
      old-begins old (inr begins) = inr (record {
        name = begins.name;
        known = known-longer names more begins.name begins.known;
        earlier = begins.earlier;
        meets = end-old begins.name begins.known ∙ begins.meets ∙ ap pos (sym (place-longer names more y old));
      })

      low : y < length names → IsLowest names all y
      low old z known linked =
          let h = lowest z (known-longer names more z known) linked in
          let a = place-longer names more y old in
          let b = place-longer names more z known in
          omega (arith, h, a, b)

      by : (y < length names) ⊎ ((j : ℕ) × IsNew y j) → (place_of (names ++ more) y ≡ 0) ⊎ BeginsAfter (names ++ more) all y
      by (inl old) = old-begins old (is.begins y old (low old))
      by (inr added) = begins-new y added.0 added.1

  ends-longer : (words + length more ≡ 0) ⊎ EndsAt (names ++ more) (words + length more)
  ends-longer = by (length more) refl is.ends
    where
      by : (n : ℕ) → length more ≡ n → (words ≡ 0) ⊎ EndsAt names words → (words + length more ≡ 0) ⊎ EndsAt (names ++ more) (words + length more)
      by zero e (inl none) = inl (omega (arith, e, none))
      by zero e (inr ends) =
          let same : words ≡ words + length more = omega (arith, e) in
          inr (record { name = ends.name; known = known-longer names more ends.name ends.known; meets = end-old ends.name ends.known ∙ ends.meets ∙ ap pos same })
      by (suc i) e _ =
          let last = is-new i (omega (arith, e)) in
          let both = length-append names more in
          let same : suc (words + i) ≡ words + length more = omega (arith, e) in
          inr (record { name = length names + i; known = omega (arith, e, both); meets = last.ends ∙ ap pos same })

  pub are-places : ArePlaces (names ++ more) commons all (words + length more)
  are-places = record {
    equal = λ e at.
        ap (λ p. pos p) (place-longer names more e.to (between e at).to_known) ∙ is.equal e at ∙ ap (λ p. pos p +ℤ e.distance) (sym (place-longer names more e.from (between e at).from_known));
    blocks = λ a b x y in_a in_b linked. is.blocks a b x y (subst (λ (xs : List ℕ). Contains xs x) (blocks a) in_a) (subst (λ (xs : List ℕ). Contains xs y) (blocks b) in_b) linked;
    extended = extended-longer;
    within = within-longer;
    ordered = ordered-longer;
    begins = begins-longer;
    ends = ends-longer;
  }

-- the places of a program with scalars added
pub places-longer : (names more : List NameInfo) (commons : List CommonPart) (groups : List (List Member)) (inits : List InitPart) (words : ℕ) → AreNewScalars names more words → AreDeclarations names commons groups inits → ArePlaces names commons (equations names commons groups) words → ArePlaces (names ++ more) commons (equations (names ++ more) commons groups) (words + length more)
places-longer names more commons groups inits words new are is =
    let bounds : (x : ℕ) → x < length names → All IsDim (dims_of names x) = table-bounds names are.table in
    let touches : (e : Equation) → Contains (equations names commons groups) e → Touches names e = λ e at.
    subst (λ q. TouchesIfEqual names bounds q) at.2 (equations-touch names bounds commons groups are.common are.equivalence at.0 e at.1) (is.equal e at)
    in
    subst (λ es. ArePlaces (names ++ more) commons es (words + length more)) (sym (equations-longer names more commons are.common bounds groups are.equivalence))
    (are-places names more words new commons (equations names commons groups) is (λ e at. record { from_known = (touches e at).from_known; to_known = (touches e at).to_known })
    (blocks-longer names more commons are.common bounds) (λ block. block-known names bounds commons block are.common))
