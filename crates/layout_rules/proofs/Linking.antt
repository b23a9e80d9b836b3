-- What an equation does to the places of names.
use Rattle.std.proofs.Common.{◌≡◌, ◌≢◌, ℕ, ◌+◌, ◌<◌, ◌≤◌, ◌⊎◌, inl, inr, ℤ, pos, ◌+ℤ◌, ◌-ℤ◌, Bool, cond, if◌then◌else◌, ◌==◌, nat_lt, List, [], ◌∷◌, length, map, get_or, ⊎_elim, refl, sym, ap, ◌∙◌, arith}
use Rattle.std.proofs.lemmas.Int.{ints}
use Rattle.std.proofs.lemmas.Bool.Decides.{nat_tests}
use Rattle.std.proofs.lemmas.Bool.{cases_order}
use Rattle.std.proofs.lemmas.List.{length-map, get_or-map}
use Rattle.std.proofs.lemmas.List.Sums.{sum_by-cons}
use Rattle.std.proofs.lemmas.Option.{slice_get-get_or}
use Rattle.f77_tree.specs.Places.{Equation}
use Rattle.layout_rules.specs.Storage.{Spot, spot_at, spot_or_alone, united, linked}
use Rattle.layout_rules.specs.Spots.{count_in, storage_at, distance_at, IsBelow, IsReach, AreNear}

-- the storage of a name after A and B became one
abbrev pub label : ℕ → ℕ → ℕ → ℕ
label a b s = if nat_lt a b then (if s == b then a else s) else if nat_lt b a then (if s == a then b else s) else s

-- how far a name moves
abbrev pub shift : (a b : Spot) → ℤ → ℕ → ℤ
shift a b d s = if nat_lt a.storage b.storage then (if s == b.storage then a.distance +ℤ d -ℤ b.distance else pos 0) else if nat_lt b.storage a.storage then (if s == a.storage then b.distance -ℤ d -ℤ a.distance else pos 0) else pos 0

pub storage-united : (a b : Spot) (d : ℤ) (s : Spot) → (united a b d s).storage ≡ label a.storage b.storage s.storage
storage-united a b d s = grind (arith, nat_tests)

pub distance-united : (a b : Spot) (d : ℤ) (s : Spot) → (united a b d s).distance ≡ s.distance +ℤ shift a b d s.storage
distance-united a b d s = grind (arith, nat_tests, ints)

pub label-apart : (a b s t : ℕ) → label a b s ≡ label a b t → (s ≡ t) ⊎ (((s ≡ a) × (t ≡ b)) ⊎ ((s ≡ b) × (t ≡ a)))
label-apart a b s t e = grind (arith, nat_tests)

pub label-joins : (a b : ℕ) → label a b a ≡ label a b b
label-joins a b = grind (arith, nat_tests)

shift-low : (a b : Spot) (d : ℤ) → a.storage < b.storage → (shift a b d a.storage ≡ pos 0) × (shift a b d b.storage ≡ a.distance +ℤ d -ℤ b.distance)
shift-low a b d lt = (grind (arith, nat_tests), grind (arith, nat_tests))

shift-high : (a b : Spot) (d : ℤ) → b.storage < a.storage → (shift a b d a.storage ≡ b.distance -ℤ d -ℤ a.distance) × (shift a b d b.storage ≡ pos 0)
shift-high a b d lt = (grind (arith, nat_tests), grind (arith, nat_tests))

across-low : (p q d x y : ℤ) → x ≡ pos 0 → y ≡ p +ℤ d -ℤ q → (q +ℤ y) -ℤ (p +ℤ x) ≡ d
across-low p q d x y e f = omega (arith, ints)

across-high : (p q d x y : ℤ) → x ≡ q -ℤ d -ℤ p → y ≡ pos 0 → (q +ℤ y) -ℤ (p +ℤ x) ≡ d
across-high p q d x y e f = omega (arith, ints)

pub shift-across : (a b : Spot) (d : ℤ) → a.storage ≢ b.storage → (b.distance +ℤ shift a b d b.storage) -ℤ (a.distance +ℤ shift a b d a.storage) ≡ d
shift-across a b d ne =
    ⊎_elim
    (λ e. absurd (ne e))
    (λ h. ⊎_elim (λ lt. let g = shift-low a b d lt in across-low a.distance b.distance d _ _ g.0 g.1) (λ lt. let g = shift-high a b d lt in across-high a.distance b.distance d _ _ g.0 g.1) h)
    (cases_order a.storage b.storage)

-- ---- all names

pub spot_at-get : (spots : List Spot) (k : ℕ) (d : Spot) → k < length spots → spot_at spots k ≡ get_or spots k d
spot_at-get spots k d h = ap (spot_or_alone k) (slice_get-get_or spots k d h)

pub spot_at-map : (f : Spot → Spot) (spots : List Spot) (k : ℕ) → k < length spots → spot_at (map f spots) k ≡ f (spot_at spots k)
spot_at-map f spots k h =
    let lt : k < length (map f spots) = rw length-map h in
    let d = spot_at spots k in
    spot_at-get (map f spots) k d lt ∙ get_or-map f spots k d d h ∙ ap f (sym (spot_at-get spots k d h))

pub storage-linked : (spots : List Spot) (e : Equation) (k : ℕ) → k < length spots → (spot_at (linked spots e) k).storage ≡ label (spot_at spots e.from).storage (spot_at spots e.to).storage (spot_at spots k).storage
storage-linked spots e k h =
    let a = spot_at spots e.from in
    let b = spot_at spots e.to in
    ap (λ (s : Spot). s.storage) (spot_at-map (united a b e.distance) spots k h) ∙ storage-united a b e.distance (spot_at spots k)

pub distance-linked : (spots : List Spot) (e : Equation) (k : ℕ) → k < length spots → (spot_at (linked spots e) k).distance ≡ (spot_at spots k).distance +ℤ shift (spot_at spots e.from) (spot_at spots e.to) e.distance (spot_at spots k).storage
distance-linked spots e k h =
    let a = spot_at spots e.from in
    let b = spot_at spots e.to in
    ap (λ (s : Spot). s.distance) (spot_at-map (united a b e.distance) spots k h) ∙ distance-united a b e.distance (spot_at spots k)

-- ---- how many names a storage has

abbrev pub one_if : Bool → ℕ
one_if b = cond b 1 0

pub count_in-cons : (s : Spot) (spots : List Spot) (k : ℕ) → count_in (s ∷ spots) k ≡ one_if (s.storage == k) + count_in spots k
count_in-cons s spots k = sum_by-cons (λ (x : Spot). one_if (x.storage == k)) s spots

label-counts : (a b s : ℕ) → a ≢ b → one_if (label a b s == label a b a) ≡ one_if (s == a) + one_if (s == b)
label-counts a b s ne = grind (arith, nat_tests)

label-counts-other : (a b s t : ℕ) → t ≢ a → t ≢ b → one_if (label a b s == label a b t) ≡ one_if (s == t)
label-counts-other a b s t ne ne' = grind (arith, nat_tests)

module _ (a b : Spot) (d : ℤ) where
  united-counts : (s : Spot) (k : ℕ) → one_if ((united a b d s).storage == k) ≡ one_if (label a.storage b.storage s.storage == k)
  united-counts s k = ap (λ x. one_if (x == k)) (storage-united a b d s)

  -- the storage that two became has the names of both
  pub count_in-joined : a.storage ≢ b.storage → (spots : List Spot) → count_in (map (united a b d) spots) (label a.storage b.storage a.storage) ≡ count_in spots a.storage + count_in spots b.storage
  count_in-joined ne [] = refl
  count_in-joined ne (s ∷ spots) =
      omega (arith, count_in-cons (united a b d s) (map (united a b d) spots) (label a.storage b.storage a.storage), united-counts s (label a.storage b.storage a.storage), label-counts a.storage b.storage s.storage ne, count_in-joined ne spots, count_in-cons s spots a.storage, count_in-cons s spots b.storage)

  -- another storage has the names that it had
  pub count_in-other : (t : ℕ) → t ≢ a.storage → t ≢ b.storage → (spots : List Spot) → count_in (map (united a b d) spots) (label a.storage b.storage t) ≡ count_in spots t
  count_in-other t ne ne' [] = refl
  count_in-other t ne ne' (s ∷ spots) =
      omega (arith, count_in-cons (united a b d s) (map (united a b d) spots) (label a.storage b.storage t), united-counts s (label a.storage b.storage t), label-counts-other a.storage b.storage s.storage t ne ne', count_in-other t ne ne' spots, count_in-cons s spots t)

-- ---- what an equation does

module _ (spots : List Spot) (e : Equation) where
  abbrev after : List Spot
  after = linked spots e

  abbrev A : Spot
  A = spot_at spots e.from

  abbrev B : Spot
  B = spot_at spots e.to

  pub length-after : length after ≡ length spots
  length-after = length-map spots (united A B e.distance)

  -- names of one storage stay in one, as far from each other
  pub together-after : (x y : ℕ) → x < length spots → y < length spots → storage_at spots x ≡ storage_at spots y → storage_at after x ≡ storage_at after y
  together-after x y i j same = storage-linked spots e x i ∙ ap (label A.storage B.storage) same ∙ sym (storage-linked spots e y j)

  pub below-after : (x y : ℕ) (d : ℤ) → x < length spots → y < length spots → IsBelow spots x y d → IsBelow after x y d
  below-after x y d i j below =
      let moves : shift A B e.distance (storage_at spots x) ≡ shift A B e.distance (storage_at spots y) = ap (shift A B e.distance) (sym below.together) in
      let at_x = distance-linked spots e x i in
      let at_y = distance-linked spots e y j in
      record { together = together-after y x j i below.together; beyond = omega (arith, ints, below.beyond) }

  -- names of one storage were in one, or in the two that the equation joins
  pub apart-after : (x y : ℕ) → x < length spots → y < length spots → storage_at after x ≡ storage_at after y → (storage_at spots x ≡ storage_at spots y) ⊎ (((storage_at spots x ≡ A.storage) × (storage_at spots y ≡ B.storage)) ⊎ ((storage_at spots x ≡ B.storage) × (storage_at spots y ≡ A.storage)))
  apart-after x y i j same = label-apart A.storage B.storage (storage_at spots x) (storage_at spots y) (sym (storage-linked spots e x i) ∙ same ∙ storage-linked spots e y j)

  pub meet-after : (x y : ℕ) → x < length spots → y < length spots → storage_at spots x ≡ A.storage → storage_at spots y ≡ B.storage → storage_at after x ≡ storage_at after y
  meet-after x y i j a b = storage-linked spots e x i ∙ ap (label A.storage B.storage) a ∙ label-joins A.storage B.storage ∙ sym (ap (label A.storage B.storage) b) ∙ sym (storage-linked spots e y j)

  -- a name of the one storage from a name of the other
  pub across-after : (x y : ℕ) → x < length spots → y < length spots → A.storage ≢ B.storage → storage_at spots x ≡ A.storage → storage_at spots y ≡ B.storage → distance_at after y -ℤ distance_at after x ≡ (distance_at spots y -ℤ B.distance) +ℤ e.distance +ℤ (A.distance -ℤ distance_at spots x)
  across-after x y i j ne a b =
      let at_x : distance_at after x ≡ distance_at spots x +ℤ shift A B e.distance A.storage = distance-linked spots e x i ∙ ap (λ s. distance_at spots x +ℤ shift A B e.distance s) a in
      let at_y : distance_at after y ≡ distance_at spots y +ℤ shift A B e.distance B.storage = distance-linked spots e y j ∙ ap (λ s. distance_at spots y +ℤ shift A B e.distance s) b in
      let across = shift-across A B e.distance ne in
      omega (arith, ints)

  pub joined-after : A.storage ≢ B.storage → (x : ℕ) → x < length spots → (storage_at spots x ≡ A.storage) ⊎ (storage_at spots x ≡ B.storage) → count_in after (storage_at after x) ≡ count_in spots A.storage + count_in spots B.storage
  joined-after ne x i here =
      let name : storage_at after x ≡ label A.storage B.storage A.storage = ⊎_elim (λ a. storage-linked spots e x i ∙ ap (label A.storage B.storage) a) (λ b. storage-linked spots e x i ∙ ap (label A.storage B.storage) b ∙ sym (label-joins A.storage B.storage)) here in
      ap (λ s. count_in after s) name ∙ count_in-joined A B e.distance ne spots

  pub others-after : (x : ℕ) → x < length spots → storage_at spots x ≢ A.storage → storage_at spots x ≢ B.storage → count_in after (storage_at after x) ≡ count_in spots (storage_at spots x)
  others-after x i ne ne' = ap (λ s. count_in after s) (storage-linked spots e x i) ∙ count_in-other A B e.distance (storage_at spots x) ne ne' spots

  pub more-after : A.storage ≢ B.storage → (x : ℕ) → x < length spots → count_in spots (storage_at spots x) ≤ count_in after (storage_at after x)
  more-after ne x i = grind (arith, joined-after ne x i, others-after x i)

  pub near-after : A.storage ≢ B.storage → e.from < length spots → e.to < length spots → IsReach e.distance → AreNear spots → AreNear after
  near-after ne from to reach near x y i j same =
      let i' : x < length spots = omega (arith, length-after) in
      let j' : y < length spots = omega (arith, length-after) in
      ⊎_elim
      (λ s.
      let old = near x y i' j' s in
      let more = more-after ne x i' in
      let stay = below-after y x (distance_at spots y -ℤ distance_at spots x) j' i' (record { together = s; beyond = omega (arith, ints) }) in
      omega (arith, ints, stay.beyond))
      (λ h. ⊎_elim
      (λ ab.
      let into = near e.to y to j' (sym ab.1) in
      let out_of = near x e.from i' from ab.0 in
      let across = across-after x y i' j' ne ab.0 ab.1 in
      let whole = joined-after ne x i' (inl ab.0) in
      let here : count_in spots (storage_at spots x) ≡ count_in spots A.storage = ap (λ s. count_in spots s) ab.0 in
      omega (arith, ints, reach.high))
      (λ ba.
      let into = near e.from y from j' (sym ba.1) in
      let out_of = near x e.to i' to ba.0 in
      let across = across-after y x j' i' ne ba.1 ba.0 in
      let whole = joined-after ne x i' (inr ba.0) in
      let here : count_in spots (storage_at spots x) ≡ count_in spots B.storage = ap (λ s. count_in spots s) ba.0 in
      omega (arith, ints, reach.low))
      h)
      (apart-after x y i' j' same)
