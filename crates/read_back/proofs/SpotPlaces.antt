-- Places that meet equations: a name lies as far after the lowest name of its storage as its place after that one's.
use Rattle.std.proofs.Common.{◌≡◌, ℕ, zero, suc, ◌+◌, ◌<◌, ⊎_elim, ℤ, pos, ◌+ℤ◌, ◌-ℤ◌, ◌≤ℤ◌, Bool, true, false, cond, ◌==◌, nat_lt, List, [], ◌∷◌, length, map, Option, Some, None, Contains, refl, ap, subst, arith}
use Rattle.std.specs.Prelude.{fold, slice_get}
use Rattle.std.specs.Option.{option_map}
use Rattle.std.specs.List.{range_with_len}
use Rattle.std.proofs.lemmas.Int.{ints}
use Rattle.std.proofs.lemmas.Bool.{eqb-true}
use Rattle.std.proofs.lemmas.Option.{slice_get-map}
use Rattle.f77_tree.specs.Places.{Equation}
use Rattle.layout_rules.specs.Storage.{Spot, spot_at, spot_or_alone, alone, moved, united, linked, spots_by}
use Rattle.layout_rules.specs.Spots.{storage_at, distance_at, IsBelow}
use Rattle.layout_rules.proofs.Alone.{length-alone}
use Rattle.layout_rules.proofs.Linking.{length-after, together-after, meet-after}
use Rattle.storage_laws.proofs.PlacedBlocks.{contains-cases}
use Rattle.storage_laws.proofs.PlacedLinks.{AreEquations}

-- ---- spots by their places

abbrev alone_at : ℕ → Spot
alone_at k = record { storage = k; distance = pos 0 }

module _ (P : ℕ → ℤ) where
  -- a name with this place has this spot
  abbrev IsAt : ℕ → Spot → Type 0
  IsAt k spot = P k ≡ spot.distance +ℤ P spot.storage

  abbrev pub AreAt : List Spot → Type 0
  AreAt spots = (k : ℕ) → IsAt k (spot_at spots k)

  abbrev pub Holds : Equation → Type 0
  Holds e = P e.to ≡ P e.from +ℤ e.distance

  at_alone : (k : ℕ) → IsAt k (alone_at k)
  at_alone k = omega (arith, ints)

  at_moved : (from to : ℕ) (by : ℤ) → P from ≡ by +ℤ P to → (k : ℕ) (s : Spot) → IsAt k s → IsAt k (moved from to by s)
  at_moved from to by moves k s is = test (s.storage == from) refl
    where
      test : (b : Bool) → (s.storage == from) ≡ b → IsAt k (cond b (record { storage = to; distance = s.distance +ℤ by }) s)
      test true e = let same : P s.storage ≡ P from = ap P (eqb-true s.storage from e) in omega (arith, ints, is, same, moves)
      test false e = is

  at_united : (a b : Spot) (from to : ℕ) (d : ℤ) → IsAt from a → IsAt to b → P to ≡ P from +ℤ d → (k : ℕ) (s : Spot) → IsAt k s → IsAt k (united a b d s)
  at_united a b from to d is_a is_b holds k s is = low (nat_lt a.storage b.storage)
    where
      first : P b.storage ≡ (a.distance +ℤ d -ℤ b.distance) +ℤ P a.storage
      first = omega (arith, ints, is_a, is_b, holds)

      second : P a.storage ≡ (b.distance -ℤ d -ℤ a.distance) +ℤ P b.storage
      second = omega (arith, ints, is_a, is_b, holds)

      high : (c : Bool) → IsAt k (cond c (moved a.storage b.storage (b.distance -ℤ d -ℤ a.distance) s) s)
      high true = at_moved a.storage b.storage (b.distance -ℤ d -ℤ a.distance) second k s is
      high false = is

      low : (c : Bool) → IsAt k (cond c (moved b.storage a.storage (a.distance +ℤ d -ℤ b.distance) s) (cond (nat_lt b.storage a.storage) (moved a.storage b.storage (b.distance -ℤ d -ℤ a.distance) s) s))
      low true = at_moved b.storage a.storage (a.distance +ℤ d -ℤ b.distance) first k s is
      low false = high (nat_lt b.storage a.storage)

  at_mapped : (f : Spot → Spot) → ((k : ℕ) (s : Spot) → IsAt k s → IsAt k (f s)) → (k : ℕ) (s : Option Spot) → IsAt k (spot_or_alone k s) → IsAt k (spot_or_alone k (option_map f s))
  at_mapped f keeps k None is = is
  at_mapped f keeps k (Some s) is = keeps k s is

  at_linked : (spots : List Spot) (e : Equation) → AreAt spots → Holds e → AreAt (linked spots e)
  at_linked spots e are holds k =
      grind (arith, at_united (spot_at spots e.from) (spot_at spots e.to) e.from e.to e.distance (are e.from) (are e.to) holds, slice_get-map, at_mapped)

  at_all : (all : List Equation) (spots : List Spot) → AreAt spots → ((e : Equation) → Contains all e → Holds e) → AreAt (fold linked spots all)
  at_all [] spots are holds = are
  at_all (e ∷ all) spots are holds =
      at_all all (linked spots e) (at_linked spots e are (holds e (0, omega arith, refl))) (λ x h. holds x (suc h.0, omega (arith, h.1), h.2))

  at_range : (a n i k : ℕ) → a + i ≡ k → IsAt k (spot_or_alone k (slice_get (map alone_at (range_with_len a n)) i))
  at_range a zero i k e = at_alone k
  at_range a (suc n) zero k e = let same : k ≡ a = omega (arith, e) in subst (λ j. P k ≡ pos 0 +ℤ P j) same (at_alone k)
  at_range a (suc n) (suc i) k e = at_range (a + 1) n i k (omega (arith, e))

  -- the spots that these equations give
  pub at_spots : (count : ℕ) (all : List Equation) → ((e : Equation) → Contains all e → Holds e) → AreAt (spots_by count all)
  at_spots count all holds = at_all all (alone count) (λ k. at_range 0 count k k (omega arith)) holds

-- ---- names of one storage

stay : (spots : List Spot) (all : List Equation) (x y : ℕ) → x < length spots → y < length spots → storage_at spots x ≡ storage_at spots y → storage_at (fold linked spots all) x ≡ storage_at (fold linked spots all) y
stay spots [] x y i j same = same
stay spots (e ∷ all) x y i j same = grind (arith, length-after spots e, stay (linked spots e) all x y, together-after spots e x y i j same)

abbrev AreWithin : List Spot → List Equation → Type 0
AreWithin spots all = (e : Equation) → Contains all e → (e.from < length spots) × (e.to < length spots)

meet : (spots : List Spot) (all : List Equation) → AreWithin spots all → (e : Equation) → Contains all e → storage_at (fold linked spots all) e.from ≡ storage_at (fold linked spots all) e.to
meet spots [] within e there = absurd (omega (arith, there.1))
meet spots (x ∷ all) within e there =
    let long = length-after spots x in
    let inside : AreWithin spots (x ∷ all) = within in
    ⊎_elim
    (λ (same : x ≡ e).
    let i = (inside x (0, omega arith, refl)).0 in
    let j = (inside x (0, omega arith, refl)).1 in
    subst (λ (z : Equation). storage_at (fold linked (linked spots x) all) z.from ≡ storage_at (fold linked (linked spots x) all) z.to) same (stay (linked spots x) all x.from x.to (omega (arith, long, i)) (omega (arith, long, j)) (meet-after spots x x.from x.to i j refl refl)))
    (λ (later : Contains all e).
    meet (linked spots x) all (λ z h.
    let both = inside z (suc h.0, omega (arith, h.1), h.2) in
    (omega (arith, long, both.0), omega (arith, long, both.1))) e later)
    (contains-cases x all e there)

-- ---- equations that hold

-- the spots that equations give keep each of them, where some places meet them all
pub kept : (P : ℕ → ℤ) (count : ℕ) (all : List Equation) → AreEquations count all → ((e : Equation) → Contains all e → Holds P e) → (e : Equation) → Contains all e → IsBelow (spots_by count all) e.to e.from e.distance
kept P count all are holds e there =
    let spots = spots_by count all in
    let long = length-alone count in
    let within : AreWithin (alone count) all = λ z h. let is = are z h in (omega (arith, long, is.first), omega (arith, long, is.second)) in
    let together : storage_at spots e.from ≡ storage_at spots e.to = meet (alone count) all within e there in
    let at = at_spots P count all holds in
    let begins : P (storage_at spots e.from) ≡ P (storage_at spots e.to) = ap P together in
    record { together = together; beyond = omega (arith, ints, at e.from, at e.to, begins, holds e there) }

-- names of one storage stand as their places do
pub in_order : (P : ℕ → ℤ) (spots : List Spot) → AreAt P spots → (x y : ℕ) → storage_at spots x ≡ storage_at spots y → P x ≤ℤ P y → distance_at spots x ≤ℤ distance_at spots y
in_order P spots at x y same le = grind (arith, ints)
