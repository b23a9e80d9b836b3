-- The places of names relative to each other: which storage each lies in, and how far after its first name.
use Rattle.std.specs.Prelude.{◌≡◌, ℕ, ◌*◌, ◌<◌, ◌≤◌, ℤ, pos, ◌+ℤ◌, ◌-ℤ◌, ◌≤ℤ◌, List, length, ◌==◌, count_by}
use Rattle.layout_rules.specs.Storage.{Spot, spot_at, too_many}

abbrev pub storage_at : List Spot → ℕ → ℕ
storage_at spots x = (spot_at spots x).storage

abbrev pub distance_at : List Spot → ℕ → ℤ
distance_at spots x = (spot_at spots x).distance

-- how many names a storage has
abbrev pub count_in : List Spot → ℕ → ℕ
count_in spots storage = count_by (λ spot. spot.storage == storage) spots

-- Names of one storage lie near each other: each equation between them leads at most `too_many` words further.
abbrev pub AreNear : List Spot → Type 0
AreNear spots =
    (x y : ℕ) → x < length spots → y < length spots → storage_at spots x ≡ storage_at spots y
    → (distance_at spots y -ℤ distance_at spots x +ℤ pos too_many) ≤ℤ pos (too_many * count_in spots (storage_at spots x))

-- a storage has the index of its lowest name, at distance 0
pub record AreLowest (spots : List Spot) : Type 0 where
  pub below : (x : ℕ) → x < length spots → storage_at spots x ≤ x
  pub itself : (x : ℕ) → x < length spots → storage_at spots (storage_at spots x) ≡ storage_at spots x
  pub begins : (x : ℕ) → x < length spots → distance_at spots (storage_at spots x) ≡ pos 0

-- the name lies in the same storage, so far after the other one
pub record IsBelow (spots : List Spot) (name other : ℕ) (distance : ℤ) : Type 0 where
  pub together : storage_at spots other ≡ storage_at spots name
  pub beyond : distance_at spots name ≡ distance_at spots other +ℤ distance

-- an equation leads at most `too_many` words further
pub record IsReach (distance : ℤ) : Type 0 where
  pub low : (pos 0 -ℤ pos too_many) ≤ℤ distance
  pub high : distance ≤ℤ pos too_many
