-- Storages while equations come one by one: what is known of each, and when the places so far are right.
use Rattle.std.specs.Prelude.{◌≡◌, ℕ, ◌<◌, ◌^◌, ℤ, pos, ◌+ℤ◌, ◌≤ℤ◌, int_le, Bool, true, false, if◌then◌else◌, List, length, Contains, Option, Some, None, get_or, [], ◌++◌, ◌∷◌, Decides}
use Rattle.std.specs.Int.{int_min}
use Rattle.f77_tree.specs.Places.{Equation}
use Rattle.storage_association.specs.declared.forest.Node.{Node}
use Rattle.storage_association.specs.declared.storages.Part.{Part}
use Rattle.storage_association.specs.declared.storages.Storages.{Storages}
use Rattle.layout_rules.specs.Storage.{Spot, spots_by}
use Rattle.storage_association.specs.Trees.{IsRoot, IsForest}
use Rattle.layout_rules.specs.Spots.{storage_at, distance_at, AreLowest, IsBelow}

-- ---- right places

-- The places are right so far, where these are the first names of blocks: each equation holds, no two first names share a
-- storage, and no name of their storage begins before them.
pub record AreRight (spots : List Spot) (firsts : List ℕ) (all : List Equation) : Type 0 where
  pub kept : (e : Equation) → Contains all e → IsBelow spots e.to e.from e.distance
  pub apart : (x y : ℕ) → Contains firsts x → Contains firsts y → storage_at spots x ≡ storage_at spots y → x ≡ y
  pub begins : (x y : ℕ) → Contains firsts x → y < length spots → storage_at spots x ≡ storage_at spots y → distance_at spots x ≤ℤ distance_at spots y

-- ---- parts

-- a part begins where no block does, or where its block does
abbrev pub starts_right : Option ℤ → ℤ → Bool
starts_right None low = true
starts_right (Some start) low = int_le start low

abbrev pub moved_start : Option ℤ → ℤ → Option ℤ
moved_start None offset = None
moved_start (Some start) offset = Some (start +ℤ offset)

-- the part, as seen from a name that lies so far before its root
abbrev pub moved_part : Part → ℤ → Part
moved_part part offset = record { low = part.low +ℤ offset; start = moved_start part.start offset }

abbrev pub part_if_right : Part → Option Part
part_if_right part = if starts_right part.start part.low then Some part else None

-- both parts together, unless they hold two blocks, or a word before a block's first
abbrev pub joined_starts : Option ℤ → Option ℤ → ℤ → Option Part
joined_starts None start low = part_if_right (record { low = low; start = start })
joined_starts (Some start) None low = part_if_right (record { low = low; start = Some start })
joined_starts (Some start) (Some other) low = None

abbrev pub joined_part : Part → Part → Option Part
joined_part a b = joined_starts a.start b.start (int_min a.low b.low)

-- no name of the root's storage begins before the name that lies so far after the root, and some name does there
pub record IsLow (spots : List Spot) (root : ℕ) (low : ℤ) : Type 0 where
  pub least : (y : ℕ) → y < length spots → storage_at spots root ≡ storage_at spots y → (distance_at spots root +ℤ low) ≤ℤ distance_at spots y
  pub name : ℕ
  pub known : name < length spots
  pub reached : IsBelow spots name root low

-- a block's first name lies so far after the root
pub record IsFirstAt (spots : List Spot) (firsts : List ℕ) (root : ℕ) (start : ℤ) : Type 0 where
  pub name : ℕ
  pub first : Contains firsts name
  pub there : IsBelow spots name root start

abbrev pub IsStart : List Spot → List ℕ → ℕ → Option ℤ → Type 0
IsStart spots firsts root None = (x : ℕ) → Contains firsts x → storage_at spots x ≡ storage_at spots root → ⊥
IsStart spots firsts root (Some start) = IsFirstAt spots firsts root start

pub record IsPart (spots : List Spot) (firsts : List ℕ) (root : ℕ) (part : Part) : Type 0 where
  pub low : IsLow spots root part.low
  pub start : IsStart spots firsts root part.start

abbrev pub no_part : Part
no_part = record { low = pos 0; start = None }

abbrev pub part_at : List Part → ℕ → Part
part_at parts x = get_or parts x no_part

-- ---- storages

-- an equation between names of one storage
pub record IsLinked (spots : List Spot) (e : Equation) : Type 0 where
  pub first : e.from < length spots
  pub second : e.to < length spots
  pub together : storage_at spots e.from ≡ storage_at spots e.to

-- where the places are right, each root knows its part
pub record AreParts (nodes : List Node) (parts : List Part) (spots : List Spot) (firsts : List ℕ) (all : List Equation) : Type 0 where
  pub right : AreRight spots firsts all
  pub each : (x : ℕ) → x < length nodes → IsRoot nodes x → IsPart spots firsts x (part_at parts x)

-- The storages of so many names, after the blocks of these first names and these equations.
pub record AreStorages (count : ℕ) (firsts : List ℕ) (all : List Equation) (s : Storages) : Type 0 where
  pub few : count < 2 ^ 32
  pub names : length s.forest.nodes.items ≡ count
  pub parts : length s.parts.items ≡ count
  pub forest : IsForest s.forest.nodes.items (spots_by count all)
  pub lowest : AreLowest (spots_by count all)
  pub linked : (e : Equation) → Contains all e → IsLinked (spots_by count all) e
  pub known : (x : ℕ) → Contains firsts x → x < count
  pub right : s.right ≡ true → AreParts s.forest.nodes.items s.parts.items (spots_by count all) firsts all
  pub wrong : s.right ≡ false → AreRight (spots_by count all) firsts all → ⊥

-- they are the storages of some blocks and equations
pub record AreSome (s : Storages) : Type 0 where
  pub count : ℕ
  pub firsts : List ℕ
  pub all : List Equation
  pub held : AreStorages count firsts all s

-- whether the places of the storages are right so far
abbrev pub TellsRight : Storages → Bool → Type 0
TellsRight s right = (count : ℕ) (firsts : List ℕ) (all : List Equation)
    → AreStorages count firsts all s → Decides right (AreRight (spots_by count all) firsts all)

-- one more block begins, with this name
abbrev pub BeginsBlock : (name : ℕ) → (old new : Storages) → Type 0
BeginsBlock name old new = (count : ℕ) (firsts : List ℕ) (all : List Equation)
    → AreStorages count firsts all old → (Contains firsts name → ⊥) → AreStorages count (firsts ++ name ∷ []) all new

-- one more equation is asked
abbrev pub AddsEquation : Equation → (old new : Storages) → Type 0
AddsEquation e old new = (count : ℕ) (firsts : List ℕ) (all : List Equation)
    → AreStorages count firsts all old → AreStorages count firsts (all ++ e ∷ []) new
