-- Trees of names, in which the places of names are kept: a tree for each storage.
use Rattle.std.specs.Prelude.{◌≡◌, ◌≢◌, ℕ, ◌+◌, ◌<◌, ◌≤◌, ℤ, pos, ◌+ℤ◌, List, length, get_or, set, ◌⊎◌}
use Rattle.f77_tree.specs.Places.{Equation}
use Rattle.storage_association.specs.declared.forest.Node.{Node}
use Rattle.storage_association.specs.declared.forest.Rooted.{Rooted}
use Rattle.storage_association.specs.declared.forest.Joined.{Joined}
use Rattle.storage_association.specs.declared.forest.Joined.TheVariants.{Same, Hung}
use Rattle.layout_rules.specs.Storage.{Spot, linked}
use Rattle.layout_rules.specs.Spots.{storage_at, distance_at, count_in, AreNear, AreLowest, IsBelow}

-- ---- nodes

abbrev pub no_node : Node
no_node = record { parent = 0; offset = pos 0; count = 0 }

abbrev pub node_at : List Node → ℕ → Node
node_at nodes x = get_or nodes x no_node

-- a name alone in its tree
abbrev pub leaf : ℕ → Node
leaf name = record { parent = name; offset = pos 0; count = 1 }

-- the name is the root of its tree
abbrev pub IsRoot : List Node → ℕ → Type 0
IsRoot nodes x = (node_at nodes x).parent ≡ x

-- The trees are those of the storages of these places: a name lies in the storage of its parent, as far after it as its
-- node says, and a storage has one root, which knows how many names there are. Counts rise towards the root.
pub record IsForest (nodes : List Node) (spots : List Spot) : Type 0 where
  pub all : length nodes ≡ length spots
  pub parents : (x : ℕ) → x < length nodes → (node_at nodes x).parent < length nodes
  pub together : (x : ℕ) → x < length nodes → storage_at spots (node_at nodes x).parent ≡ storage_at spots x
  pub beyond : (x : ℕ) → x < length nodes → distance_at spots x ≡ distance_at spots (node_at nodes x).parent +ℤ (node_at nodes x).offset
  pub one_root : (x y : ℕ) → x < length nodes → y < length nodes → IsRoot nodes x → IsRoot nodes y → storage_at spots x ≡ storage_at spots y → x ≡ y
  pub counts : (x : ℕ) → x < length nodes → IsRoot nodes x → (node_at nodes x).count ≡ count_in spots (storage_at spots x)
  pub rising : (x : ℕ) → x < length nodes → (node_at nodes x).parent ≢ x → (node_at nodes x).count < (node_at nodes (node_at nodes x).parent).count
  pub some : (x : ℕ) → x < length nodes → 0 < (node_at nodes x).count
  pub few : (x : ℕ) → x < length nodes → (node_at nodes x).count ≤ length nodes
  pub near : AreNear spots

-- the nodes hold some places
pub record AreTrees (nodes : List Node) : Type 0 where
  pub spots : List Spot
  pub forest : IsForest nodes spots

-- the nodes hold places whose storages have the indices of their lowest names
pub record AreLowTrees (nodes : List Node) : Type 0 where
  pub spots : List Spot
  pub forest : IsForest nodes spots
  pub lowest : AreLowest spots

-- the root of the name's tree, and how far the name lies after it
pub record IsRooted (nodes : List Node) (spots : List Spot) (name : ℕ) (rooted : Rooted) : Type 0 where
  pub known : rooted.root < length nodes
  pub root : IsRoot nodes rooted.root
  pub below : IsBelow spots name rooted.root rooted.distance

-- ---- links

-- the root of a tree under which another one's root was hung
abbrev pub with_count_of : (root child : Node) → Node
with_count_of root child = record root { count = root.count + child.count }

-- the nodes after a root was hung under another one, so many words after it
abbrev pub hung : List Node → (child root : ℕ) → (offset : ℤ) → List Node
hung nodes child root offset =
    set (set nodes child (record (node_at nodes child) { parent = root; offset = offset })) root
    (with_count_of (node_at nodes root) (node_at nodes child))

-- the two are those storages
abbrev pub AreThose : (a b c d : ℕ) → Type 0
AreThose a b c d = ((a ≡ c) × (b ≡ d)) ⊎ ((a ≡ d) × (b ≡ c))

-- the root of the one storage was hung under that of the other
pub record IsHung (old new : List Node) (spots : List Spot) (e : Equation) (child root : ℕ) (offset : ℤ) : Type 0 where
  pub child_known : child < length old
  pub root_known : root < length old
  pub child_root : IsRoot old child
  pub root_root : IsRoot old root
  pub ends : AreThose (storage_at spots child) (storage_at spots root) (storage_at spots e.from) (storage_at spots e.to)
  pub apart : storage_at spots e.from ≢ storage_at spots e.to
  pub below : IsBelow (linked spots e) child root offset
  -- the other roots stay
  pub left : (x : ℕ) → x < length old → IsRoot new x → IsRoot old x × (x ≢ child)

-- the names are in one storage, the second so far after the first, and no tree changes
pub record IsSame (old new : List Node) (spots : List Spot) (e : Equation) (distance : ℤ) : Type 0 where
  pub unchanged : new ≡ old
  pub below : IsBelow spots e.to e.from distance

-- what became of the equation
abbrev pub IsAnswer : (old new : List Node) → List Spot → Equation → Joined → Type 0
IsAnswer old new spots e (Same distance) = IsSame old new spots e distance
IsAnswer old new spots e (Hung child root offset) = IsHung old new spots e child root offset

-- the trees are those of the places that the equation gives
pub record IsJoined (old new : List Node) (spots : List Spot) (e : Equation) (joined : Joined) : Type 0 where
  pub forest : IsForest new (linked spots e)
  pub answer : IsAnswer old new spots e joined

-- the trees of two names are joined, whatever places they stand for
abbrev pub JoinsTrees : (old new : List Node) → Equation → Joined → Type 0
JoinsTrees old new e joined = (spots : List Spot) → IsForest old spots → IsJoined old new spots e joined
