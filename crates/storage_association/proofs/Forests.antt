-- Trees of names hold places.
use Rattle.std.proofs.Common.{◌≡◌, ◌≢◌, ℕ, ◌-◌, ◌*◌, ◌<◌, ◌≤◌, ◌^◌, ℤ, pos, ◌+ℤ◌, ◌-ℤ◌, ◌≤ℤ◌, List, length, get_or, sym, ap, ◌∙◌, arith, w64, to_z, of_z, FitsSigned}
use mir.Val.{SFits}
use Rattle.std.proofs.lemmas.Int.{ints, to_z-of_z}
use Rattle.std.proofs.lemmas.List.{get_or_read}
use Rattle.std.proofs.lemmas.List.Sums.{count_by-le-length}
use Rattle.storage_association.specs.declared.forest.Node.{Node}
use Rattle.layout_rules.specs.Storage.{Spot}
use Rattle.storage_association.specs.Trees.{node_at, no_node, IsRoot, IsForest}
use Rattle.layout_rules.specs.Spots.{storage_at, distance_at, count_in, AreNear, IsBelow}

-- ---- going up

pub up : (nodes : List Node) (spots : List Spot) (name at : ℕ) (d : ℤ) (node : Node) → IsForest nodes spots → at < length nodes → node ≡ get_or nodes at node → IsBelow spots name at d → IsBelow spots name node.parent (d +ℤ node.offset)
up nodes spots name at d node forest lt is below =
    let here : node ≡ node_at nodes at = get_or_read nodes at node lt is no_node in
    let together : storage_at spots node.parent ≡ storage_at spots at = ap (λ (n : Node). storage_at spots n.parent) here ∙ forest.together at lt in
    let beyond : distance_at spots at ≡ distance_at spots node.parent +ℤ node.offset = forest.beyond at lt ∙ ap (λ (n : Node). distance_at spots n.parent +ℤ n.offset) (sym here) in
    record { together = together ∙ below.together; beyond = omega (arith, ints, below.beyond) }

-- ---- distances within a storage

count-few : (spots : List Spot) (k : ℕ) → count_in spots k ≤ length spots
count-few spots k = count_by-le-length _ spots

-- a number of words within all storages
pub record IsClose (z : ℤ) : Type 0 where
  pub low : (pos 0 -ℤ pos (262145 * 2 ^ 32)) ≤ℤ z
  pub high : z ≤ℤ pos (262145 * 2 ^ 32)

pub below-close : (spots : List Spot) (name other : ℕ) (d : ℤ) → AreNear spots → length spots < 2 ^ 32 → name < length spots → other < length spots → IsBelow spots name other d → IsClose d
below-close spots name other d near few n o below =
    let up_to = near other name o n below.together in
    let down_to = near name other n o (sym below.together) in
    record {
      low = omega (arith, ints, below.beyond, count-few spots (storage_at spots name));
      high = omega (arith, ints, below.beyond, count-few spots (storage_at spots other));
    }

pub below-fits : (spots : List Spot) (name other : ℕ) (d : ℤ) → AreNear spots → length spots < 2 ^ 32 → name < length spots → other < length spots → IsBelow spots name other d → FitsSigned w64 d
below-fits spots name other d near few n o below =
    let close = below-close spots name other d near few n o below in
    omega (arith, ints, close.low, close.high)

-- the sum as the code computes it
pub sum-fits : (d o : ℤ) → SFits w64 o → FitsSigned w64 (d +ℤ o) → FitsSigned w64 (d +ℤ to_z w64 (of_z w64 o))
sum-fits d o f h = rw (to_z-of_z w64 o f) h

pub sum-below : (spots : List Spot) (name other : ℕ) (d o : ℤ) → SFits w64 o → FitsSigned w64 (d +ℤ o) → IsBelow spots name other (d +ℤ o) → IsBelow spots name other (to_z w64 (of_z w64 (d +ℤ to_z w64 (of_z w64 o))))
sum-below spots name other d o f g h = rw (to_z-of_z w64 o f, to_z-of_z w64 (d +ℤ o) g) h

-- ---- each step up leads to a larger tree

pub nearer : (nodes : List Node) (spots : List Spot) (at : ℕ) (node : Node) → IsForest nodes spots → at < length nodes → node ≡ get_or nodes at node → node.parent ≢ at → length nodes - (node_at nodes node.parent).count < length nodes - (node_at nodes at).count
nearer nodes spots at node forest lt is ne =
    let here : node ≡ node_at nodes at = get_or_read nodes at node lt is no_node in
    let same : node.parent ≡ (node_at nodes at).parent = ap (λ (n : Node). n.parent) here in
    let rise = forest.rising at lt (λ e. ne (same ∙ e)) in
    let few = forest.few (node_at nodes at).parent (forest.parents at lt) in
    rw same (omega arith)

pub parent-known : (nodes : List Node) (spots : List Spot) (at : ℕ) (node : Node) → IsForest nodes spots → at < length nodes → node ≡ get_or nodes at node → node.parent < length nodes
parent-known nodes spots at node forest lt is =
    let here : node ≡ node_at nodes at = get_or_read nodes at node lt is no_node in
    rw here (forest.parents at lt)

pub root-here : (nodes : List Node) (at : ℕ) (node : Node) → at < length nodes → node ≡ get_or nodes at node → node.parent ≡ at → IsRoot nodes at
root-here nodes at node lt is e = ap (λ (n : Node). n.parent) (sym (get_or_read nodes at node lt is no_node)) ∙ e
