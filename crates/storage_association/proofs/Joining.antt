-- An equation between two names, over the trees of names.
use Rattle.std.proofs.Common.{◌≡◌, ◌≢◌, ℕ, ◌+◌, ◌^◌, ◌<◌, ◌≤◌, inl, inr, ℤ, pos, ◌+ℤ◌, ◌-ℤ◌, List, [], ◌∷◌, length, map, refl, sym, ap, subst, ◌∙◌, arith, w64, to_z, of_z, FitsSigned}
use mir.Val.{SFits}
use Rattle.std.proofs.lemmas.Int.{ints, to_z-of_z}
use Rattle.std.proofs.lemmas.Bool.Decides.{nat_tests}
use Rattle.f77_tree.specs.Places.{Equation}
use Rattle.storage_association.specs.declared.forest.Node.{Node}
use Rattle.storage_association.specs.declared.forest.Rooted.{Rooted}
use Rattle.storage_association.specs.declared.forest.Joined.{Joined}
use Rattle.storage_association.specs.declared.forest.Joined.TheVariants.{Same, Hung}
use Rattle.layout_rules.specs.Storage.{Spot, spot_at, united, linked}
use Rattle.storage_association.specs.Trees.{node_at, IsForest, IsRooted, hung, AreThose, AreTrees, IsJoined}
use Rattle.layout_rules.specs.Spots.{storage_at, distance_at, IsBelow, IsReach}
use Rattle.layout_rules.proofs.Linking.{across-after, meet-after}
use Rattle.storage_association.proofs.Forests.{IsClose, below-close}
use Rattle.storage_association.proofs.Hanging.{forest-after, is-hung, length-hung, hung-root}

-- ---- an equation within a storage changes nothing

united-same : (a b : Spot) (d : ℤ) → a.storage ≡ b.storage → (s : Spot) → united a b d s ≡ s
united-same a b d e s = grind (arith, nat_tests)

map-same : (f : Spot → Spot) → ((s : Spot) → f s ≡ s) → (spots : List Spot) → map f spots ≡ spots
map-same f h [] = refl
map-same f h (s ∷ spots) = ap (λ x. x ∷ map f spots) (h s) ∙ ap (λ xs. s ∷ xs) (map-same f h spots)

pub linked-same : (spots : List Spot) (e : Equation) → storage_at spots e.from ≡ storage_at spots e.to → linked spots e ≡ spots
linked-same spots e same = map-same (united (spot_at spots e.from) (spot_at spots e.to) e.distance) (united-same (spot_at spots e.from) (spot_at spots e.to) e.distance same) spots

-- ---- the three answers

module _ {nodes : List Node} {spots : List Spot} (e : Equation) {a b : Rooted} (forest : IsForest nodes spots) (at_a : IsRooted nodes spots e.from a) (at_b : IsRooted nodes spots e.to b) where
  pub join-same : a.root ≡ b.root → IsJoined nodes nodes spots e (Same (b.distance -ℤ a.distance))
  join-same same =
      let roots : distance_at spots a.root ≡ distance_at spots b.root = ap (λ x. distance_at spots x) same in
      let together : storage_at spots e.from ≡ storage_at spots e.to = sym at_a.below.together ∙ ap (λ x. storage_at spots x) same ∙ at_b.below.together in
      let stays : linked spots e ≡ spots = linked-same spots e together in
      record {
        forest = rw stays forest;
        answer = record { unchanged = refl; below = record { together = together; beyond = omega (arith, ints, at_a.below.beyond, at_b.below.beyond) } };
      }

  module _ (ne : a.root ≢ b.root) (reach : IsReach e.distance) (from : e.from < length nodes) (to : e.to < length nodes) where
    abbrev offset : ℤ
    offset = a.distance +ℤ e.distance -ℤ b.distance

    apart : storage_at spots e.from ≢ storage_at spots e.to
    apart same = ne (forest.one_root a.root b.root at_a.known at_b.known at_a.root at_b.root (at_a.below.together ∙ same ∙ sym at_b.below.together))

    within : (x : ℕ) → x < length nodes → x < length spots
    within x lt = omega (arith, forest.all)

    meets : storage_at (linked spots e) a.root ≡ storage_at (linked spots e) b.root
    meets = meet-after spots e a.root b.root (within a.root at_a.known) (within b.root at_b.known) at_a.below.together at_b.below.together

    second-after : IsBelow (linked spots e) b.root a.root offset
    second-after =
        let across = across-after spots e a.root b.root (within a.root at_a.known) (within b.root at_b.known) apart at_a.below.together at_b.below.together in
        record { together = meets; beyond = omega (arith, ints, at_a.below.beyond, at_b.below.beyond) }

    first-after : IsBelow (linked spots e) a.root b.root (pos 0 -ℤ offset)
    first-after = record { together = sym meets; beyond = omega (arith, ints, second-after.beyond) }

    pub join-second : IsJoined nodes (hung nodes b.root a.root offset) spots e (Hung b.root a.root offset)
    join-second =
        let ends : AreThose (storage_at spots b.root) (storage_at spots a.root) (storage_at spots e.from) (storage_at spots e.to) = inr (at_b.below.together, at_a.below.together) in
        record {
          forest = forest-after nodes spots e b.root a.root offset forest at_b.known at_a.known at_b.root at_a.root ends apart second-after reach (within e.from from) (within e.to to);
          answer = is-hung nodes spots e b.root a.root offset forest at_b.known at_a.known at_b.root at_a.root ends apart second-after;
        }

    pub join-first : IsJoined nodes (hung nodes a.root b.root (pos 0 -ℤ offset)) spots e (Hung a.root b.root (pos 0 -ℤ offset))
    join-first =
        let ends : AreThose (storage_at spots a.root) (storage_at spots b.root) (storage_at spots e.from) (storage_at spots e.to) = inl (at_a.below.together, at_b.below.together) in
        record {
          forest = forest-after nodes spots e a.root b.root (pos 0 -ℤ offset) forest at_a.known at_b.known at_a.root at_b.root ends apart first-after reach (within e.from from) (within e.to to);
          answer = is-hung nodes spots e a.root b.root (pos 0 -ℤ offset) forest at_a.known at_b.known at_a.root at_b.root ends apart first-after;
        }

    -- two storages have no more names than there are
    pub counts-fit : (node_at nodes a.root).count + (node_at nodes b.root).count ≤ length nodes
    counts-fit =
        let after = join-second.forest in
        let few = after.few a.root (omega (arith, length-hung nodes b.root a.root offset, at_a.known)) in
        let now : (node_at (hung nodes b.root a.root offset) a.root).count ≡ (node_at nodes a.root).count + (node_at nodes b.root).count = ap (λ (n : Node). n.count) (hung-root nodes b.root a.root offset at_a.known) in
        omega (arith, length-hung nodes b.root a.root offset)

-- ---- numbers as the code computes them

abbrev pub again : ℤ → ℤ
again z = to_z w64 (of_z w64 z)

pub close-fits : (z : ℤ) → IsClose z → SFits w64 z
close-fits z close = omega (arith, ints, close.low, close.high)

reach-fits : (z : ℤ) → IsReach z → SFits w64 z
reach-fits z reach = omega (arith, ints, reach.low, reach.high)

module _ {p q : ℤ} (near_p : IsClose p) (near_q : IsClose q) where
  pub gap-fits : FitsSigned w64 (again q -ℤ again p)
  gap-fits = rw (to_z-of_z w64 p (close-fits p near_p), to_z-of_z w64 q (close-fits q near_q)) (omega (arith, ints, near_p.low, near_p.high, near_q.low, near_q.high))

  pub gap-is : again (again q -ℤ again p) ≡ q -ℤ p
  gap-is = to_z-of_z w64 (again q -ℤ again p) gap-fits ∙ rw (to_z-of_z w64 p (close-fits p near_p), to_z-of_z w64 q (close-fits q near_q)) refl

  module _ {d : ℤ} (reach : IsReach d) where
    pub sum-fits : FitsSigned w64 (again p +ℤ again d)
    sum-fits = rw (to_z-of_z w64 p (close-fits p near_p), to_z-of_z w64 d (reach-fits d reach)) (omega (arith, ints, near_p.low, near_p.high, reach.low, reach.high))

    sum-is : again (again p +ℤ again d) ≡ p +ℤ d
    sum-is = to_z-of_z w64 (again p +ℤ again d) sum-fits ∙ rw (to_z-of_z w64 p (close-fits p near_p), to_z-of_z w64 d (reach-fits d reach)) refl

    pub offset-fits : FitsSigned w64 (again (again p +ℤ again d) -ℤ again q)
    offset-fits = rw (sum-is, to_z-of_z w64 q (close-fits q near_q)) (omega (arith, ints, near_p.low, near_p.high, near_q.low, near_q.high, reach.low, reach.high))

    pub offset-is : again (again (again p +ℤ again d) -ℤ again q) ≡ p +ℤ d -ℤ q
    offset-is = to_z-of_z w64 (again (again p +ℤ again d) -ℤ again q) offset-fits ∙ rw (sum-is, to_z-of_z w64 q (close-fits q near_q)) refl

    pub turned-fits : FitsSigned w64 (pos 0 -ℤ again (again (again p +ℤ again d) -ℤ again q))
    turned-fits = rw offset-is (omega (arith, ints, near_p.low, near_p.high, near_q.low, near_q.high, reach.low, reach.high))

    pub turned-is : again (pos 0 -ℤ again (again (again p +ℤ again d) -ℤ again q)) ≡ pos 0 -ℤ (p +ℤ d -ℤ q)
    turned-is = to_z-of_z w64 (pos 0 -ℤ again (again (again p +ℤ again d) -ℤ again q)) turned-fits ∙ ap (λ z. pos 0 -ℤ z) offset-is

-- ---- the code's facts

pub rooted-close : {nodes : List Node} {name : ℕ} {rooted : Rooted} → (trees : AreTrees nodes) → length nodes < 2 ^ 32 → name < length nodes → ((spots : List Spot) → IsForest nodes spots → IsRooted nodes spots name rooted) → IsClose rooted.distance
rooted-close {nodes} {name} {rooted} trees few lt found =
    let forest = trees.forest in
    let at = found trees.spots forest in
    below-close trees.spots name rooted.root rooted.distance forest.near (omega (arith, forest.all)) (omega (arith, forest.all)) (omega (arith, forest.all, at.known)) at.below

-- what a call of `hang` tells
pub told : {nodes items : List Node} {spots : List Spot} {e : Equation} {answer : Joined} {child root : ℕ} {given offset : ℤ} → given ≡ offset → items ≡ hung nodes child root given → answer ≡ Hung child root given → IsJoined nodes (hung nodes child root offset) spots e (Hung child root offset) → IsJoined nodes items spots e answer
told {nodes} {items} {spots} {e} {answer} {child} {root} {given} {offset} same is says h =
    let new : hung nodes child root offset ≡ items = ap (hung nodes child root) (sym same) ∙ sym is in
    let now : Hung child root offset ≡ answer = ap (Hung child root) (sym same) ∙ sym says in
    subst (λ (a : Joined). IsJoined nodes items spots e a) now (subst (λ (xs : List Node). IsJoined nodes xs spots e (Hung child root offset)) new h)

-- the equation, as the code passes it
pub as-passed : {old new : List Node} {spots : List Spot} {from to : ℕ} {d : ℤ} {answer : Joined} → SFits w64 d → IsJoined old new spots (record { from = from; to = to; distance = again d }) answer → IsJoined old new spots (record { from = from; to = to; distance = d }) answer
as-passed {old} {new} {spots} {from} {to} {d} {answer} f h = subst (λ (z : ℤ). IsJoined old new spots (record { from = from; to = to; distance = z }) answer) (to_z-of_z w64 d f) h

pub plain-sum : (x o : ℤ) → SFits w64 o → FitsSigned w64 (x +ℤ o) → FitsSigned w64 (x +ℤ again o)
plain-sum x o f h = rw (to_z-of_z w64 o f) h
