-- Names share a storage exactly where equations link them.
use Rattle.std.proofs.Common.{◌≡◌, ℕ, suc, ◌<◌, ⊎_elim, List, [], ◌∷◌, length, Contains, refl, sym, subst, ◌∙◌, arith}
use Rattle.std.specs.Prelude.{fold}
use Rattle.f77_tree.specs.Places.{Equation, Linked, itself, along, against}
use Rattle.layout_rules.specs.Storage.{Spot, spots_by, linked, alone}
use Rattle.layout_rules.specs.Spots.{storage_at, AreLowest, IsBelow}
use Rattle.layout_rules.proofs.Linking.{length-after, apart-after}
use Rattle.layout_rules.proofs.Lowest.{lowest-after, lowest-alone}
use Rattle.layout_rules.proofs.Alone.{length-alone, storage-alone}

-- both names of an equation are among so many
pub record IsEquation (count : ℕ) (e : Equation) : Type 0 where
  pub first : e.from < count
  pub second : e.to < count

abbrev pub AreEquations : ℕ → List Equation → Type 0
AreEquations count all = (e : Equation) → Contains all e → IsEquation count e

contains-here : (e : Equation) (all : List Equation) → Contains (e ∷ all) e
contains-here e all = (0, omega arith, refl)

contains-there : (x e : Equation) (all : List Equation) → Contains all e → Contains (x ∷ all) e
contains-there x e all h = (suc h.0, omega (arith, h.1), h.2)

-- ---- links

module _ (all : List Equation) where
  pub link-through : (x y z : ℕ) → Linked all x y → Linked all y z → Linked all x z
  link-through x y z itself more = more
  link-through x y z (along e here rest) more = along e here (link-through e.to y z rest more)
  link-through x y z (against e here rest) more = against e here (link-through e.from y z rest more)

  pub link-back : (x y : ℕ) → Linked all x y → Linked all y x
  link-back x y itself = itself
  link-back x y (along e here rest) = link-through y e.to e.from (link-back e.to y rest) (against e here itself)
  link-back x y (against e here rest) = link-through y e.from e.to (link-back e.from y rest) (along e here itself)

-- ---- the places that equations give

module _ (count : ℕ) where
  -- the places after some of the equations
  record AreReached (all : List Equation) (spots : List Spot) : Type 0 where
    names : length spots ≡ count
    lowest : AreLowest spots
    links : (x y : ℕ) → x < count → y < count → storage_at spots x ≡ storage_at spots y → Linked all x y

  reached-alone : (all : List Equation) → AreReached all (alone count)
  reached-alone all = record {
    names = length-alone count;
    lowest = lowest-alone count;
    links = λ x y i j same. let e : x ≡ y = sym (storage-alone count x i) ∙ same ∙ storage-alone count y j in subst (λ (z : ℕ). Linked all x z) e itself;
  }

  reached-after : (all : List Equation) (spots : List Spot) (e : Equation) → Contains all e → IsEquation count e → AreReached all spots → AreReached all (linked spots e)
  reached-after all spots e here is before =
      let inside : (x : ℕ) → x < count → x < length spots = λ x i. omega (arith, before.names) in
      record {
        names = length-after spots e ∙ before.names;
        lowest = lowest-after spots e (inside e.from is.first) (inside e.to is.second) before.lowest;
        links = λ x y i j same.
            ⊎_elim
            (λ s. before.links x y i j s)
            (λ h. ⊎_elim
            (λ ab. link-through all x e.from y (before.links x e.from i is.first ab.0) (along e here (before.links e.to y is.second j (sym ab.1))))
            (λ ba. link-through all x e.to y (before.links x e.to i is.second ba.0) (against e here (before.links e.from y is.first j (sym ba.1))))
            h)
            (apart-after spots e x y (inside x i) (inside y j) same);
      }

  reached : (all rest : List Equation) (spots : List Spot) → ((e : Equation) → Contains rest e → Contains all e) → AreEquations count rest → AreReached all spots → AreReached all (fold linked spots rest)
  reached all [] spots some are before = before
  reached all (e ∷ rest) spots some are before =
      let now = reached-after all spots e (some e (contains-here e rest)) (are e (contains-here e rest)) before in
      reached all rest (linked spots e) (λ x h. some x (contains-there e x rest h)) (λ x h. are x (contains-there e x rest h)) now

  module _ (all : List Equation) (are : AreEquations count all) where
    in_all : AreReached all (spots_by count all)
    in_all = reached all all (alone count) (λ e h. h) are (reached-alone all)

    pub length-spots : length (spots_by count all) ≡ count
    length-spots = in_all.names

    pub lowest-spots : AreLowest (spots_by count all)
    lowest-spots = in_all.lowest

    -- names of one storage are linked
    pub storage-linked_names : (x y : ℕ) → x < count → y < count → storage_at (spots_by count all) x ≡ storage_at (spots_by count all) y → Linked all x y
    storage-linked_names = in_all.links

-- linked names have one storage, where the equations hold
pub linked-storage : (spots : List Spot) (all : List Equation) → ((e : Equation) → Contains all e → IsBelow spots e.to e.from e.distance) → (x y : ℕ) → Linked all x y → storage_at spots x ≡ storage_at spots y
linked-storage spots all kept x y itself = refl
linked-storage spots all kept x y (along e here rest) = (kept e here).together ∙ linked-storage spots all kept e.to y rest
linked-storage spots all kept x y (against e here rest) = sym (kept e here).together ∙ linked-storage spots all kept e.from y rest
