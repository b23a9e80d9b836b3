-- Places that meet the equations of a program are right places: no order of its EQUIVALENCE statements makes them wrong.
use Rattle.std.proofs.Common.{◌≡◌, ℕ, suc, ◌<◌, ⊎_elim, ℤ, ◌≤ℤ◌, true, false, List, [], ◌∷◌, ◌++◌, Contains, refl, sym, subst, ◌∙◌, arith, append_assoc}
use Rattle.std.specs.List.{list_any}
use Rattle.std.proofs.lemmas.List.Elements.{Contains-append_cases}
use Rattle.f77_tree.specs.Places.{Equation, Linked, same_block}
use Rattle.layout_rules.specs.Storage.{Spot, Standing, spots_by, are_right}
use Rattle.layout_rules.specs.Spots.{storage_at}
use Rattle.layout_rules.specs.Standings.{firsts_after}
use Rattle.layout_rules.proofs.RightPlaces.{IsLeast, right-from}
use Rattle.layout_rules.proofs.StandingLemmas.{first_if, first-here}
use Rattle.storage_laws.proofs.PlacedEquations.{AreInTable}
use Rattle.storage_laws.proofs.PlacedLinks.{AreEquations, storage-linked_names}
use Rattle.read_back.proofs.SpotPlaces.{Holds, at_spots, kept, in_order}

-- the places meet the equations; names of COMMON that are linked are of one block, and no name begins before the first one of its block
pub record MeetRules (P : ℕ → ℤ) (count : ℕ) (xs : List Standing) (all : List Equation) : Type 0 where
  pub known : AreInTable count xs
  pub ends : AreEquations count all
  pub holds : (e : Equation) → Contains all e → Holds P e
  pub blocks : (s t : Standing) → Contains xs s → Contains xs t → Linked all s.name t.name → s.block ≡ t.block
  pub begins : (seen rest : List Standing) (s : Standing) → xs ≡ seen ++ s ∷ rest → list_any (λ a. same_block a.block s.block) seen ≡ false → (y : ℕ) → Linked all s.name y → P s.name ≤ℤ P y

module _ (P : ℕ → ℤ) (count : ℕ) (xs : List Standing) (all : List Equation) (is : MeetRules P count xs all) where
  abbrev spots : List Spot
  spots = spots_by count all

  linked_names : (x y : ℕ) → x < count → y < count → storage_at spots x ≡ storage_at spots y → Linked all x y
  linked_names = storage-linked_names count all is.ends

  -- no name begins before the first one of its block
  first_least : (seen rest : List Standing) → xs ≡ seen ++ rest → AreInTable count rest → (x : ℕ) → Contains (firsts_after seen rest) x → IsLeast count spots x
  first_least seen [] split known x first = absurd (omega (arith, first.1))
  first_least seen (s ∷ rest) split known x first =
      ⊎_elim
      (λ here.
      let f = first-here seen s x here in
      subst (IsLeast count spots) f.1 (λ y j same. in_order P spots (at_spots P count all is.holds) s.name y same (is.begins seen rest s split f.0 y (linked_names s.name y (known s (0, omega arith, refl)) j same))))
      (λ later. first_least (seen ++ s ∷ []) rest (split ∙ sym (append_assoc seen (s ∷ []) rest)) (λ t h. known t (suc h.0, omega (arith, h.1), h.2)) x later)
      (Contains-append_cases (first_if seen s) (firsts_after (seen ++ s ∷ []) rest) x first)

  pub right_places : are_right count spots xs all ≡ true
  right_places = right-from count spots xs all (record {
    kept = kept P count all is.ends is.holds;
    apart = λ a b at_a at_b same. is.blocks a b at_a at_b (linked_names a.name b.name (is.known a at_a) (is.known b at_b) same);
    begins = first_least [] xs refl is.known;
  })
