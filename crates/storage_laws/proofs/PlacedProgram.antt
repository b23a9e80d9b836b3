-- The places of a program's names are places of a program.
use Rattle.std.proofs.Common.{◌≡◌, ℕ, zero, suc, ◌+◌, ◌<◌, ◌≤◌, pos, ◌-ℤ◌, true, List, [], ◌∷◌, length, map, Option, Some, None, refl, sym, ap, subst, ◌∙◌, arith, Contains}
use Rattle.std.specs.Prelude.{filter, flat_map, slice_get}
use mathlib.Core.Path.{fun_ext}
use Rattle.std.proofs.lemmas.Int.{ints}
use Rattle.f77_tree.specs.declared.declarations.CommonPart.{CommonPart}
use Rattle.f77_tree.specs.declared.declarations.Decl.{Decl}
use Rattle.f77_tree.specs.declared.declarations.Member.{Member}
use Rattle.f77_tree.specs.declared.programs.NameInfo.{NameInfo}
use Rattle.f77_tree.specs.declared.statements.Labelled.{Labelled}
use Rattle.f77_tree.specs.Value.{dims_of, size_of, place_of as placed_at}
use Rattle.f77_tree.specs.Declarations.{CommonOnce}
use Rattle.f77_tree.specs.Places.{Equation, Linked, block_names, IsFirstOfBlock, ArePlaces, IsWordOf}
use Rattle.layout_rules.specs.Declarations.{all_commons, all_groups}
use Rattle.layout_rules.specs.Storage.{Spot, Standing, standings, standings_of, spots_by, size_at, are_right, equations, place_of, words_in_all}
use Rattle.layout_rules.specs.Standings.{ArePartsKnown, AreGroupsKnown}
use Rattle.layout_rules.specs.Spots.{storage_at, distance_at}
use Rattle.layout_rules.proofs.ProperPlaced.{placed_from-agrees}
use Rattle.layout_rules.proofs.RightPlaces.{ArePlacedRight, right-yes}
use Rattle.f77_tree.proofs.NameLemmas.{same_block-same}
use Rattle.layout_rules.specs.Faults.{first_line}
use Rattle.layout_rules.specs.StorageFaults.{has_wrong_storage}
use Rattle.layout_rules.specs.Layout.{names_of, spots_of, placed_from, placed_names, word_count}
use Rattle.storage_laws.proofs.PlacedLinks.{AreEquations, length-spots, lowest-spots, linked-storage}
use Rattle.storage_laws.proofs.PlacedWords.{apart-by}
use Rattle.storage_laws.proofs.PlacedNames.{IsPlaced, link-inside, equal, within, ordered, shared, begins, ends}
use Rattle.storage_laws.proofs.PlacedBlocks.{IsImage, image-of, placed-block_names, first-among}
use Rattle.storage_laws.proofs.DeclaredStandings.{is_of, name_of}
use Rattle.storage_laws.proofs.DeclaredNames.{same_index_from}
use Rattle.storage_laws.proofs.PlacedEquations.{standings-once, standings-in, ends-in}
use Rattle.storage_laws.proofs.PlacedRight.{all-right}

module _ (names placed : List NameInfo) (commons : List CommonPart) (groups : List (List Member)) where
  abbrev all : List Equation
  all = equations names commons groups

  abbrev spots : List Spot
  spots = spots_by (length names) all

  abbrev standing : List Standing
  standing = flat_map (standings_of names) commons

  module _ (is : IsPlaced names placed spots) (parts : ArePartsKnown names commons) (members : AreGroupsKnown names groups) (once : CommonOnce names commons) (right : are_right (length names) spots (standings names commons) all ≡ true) where
    are : AreEquations (length names) all
    are = ends-in names commons groups parts members once

    is-right : ArePlacedRight (length names) spots standing all
    is-right = subst (λ (xs : List Standing). ArePlacedRight (length names) spots xs all) (standings-once names commons once) (right-yes (length names) spots (standings names commons) all right)

    names-of-block : (block : Option (List ℕ)) → block_names placed commons block ≡ map name_of (filter (is_of block) standing)
    names-of-block block = placed-block_names names placed is.indices block commons

    in-common : (block : Option (List ℕ)) (x : ℕ) → Contains (block_names placed commons block) x → IsImage name_of (is_of block) standing x
    in-common block x h = image-of name_of (is_of block) standing x (subst (λ (xs : List ℕ). Contains xs x) (names-of-block block) h)

    blocks : (a b : Option (List ℕ)) (x y : ℕ) → Contains (block_names placed commons a) x → Contains (block_names placed commons b) y → Linked all x y → a ≡ b
    blocks a b x y at_x at_y link =
        let s = in-common a x at_x in
        let t = in-common b y at_y in
        let same = ap (λ k. storage_at spots k) s.value ∙ linked-storage spots all is-right.kept x y link ∙ ap (λ k. storage_at spots k) (sym t.value) in
        sym (same_block-same s.element.block a s.passes) ∙ is-right.apart s.element t.element s.there t.there same ∙ same_block-same t.element.block b t.passes

    extended : (x y : ℕ) → IsFirstOfBlock placed commons x → Linked all x y → placed_at placed x ≤ placed_at placed y
    extended x y first link =
        let head : slice_get (map name_of (filter (is_of first.block) standing)) 0 ≡ Some x = ap (λ xs. slice_get xs 0) (sym (names-of-block first.block)) ∙ first.first in
        let first_x = first-among first.block [] standing x refl head in
        let image = in-common first.block x (first-in (block_names placed commons first.block) first.first) in
        let i : x < length names = subst (λ (k : ℕ). k < length names) image.value (standings-in names (length names) commons parts image.element image.there) in
        let j : y < length names = link-inside (length names) all are x y i link in
        let same = linked-storage spots all is-right.kept x y link in
        let before = is-right.begins x first_x y j same in
        let x_in : x < length spots = omega (arith, length-spots (length names) all are) in
        let y_in : y < length spots = omega (arith, length-spots (length names) all are) in
        let apart = apart-by names spots (lowest-spots (length names) all are) x y (distance_at spots y -ℤ distance_at spots x) x_in y_in (record { together = same; beyond = omega (arith, ints) }) in
        omega (arith, ints, is.places x (omega (arith, is.as_many)), is.places y (omega (arith, is.as_many)))
      where
        first-in : (xs : List ℕ) → slice_get xs 0 ≡ Some x → Contains xs x
        first-in [] e = absurd cc
        first-in (z ∷ xs) e = let same : z ≡ x = cc in (0, omega arith, same)

    -- the places are places of a program
    pub places-are : ArePlaces placed commons all (words_in_all names spots)
    places-are = record {
      equal = equal names placed (length names) all are is-right.kept is;
      blocks = blocks;
      extended = extended;
      within = within names placed (length names) all are is-right.kept is;
      ordered = ordered names placed (length names) all are is-right.kept is;
      begins = begins names placed (length names) all are is-right.kept is;
      ends = ends names placed (length names) all are is-right.kept is;
    }

    -- names that share a word share a storage
    pub words-shared : (x y word : ℕ) → IsWordOf placed x word → IsWordOf placed y word → Linked all x y
    words-shared = shared names placed (length names) all are is-right.kept is

-- ---- the table with places

module _ (names : List NameInfo) (spots : List Spot) where
  place-placed : (k : ℕ) (infos : List NameInfo) (j i : ℕ) → j < length infos → k + j ≡ i → placed_at (placed_from names spots k infos) j ≡ place_of names spots i
  place-placed k [] j i lt e = absurd (omega arith)
  place-placed k (info ∷ infos) zero i lt e = let same : k ≡ i = omega arith in ap (place_of names spots) same
  place-placed k (info ∷ infos) (suc j) i lt e = place-placed (k + 1) infos j i (omega arith) (omega arith)

  abbrev placed : List NameInfo
  placed = placed_from names spots 0 names

  -- Each name has words, and where its dimensions are without fault, as many as the standard says.
  abbrev pub AreSized : Type 0
  AreSized = (x : ℕ) → (size_of (dims_of placed x) ≡ pos (size_at names x)) × (0 < size_at names x)

  pub placed-is : length spots ≡ length names → AreSized → IsPlaced names placed spots
  placed-is as_many sized = record {
    as_many = (placed_from-agrees names spots 0 names).as_many ∙ sym as_many;
    places = λ x lt. place-placed 0 names x x (omega (arith, (placed_from-agrees names spots 0 names).as_many)) (omega arith);
    sizes = λ x lt. (sized x).0;
    some = λ x lt. (sized x).1;
    indices = same_index_from names spots 0 names;
  }

  -- no name stands twice in COMMON, whichever table knows it
  pub placed-once : (commons : List CommonPart) → CommonOnce placed commons → CommonOnce names commons
  placed-once commons once =
      let P : (List ℕ → ℕ) → Type 0 = λ f. (j k x : ℕ) → slice_get (flat_map (λ (part : CommonPart). map (λ (decl : Decl). f decl.name) part.decls) commons) j ≡ Some x → slice_get (flat_map (λ (part : CommonPart). map (λ (decl : Decl). f decl.name) part.decls) commons) k ≡ Some x → j ≡ k in
      subst P (fun_ext (same_index_from names spots 0 names)) once

module _ (whole : List Labelled) (sized : AreSized (names_of whole) (spots_of whole)) (parts : ArePartsKnown (names_of whole) (all_commons whole)) (members : AreGroupsKnown (names_of whole) (all_groups whole)) (placed_once : CommonOnce (placed_names whole) (all_commons whole)) (none : first_line (has_wrong_storage (names_of whole) (placed_names whole) whole) whole ≡ None) where
  abbrev names_here : List NameInfo
  names_here = names_of whole

  once : CommonOnce names_here (all_commons whole)
  once = placed-once names_here (spots_of whole) (all_commons whole) placed_once

  right : are_right (length names_here) (spots_of whole) (standings names_here (all_commons whole)) (equations names_here (all_commons whole) (all_groups whole)) ≡ true
  right = all-right names_here (placed_names whole) whole parts once none

  is-placed : IsPlaced names_here (placed_names whole) (spots_of whole)
  is-placed = placed-is names_here (spots_of whole) (length-spots (length names_here) (equations names_here (all_commons whole) (all_groups whole)) (ends-in names_here (all_commons whole) (all_groups whole) parts members once)) sized

  -- Where storage is without fault, the places of the names are places of a program.
  pub places-of : ArePlaces (placed_names whole) (all_commons whole) (equations names_here (all_commons whole) (all_groups whole)) (word_count whole)
  places-of = places-are names_here (placed_names whole) (all_commons whole) (all_groups whole) is-placed parts members once right

  -- And names that share a word are linked.
  pub shared-of : (x y word : ℕ) → IsWordOf (placed_names whole) x word → IsWordOf (placed_names whole) y word → Linked (equations names_here (all_commons whole) (all_groups whole)) x y
  shared-of = words-shared names_here (placed_names whole) (all_commons whole) (all_groups whole) is-placed parts members once right
