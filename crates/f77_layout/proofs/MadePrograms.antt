-- What a program is made of, where its statements have no refusal.
use Rattle.std.proofs.Common.{◌≡◌, ℕ, ◌<◌, ◌≤◌, ◌^◌, ℤ, false, not, List, [], length, get_or, map, All, Option, None, refl, sym, ap, subst, ◌∙◌, arith}
use Rattle.std.specs.List.{list_any, range_with_len}
use Rattle.std.proofs.lemmas.Int.{ints}
use Rattle.std.proofs.lemmas.List.FromFn.{get_or-map-range_with_len, length-map-range_with_len}
use Rattle.f77_tree.specs.Places.{Equation}
use Rattle.f77_tree.specs.declared.declarations.CommonPart.{CommonPart}
use Rattle.f77_tree.specs.declared.declarations.InitPart.{InitPart}
use Rattle.f77_tree.specs.declared.declarations.Member.{Member}
use Rattle.f77_tree.specs.declared.programs.Exec.{Exec}
use Rattle.f77_tree.specs.declared.programs.NameInfo.{NameInfo}
use Rattle.f77_tree.specs.declared.programs.Program.{Program}
use Rattle.f77_tree.specs.declared.statements.Labelled.{Labelled}
use Rattle.storage_association.specs.declared.equations.Placing.{Placing}
use Rattle.storage_association.specs.declared.equations.Placing.TheVariants.{Right}
use Rattle.storage_association.specs.declared.storages.Storages.{Storages}
use Rattle.storage_association.specs.declared.word_numbers.WordNumbers.{WordNumbers}
use Rattle.layout_rules.specs.Declarations.{all_commons, all_groups, all_inits}
use Rattle.layout_rules.specs.Faults.{first_line}
use Rattle.layout_rules.specs.Layout.{names_of, placed_names, spots_of}
use Rattle.layout_rules.specs.PlacedNames.{with_places, ArePlaces}
use Rattle.f77_layout.specs.Stages.{AreStored}
use Rattle.layout_rules.specs.Standings.{firsts_of}
use Rattle.storage_association.specs.CommonStorages.{IsPlaced, IsPlacing}
use Rattle.layout_rules.specs.Storage.{Spot, place_of, words_in_all, spots_by, standings, equations}
use Rattle.layout_rules.specs.StorageLines.{storage_line}
use Rattle.layout_rules.specs.StorageFaults.{is_member, has_wrong_part, has_wrong_storage}
use Rattle.storage_association.specs.Storages.{AreStorages}
use Rattle.layout_rules.specs.Spots.{AreLowest}
use Rattle.storage_association.specs.WordNumbers.{AreNumbers}
use Rattle.storage_association.proofs.Numbering.{all-few}
use Rattle.storage_laws.proofs.PlacedWords.{within-all}
use Rattle.storage_laws.proofs.RightStorage.{placed_names-places, right_dims_of, right_items_of, right_data_of}

-- ---- the numbers of words

-- no name begins after the last word
place-within : (names : List NameInfo) (spots : List Spot) → AreLowest spots → (k : ℕ) → k < length spots → place_of names spots k ≤ words_in_all names spots
place-within names spots lowest k lt =
    let end = within-all names spots lowest k lt in
    omega (arith, ints, end)

place-read : (stmts : List Labelled) (numbers : WordNumbers) → AreNumbers (names_of stmts) (spots_of stmts) numbers → (k d : ℕ) → k < length (spots_of stmts) → get_or numbers.places.items k d ≡ place_of (names_of stmts) (spots_of stmts) k
place-read stmts numbers are k d lt =
    ap (λ places. get_or places k d) are.places_are ∙ get_or-map-range_with_len (place_of (names_of stmts) (spots_of stmts)) 0 (length (spots_of stmts)) k k d lt (omega arith)

many-places : (stmts : List Labelled) (numbers : WordNumbers) → AreNumbers (names_of stmts) (spots_of stmts) numbers → length numbers.places.items ≡ length (spots_of stmts)
many-places stmts numbers are = ap length are.places_are ∙ length-map-range_with_len (place_of (names_of stmts) (spots_of stmts)) 0 (length (spots_of stmts))

-- what is stored for storages of all names
pub stored : (stmts : List Labelled) (numbers : WordNumbers) (firsts : List ℕ) (s : Storages) → AreStorages (length (names_of stmts)) firsts (equations (names_of stmts) (all_commons stmts) (all_groups stmts)) s → AreNumbers (names_of stmts) (spots_of stmts) numbers → AreStored stmts numbers
stored stmts numbers firsts s storages are =
    let spots = spots_of stmts in
    let all : length spots ≡ length (names_of stmts) = sym storages.forest.all ∙ storages.names in
    let bound = all-few (names_of stmts) spots storages.lowest storages.forest.near (length spots) (omega arith) in
    record {
      all = all;
      lowest = storages.lowest;
      numbered = are;
      few = λ k d lt.
          let inside : k < length spots = omega (arith, lt, many-places stmts numbers are) in
          omega (arith, place-read stmts numbers are k d inside, place-within (names_of stmts) spots storages.lowest k inside, bound, all, storages.few);
    }

module _ (stmts : List Labelled) (numbers : WordNumbers) (is : AreStored stmts numbers) where
  pub as-many : length numbers.places.items ≡ length (names_of stmts)
  as-many = many-places stmts numbers is.numbered ∙ is.all

  -- each place is a word of 32 bits where there are few words
  pub small-places : numbers.words ≤ 262144 → All (λ place. place < 2 ^ 32) numbers.places.items
  small-places few k d lt =
      let inside : k < length (spots_of stmts) = omega (arith, lt, many-places stmts numbers is.numbered) in
      omega (arith, place-read stmts numbers is.numbered k d inside, place-within (names_of stmts) (spots_of stmts) is.lowest k inside, is.numbered.words_are, few)

  -- the names with these places
  pub placed-is : with_places (names_of stmts) numbers.places.items ≡ placed_names stmts
  placed-is =
      ap (with_places (names_of stmts)) (is.numbered.places_are ∙ ap (λ n. map (place_of (names_of stmts) (spots_of stmts)) (range_with_len 0 n)) is.all)
      ∙ sym (placed_names-places stmts)

  module _ (right : first_line (has_wrong_storage (names_of stmts) (placed_names stmts) stmts) stmts ≡ None) where
    pub are-places : ArePlaces (names_of stmts) numbers.places.items
    are-places = record { sizes = right_dims_of (names_of stmts) (placed_names stmts) stmts right; as_many = as-many; few = is.few }

    pub items-right : list_any (λ part. list_any (λ member. not (is_member (names_of stmts) member)) part.items) (all_inits stmts) ≡ false
    items-right = right_items_of (names_of stmts) (placed_names stmts) stmts right

    pub data-right : has_wrong_part (with_places (names_of stmts) numbers.places.items) [] (all_inits stmts) ≡ false
    data-right = ap (λ placed. has_wrong_part placed [] (all_inits stmts)) placed-is ∙ right_data_of (names_of stmts) (placed_names stmts) stmts right

-- ---- from storages

pub stored-placed : (stmts : List Labelled) (names : List NameInfo) (placing : Placing) (s : Storages) (numbers : WordNumbers) → names ≡ names_of stmts → placing ≡ Right s → IsPlacing names stmts placing → ((firsts : List ℕ) (all : List Equation) → AreStorages (length names) firsts all s → AreNumbers names (spots_by (length names) all) numbers) → AreStored stmts numbers
stored-placed stmts names placing s numbers table right is =
    subst (λ names. IsPlaced names stmts s → ((firsts : List ℕ) (all : List Equation) → AreStorages (length names) firsts all s → AreNumbers names (spots_by (length names) all) numbers) → AreStored stmts numbers) (sym table) (λ placed are.
    let firsts = firsts_of (standings (names_of stmts) (all_commons stmts)) in
    let all = equations (names_of stmts) (all_commons stmts) (all_groups stmts) in
    stored stmts numbers firsts s placed.storages (are firsts all placed.storages)) (subst (IsPlacing names stmts) right is)

-- the line of a fault of storage, by these names and places
pub found-is : (stmts : List Labelled) (numbers : WordNumbers) → AreStored stmts numbers → (names : List NameInfo) (places : List ℕ) (line : Option ℕ) → names ≡ names_of stmts → places ≡ numbers.places.items → line ≡ storage_line names (with_places names places) stmts → line ≡ storage_line (names_of stmts) (placed_names stmts) stmts
found-is stmts numbers is names places line table stand found =
    found
    ∙ ap (λ names. storage_line names (with_places names places) stmts) table
    ∙ ap (λ places. storage_line (names_of stmts) (with_places (names_of stmts) places) stmts) stand
    ∙ ap (λ placed. storage_line (names_of stmts) placed stmts) (placed-is stmts numbers is)

-- ---- the program

pub program-is :
    (names names' : List NameInfo) (words words' : ℕ) (initial initial' : List ℤ) (commons commons' : List CommonPart) (groups groups' : List (List Member)) (inits inits' : List InitPart) (execs execs' : List Exec) (loops loops' : ℕ) →
    names ≡ names' → words ≡ words' → initial ≡ initial' → commons ≡ commons' → groups ≡ groups' → inits ≡ inits' → execs ≡ execs' → loops ≡ loops' →
    ◌≡◌ {A = Program}
    record { names = names; words = words; initial = initial; commons = commons; groups = groups; inits = inits; execs = execs; loops = loops }
    record { names = names'; words = words'; initial = initial'; commons = commons'; groups = groups'; inits = inits'; execs = execs'; loops = loops' }
program-is names names' words words' initial initial' commons commons' groups groups' inits inits' execs execs' loops loops' n w i c g d e l = rw n (rw w (rw i (rw c (rw g (rw d (rw e (rw l refl)))))))
