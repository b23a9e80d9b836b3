-- What is so of statements whose layout of storage has no fault.
use Rattle.std.proofs.Common.{◌≡◌, ℕ, ◌+◌, Bool, false, not, ◌||◌, List, [], ◌∷◌, ◌++◌, length, map, All, None, refl, sym, ap, ◌∙◌, arith}
use Rattle.std.specs.List.{list_any, flat_map, range_with_len}
use Rattle.std.proofs.lemmas.Bool.{or_from}
use Rattle.std.proofs.lemmas.List.{append-nil, append_assoc}
use Rattle.std.proofs.lemmas.List.Concat.{flat_map-append}
use Rattle.f77_tree.specs.declared.declarations.Member.{Member}
use Rattle.f77_tree.specs.declared.declarations.InitPart.{InitPart}
use Rattle.f77_tree.specs.declared.programs.NameInfo.{NameInfo}
use Rattle.f77_tree.specs.declared.statements.Labelled.{Labelled}
use Rattle.f77_tree.specs.declared.statements.Stmt.{Stmt}
use Rattle.f77_tree.specs.declared.statements.Stmt.TheVariants.{Init}
use Rattle.f77_tree.specs.InitialWords.{part_words}
use Rattle.layout_rules.specs.Faults.{first_line, first_after}
use Rattle.layout_rules.specs.Declarations.{all_inits, inits_of}
use Rattle.layout_rules.specs.Storage.{Spot, place_of}
use Rattle.layout_rules.specs.StorageFaults.{is_member, members_of, has_wrong_dims, has_wrong_member, is_wrong_part, has_wrong_part, has_wrong_data, has_wrong_storage}
use Rattle.layout_rules.specs.Layout.{names_of, spots_of, placed_from, placed_names}
use Rattle.layout_rules.specs.PlacedNames.{with_places, HasRightDims}
use Rattle.layout_rules.proofs.FlatParts.{list_any-flat_map}
use Rattle.layout_rules.proofs.StorageLines.{right_statement, kept-after, none-any, right_sizes}

-- ---- the table of names with the places that storages give

placed_from-places : (names : List NameInfo) (spots : List Spot) (k : ℕ) (infos : List NameInfo) → placed_from names spots k infos ≡ with_places infos (map (place_of names spots) (range_with_len k (length infos)))
placed_from-places names spots k [] = refl
placed_from-places names spots k (info ∷ infos) = ap (λ (rest : List NameInfo). record info { place = place_of names spots k } ∷ rest) (placed_from-places names spots (k + 1) infos)

pub placed_names-places : (stmts : List Labelled) → placed_names stmts ≡ with_places (names_of stmts) (map (place_of (names_of stmts) (spots_of stmts)) (range_with_len 0 (length (names_of stmts))))
placed_names-places stmts = placed_from-places (names_of stmts) (spots_of stmts) 0 (names_of stmts)

-- ---- statements without fault

has_wrong_part-append : (placed : List NameInfo) (given : List ℕ) (xs ys : List InitPart) → has_wrong_part placed given (xs ++ ys) ≡ (has_wrong_part placed given xs || has_wrong_part placed (given ++ flat_map (part_words placed) xs) ys)
has_wrong_part-append placed given [] ys = ap (λ (words : List ℕ). has_wrong_part placed words ys) (sym (append-nil given))
has_wrong_part-append placed given (part ∷ xs) ys =
    ap (λ b. is_wrong_part placed given part || b) (has_wrong_part-append placed (given ++ part_words placed part) xs ys)
    ∙ ap (λ (words : List ℕ). is_wrong_part placed given part || (has_wrong_part placed (given ++ part_words placed part) xs || has_wrong_part placed words ys)) (append_assoc given (part_words placed part) (flat_map (part_words placed) xs))
    ∙ grind arith

abbrev is_wrong_member : List NameInfo → Member → Bool
is_wrong_member names member = not (is_member names member)

no_wrong_item : (names : List NameInfo) (s : Labelled) → has_wrong_member names s ≡ false → list_any (λ part. list_any (is_wrong_member names) part.items) (inits_of s.stmt) ≡ false
no_wrong_item names s right = none s.stmt right
  where
    none : (stmt : Stmt) → list_any (is_wrong_member names) (members_of stmt) ≡ false → list_any (λ part. list_any (is_wrong_member names) part.items) (inits_of stmt) ≡ false
    none (Init parts) right = sym (list_any-flat_map (is_wrong_member names) (λ (part : InitPart). part.items) parts) ∙ right
    none _ right = refl

module _ (names placed : List NameInfo) (whole : List Labelled) where
  abbrev fault : List Labelled → Labelled → Bool
  fault = has_wrong_storage names placed whole

  items_after : (above stmts : List Labelled) → first_after fault above stmts ≡ None → list_any (λ part. list_any (is_wrong_member names) part.items) (all_inits stmts) ≡ false
  items_after above stmts right =
      list_any-flat_map (λ (part : InitPart). list_any (is_wrong_member names) part.items) (λ (s : Labelled). inits_of s.stmt) stmts
      ∙ none-any fault (λ s. list_any (λ part. list_any (is_wrong_member names) part.items) (inits_of s.stmt)) (λ above s clear. no_wrong_item names s (right_statement names placed whole above s clear).members) above stmts right

  abbrev RightData : List Labelled → Type 0
  RightData stmts = has_wrong_part placed [] (all_inits stmts) ≡ false

  data_next : (above : List Labelled) (s : Labelled) → fault above s ≡ false → RightData above → RightData (above ++ s ∷ [])
  data_next above s clear so =
      ap (has_wrong_part placed []) (flat_map-append (λ (t : Labelled). inits_of t.stmt) above (s ∷ []) ∙ ap (λ (parts : List InitPart). all_inits above ++ parts) (append-nil (inits_of s.stmt)))
      ∙ has_wrong_part-append placed [] (all_inits above) (inits_of s.stmt)
      ∙ or_from (has_wrong_part placed [] (all_inits above)) (has_wrong_data placed above s) so (right_statement names placed whole above s clear).values

-- the dimensions of all names are right
pub right_dims_of : (names placed : List NameInfo) (stmts : List Labelled) → first_line (has_wrong_storage names placed stmts) stmts ≡ None → All HasRightDims (names_of stmts)
right_dims_of names placed stmts right = right_sizes stmts (none-any (has_wrong_storage names placed stmts) has_wrong_dims (λ above s clear. (right_statement names placed stmts above s clear).dims) [] stmts right)

-- each item of DATA is a name or an element
pub right_items_of : (names placed : List NameInfo) (stmts : List Labelled) → first_line (has_wrong_storage names placed stmts) stmts ≡ None → list_any (λ part. list_any (λ member. not (is_member names member)) part.items) (all_inits stmts) ≡ false
right_items_of names placed stmts right = items_after names placed stmts [] stmts right

-- the values of DATA fit its items, and no word has two
pub right_data_of : (names placed : List NameInfo) (stmts : List Labelled) → first_line (has_wrong_storage names placed stmts) stmts ≡ None → has_wrong_part placed [] (all_inits stmts) ≡ false
right_data_of names placed stmts right = kept-after (has_wrong_storage names placed stmts) (RightData names placed stmts) (data_next names placed stmts) [] stmts right refl
