-- Faults of declarations of storage: dimensions, COMMON, EQUIVALENCE and DATA that contradict each other (ANSI X3.9-1978,
-- sections 5.1, 8.2, 8.3 and 9).
use Rattle.std.specs.Prelude.{◌≡◌, ℕ, ℤ, int_le, int_lt, Bool, true, false, not, ◌&&◌, ◌||◌, nat_lt, ◌==◌, List, [], ◌∷◌, ◌++◌, length, map, flat_map, filter, bytes_eq}
use Rattle.std.specs.List.{list_any}
use Rattle.f77_tree.specs.declared.declarations.Kind.{Kind}
use Rattle.f77_tree.specs.declared.declarations.Kind.TheVariants.{Integer, Logical}
use Rattle.f77_tree.specs.declared.declarations.Dim.{Dim}
use Rattle.f77_tree.specs.declared.declarations.Decl.{Decl}
use Rattle.f77_tree.specs.declared.declarations.Member.{Member}
use Rattle.f77_tree.specs.declared.declarations.InitPart.{InitPart}
use Rattle.f77_tree.specs.declared.programs.NameInfo.{NameInfo}
use Rattle.f77_tree.specs.declared.statements.Labelled.{Labelled}
use Rattle.f77_tree.specs.declared.statements.Stmt.{Stmt}
use Rattle.f77_tree.specs.declared.statements.Stmt.TheVariants.{Equivalence, Init}
use Rattle.f77_tree.specs.Value.{dims_of}
use Rattle.f77_tree.specs.Declarations.{member_index}
use Rattle.f77_tree.specs.InitialWords.{lit_kind, constants, part_words, part_kinds}
use Rattle.layout_rules.specs.Faults.{has_repeat}
use Rattle.layout_rules.specs.Declarations.{declarators, has_dims, all_commons, all_groups, all_inits, parts_of, groups_of, inits_of}
use Rattle.layout_rules.specs.Storage.{Spot, elements, standings, equations, spots_by, are_right}

-- ---- dimensions

-- the names that these declarators give dimensions to
abbrev pub array_names : List Decl → List (List ℕ)
array_names decls = map (λ decl. decl.name) (filter has_dims decls)

abbrev pub dimensioned : Stmt → List (List ℕ)
dimensioned stmt = array_names (declarators stmt)

-- a name has dimensions above or before in the statement
abbrev pub has_dims_twice : (above : List Labelled) → Labelled → Bool
has_dims_twice above s = has_repeat bytes_eq (flat_map (λ a. dimensioned a.stmt) above) (dimensioned s.stmt)

-- a bound below the lower one, or more than 262,144 elements
abbrev pub are_wrong_dims : List Dim → Bool
are_wrong_dims dims = list_any (λ dim. int_lt dim.hi dim.lo) dims || nat_lt 262144 (elements dims)

abbrev pub has_wrong_dims : Labelled → Bool
has_wrong_dims s = list_any (λ decl. are_wrong_dims decl.dims) (declarators s.stmt)

-- ---- COMMON

abbrev pub common_names : Stmt → List (List ℕ)
common_names stmt = flat_map (λ part. map (λ decl. decl.name) part.decls) (parts_of stmt)

-- a name stands in COMMON above or before in the statement
abbrev pub is_common_twice : (above : List Labelled) → Labelled → Bool
is_common_twice above s = has_repeat bytes_eq (flat_map (λ a. common_names a.stmt) above) (common_names s.stmt)

-- these names have dimensions in the statements, and these stand in COMMON
pub record HasDeclared (arrays commons : List (List ℕ)) (stmts : List Labelled) : Type 0 where
  pub arrays_are : arrays ≡ flat_map (λ s. dimensioned s.stmt) stmts
  pub commons_are : commons ≡ flat_map (λ s. common_names s.stmt) stmts

-- ---- members of EQUIVALENCE and items of DATA

-- as many subscripts as dimensions, each within its bounds
abbrev pub are_within : List Dim → List ℤ → Bool
are_within [] [] = true
are_within (dim ∷ dims) (sub ∷ subs) = int_le dim.lo sub && int_le sub dim.hi && are_within dims subs
are_within _ _ = false

-- a name alone, or one of its elements
abbrev pub is_member : List NameInfo → Member → Bool
is_member names member = (length member.subs == 0) || are_within (dims_of names (member_index names member)) member.subs

abbrev pub members_of : Stmt → List Member
members_of (Equivalence groups) = flat_map (λ group. group) groups
members_of (Init parts) = flat_map (λ part. part.items) parts
members_of _ = []

abbrev pub has_wrong_member : List NameInfo → Labelled → Bool
has_wrong_member names s = list_any (λ member. not (is_member names member)) (members_of s.stmt)

-- ---- places

abbrev pub is_equivalence : Stmt → Bool
is_equivalence (Equivalence groups) = true
is_equivalence _ = false

-- the places that all COMMON statements and these groups give
abbrev pub given_spots : List NameInfo → (whole : List Labelled) → List (List Member) → List Spot
given_spots names whole groups = spots_by (length names) (equations names (all_commons whole) groups)

-- they are right
abbrev pub gives_places : List NameInfo → (whole : List Labelled) → List (List Member) → Bool
gives_places names whole groups =
    are_right (length names) (given_spots names whole groups) (standings names (all_commons whole)) (equations names (all_commons whole) groups)

-- an EQUIVALENCE statement makes the places wrong: those that all COMMON statements and the EQUIVALENCE statements up to and with
-- this one give
abbrev pub has_wrong_places : List NameInfo → (whole above : List Labelled) → Labelled → Bool
has_wrong_places names whole above s = is_equivalence s.stmt && not (gives_places names whole (all_groups above ++ groups_of s.stmt))

-- ---- DATA, over the table of names with their places

abbrev pub is_data : Stmt → Bool
is_data (Init parts) = true
is_data _ = false

abbrev pub same_kind : Kind → Kind → Bool
same_kind Integer Integer = true
same_kind Logical Logical = true
same_kind _ _ = false

-- as many constants as words, each of the kind of its word
abbrev pub are_same_kinds : List Kind → List Kind → Bool
are_same_kinds [] [] = true
are_same_kinds (a ∷ more) (b ∷ others) = same_kind a b && are_same_kinds more others
are_same_kinds _ _ = false

-- the constants of the part aren't as many as its words, or one of them is of another kind than its word
abbrev pub has_other_kinds : List NameInfo → InitPart → Bool
has_other_kinds names part = not (are_same_kinds (part_kinds names part) (map lit_kind (constants part)))

-- where these words have a value already
abbrev pub is_wrong_part : List NameInfo → (given : List ℕ) → InitPart → Bool
is_wrong_part names given part = has_other_kinds names part || has_repeat (λ a b. a == b) given (part_words names part)

abbrev pub has_wrong_part : List NameInfo → (given : List ℕ) → List InitPart → Bool
has_wrong_part names given [] = false
has_wrong_part names given (part ∷ parts) = is_wrong_part names given part || has_wrong_part names (given ++ part_words names part) parts

abbrev pub has_wrong_data : List NameInfo → (above : List Labelled) → Labelled → Bool
has_wrong_data names above s = has_wrong_part names (flat_map (part_words names) (all_inits above)) (inits_of s.stmt)

-- ---- all of them

-- what a statement declares of storage contradicts itself or a statement above it
abbrev pub has_wrong_declaration : (names : List NameInfo) → (above : List Labelled) → Labelled → Bool
has_wrong_declaration names above s = has_dims_twice above s || has_wrong_dims s || is_common_twice above s || has_wrong_member names s

abbrev pub has_wrong_storage : (names placed : List NameInfo) → (whole above : List Labelled) → Labelled → Bool
has_wrong_storage names placed whole above s =
    has_wrong_declaration names above s || has_wrong_places names whole above s || has_wrong_data placed above s
