-- What declarations say: the table of names, the dimensions of arrays, the names in COMMON, and the members of
-- EQUIVALENCE and DATA (ANSI X3.9-1978, sections 5, 8 and 9).
use Rattle.std.specs.Prelude.{◌≡◌, ℕ, ◌≤◌, ◌<◌, ◌⊎◌, ℤ, pos, ◌+ℤ◌, ◌-ℤ◌, ◌*ℤ◌, ◌≤ℤ◌, nat_abs, true, List, [], ◌∷◌, length, map, flat_map, All, Option, Some, None, slice_get, bytes_eq}
use Rattle.std.specs.List.{position_or_len}
use Rattle.f77_tree.specs.declared.declarations.Kind.TheVariants.{Integer}
use Rattle.f77_tree.specs.declared.declarations.Dim.{Dim}
use Rattle.f77_tree.specs.declared.declarations.Decl.{Decl}
use Rattle.f77_tree.specs.declared.declarations.CommonPart.{CommonPart}
use Rattle.f77_tree.specs.declared.declarations.Member.{Member}
use Rattle.f77_tree.specs.declared.programs.NameInfo.{NameInfo}
use Rattle.f77_tree.specs.Name.{is_name}
use Rattle.f77_tree.specs.Grammar.{greatest_constant}
use Rattle.f77_tree.specs.Value.{kind_of, dims_of, extent, size_of}

-- ---- dimensions

-- a number that a source can write: digits up to the greatest constant, and a sign
abbrev pub CanBeWritten : ℤ → Type 0
CanBeWritten z = nat_abs z ≤ greatest_constant

-- bounds that a source can write, the lower one not above the upper one
pub record IsDim (dim : Dim) : Type 0 where
  pub lower : CanBeWritten dim.lo
  pub upper : CanBeWritten dim.hi
  pub order : dim.lo ≤ℤ dim.hi

-- at most seven dimensions and at most 262,144 elements
pub record AreDims (dims : List Dim) : Type 0 where
  pub bounds : All IsDim dims
  pub dimensions : length dims ≤ 7
  pub elements : size_of dims ≤ℤ pos 262144

-- as many subscripts as dimensions, each within its bounds
abbrev pub AreWithin : List Dim → List ℤ → Type 0
AreWithin [] [] = Unit {0}
AreWithin (dim ∷ dims) (sub ∷ subs) = (dim.lo ≤ℤ sub) × (sub ≤ℤ dim.hi) × AreWithin dims subs
AreWithin _ _ = ⊥

-- how many elements stand before the one with these subscripts: the first subscript runs fastest
abbrev pub offset_of : List Dim → List ℤ → ℤ
offset_of (dim ∷ dims) (sub ∷ subs) = (sub -ℤ dim.lo) +ℤ extent dim *ℤ offset_of dims subs
offset_of _ _ = pos 0

-- ---- the table of names

-- a symbolic name with its dimensions, of which a scalar has none
pub record IsNameInfo (info : NameInfo) : Type 0 where
  pub symbolic : is_name info.name ≡ true
  pub dimensions : AreDims info.dims

-- no name stands twice
abbrev pub NamesDiffer : List NameInfo → Type 0
NamesDiffer names = (j k : ℕ) (a b : NameInfo) → slice_get names j ≡ Some a → slice_get names k ≡ Some b → a.name ≡ b.name → j ≡ k

-- the index of a name, or the length of the table where the name isn't in it
abbrev pub index_of : List NameInfo → List ℕ → ℕ
index_of names name = position_or_len (λ info. bytes_eq info.name name) names

-- an index of an integer scalar
pub record IsIntegerScalar (names : List NameInfo) (k : ℕ) : Type 0 where
  pub known : k < length names
  pub integer : kind_of names k ≡ Integer
  pub scalar : dims_of names k ≡ []

-- ---- members of EQUIVALENCE groups and items of DATA

-- the index of the name of a member
abbrev pub member_index : List NameInfo → Member → ℕ
member_index names member = index_of names member.name

-- how far the element lies after the first word of its name; a name alone is its first element
abbrev pub member_offset : List NameInfo → Member → ℤ
member_offset names member = offset_of (dims_of names (member_index names member)) member.subs

-- a name of the table, alone or as an element
pub record IsMember (names : List NameInfo) (member : Member) : Type 0 where
  pub known : member_index names member < length names
  pub element : (member.subs ≡ []) ⊎ AreWithin (dims_of names (member_index names member)) member.subs

-- an EQUIVALENCE group has two members or more
pub record IsGroup (names : List NameInfo) (group : List Member) : Type 0 where
  pub two : 2 ≤ length group
  pub members : All (IsMember names) group

-- ---- COMMON

-- the name of a block; blank common has none
abbrev pub IsBlock : Option (List ℕ) → Type 0
IsBlock None = Unit {0}
IsBlock (Some block) = is_name block ≡ true

-- a name of the table, without dimensions or with its own
pub record IsCommonName (names : List NameInfo) (decl : Decl) : Type 0 where
  pub known : index_of names decl.name < length names
  pub dimensions : (decl.dims ≡ []) ⊎ (decl.dims ≡ dims_of names (index_of names decl.name))

-- a block of COMMON and names in it
pub record IsCommonPart (names : List NameInfo) (part : CommonPart) : Type 0 where
  pub block_name : IsBlock part.block
  pub some : 0 < length part.decls
  pub names_known : All (IsCommonName names) part.decls

-- the names of a part, in order, by their indices
abbrev pub part_names : List NameInfo → CommonPart → List ℕ
part_names names part = map (λ decl. index_of names decl.name) part.decls

-- no name stands twice in COMMON
abbrev pub CommonOnce : List NameInfo → List CommonPart → Type 0
CommonOnce names commons = (j k x : ℕ) → slice_get (flat_map (part_names names) commons) j ≡ Some x → slice_get (flat_map (part_names names) commons) k ≡ Some x → j ≡ k
