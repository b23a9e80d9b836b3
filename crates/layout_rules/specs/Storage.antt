-- Places in storage: COMMON and EQUIVALENCE link names to each other's places, linked names share a storage, and the words are
-- numbered through the storages (ANSI X3.9-1978, sections 5.2, 8.2 and 8.3). A size or a distance that no array without fault
-- has counts as 262,145 words; so each number here is that of `f77_tree` wherever the arrays are without fault.
use Rattle.std.specs.Prelude.{ℕ, ◌+◌, ◌*◌, min, ℤ, pos, ◌+ℤ◌, ◌-ℤ◌, int_le, int_lt, nat_abs, Bool, true, not, if◌then◌else◌, ◌&&◌, ◌||◌, nat_lt, ◌==◌, List, [], ◌∷◌, ◌++◌, length, map, flat_map, filter, fold, sum_by, Option, Some, None, slice_get}
use Rattle.std.specs.List.{list_any, list_all, range_with_len}
use Rattle.std.specs.Ordering.{int_eq}
use Rattle.std.specs.Int.{int_max, int_min}
use Rattle.f77_tree.specs.declared.declarations.Dim.{Dim}
use Rattle.f77_tree.specs.declared.declarations.CommonPart.{CommonPart}
use Rattle.f77_tree.specs.declared.declarations.Member.{Member}
use Rattle.f77_tree.specs.declared.programs.NameInfo.{NameInfo}
use Rattle.f77_tree.specs.Value.{dims_of}
use Rattle.f77_tree.specs.Declarations.{index_of, member_index}
use Rattle.f77_tree.specs.Places.{Equation, same_block}

-- ---- sizes

-- more words than any array without fault has
abbrev pub too_many : ℕ
too_many = 262145

-- a dimension with hi below lo has no subscript
abbrev pub extent : Dim → ℕ
extent dim = if int_lt dim.hi dim.lo then 0 else nat_abs (dim.hi -ℤ dim.lo +ℤ pos 1)

-- the number of elements
abbrev pub elements : List Dim → ℕ
elements [] = 1
elements (dim ∷ dims) = extent dim * elements dims

abbrev pub size_of : List Dim → ℕ
size_of dims = min too_many (elements dims)

-- how many subscripts of a dimension stand before this one
abbrev pub subscripts_before : Dim → ℤ → ℕ
subscripts_before dim sub = if int_lt sub dim.lo then 0 else nat_abs (sub -ℤ dim.lo)

-- How far an element lies after the first one: the first subscript runs fastest. Of subscripts outside the bounds nothing
-- depends: they are a fault of the statement where they stand.
abbrev pub distance_of : List Dim → List ℤ → ℕ
distance_of (dim ∷ dims) (sub ∷ subs) = min too_many (subscripts_before dim sub + extent dim * distance_of dims subs)
distance_of _ _ = 0

-- the words of the name with this index
abbrev pub size_at : List NameInfo → ℕ → ℕ
size_at names k = size_of (dims_of names k)

-- ---- equations of COMMON: each name of a block begins where the one before it ends

-- a name of a COMMON block, by its index
pub record Standing : Type 0 where
  pub block : Option (List ℕ)
  pub name : ℕ

abbrev pub standings_of : List NameInfo → CommonPart → List Standing
standings_of names part = map (λ decl. record { block = part.block; name = index_of names decl.name }) part.decls

-- where a name stands twice in COMMON, which is a fault, the first standing holds
abbrev pub with_standing : List Standing → Standing → List Standing
with_standing seen s = if list_any (λ a. a.name == s.name) seen then seen else seen ++ s ∷ []

-- all names of COMMON, in the order of the text
abbrev pub standings : List NameInfo → List CommonPart → List Standing
standings names commons = fold with_standing [] (flat_map (standings_of names) commons)

-- the name that stands last in the block
abbrev pub last_standing : Option (List ℕ) → List Standing → Option ℕ
last_standing block seen = fold (λ last s. if same_block s.block block then Some s.name else last) None seen

abbrev pub following : List NameInfo → Option ℕ → ℕ → List Equation
following names None name = []
following names (Some before) name = record { from = before; to = name; distance = pos (size_at names before) } ∷ []

abbrev pub standing_equations : List NameInfo → (seen standings : List Standing) → List Equation
standing_equations names seen [] = []
standing_equations names seen (s ∷ rest) = following names (last_standing s.block seen) s.name ++ standing_equations names (seen ++ s ∷ []) rest

abbrev pub common_equations : List NameInfo → List CommonPart → List Equation
common_equations names commons = standing_equations names [] (standings names commons)

-- ---- equations of EQUIVALENCE: all members of a group are at one place

-- how far the element lies after the first word of its name; a name alone is its first element
abbrev pub member_distance : List NameInfo → Member → ℤ
member_distance names member = pos (distance_of (dims_of names (member_index names member)) member.subs)

abbrev pub equated : List NameInfo → Member → Member → Equation
equated names a b = record { from = member_index names a; to = member_index names b; distance = member_distance names a -ℤ member_distance names b }

abbrev pub group_equations : List NameInfo → List Member → List Equation
group_equations names [] = []
group_equations names (first ∷ rest) = map (equated names first) rest

-- the equations of the COMMON statements and of these groups
abbrev pub equations : List NameInfo → List CommonPart → List (List Member) → List Equation
equations names commons groups = common_equations names commons ++ flat_map (group_equations names) groups

-- ---- places

-- A name's storage has the index of its lowest name, from whose first word the first word of the name lies so far.
pub record Spot : Type 0 where
  pub storage : ℕ
  pub distance : ℤ

abbrev pub spot_or_alone : ℕ → Option Spot → Spot
spot_or_alone k None = record { storage = k; distance = pos 0 }
spot_or_alone k (Some spot) = spot

abbrev pub spot_at : List Spot → ℕ → Spot
spot_at spots k = spot_or_alone k (slice_get spots k)

-- each name has a storage of its own
abbrev pub alone : ℕ → List Spot
alone count = map (λ k. record { storage = k; distance = pos 0 }) (range_with_len 0 count)

-- the names of the storage `from` move to the storage `to`
abbrev pub moved : (from to : ℕ) → (by : ℤ) → Spot → Spot
moved from to by spot = if spot.storage == from then record { storage = to; distance = spot.distance +ℤ by } else spot

-- two storages become one where an equation links them
abbrev pub united : (a b : Spot) → (distance : ℤ) → Spot → Spot
united a b distance spot =
    if nat_lt a.storage b.storage then moved b.storage a.storage (a.distance +ℤ distance -ℤ b.distance) spot
    else if nat_lt b.storage a.storage then moved a.storage b.storage (b.distance -ℤ distance -ℤ a.distance) spot
    else spot

abbrev pub linked : List Spot → Equation → List Spot
linked spots e = map (united (spot_at spots e.from) (spot_at spots e.to) e.distance) spots

-- the places that the equations give to so many names
abbrev pub spots_by : ℕ → List Equation → List Spot
spots_by count all = fold linked (alone count) all

-- ---- what makes places wrong

abbrev pub shares_storage : List Spot → ℕ → ℕ → Bool
shares_storage spots x y = (spot_at spots x).storage == (spot_at spots y).storage

-- the two names are so far from each other
abbrev pub is_kept : List Spot → Equation → Bool
is_kept spots e = shares_storage spots e.from e.to && int_eq (spot_at spots e.to).distance ((spot_at spots e.from).distance +ℤ e.distance)

-- two names of COMMON have storages of their own, or stand in one block
abbrev pub are_apart : List Spot → (a b : Standing) → Bool
are_apart spots a b = not (shares_storage spots a.name b.name) || same_block a.block b.block

-- two names of COMMON share a storage in one block alone
abbrev pub blocks_are_apart : List Spot → List Standing → Bool
blocks_are_apart spots standings = list_all (λ a. list_all (λ b. are_apart spots a b) standings) standings

-- a name of x's storage doesn't begin before it
abbrev pub begins_no_earlier : List Spot → (x y : ℕ) → Bool
begins_no_earlier spots x y = not (shares_storage spots x y) || int_le (spot_at spots x).distance (spot_at spots y).distance

-- no name of the storage begins before this one
abbrev pub none_before : ℕ → List Spot → ℕ → Bool
none_before count spots x = list_all (λ y. begins_no_earlier spots x y) (range_with_len 0 count)

-- no word comes before the first word of a block
abbrev pub blocks_begin : ℕ → List Spot → (seen standings : List Standing) → Bool
blocks_begin count spots seen [] = true
blocks_begin count spots seen (s ∷ rest) =
    (list_any (λ a. same_block a.block s.block) seen || none_before count spots s.name)
    && blocks_begin count spots (seen ++ s ∷ []) rest

-- the places are right: each equation holds, no two blocks share a storage, and no word comes before a block's first
abbrev pub are_right : ℕ → List Spot → List Standing → List Equation → Bool
are_right count spots standings all = list_all (is_kept spots) all && blocks_are_apart spots standings && blocks_begin count spots [] standings

-- ---- numbers of words

-- the least distance of a name of the storage; that of the lowest name is 0
abbrev pub low_of : List Spot → ℕ → ℤ
low_of spots storage = fold (λ low spot. if spot.storage == storage then int_min low spot.distance else low) (pos 0) spots

-- where the words of the name end
abbrev pub end_of : List NameInfo → List Spot → ℕ → ℤ
end_of names spots k = (spot_at spots k).distance +ℤ pos (size_at names k)

-- where the words of the storage end
abbrev pub high_of : List NameInfo → List Spot → ℕ → ℤ
high_of names spots storage =
    fold (λ high k. if (spot_at spots k).storage == storage then int_max high (end_of names spots k) else high) (pos 0)
    (range_with_len 0 (length spots))

-- the number of words of a storage
abbrev pub words_of : List NameInfo → List Spot → ℕ → ℕ
words_of names spots storage = nat_abs (high_of names spots storage -ℤ low_of spots storage)

-- the lowest name of a storage
abbrev pub is_storage : List Spot → ℕ → Bool
is_storage spots k = (spot_at spots k).storage == k

-- the words of the storages whose lowest names stand before this one
abbrev pub words_before : List NameInfo → List Spot → ℕ → ℕ
words_before names spots k = sum_by (words_of names spots) (filter (is_storage spots) (range_with_len 0 k))

-- the number of a name's first word
abbrev pub place_of : List NameInfo → List Spot → ℕ → ℕ
place_of names spots k =
    words_before names spots (spot_at spots k).storage
    + nat_abs ((spot_at spots k).distance -ℤ low_of spots (spot_at spots k).storage)

-- the number of all words
abbrev pub words_in_all : List NameInfo → List Spot → ℕ
words_in_all names spots = words_before names spots (length spots)
