-- Places of names in storage: COMMON and EQUIVALENCE are equations between places, names that equations link share a
-- storage, and the words are numbered storage by storage (ANSI X3.9-1978, sections 8.2 and 8.3).
use Rattle.std.specs.Prelude.{◌≡◌, ℕ, ◌<◌, ◌≤◌, ◌⊎◌, ℤ, pos, ◌+ℤ◌, ◌-ℤ◌, ◌≤ℤ◌, ◌<ℤ◌, Bool, true, false, List, [], ◌∷◌, ◌++◌, map, length, Contains, flat_map, filter, Option, Some, None, slice_get, bytes_eq}
use Rattle.f77_tree.specs.declared.declarations.CommonPart.{CommonPart}
use Rattle.f77_tree.specs.declared.declarations.Member.{Member}
use Rattle.f77_tree.specs.declared.programs.NameInfo.{NameInfo}
use Rattle.f77_tree.specs.Value.{place_of, dims_of, size_of}
use Rattle.f77_tree.specs.Declarations.{part_names, member_index, member_offset}

-- ---- equations

-- the first word of the name `to` lies so far after the first word of the name `from`
pub record Equation : Type 0 where
  pub from : ℕ
  pub to : ℕ
  pub distance : ℤ

-- whether two COMMON blocks are the same; an unnamed one is blank common
abbrev pub same_block : Option (List ℕ) → Option (List ℕ) → Bool
same_block None None = true
same_block (Some a) (Some b) = bytes_eq a b
same_block _ _ = false

-- the names of a block, over all parts of it, in order
abbrev pub block_names : List NameInfo → List CommonPart → Option (List ℕ) → List ℕ
block_names names commons block = flat_map (part_names names) (filter (λ part. same_block part.block block) commons)

-- each name of a block begins where the one before it ends
abbrev pub neighbours : List NameInfo → List ℕ → List Equation
neighbours names [] = []
neighbours names (x ∷ []) = []
neighbours names (x ∷ y ∷ rest) = record { from = x; to = y; distance = size_of (dims_of names x) } ∷ neighbours names (y ∷ rest)

-- the neighbours in all blocks
abbrev pub common_equations : List NameInfo → List CommonPart → List Equation
common_equations names commons = flat_map (λ part. neighbours names (block_names names commons part.block)) commons

-- two elements are at one place
abbrev pub equated : List NameInfo → Member → Member → Equation
equated names a b = record { from = member_index names a; to = member_index names b; distance = member_offset names a -ℤ member_offset names b }

-- all members of a group are at one place
abbrev pub group_equations : List NameInfo → List Member → List Equation
group_equations names [] = []
group_equations names (first ∷ rest) = map (equated names first) rest

abbrev pub equations : List NameInfo → List CommonPart → List (List Member) → List Equation
equations names commons groups = common_equations names commons ++ flat_map (group_equations names) groups

-- ---- storages

-- a list of equations leads from one name to the other: they share a storage
pub data Linked (all : List Equation) : ℕ → ℕ → Type 0 where
  itself : {x : ℕ} → Linked all x x
  along : {z : ℕ} (e : Equation) → Contains all e → Linked all e.to z → Linked all e.from z
  against : {z : ℕ} (e : Equation) → Contains all e → Linked all e.from z → Linked all e.to z

-- some name of x's storage stands in the table before all names of y's storage
pub record IsEarlier (all : List Equation) (x y : ℕ) : Type 0 where
  pub witness : ℕ
  pub linked : Linked all witness x
  pub before : (z : ℕ) → Linked all z y → witness < z

-- ---- places

-- where the words of a name end: the number of the word after its last one
abbrev pub end_of : List NameInfo → ℕ → ℤ
end_of names x = pos (place_of names x) +ℤ size_of (dims_of names x)

-- the word is one of the words of the name x
pub record IsWordOf (names : List NameInfo) (x word : ℕ) : Type 0 where
  pub known : x < length names
  pub begins : place_of names x ≤ word
  pub ends : pos word <ℤ end_of names x

-- x is the first name of a COMMON block
pub record IsFirstOfBlock (names : List NameInfo) (commons : List CommonPart) (x : ℕ) : Type 0 where
  pub block : Option (List ℕ)
  pub first : slice_get (block_names names commons block) 0 ≡ Some x

-- y has the lowest place in its storage
abbrev pub IsLowest : List NameInfo → List Equation → ℕ → Type 0
IsLowest names all y = (z : ℕ) → z < length names → Linked all z y → place_of names y ≤ place_of names z

-- the words of some name of an earlier storage end where y begins
pub record BeginsAfter (names : List NameInfo) (all : List Equation) (y : ℕ) : Type 0 where
  pub name : ℕ
  pub known : name < length names
  pub earlier : IsEarlier all name y
  pub meets : end_of names name ≡ pos (place_of names y)

-- the words of some name end at this number
pub record EndsAt (names : List NameInfo) (words : ℕ) : Type 0 where
  pub name : ℕ
  pub known : name < length names
  pub meets : end_of names name ≡ pos words

-- the places of a program: the equations hold, no two blocks of COMMON share a storage, and none gets a word before its
-- first; the words are numbered from 0 through the storages, in the order in which their first names stand in the table
pub record ArePlaces (names : List NameInfo) (commons : List CommonPart) (all : List Equation) (words : ℕ) : Type 0 where
  pub equal : (e : Equation) → Contains all e → pos (place_of names e.to) ≡ pos (place_of names e.from) +ℤ e.distance
  pub blocks : (a b : Option (List ℕ)) (x y : ℕ) → Contains (block_names names commons a) x → Contains (block_names names commons b) y → Linked all x y → a ≡ b
  pub extended : (x y : ℕ) → IsFirstOfBlock names commons x → Linked all x y → place_of names x ≤ place_of names y
  -- each word of a name has a number below `words`
  pub within : (x : ℕ) → x < length names → end_of names x ≤ℤ pos words
  -- an earlier storage lies before a later one
  pub ordered : (x y : ℕ) → x < length names → y < length names → IsEarlier all x y → end_of names x ≤ℤ pos (place_of names y)
  -- a storage begins with the word 0, or where an earlier one ends
  pub begins : (y : ℕ) → y < length names → IsLowest names all y → (place_of names y ≡ 0) ⊎ BeginsAfter names all y
  -- the last storage ends with the last word
  pub ends : (words ≡ 0) ⊎ EndsAt names words
