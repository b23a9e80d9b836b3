-- Two tables of names with two stores, of which the second has the names of the first as a change makes them.
use Rattle.std.specs.Prelude.{◌≡◌, ℕ, ◌+◌, ◌<◌, ℤ, pos, ◌<ℤ◌, true, false, List, [], length, Contains, Result, Ok, Err}
use Rattle.op_table.specs.declared.Trap.{Trap}
use Rattle.f77_tree.specs.declared.programs.NameInfo.{NameInfo}
use Rattle.f77_tree.specs.declared.statements.RawExpr.{RawExpr}
use Rattle.f77_tree.specs.declared.statements.RawExpr.TheVariants.{Named, Call'}
use Rattle.f77_tree.specs.Declarations.{index_of}
use Rattle.f77_tree.specs.Value.{place_of, size_of, word_at}
use Rattle.layout_rules.specs.Types.{dims_named, kind_named, is_array_in, is_intrinsic}
use Rattle.program_units.specs.Copies.{Change}

-- a name of one table is known by this name in the other one: it has the same kind and dimensions there
pub record IsKnownAs (names others : List NameInfo) (x y : List ℕ) : Type 0 where
  pub known : index_of names x < length names
  pub there : index_of others y < length others
  pub kinds : kind_named others y ≡ kind_named names x
  pub dims : dims_named others y ≡ dims_named names x

-- the words of x over one store are those of y over the other
abbrev pub HoldTheSame : (names others : List NameInfo) → (a b : List ℤ) → (x y : List ℕ) → Type 0
HoldTheSame names others a b x y = (offset : ℕ) → pos offset <ℤ size_of (dims_named names x) → word_at a (place_of names (index_of names x) + offset) ≡ word_at b (place_of others (index_of others y) + offset)

-- Names are changed from one table to the other. Where calls of functions stay, names stay too, and the other table has no
-- array with the name of a function that the first one has no array for.
pub record AreChangedTables (names others : List NameInfo) (c : Change) : Type 0 where
  pub arrays : (x : List ℕ) → c.arrays x ≡ is_array_in names x
  pub kept : c.copied ≡ false → (x : List ℕ) → c.name x ≡ x
  pub functions : c.copied ≡ false → (x : List ℕ) → is_intrinsic x ≡ true → is_array_in names x ≡ false → is_array_in others x ≡ false

-- each of these names is known in the other table as the change says
abbrev pub AreKnown : (names others : List NameInfo) → Change → List (List ℕ) → Type 0
AreKnown names others c xs = (x : List ℕ) → Contains xs x → IsKnownAs names others x (c.name x)

-- and its words are the same in both stores
abbrev pub AreHeld : (names others : List NameInfo) → (a b : List ℤ) → Change → List (List ℕ) → Type 0
AreHeld names others a b c xs = (x : List ℕ) → Contains xs x → HoldTheSame names others a b x (c.name x)

-- the name of a variable or of an array's element
abbrev pub target_name : RawExpr → List ℕ
target_name (Named name) = name
target_name (Call' name shape args) = name
target_name _ = []

-- a word of x and a word of y, as far behind the first one
pub record IsSameElement (names others : List NameInfo) (x y : List ℕ) (v w : ℕ) : Type 0 where
  pub offset : ℕ
  pub inside : pos offset <ℤ size_of (dims_named names x)
  pub here : v ≡ place_of names (index_of names x) + offset
  pub there : w ≡ place_of others (index_of others y) + offset

-- such words, or one trap
abbrev pub AreSameElement : (names others : List NameInfo) → (x y : List ℕ) → Result ℕ Trap → Result ℕ Trap → Type 0
AreSameElement names others x y (Ok v) (Ok w) = IsSameElement names others x y v w
AreSameElement names others x y (Err trap) (Err other) = trap ≡ other
AreSameElement names others x y _ _ = ⊥
