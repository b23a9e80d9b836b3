-- Two placings of the words of one text: the words of an entity in one are its words in the other.
use Rattle.std.specs.Prelude.{◌≡◌, ℕ, ◌+◌, ◌<◌, pos, ◌+ℤ◌, ◌<ℤ◌, ◌≤ℤ◌, List, length, All}
use Rattle.f77_tree.specs.declared.programs.NameInfo.{NameInfo}
use Rattle.f77_tree.specs.declared.statements.Labelled.{Labelled}
use Rattle.f77_tree.specs.Declarations.{index_of}
use Rattle.f77_tree.specs.Value.{place_of, size_of}
use Rattle.layout_rules.specs.Types.{dims_named}
use Rattle.program_units.specs.Copies.{Change}
use Rattle.program_units.specs.declared.entity.Entity.{Entity}
use Rattle.program_units.specs.Entities.{stands_for}
use Rattle.program_units.specs.Names.{name_for}
use Rattle.program_units.specs.Storage.{Declares, Distance, IsOfRun, IsWordOf, Linked, size_in}

-- An entity of the run whose name is in the table of the program that the text comes to. (A name that stands as an argument
-- alone may be missing there.)
pub record IsShown (us : List (List Labelled)) (names : List NameInfo) (e : Entity) : Type 0 where
  pub of_run : IsOfRun us e
  pub known : index_of names (name_for us e) < length names

-- where the words of an entity begin in the program, by the name that it has there
abbrev pub listed_spot : List (List Labelled) → List NameInfo → Entity → ℕ
listed_spot us names e = place_of names (index_of names (name_for us e))

-- Entities begin at these words, and those that the table has share a word only where declarations link them.
pub record IsPlacing (us : List (List Labelled)) (names : List NameInfo) (spot : Entity → ℕ) : Type 0 where
  pub distances : (d : Distance) → Declares us d → pos (spot d.to) ≡ (pos (spot d.from) +ℤ d.by)
  pub apart : (e f : Entity) (word : ℕ) → IsShown us names e → IsShown us names f → IsWordOf us spot e word → IsWordOf us spot f word → Linked us e f

-- one word of an entity, in both
pub record IsPaired (us : List (List Labelled)) (names : List NameInfo) (spot other : Entity → ℕ) (v w : ℕ) : Type 0 where
  pub entity : Entity
  pub shown : IsShown us names entity
  pub offset : ℕ
  pub inside : pos offset <ℤ size_in us entity
  pub first : v ≡ spot entity + offset
  pub second : w ≡ other entity + offset

-- an entry of a unit's table, and the entity that its name stands for in a frame
pub record IsEntryOf (us : List (List Labelled)) (k : ℕ) (arguments : List Entity) (info : NameInfo) : Type 0 where
  pub bounds : All (λ dim. dim.lo ≤ℤ dim.hi) info.dims
  pub of_run : IsOfRun us (stands_for us k arguments info.name)
  pub size : size_of info.dims ≡ size_in us (stands_for us k arguments info.name)

-- a name in a unit's table, and its new name in another table, where its words begin with those of the entity
pub record IsPlacedAlike (us : List (List Labelled)) (other : Entity → ℕ) (k : ℕ) (arguments : List Entity) (names others : List NameInfo) (c : Change) (x : List ℕ) : Type 0 where
  pub known : index_of names x < length names
  pub shown : IsShown us others (stands_for us k arguments x)
  pub size : size_of (dims_named names x) ≡ size_in us (stands_for us k arguments x)
  pub place : place_of others (index_of others (c.name x)) ≡ other (stands_for us k arguments x)
