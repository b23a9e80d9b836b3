-- Where the words of locals and blocks lie, and what they begin with.
use Rattle.std.specs.Prelude.{◌≡◌, ℕ, suc, ◌≤◌, ◌<◌, ℤ, pos, ◌+ℤ◌, ◌<ℤ◌, ◌≤ℤ◌, Bool, true, List, [], ◌∷◌, length, Contains, Option, Some, slice_get}
use Rattle.f77_tree.specs.declared.declarations.Member.{Member}
use Rattle.f77_tree.specs.declared.programs.NameInfo.{NameInfo}
use Rattle.f77_tree.specs.declared.statements.Labelled.{Labelled}
use Rattle.f77_tree.specs.Declarations.{offset_of}
use Rattle.f77_tree.specs.InitialWords.{lit_word, given}
use Rattle.f77_tree.specs.Value.{size_of}
use Rattle.layout_rules.specs.Declarations.{dims_of, all_groups, all_inits}
use Rattle.program_units.specs.Units.{unit_at, runs}
use Rattle.program_units.specs.Layouts.{own_program}
use Rattle.program_units.specs.Entities.{Entity, InBlock, entity_of, stands_for}
use Rattle.program_units.specs.Names.{own_names}
use Rattle.program_units.specs.Expansion.{declared_in}

-- the words of an entity
abbrev pub size_in : List (List Labelled) → Entity → ℤ
size_in us e = size_of (dims_of (declared_in us e).0 (declared_in us e).1)

-- one entity begins so far behind another
pub record Distance : Type 0 where
  pub from : Entity
  pub to : Entity
  pub by : ℤ

abbrev pub offset_in : List (List Labelled) → ℕ → Member → ℤ
offset_in us k m = offset_of (dims_of (unit_at us k) m.name) m.subs

-- what the declarations of units that can run say of distances
pub data Declares (us : List (List Labelled)) : Distance → Type 0 where
  neighbours : (k i : ℕ) (block : Option (List ℕ)) (x : List ℕ) → runs us k ≡ true → entity_of us k x ≡ InBlock block (suc i) → Declares us (record { from = InBlock block i; to = InBlock block (suc i); by = size_in us (InBlock block i) })
  tied : (k i : ℕ) (group : List Member) (first m : Member) (d : ℤ) → runs us k ≡ true → Contains (all_groups (unit_at us k)) group → slice_get group 0 ≡ Some first → slice_get group i ≡ Some m → (d +ℤ offset_in us k m) ≡ offset_in us k first → Declares us (record { from = entity_of us k first.name; to = entity_of us k m.name; by = d })

pub data Linked (us : List (List Labelled)) : Entity → Entity → Type 0 where
  itself : {e : Entity} → Linked us e e
  along : {e : Entity} (d : Distance) → Declares us d → Linked us d.to e → Linked us d.from e
  against : {e : Entity} (d : Distance) → Declares us d → Linked us d.from e → Linked us d.to e

pub record IsWordOf (us : List (List Labelled)) (spot : Entity → ℕ) (e : Entity) (word : ℕ) : Type 0 where
  pub begins : spot e ≤ word
  pub ends : pos word <ℤ (pos (spot e) +ℤ size_in us e)

-- an entity of a name that a unit that can run has
pub record IsOfRun (us : List (List Labelled)) (e : Entity) : Type 0 where
  pub unit : ℕ
  pub name : List ℕ
  pub appears : Contains (own_names us unit) name
  pub runs_it : runs us unit ≡ true
  pub is : entity_of us unit name ≡ e

-- the table of a unit's names, whose dummies stand for these
abbrev pub placed : List (List Labelled) → (spot : Entity → ℕ) → ℕ → List Entity → List NameInfo → List NameInfo
placed us spot k arguments [] = []
placed us spot k arguments (info ∷ rest) = record info { place = spot (stands_for us k arguments info.name) } ∷ placed us spot k arguments rest

pub record IsStorage (us : List (List Labelled)) (checked : Bool) (spot : Entity → ℕ) (words : ℕ) (opening : List ℤ) : Type 0 where
  pub distances : (d : Distance) → Declares us d → pos (spot d.to) ≡ (pos (spot d.from) +ℤ d.by)
  pub within : (e : Entity) → IsOfRun us e → (pos (spot e) +ℤ size_in us e) ≤ℤ pos words
  pub apart : (e f : Entity) (word : ℕ) → IsOfRun us e → IsOfRun us f → IsWordOf us spot e word → IsWordOf us spot f word → Linked us e f
  -- the numbers of words are words, or the subscripts of an element would be counted past the greatest one
  pub few : words ≤ 2147483647
  pub as_many : length opening ≡ words
  pub given_words : (k : ℕ) (pair : _) → runs us k ≡ true → Contains (given (placed us spot k [] (own_program (unit_at us k) checked).names) (all_inits (unit_at us k))) pair → slice_get opening pair.0 ≡ Some (lit_word pair.1)
  pub others : (word : ℕ) → word < words → ((k : ℕ) (pair : _) → runs us k ≡ true → Contains (given (placed us spot k [] (own_program (unit_at us k) checked).names) (all_inits (unit_at us k))) pair → pair.0 ≡ word → ⊥) → slice_get opening word ≡ Some (pos 0)
