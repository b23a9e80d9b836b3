-- The storages after some names of COMMON, and after some statements.
use Rattle.std.specs.Prelude.{◌≡◌, ℕ, ◌<◌, false, List, [], ◌++◌, length, Option, Some, None, bytes_eq, ◌==◌, get_or, fold, take, true, ◌+◌, slice_get}
use Rattle.std.specs.List.{list_any}
use Rattle.indexmap.specs.IndexMap.{get}
use Rattle.f77_tree.specs.declared.programs.NameInfo.{NameInfo}
use Rattle.f77_tree.specs.declared.statements.Labelled.{Labelled}
use Rattle.f77_tree.specs.Places.{Equation}
use Rattle.storage_association.specs.declared.storages.Storages.{Storages}
use Rattle.storage_association.specs.declared.equations.Blocks.{Blocks}
use Rattle.storage_association.specs.declared.equations.Commons.{Commons}
use Rattle.layout_rules.specs.Declarations.{all_commons, all_groups}
use Rattle.layout_rules.specs.Storage.{Standing, standings, equations, spots_by, with_standing, last_standing, standing_equations, common_equations}
use Rattle.storage_association.specs.Storages.{AreRight, AreStorages}
use Rattle.storage_association.specs.declared.equations.Placing.{Placing}
use Rattle.storage_association.specs.declared.equations.Placing.TheVariants.{Wrong, Right}
use Rattle.layout_rules.specs.StorageFaults.{is_equivalence, has_wrong_places}
use Rattle.layout_rules.specs.Standings.{firsts_of}
use Rattle.layout_rules.specs.Faults.{first_line}

-- the name that stands last in a block
abbrev pub last_in : Blocks → Option (List ℕ) → Option ℕ
last_in blocks None = blocks.blank
last_in blocks (Some block) = get bytes_eq blocks.named block

-- the storages after these names of COMMON
pub record AreCommons (names : List NameInfo) (standings : List Standing) (c : Commons) : Type 0 where
  pub held : AreStorages (length names) (firsts_of standings) (standing_equations names [] standings) c.storages
  pub each : length c.stood.items ≡ length names
  pub stood : (k : ℕ) → k < length names → get_or c.stood.items k false ≡ list_any (λ a. a.name == k) standings
  pub lasts : (block : Option (List ℕ)) → last_in c.blocks block ≡ last_standing block standings
  pub known : (block : Option (List ℕ)) (k : ℕ) → last_standing block standings ≡ Some k → k < length names

-- they are the storages after some names of COMMON
pub record AreSomeCommons (names : List NameInfo) (c : Commons) : Type 0 where
  pub standings : List Standing
  pub are : AreCommons names standings c

-- these names of COMMON came
abbrev pub Extends : List NameInfo → (old new : Commons) → List Standing → Type 0
Extends names old new came = (standings : List Standing) → AreCommons names standings old → AreCommons names (fold with_standing standings came) new

-- these equations came
abbrev pub Links : (count : ℕ) → (old new : Storages) → List Equation → Type 0
Links count old new came = (firsts : List ℕ) (all : List Equation) → AreStorages count firsts all old → AreStorages count firsts (all ++ came) new

-- the equations of all COMMON statements, and of the EQUIVALENCE statements among the first i statements
abbrev pub equations_to : List NameInfo → List Labelled → ℕ → List Equation
equations_to names stmts i = equations names (all_commons stmts) (all_groups (take i stmts))

-- the places are right that they give
abbrev pub AreRightTo : List NameInfo → List Labelled → ℕ → Type 0
AreRightTo names stmts i =
    AreRight (spots_by (length names) (equations_to names stmts i)) (firsts_of (standings names (all_commons stmts))) (equations_to names stmts i)

-- after each EQUIVALENCE statement among the first i statements the places are right
abbrev pub StayRight : List NameInfo → List Labelled → ℕ → Type 0
StayRight names stmts i = (j : ℕ) (s : Labelled) → j < i → slice_get stmts j ≡ Some s → is_equivalence s.stmt ≡ true → AreRightTo names stmts (j + 1)

-- this EQUIVALENCE statement makes the places wrong, and none above it does
pub record IsFirstWrong (names : List NameInfo) (stmts : List Labelled) (line : ℕ) : Type 0 where
  pub place : ℕ
  pub statement : Labelled
  pub stands : slice_get stmts place ≡ Some statement
  pub equates : is_equivalence statement.stmt ≡ true
  pub line_is : statement.line ≡ line
  pub wrong : AreRightTo names stmts (place + 1) → ⊥
  pub above : StayRight names stmts place

-- the storages of all names, where each EQUIVALENCE leaves the places right
pub record IsPlaced (names : List NameInfo) (stmts : List Labelled) (s : Storages) : Type 0 where
  pub storages : AreStorages (length names) (firsts_of (standings names (all_commons stmts)))
      (equations names (all_commons stmts) (all_groups stmts)) s
  pub none : first_line (has_wrong_places names stmts) stmts ≡ None

abbrev pub IsPlacing : List NameInfo → List Labelled → Placing → Type 0
IsPlacing names stmts (Wrong line) = first_line (has_wrong_places names stmts) stmts ≡ Some line
IsPlacing names stmts (Right s) = IsPlaced names stmts s

-- one more name stands in the blocks
abbrev pub AddsStanding : List NameInfo → Standing → (old new : Commons) → Type 0
AddsStanding names standing old new = (standings : List Standing) → AreCommons names standings old → AreCommons names (with_standing standings standing) new

-- the storages that the COMMON statements give
abbrev pub AreCommonStorages : List NameInfo → List Labelled → Storages → Type 0
AreCommonStorages names stmts s = AreStorages (length names) (firsts_of (standings names (all_commons stmts))) (common_equations names (all_commons stmts)) s
