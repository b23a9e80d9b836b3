-- Trees of declarations: their numbers, and how many parts each of their lists has.
use Rattle.std.specs.Prelude.{◌<◌, ◌≤◌, List, length, All}
use Rattle.f77_tree.specs.declared.declarations.Dim.{Dim}
use Rattle.f77_tree.specs.declared.declarations.Decl.{Decl}
use Rattle.f77_tree.specs.declared.declarations.CommonPart.{CommonPart}
use Rattle.f77_tree.specs.declared.declarations.InitPart.{InitPart}
use Rattle.f77_tree.specs.declared.declarations.Member.{Member}
use Rattle.f77_tree.specs.declared.statements.Stmt.{Stmt}
use Rattle.f77_tree.specs.Declarations.{CanBeWritten, IsBlock}
use Rattle.f77_tree.specs.InitialWords.{IsInitValue}
use Rattle.layout_rules.specs.Declarations.{declarators, parts_of, groups_of, inits_of}

-- bounds that a source can write, of at most seven dimensions
pub record IsReadDims (dims : List Dim) : Type 0 where
  pub lower : All (λ dim. CanBeWritten dim.lo) dims
  pub upper : All (λ dim. CanBeWritten dim.hi) dims
  pub few : length dims ≤ 7

abbrev pub IsReadDecl : Decl → Type 0
IsReadDecl decl = IsReadDims decl.dims

-- a part of COMMON has names
pub record IsReadPart (part : CommonPart) : Type 0 where
  pub block_name : IsBlock part.block
  pub some : 0 < length part.decls

-- a group has two members
abbrev pub IsReadGroup : List Member → Type 0
IsReadGroup group = 2 ≤ length group

-- a part of DATA has items and constants
pub record IsReadInit (part : InitPart) : Type 0 where
  pub some_items : 0 < length part.items
  pub some_values : 0 < length part.values
  pub written : All IsInitValue part.values

-- what a statement declares
pub record IsReadDeclaration (stmt : Stmt) : Type 0 where
  pub decls : All IsReadDecl (declarators stmt)
  pub parts : All IsReadPart (parts_of stmt)
  pub groups : All IsReadGroup (groups_of stmt)
  pub inits : All IsReadInit (inits_of stmt)
