-- The names in COMMON, EQUIVALENCE and DATA stand in the table of names.
use Rattle.std.proofs.Common.{ℕ, ◌<◌, List, length, map, get_or, All}
use Rattle.std.specs.Prelude.{flat_map}
use Rattle.std.proofs.lemmas.List.Elements.{All-nil, All-weaker}
use Rattle.f77_tree.specs.declared.declarations.Decl.{Decl}
use Rattle.f77_tree.specs.declared.declarations.CommonPart.{CommonPart}
use Rattle.f77_tree.specs.declared.declarations.InitPart.{InitPart}
use Rattle.f77_tree.specs.declared.declarations.Member.{Member}
use Rattle.f77_tree.specs.declared.statements.Labelled.{Labelled}
use Rattle.f77_tree.specs.declared.statements.Stmt.{Stmt}
use Rattle.f77_tree.specs.declared.statements.Stmt.TheVariants.{Common, Equivalence, Init}
use Rattle.f77_tree.specs.Declarations.{index_of}
use Rattle.layout_rules.specs.Appearances.{appearing}
use Rattle.layout_rules.specs.Declarations.{is_array, parts_of, all_commons, groups_of, all_groups, inits_of, all_inits}
use Rattle.layout_rules.specs.Layout.{names_of}
use Rattle.layout_rules.proofs.FlatParts.{before_map, each_part}
use Rattle.layout_rules.proofs.NameTable.{appearing-known}
use Rattle.storage_laws.proofs.DeclaredForms.{All-flat_map}

-- ---- lists

-- what holds of the name of each item of each part
of_each_part : {S X A : Type 0} (P : A → Type 0) (items : S → List X) (name : X → A) (parts : List S) → All P (flat_map (λ part. map name (items part)) parts) → All (λ part. All (λ x. P (name x)) (items part)) parts
of_each_part P items name parts all k d lt = before_map P name (items (get_or parts k d)) (each_part P (λ part. map name (items part)) parts all k d lt)

-- ---- names that appear

module _ (whole : List Labelled) where
  abbrev Known : List ℕ → Type 0
  Known name = index_of (names_of whole) name < length (names_of whole)

  -- all names of the part
  abbrev pub PartKnown : CommonPart → Type 0
  PartKnown part = All (λ decl. Known decl.name) part.decls

  abbrev pub GroupKnown : List Member → Type 0
  GroupKnown group = All (λ member. Known member.name) group

  abbrev pub ItemsKnown : InitPart → Type 0
  ItemsKnown part = All (λ item. Known item.name) part.items

  in_parts : (stmt : Stmt) → All Known (appearing (is_array whole) stmt) → All PartKnown (parts_of stmt)
  in_parts (Common parts) all = of_each_part Known (λ (part : CommonPart). part.decls) (λ (decl : Decl). decl.name) parts all
  in_parts _ all = All-nil PartKnown

  in_groups : (stmt : Stmt) → All Known (appearing (is_array whole) stmt) → All GroupKnown (groups_of stmt)
  in_groups (Equivalence groups) all = of_each_part Known (λ (group : List Member). group) (λ (member : Member). member.name) groups all
  in_groups _ all = All-nil GroupKnown

  in_items : (stmt : Stmt) → All Known (appearing (is_array whole) stmt) → All ItemsKnown (inits_of stmt)
  in_items (Init parts) all = of_each_part Known (λ (part : InitPart). part.items) (λ (item : Member). item.name) parts all
  in_items _ all = All-nil ItemsKnown

  pub all_commons-known : All PartKnown (all_commons whole)
  all_commons-known = All-flat_map PartKnown (λ s. parts_of s.stmt) whole (All-weaker (λ (s : Labelled). All Known (appearing (is_array whole) s.stmt)) (λ s. All PartKnown (parts_of s.stmt)) (λ s. in_parts s.stmt) whole (appearing-known whole))

  pub all_groups-known : All GroupKnown (all_groups whole)
  all_groups-known = All-flat_map GroupKnown (λ s. groups_of s.stmt) whole (All-weaker (λ (s : Labelled). All Known (appearing (is_array whole) s.stmt)) (λ s. All GroupKnown (groups_of s.stmt)) (λ s. in_groups s.stmt) whole (appearing-known whole))

  pub all_inits-known : All ItemsKnown (all_inits whole)
  all_inits-known = All-flat_map ItemsKnown (λ s. inits_of s.stmt) whole (All-weaker (λ (s : Labelled). All Known (appearing (is_array whole) s.stmt)) (λ s. All ItemsKnown (inits_of s.stmt)) (λ s. in_items s.stmt) whole (appearing-known whole))
