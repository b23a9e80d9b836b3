-- The names of COMMON, one by one: which of them are known, and which begin a block.
use Rattle.std.specs.Prelude.{ℕ, ◌<◌, List, [], ◌∷◌, ◌++◌, length, All, if◌then◌else◌, Option}
use Rattle.std.specs.List.{list_any}
use Rattle.f77_tree.specs.declared.declarations.CommonPart.{CommonPart}
use Rattle.f77_tree.specs.declared.declarations.Decl.{Decl}
use Rattle.f77_tree.specs.declared.declarations.Member.{Member}
use Rattle.f77_tree.specs.declared.programs.NameInfo.{NameInfo}
use Rattle.f77_tree.specs.declared.statements.Labelled.{Labelled}
use Rattle.f77_tree.specs.Declarations.{index_of, member_index}
use Rattle.f77_tree.specs.Places.{same_block}
use Rattle.layout_rules.specs.Declarations.{parts_of, groups_of}
use Rattle.layout_rules.specs.Storage.{Standing, standings}

-- ---- names that are known

abbrev pub AreDeclsKnown : List NameInfo → List Decl → Type 0
AreDeclsKnown names decls = All (λ decl. index_of names decl.name < length names) decls

abbrev pub ArePartsKnown : List NameInfo → List CommonPart → Type 0
ArePartsKnown names parts = All (λ part. AreDeclsKnown names part.decls) parts

abbrev pub AreGroupsKnown : List NameInfo → List (List Member) → Type 0
AreGroupsKnown names groups = All (All (λ member. member_index names member < length names)) groups

-- the names of COMMON and EQUIVALENCE are in the table
abbrev pub AreKnown : List NameInfo → List Labelled → Type 0
AreKnown names stmts = All (λ s. ArePartsKnown names (parts_of s.stmt) × AreGroupsKnown names (groups_of s.stmt)) stmts

-- ---- blocks

-- the first names of blocks, where some names stand before
abbrev pub firsts_after : (seen standings : List Standing) → List ℕ
firsts_after seen [] = []
firsts_after seen (s ∷ rest) = (if list_any (λ a. same_block a.block s.block) seen then [] else s.name ∷ []) ++ firsts_after (seen ++ s ∷ []) rest

abbrev pub firsts_of : List Standing → List ℕ
firsts_of standings = firsts_after [] standings

abbrev pub standing_of : List NameInfo → Option (List ℕ) → Decl → Standing
standing_of names block decl = record { block = block; name = index_of names decl.name }
