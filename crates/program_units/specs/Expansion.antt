-- The expansion: the main program with copies in place of its CALLs.
use Rattle.std.specs.Prelude.{ℕ, ◌+◌, ◌-◌, Bool, not, ◌&&◌, nat_lt, if◌then◌else◌, List, [], ◌∷◌, ◌++◌, map, flat_map, filter, fold, take, drop, length, sum_by, Option, Some, None, slice_get}
use Rattle.std.specs.List.{list_any, position_or_len, range_with_len}
use Rattle.f77_tree.specs.declared.declarations.Decl.{Decl}
use Rattle.f77_tree.specs.declared.declarations.Member.{Member}
use Rattle.f77_tree.specs.declared.declarations.InitPart.{InitPart}
use Rattle.f77_tree.specs.declared.statements.Labelled.{Labelled}
use Rattle.f77_tree.specs.declared.statements.Stmt.{Stmt}
use Rattle.f77_tree.specs.declared.statements.Stmt.TheVariants.{TypeOf, Common, Equivalence, Init}
use Rattle.f77_tree.specs.Places.{same_block}
use Rattle.layout_rules.specs.Declarations.{kind_of, dims_of, all_commons}
use Rattle.layout_rules.specs.Executables.{kind_or_integer}
use Rattle.layout_rules.specs.Layout.{last_line}
use Rattle.layout_rules.specs.Order.{rank}
use Rattle.program_units.specs.Units.{unit_at, runs}
use Rattle.program_units.specs.Entities.{Entity, Local, InBlock, entity_of, block_list}
use Rattle.program_units.specs.Names.{name_for, y_entities, has_block}
use Rattle.program_units.specs.Widths.{width, body_width, labels_before}
use Rattle.program_units.specs.Copies.{Context, bare, pieces, copy}

-- the blocks of a unit, part by part
abbrev pub blocks_in : List Labelled → List (Option (List ℕ))
blocks_in unit = map (λ part. part.block) (all_commons unit)

abbrev pub with_block : List (Option (List ℕ)) → Option (List ℕ) → List (Option (List ℕ))
with_block seen block = if list_any (same_block block) seen then seen else seen ++ block ∷ []

-- the blocks of the text, in order of first appearance
abbrev pub blocks : List (List Labelled) → List (Option (List ℕ))
blocks us = fold with_block [] (flat_map (λ u. map (λ part. part.block) (all_commons u)) us)

abbrev pub units_but_main : List (List Labelled) → List ℕ
units_but_main us = filter (runs us) (range_with_len 1 (length us - 1))

abbrev pub is_running : List (List Labelled) → Entity → Bool
is_running us (Local k name) = runs us k
is_running us (InBlock block place) = list_any (λ k. has_block (unit_at us k) block) (units_but_main us)

-- the unit that declares an entity: its own, or the first that has its block
abbrev pub declared_in : List (List Labelled) → Entity → List Labelled × List ℕ
declared_in us (Local k name) = (unit_at us k, name)
declared_in us (InBlock block place) = first_of (filter (λ u. has_block u block) us)
  where
    name_or : Option (List ℕ) → List ℕ
    name_or None = []
    name_or (Some name) = name

    first_of : List (List Labelled) → List Labelled × List ℕ
    first_of [] = ([], [])
    first_of (u ∷ us) = (u, name_or (slice_get (block_list u block) place))

abbrev pub type_decl : List (List Labelled) → Entity → Decl
type_decl us e = record { name = name_for us e; dims = dims_of (declared_in us e).0 (declared_in us e).1 }

abbrev pub type_of : List (List Labelled) → (line : ℕ) → Entity → Labelled
type_of us line e = bare 0 line (TypeOf (kind_or_integer (kind_of (declared_in us e).0 (declared_in us e).1)) (type_decl us e ∷ []))

abbrev pub block_size : List (List Labelled) → Option (List ℕ) → ℕ
block_size us block = sizes (filter (λ u. has_block u block) us)
  where
    sizes : List (List Labelled) → ℕ
    sizes [] = 0
    sizes (u ∷ us) = length (block_list u block)

abbrev pub common_decl : List (List Labelled) → Option (List ℕ) → (place : ℕ) → Decl
common_decl us block place = record { name = name_for us (InBlock block place); dims = [] }

-- declarators of the names of a block, as many as it has places
abbrev pub common_decls : List (List Labelled) → Option (List ℕ) → List Decl
common_decls us block = map (common_decl us block) (range_with_len 0 (block_size us block))

abbrev pub common_of : List (List Labelled) → (line : ℕ) → Option (List ℕ) → Labelled
common_of us line block = bare 0 line (Common (record { block = block; decls = common_decls us block } ∷ []))

abbrev pub member_for : List (List Labelled) → ℕ → Member → Member
member_for us k m = record m { name = name_for us (entity_of us k m.name) }

abbrev pub members_for : List (List Labelled) → ℕ → List Member → List Member
members_for us k members = map (member_for us k) members

abbrev pub init_for : List (List Labelled) → ℕ → InitPart → InitPart
init_for us k part = record part { items = members_for us k part.items }

abbrev pub equivalence_for : List (List Labelled) → ℕ → Labelled → List Labelled
equivalence_for us k s = of_stmt s.stmt
  where
    of_stmt : Stmt → List Labelled
    of_stmt (Equivalence groups) = bare 0 s.line (Equivalence (map (members_for us k) groups)) ∷ []
    of_stmt _ = []

abbrev pub data_for : List (List Labelled) → ℕ → Labelled → List Labelled
data_for us k s = of_stmt s.stmt
  where
    of_stmt : Stmt → List Labelled
    of_stmt (Init parts) = bare 0 s.line (Init (map (init_for us k) parts)) ∷ []
    of_stmt _ = []

abbrev pub merged : List (List Labelled) → List Labelled
merged us =
    map (type_of us (last_line (unit_at us 0))) (filter (is_running us) (y_entities us))
    ++ map (common_of us (last_line (unit_at us 0))) (filter (λ b. not (has_block (unit_at us 0) b) && list_any (λ k. has_block (unit_at us k) b) (units_but_main us)) (blocks us))
    ++ flat_map (λ k. flat_map (equivalence_for us k) (unit_at us k)) (units_but_main us)
    ++ flat_map (λ k. flat_map (data_for us k) (unit_at us k)) (units_but_main us)

-- ---- the list

-- how many statements of the main program stand before the first DATA or executable statement
abbrev pub declared_first : List Labelled → ℕ
declared_first u = position_or_len (λ s. nat_lt 2 (rank s.stmt)) u

abbrev pub main_context : List (List Labelled) → Context
main_context us = record { depth = length us; unit = 0; arguments = []; base = 0 }

abbrev pub main_pieces : List (List Labelled) → (before : ℕ) → List Labelled → List Labelled
main_pieces us before stmts = pieces (copy us (length us)) us (main_context us) before stmts

-- the main program with copies in place of its CALLs, and after its declarations what is merged
abbrev pub whole_list : List (List Labelled) → List Labelled
whole_list us =
    main_pieces us 0 (take (declared_first (unit_at us 0)) (unit_at us 0))
    ++ merged us
    ++ main_pieces us (labels_before us (length us) 0 (declared_first (unit_at us 0))) (drop (declared_first (unit_at us 0)) (unit_at us 0))

-- how many statements it has, known before it is made
abbrev pub total_width : List (List Labelled) → ℕ
total_width us = sum_by (width (body_width us (length us)) us 0) (unit_at us 0) + length (merged us)
