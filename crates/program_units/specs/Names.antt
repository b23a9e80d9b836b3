-- The names of the entities in the expansion.
use Rattle.std.specs.Prelude.{ℕ, ◌+◌, Bool, false, not, ◌&&◌, ◌==◌, nat_lt, if◌then◌else◌, List, [], ◌∷◌, ◌++◌, map, flat_map, filter, fold, length, take, Option, Some, None, bytes_eq, slice_get, codes}
use Rattle.std.specs.List.{list_any, position_or_len, range_with_len}
use Rattle.std.specs.Fmt.{decimal}
use Rattle.f77_tree.specs.declared.statements.Labelled.{Labelled}
use Rattle.f77_tree.specs.declared.statements.Stmt.{Stmt, more_of-Stmt}
use Rattle.f77_tree.specs.declared.statements.Stmt.TheVariants.{ThenIf', CallTo}
use Rattle.f77_tree.specs.Places.{same_block}
use Rattle.layout_rules.specs.Appearances.{appearing, names_in, each_once}
use Rattle.layout_rules.specs.Declarations.{is_array, all_commons}
use Rattle.program_units.specs.Units.{unit_at, dummies_of, sub_name}
use Rattle.program_units.specs.Entities.{Entity, Local, InBlock, entity_of, block_list}

-- names in a statement, those of CALL too
abbrev pub appearing_here : (arrays : List ℕ → Bool) → Stmt → List (List ℕ)
appearing_here arrays (CallTo name arguments) = arguments
appearing_here arrays (ThenIf' condition shape (more_of-Stmt stmt rest)) = names_in arrays condition ++ appearing_here arrays stmt
appearing_here arrays s = appearing arrays s

abbrev pub names_of_unit : List Labelled → List (List ℕ)
names_of_unit u = each_once (flat_map (λ s. appearing_here (is_array u) s.stmt) u)

abbrev pub has_block : List Labelled → Option (List ℕ) → Bool
has_block u block = list_any (λ part. same_block part.block block) (all_commons u)

-- an entity whose name is the main program's
abbrev pub is_main : List (List Labelled) → Entity → Bool
is_main us (Local k name) = k == 0
is_main us (InBlock block place) = has_block (unit_at us 0) block

abbrev pub same_entity : Entity → Entity → Bool
same_entity (Local j x) (Local k y) = (j == k) && bytes_eq x y
same_entity (InBlock a i) (InBlock b j) = same_block a b && (i == j)
same_entity _ _ = false

abbrev pub with_entity : List Entity → Entity → List Entity
with_entity seen e = if list_any (same_entity e) seen then seen else seen ++ e ∷ []

abbrev pub own_names : List (List Labelled) → ℕ → List (List ℕ)
own_names us k = filter (λ x. not (list_any (bytes_eq x) (dummies_of (unit_at us k)))) (names_of_unit (unit_at us k))

-- the entities that get names of their own, in the order of these
abbrev pub y_entities : List (List Labelled) → List Entity
y_entities us = fold with_entity [] (filter (λ e. not (is_main us e)) (flat_map (λ k. map (entity_of us k) (own_names us k)) (range_with_len 1 (length us))))

abbrev pub option_names : Option (List ℕ) → List (List ℕ)
option_names None = []
option_names (Some name) = name ∷ []

-- all names of the text
abbrev pub used_names : List (List Labelled) → List (List ℕ)
used_names us = flat_map (λ u. names_of_unit u ++ dummies_of u ++ flat_map (λ s. option_names (sub_name s.stmt)) u ++ flat_map (λ part. option_names part.block) (all_commons u)) us

abbrev pub zeros : ℕ → List ℕ
zeros n = if nat_lt n 10 then codes "0000" else if nat_lt n 100 then codes "000" else if nat_lt n 1000 then codes "00" else if nat_lt n 10000 then codes "0" else []

abbrev pub y_text : ℕ → List ℕ
y_text n = codes "Y" ++ zeros n ++ decimal n

-- the numbers of names that are free, as many as are asked for
abbrev pub free_numbers : List (List Labelled) → ℕ → List ℕ
free_numbers us count = filter (λ n. not (list_any (bytes_eq (y_text n)) (used_names us))) (range_with_len 1 (count + length (used_names us)))

-- the numbers of the names that entities get
abbrev pub own_numbers : List (List Labelled) → List ℕ
own_numbers us = take (length (y_entities us)) (free_numbers us (length (y_entities us)))

abbrev pub y_or : Option ℕ → List ℕ
y_or None = []
y_or (Some n) = y_text n

abbrev pub y_name : List (List Labelled) → Entity → List ℕ
y_name us e = y_or (slice_get (free_numbers us (length (y_entities us))) (position_or_len (same_entity e) (y_entities us)))

abbrev pub main_name : List (List Labelled) → Entity → List ℕ
main_name us (Local k name) = name
main_name us (InBlock block place) = name_or (slice_get (block_list (unit_at us 0) block) place)
  where
    name_or : Option (List ℕ) → List ℕ
    name_or None = []
    name_or (Some name) = name

abbrev pub name_for : List (List Labelled) → Entity → List ℕ
name_for us e = if is_main us e then main_name us e else y_name us e
