-- The names of a whole program, as they appear one by one.
use Rattle.std.proofs.Common.{◌≡◌, ℕ, Bool, true, false, not, ◌||◌, List, [], ◌∷◌, ◌++◌, length, map, fold, Option, refl, sym, ap, ◌∙◌, arith}
use Rattle.std.specs.Prelude.{bytes_eq, nat_lt, flat_map, slice_index, if◌then◌else◌}
use Rattle.std.specs.List.{list_any}
use Rattle.std.specs.Option.{is_some}
use Rattle.std.proofs.lemmas.List.{map-append}
use mathlib.Core.Path.{fun_ext}
use Rattle.f77_tree.specs.declared.declarations.Dim.{Dim}
use Rattle.f77_tree.specs.declared.declarations.Kind.{Kind}
use Rattle.f77_tree.specs.declared.programs.NameInfo.{NameInfo}
use Rattle.f77_tree.specs.declared.statements.Labelled.{Labelled}
use Rattle.declared_names.specs.declared.appearances.Appeared.{Appeared}
use Rattle.declared_names.specs.declared.declarations.Declarations.{Declarations}
use Rattle.layout_rules.specs.Appearances.{appearing, each_once, has_real_name, with_name}
use Rattle.layout_rules.specs.Declarations.{dims_of, dims_or_none, is_array, kind_of}
use Rattle.layout_rules.specs.Executables.{kind_or_integer}
use Rattle.declared_names.specs.KeptDeclarations.{Tells, dims_by, is_array_by, kind_by}
use Rattle.layout_rules.proofs.FlatParts.{list_any-map}
use Rattle.layout_rules.specs.Layout.{name_info, names_of}
use Rattle.declared_names.specs.Noting.{info_by, noted, with_info}

-- ---- what is kept of the declarations is what they say

module _ (declared : Declarations) (stmts : List Labelled) (tells : Tells declared stmts) where
  pub dims_same : (name : List ℕ) → dims_by declared name ≡ dims_of stmts name
  dims_same name = ap dims_or_none (tells.dims name)

  pub kind_same : (name : List ℕ) → kind_by declared name ≡ kind_of stmts name
  kind_same name =
      rw (tells.kinds name, tells.letters (slice_index name 0), tells.implicit_none) refl

  pub arrays_same : is_array_by declared ≡ is_array stmts
  arrays_same = fun_ext (λ name. ap (λ (dims : List Dim). nat_lt 0 (length dims)) (dims_same name))

  pub info_same : info_by declared ≡ name_info stmts
  info_same = fun_ext (λ name. ap (λ (kind : Option Kind). record { name = name; kind = kind_or_integer kind; dims = dims_by declared name; place = 0 }) (kind_same name)
      ∙ ap (λ (dims : List Dim). record { name = name; kind = kind_or_integer (kind_of stmts name); dims = dims; place = 0 }) (dims_same name))

-- ---- names that are noted one by one

module _ (declared : Declarations) where
  abbrev info : List ℕ → NameInfo
  info = info_by declared

  abbrev is_real : List ℕ → Bool
  is_real name = not (is_some (kind_by declared name))

  with_info-map : (seen : List (List ℕ)) (name : List ℕ) → with_info (info name) (map info seen) ≡ map info (with_name seen name)
  with_info-map seen name =
      ap (λ met. if met then map info seen else map info seen ++ info name ∷ []) (list_any-map (λ old. bytes_eq name old.name) info seen)
      ∙ elim (list_any (bytes_eq name) seen) as (λ met. (if met then map info seen else map info seen ++ info name ∷ []) ≡ map info (if met then seen else seen ++ name ∷ [])) [ true ↦ refl | false ↦ sym (map-append info seen (name ∷ [])) ]

  -- the table has each name once
  noted-table : (seen : List (List ℕ)) (state : Appeared) → state.names ≡ map info seen → (names : List (List ℕ)) → (fold (noted declared) state names).names ≡ map info (fold with_name seen names)
  noted-table seen state is [] = is
  noted-table seen state is (name ∷ names) = noted-table (with_name seen name) (noted declared state name) (ap (with_info (info name)) is ∙ with_info-map seen name) names

  noted-real : (state : Appeared) (names : List (List ℕ)) → (fold (noted declared) state names).has_real ≡ (state.has_real || list_any is_real names)
  noted-real state [] = grind arith
  noted-real state (name ∷ names) = noted-real (noted declared state name) names ∙ grind arith

module _ (declared : Declarations) (stmts : List Labelled) (tells : Tells declared stmts) where
  -- a statement has a real name where one of its names is real
  pub real-statement : (state : Appeared) (above : List Labelled) (s : Labelled) → state.has_real ≡ false → (fold (noted declared) state (appearing (is_array_by declared) s.stmt)).has_real ≡ has_real_name stmts above s
  real-statement state above s none =
      noted-real declared state (appearing (is_array_by declared) s.stmt)
      ∙ ap (λ b. b || list_any (is_real declared) (appearing (is_array_by declared) s.stmt)) none
      ∙ ap (λ (arrays : List ℕ → Bool). list_any (is_real declared) (appearing arrays s.stmt)) (arrays_same declared stmts tells)
      ∙ ap (λ (test : List ℕ → Bool). list_any test (appearing (is_array stmts) s.stmt)) (fun_ext (λ name. ap (λ (kind : Option Kind). not (is_some kind)) (kind_same declared stmts tells name)))

  -- the names of all statements are those of the program
  pub table-whole : (fold (noted declared) (record { names = []; has_real = false }) (flat_map (λ s. appearing (is_array_by declared) s.stmt) stmts)).names ≡ names_of stmts
  table-whole =
      noted-table declared [] (record { names = []; has_real = false }) refl (flat_map (λ s. appearing (is_array_by declared) s.stmt) stmts)
      ∙ ap (λ (arrays : List ℕ → Bool). map (info_by declared) (each_once (flat_map (λ s. appearing arrays s.stmt) stmts))) (arrays_same declared stmts tells)
      ∙ ap (λ (line : List ℕ → NameInfo). map line (each_once (flat_map (λ s. appearing (is_array stmts) s.stmt) stmts))) (info_same declared stmts tells)
