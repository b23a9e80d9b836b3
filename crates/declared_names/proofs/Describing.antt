-- What was kept of the declarations of some statements is what they say of each name, and names are noted each once.
use Rattle.std.proofs.Common.{◌≡◌, ℕ, zero, suc, ◌+◌, ◌<◌, not, List, [], ◌∷◌, ◌++◌, length, map, fold, Option, Some, true, false, Ok, Err, refl, sym, ap, ◌∙◌, arith}
use Rattle.std.specs.Prelude.{bytes_eq, slice_get, cond, if◌then◌else◌, Result, IfSome, OnOk}
use Rattle.std.specs.List.{list_any, position_or_len}
use Rattle.std.proofs.lemmas.List.{map-append}
use mathlib.Core.Path.{fun_ext}
use Rattle.f77_tree.specs.declared.declarations.Dim.{Dim}
use Rattle.f77_tree.specs.declared.declarations.Kind.{Kind}
use Rattle.f77_tree.specs.declared.programs.NameInfo.{NameInfo}
use Rattle.f77_tree.specs.declared.statements.Labelled.{Labelled}
use Rattle.f77_tree.specs.Declarations.{index_of}
use Rattle.declared_names.specs.declared.appearances.Appeared.{Appeared}
use Rattle.declared_names.specs.declared.declarations.Declarations.{Declarations}
use Rattle.layout_rules.proofs.FlatParts.{list_any-map}
use Rattle.layout_rules.specs.Appearances.{with_name}
use Rattle.layout_rules.specs.Declarations.{kind_of}
use Rattle.declared_names.specs.Described.{described}
use Rattle.declared_names.specs.KeptDeclarations.{Tells, described_by, dims_by}
use Rattle.declared_names.specs.Noting.{info_by, noted, with_info}
use Rattle.declared_names.proofs.Appearing.{kind_same, dims_same}
use Rattle.symbol_table.proofs.NameEntries.{bytes_eq-sym}

pub described-same : (declared : Declarations) (stmts : List Labelled) → Tells declared stmts → described_by declared ≡ described stmts
described-same declared stmts tells =
    ap (λ (kind : List ℕ → Option Kind). record { kind = kind; dims = dims_by declared }) (fun_ext (kind_same declared stmts tells))
    ∙ ap (λ (dims : List ℕ → List Dim). record { kind = kind_of stmts; dims = dims }) (fun_ext (dims_same declared stmts tells))

-- ---- the names of a table

abbrev pub names_in_table : List NameInfo → List (List ℕ)
names_in_table names = map (λ info. info.name) names

with_info-names : (info : NameInfo) (names : List NameInfo) → names_in_table (with_info info names) ≡ with_name (names_in_table names) info.name
with_info-names info names =
    elim (list_any (λ old. bytes_eq info.name old.name) names) as (λ met. names_in_table (if met then names else names ++ info ∷ []) ≡ (if met then names_in_table names else names_in_table names ++ info.name ∷ [])) [ true ↦ refl | false ↦ map-append (λ (i : NameInfo). i.name) names (info ∷ []) ]
    ∙ ap (λ met. if met then names_in_table names else names_in_table names ++ info.name ∷ []) (sym (list_any-map (bytes_eq info.name) (λ (i : NameInfo). i.name) names))

-- names that are noted one by one are noted each once
pub noted-names : (declared : Declarations) (state : Appeared) (names : List (List ℕ)) → names_in_table (fold (noted declared) state names).names ≡ fold with_name (names_in_table state.names) names
noted-names declared state [] = refl
noted-names declared state (name ∷ names) =
    noted-names declared (noted declared state name) names
    ∙ ap (λ seen. fold with_name seen names) (with_info-names (info_by declared name) state.names)

pub index-names : (names : List NameInfo) (name : List ℕ) → index_of names name ≡ position_or_len (bytes_eq name) (names_in_table names)
index-names [] name = refl
index-names (info ∷ names) name =
    ap (λ same. cond (not same) (1 + index_of names name) 0) (bytes_eq-sym info.name name) ∙ ap (λ k. cond (not (bytes_eq name info.name)) (1 + k) 0) (index-names names name)

pub name-at : (names : List NameInfo) (k : ℕ) (name : List ℕ) → k < length (names_in_table names) → IfSome (slice_get names k) (λ info. info.name ≡ name) → slice_get (names_in_table names) k ≡ Some name
name-at [] k name lt is = absurd (omega (arith, lt))
name-at (info ∷ names) zero name lt is = ap Some is
name-at (info ∷ names) (suc k) name lt is = name-at names k name (omega (arith, lt)) is

-- ---- names that were noted

pub on_ok : {A E P Q : Type 0} (result : Result A E) → (P → Q) → OnOk result P → OnOk result Q
on_ok (Ok x) step = step
on_ok (Err e) step = λ h. h

pub noted-view : (declared : Declarations) (now before : Appeared) (names seen : List (List ℕ)) → names_in_table before.names ≡ seen → now ≡ fold (noted declared) before names → names_in_table now.names ≡ fold with_name seen names
noted-view declared now before names seen is e =
    ap (λ (state : Appeared). names_in_table state.names) e ∙ noted-names declared before names ∙ ap (λ (old : List (List ℕ)). fold with_name old names) is
