-- Declarators that are merged.
use Rattle.std.proofs.Common.{◌≡◌, ℕ, suc, ◌+◌, List, [], ◌∷◌, ◌++◌, map, Option, sym, ap, ◌∙◌, arith}
use Rattle.std.specs.List.{range_with_len}
use Rattle.std.proofs.lemmas.List.{map-append}
use Rattle.f77_tree.specs.declared.declarations.Decl.{Decl}
use Rattle.f77_tree.specs.declared.declarations.Dim.{Dim}
use Rattle.f77_tree.specs.declared.statements.Labelled.{Labelled}
use Rattle.layout_rules.specs.Declarations.{dims_of, kind_of}
use Rattle.declared_names.specs.Described.{Described}
use Rattle.declared_names.specs.KeptDeclarations.{said_by}
use Rattle.entity_names.specs.declared.unit_entities.UnitNames.{UnitNames}
use Rattle.program_units.specs.declared.entity.Entity.{Entity}
use Rattle.program_units.specs.Expansion.{common_decl, declared_in, type_decl}
use Rattle.program_units.specs.Names.{name_for}
use Rattle.entity_names.specs.UnitEntities.{AreNamesOf}
use Rattle.program_units.specs.Units.{unit_at}
use Rattle.program_units.proofs.Counting.{range-push}

module _ (us : List (List Labelled)) where
  -- what a unit's declarations say of an entity that they declare
  pub kind-told : (k : ℕ) (name : List ℕ) (kept : UnitNames) (e : Entity) → AreNamesOf (unit_at us k) kept → (unit_at us k, name) ≡ declared_in us e → (said_by kept.declared).kind name ≡ kind_of (declared_in us e).0 (declared_in us e).1
  kind-told k name kept e are same = ap (λ (d : Described). d.kind name) are.declared ∙ ap (λ (p : List Labelled × List ℕ). kind_of p.0 p.1) same

  pub dims-told : (k : ℕ) (name : List ℕ) (kept : UnitNames) (e : Entity) → AreNamesOf (unit_at us k) kept → (unit_at us k, name) ≡ declared_in us e → (said_by kept.declared).dims name ≡ dims_of (declared_in us e).0 (declared_in us e).1
  dims-told k name kept e are same = ap (λ (d : Described). d.dims name) are.declared ∙ ap (λ (p : List Labelled × List ℕ). dims_of p.0 p.1) same

  pub decl-made : (e : Entity) (name : List ℕ) (dims : List Dim) (empty decls : List Decl) → name ≡ name_for us e → dims ≡ dims_of (declared_in us e).0 (declared_in us e).1 → empty ≡ [] → decls ≡ empty ++ record { name = name; dims = dims } ∷ [] → decls ≡ type_decl us e ∷ []
  decl-made e name dims empty decls named told none made =
      made
      ∙ ap (λ (ds : List Decl). ds ++ record { name = name; dims = dims } ∷ []) none
      ∙ ap (λ (x : List ℕ). record { name = x; dims = dims } ∷ []) named
      ∙ ap (λ (d : List Dim). record { name = name_for us e; dims = d } ∷ []) told

  pub commons-more : (block : Option (List ℕ)) (i : ℕ) (decl : Decl) (old new : List Decl) → old ≡ map (common_decl us block) (range_with_len 0 i) → decl ≡ common_decl us block i → new ≡ old ++ decl ∷ [] → new ≡ map (common_decl us block) (range_with_len 0 (i + 1))
  commons-more block i decl old new before is made =
      let f = common_decl us block in
      let next : i + 1 ≡ suc i = omega arith in
      let same : 0 + i ≡ i = omega arith in
      made
      ∙ ap (λ (d : Decl). old ++ d ∷ []) is
      ∙ ap (λ (ds : List Decl). ds ++ f i ∷ []) before
      ∙ sym (ap (λ (n : ℕ). map f (range_with_len 0 n)) next ∙ ap (map f) (range-push 0 i) ∙ map-append f (range_with_len 0 i) ((0 + i) ∷ []) ∙ ap (λ (m : ℕ). map f (range_with_len 0 i) ++ f m ∷ []) same)
