-- The table of a frame and that of the program are changed into one another as the names of a copy are.
use Rattle.std.proofs.Common.{◌≡◌, ℕ, ◌==◌, Bool, true, false, not, List, length, Option, Some, None, if◌then◌else◌, refl, sym, ap, ◌∙◌}
use Rattle.std.specs.Prelude.{nat_lt}
use Rattle.std.specs.List.{list_any}
use Rattle.std.proofs.lemmas.Bool.{eqb-true}
use Rattle.f77_tree.specs.declared.declarations.Dim.{Dim}
use Rattle.f77_tree.specs.declared.programs.NameInfo.{NameInfo}
use Rattle.f77_tree.specs.declared.statements.Labelled.{Labelled}
use Rattle.f77_tree.specs.OtherPlaces.{DifferInPlaces}
use Rattle.layout_rules.proofs.NameTable.{arrays_in_table}
use Rattle.layout_rules.specs.Declarations.{dims_of, is_array}
use Rattle.layout_rules.specs.Layout.{names_of}
use Rattle.layout_rules.specs.Types.{is_array_in, is_intrinsic}
use Rattle.copied_values.proofs.SameTrees.{same-array}
use Rattle.copied_values.specs.ChangedTables.{AreChangedTables}
use Rattle.unit_laws.proofs.OwnNames.{own-name}
use Rattle.program_units.specs.Copies.{change_in}
use Rattle.program_units.specs.declared.entity.Entity.{Entity}
use Rattle.program_units.specs.Entities.{stands_for}
use Rattle.program_units.specs.Expansion.{whole_list}
use Rattle.program_units.specs.Names.{name_for, same_entity, y_entities, y_or}
use Rattle.program_units.specs.Units.{standing_in, unit_at}
use Rattle.called_runs.proofs.StandingNames.{arrays-same}

-- no function has the name of an entity
no-function : (o : Option ℕ) → is_intrinsic (y_or o) ≡ false
no-function None = refl
no-function (Some n) = refl

module _ (us : List (List Labelled)) (names others : List NameInfo) (k : ℕ) (arguments : List Entity) (depth base : ℕ)
    (same : (x : List ℕ) → dims_of (standing_in (unit_at us k)) x ≡ dims_of (unit_at us k) x)
    (frame : DifferInPlaces (names_of (standing_in (unit_at us k))) names)
    (program : DifferInPlaces (names_of (whole_list us)) others)
    (main_dims : (x : List ℕ) → ((e : Entity) → list_any (same_entity e) (y_entities us) ≡ true → name_for us e ≡ x → ⊥) → dims_of (whole_list us) x ≡ dims_of (unit_at us 0) x) where
  arrays : (x : List ℕ) → is_array (unit_at us k) x ≡ is_array_in names x
  arrays x =
      ap (λ (test : List ℕ → Bool). test x) (sym (arrays-same (unit_at us k) same))
      ∙ sym (arrays_in_table (standing_in (unit_at us k)) x)
      ∙ sym (same-array (names_of (standing_in (unit_at us k))) names frame x)

  first : not (k == 0) ≡ false → (k == 0) ≡ true
  first is = by (k == 0) is
    where
      by : (b : Bool) → not b ≡ false → b ≡ true
      by true e = refl
      by false e = let f : true ≡ false = e in absurd cc

  no-entity : (x : List ℕ) → is_intrinsic x ≡ true → (e : Entity) → list_any (same_entity e) (y_entities us) ≡ true → name_for us e ≡ x → ⊥
  no-entity x function e listed is =
      let other : is_intrinsic x ≡ false = ap is_intrinsic (sym is ∙ own-name us e listed) ∙ no-function _ in
      let both : true ≡ false = sym function ∙ other in
      absurd cc

  pub changed-tables : AreChangedTables names others (change_in us depth k base arguments)
  changed-tables = record {
    arrays = arrays;
    kept = λ copied x. ap (λ (b : Bool). if b then x else name_for us (stands_for us k arguments x)) (first copied);
    functions = λ copied x function none.
        same-array (names_of (whole_list us)) others program x
        ∙ arrays_in_table (whole_list us) x
        ∙ ap (λ (dims : List Dim). nat_lt 0 (length dims)) (main_dims x (no-entity x function))
        ∙ ap (λ (j : ℕ). is_array (unit_at us j) x) (sym (eqb-true k 0 (first copied)))
        ∙ arrays x ∙ none;
  }
