-- The names of the arguments of a copy are symbolic, and so are the new names of its unit.
use Rattle.std.proofs.Common.{◌≡◌, ℕ, zero, suc, ◌<◌, ◌≤◌, ◌==◌, Bool, true, false, List, [], ◌∷◌, length, map, get_or, Contains, Option, Some, None, refl, sym, ap, subst, ◌∙◌, arith}
use Rattle.std.specs.Prelude.{bytes_eq}
use Rattle.std.specs.List.{list_all, list_any, position_or_len, slice_get}
use Rattle.std.proofs.lemmas.Bool.{and_parts, eqb-false, eqb-true}
use Rattle.std.proofs.lemmas.List.{length-map}
use Rattle.std.proofs.lemmas.List.Elements.{Contains-append_right}
use Rattle.std.proofs.lemmas.Option.{slice_get_within}
use Rattle.f77_tree.specs.Name.{is_name}
use Rattle.f77_tree.specs.declared.statements.Labelled.{Labelled}
use Rattle.layout_rules.specs.Declarations.{is_array}
use Rattle.layout_rules.specs.Faults.{first_line}
use Rattle.program_units.specs.declared.sub_end.SubEnd.TheVariants.{BadCall, UnitOrder}
use Rattle.program_units.specs.declared.entity.Entity.{Entity}
use Rattle.program_units.specs.Entities.{entity_at, entity_of, stands_for}
use Rattle.program_units.specs.Names.{appearing_here, name_for, names_of_unit}
use Rattle.program_units.specs.Refusals.{end_at, has_bad_call, is_out_of_unit, unit_refusal, unit_refusals}
use Rattle.program_units.specs.Texts.{IsText}
use Rattle.program_units.specs.Units.{Call, call_in, dummies_of, unit_at, unit_of, units, passes}
use Rattle.unit_laws.proofs.AcceptedTables.{fit, main-dummies}
use Rattle.unit_laws.proofs.CalledNames.{call-names}
use Rattle.unit_laws.proofs.MainNames.{main-own}
use Rattle.unit_laws.proofs.NoAnswer.{no-end, none-at}
use Rattle.unit_laws.proofs.ReachedUnits.{none-past}
use Rattle.program_units.proofs.Counting.{first-inside}
use Rattle.unit_laws.proofs.SettledCopies.{pass_at}
use Rattle.expanded_sources.proofs.AcceptedKinds.{unit-of-it}
use Rattle.expanded_sources.proofs.ChangedStatements.{positive}
use Rattle.expanded_sources.proofs.HeldPieces.{IsInUnit}
use Rattle.expanded_sources.proofs.NewNames.{own-name}
use Rattle.expanded_sources.proofs.SymbolicTexts.{all-members, member-passes, names-named}
use Rattle.unit_laws.proofs.UnitNames.{appears, own-of}

-- ---- lists

contained-passes : (p : List ℕ → Bool) (xs : List (List ℕ)) (x : List ℕ) → list_all p xs ≡ true → Contains xs x → p x ≡ true
contained-passes p xs x all has = by xs has.0 all has.1 has.2
  where
    by : (ys : List (List ℕ)) (k : ℕ) → list_all p ys ≡ true → k < length ys → get_or ys k x ≡ x → p x ≡ true
    by [] k whole less is = absurd (omega (arith, less))
    by (y ∷ ys) zero whole less is = subst (λ (z : List ℕ). p z ≡ true) is (and_parts (p y) (list_all p ys) whole).0
    by (y ∷ ys) (suc k) whole less is = by ys k (and_parts (p y) (list_all p ys) whole).1 (omega (arith, less)) is

mapped-hold : (P : Entity → Type 0) (f : List ℕ → Entity) (xs : List (List ℕ)) → ((x : List ℕ) → Contains xs x → P (f x)) → (j : ℕ) (e : Entity) → slice_get (map f xs) j ≡ Some e → P e
mapped-hold P f [] each j e at = let h : None ≡ Some e = at in absurd cc
mapped-hold P f (x ∷ xs) each zero e at =
    let h : Some (f x) ≡ Some e = at in
    let same : f x ≡ e = cc in
    subst P same (each x (0, omega arith, refl))
mapped-hold P f (x ∷ xs) each (suc j) e at = mapped-hold P f xs (λ y has. each y (Contains-append_right (x ∷ []) xs y has)) j e at

-- ---- arguments

-- there is an argument for each dummy of the unit k, and each gets a symbolic name
pub record AreArguments (us : List (List Labelled)) (k : ℕ) (arguments : List Entity) : Type 0 where
  pub enough : length (dummies_of (unit_at us k)) ≤ length arguments
  pub named : (j : ℕ) (e : Entity) → slice_get arguments j ≡ Some e → is_name (name_for us e) ≡ true

module _ (stmts : List Labelled) (checked : Bool) (text : IsText stmts) (accepted : unit_refusal stmts checked ≡ None) where
  abbrev us : List (List Labelled)
  us = units stmts

  -- a name of a unit
  pub unit-name : (k : ℕ) (x : List ℕ) → list_any (bytes_eq x) (names_of_unit (unit_at us k)) ≡ true → is_name x ≡ true
  unit-name k x has = member-passes is_name (names_of_unit (unit_at us k)) x (names-named stmts text k) has

  module _ (k : ℕ) (arguments : List Entity) (are : AreArguments us k arguments) (below : k < length us) where
    abbrev dummies : List (List ℕ)
    dummies = dummies_of (unit_at us k)

    own : (x : List ℕ) → list_any (bytes_eq x) (names_of_unit (unit_at us k)) ≡ true → list_any (bytes_eq x) dummies ≡ false → is_name (name_for us (entity_of us k x)) ≡ true
    own x has no_dummy = by (k == 0) refl
      where
        by : (b : Bool) → (k == 0) ≡ b → is_name (name_for us (entity_of us k x)) ≡ true
        by true is =
            let main : k ≡ 0 = eqb-true k 0 is in
            subst (λ (m : ℕ). is_name (name_for us (entity_of us m x)) ≡ true) (sym main) (ap is_name (main-own us x) ∙ unit-name k x has)
        by false is =
            let other : k ≡ 0 → ⊥ = eqb-false k 0 is in
            own-name stmts checked text accepted k x (positive k other) below (own-of us k x has no_dummy)

    -- the new name of a name of the unit
    pub new-name : (x : List ℕ) → list_any (bytes_eq x) (names_of_unit (unit_at us k)) ≡ true → is_name (name_for us (stands_for us k arguments x)) ≡ true
    new-name x has = by (slice_get arguments place) refl
      where
        place : ℕ
        place = position_or_len (bytes_eq x) dummies

        no-dummy : (b : Bool) → list_any (bytes_eq x) dummies ≡ b → slice_get arguments place ≡ None → b ≡ false
        no-dummy true is none =
            let inside = first-inside (bytes_eq x) dummies is in
            let enough = are.enough in
            absurd (none-past arguments place (omega (arith, inside, enough)) none)
        no-dummy false is none = refl

        by : (o : Option Entity) → slice_get arguments place ≡ o → is_name (name_for us (entity_at (entity_of us k x) o)) ≡ true
        by (Some e) is = are.named place e is
        by None is = own x has (no-dummy (list_any (bytes_eq x) dummies) refl is)

  in-order : first_line is_out_of_unit stmts ≡ None
  in-order = no-end UnitOrder (first_line is_out_of_unit stmts) (none-at (unit_refusals stmts us checked) 0 (end_at UnitOrder (first_line is_out_of_unit stmts)) accepted refl)

  called-well : first_line (has_bad_call us) stmts ≡ None
  called-well = no-end BadCall (first_line (has_bad_call us) stmts) (none-at (unit_refusals stmts us checked) 4 (end_at BadCall (first_line (has_bad_call us) stmts)) accepted refl)

  pub main-arguments : AreArguments us 0 []
  main-arguments = record {
    enough = let none : length (dummies_of (unit_at us 0)) ≡ 0 = ap length (main-dummies stmts in-order) in omega (arith, none);
    named = λ j e at. let h : None ≡ Some e = at in absurd cc;
  }

  pub called-arguments : (k : ℕ) (arguments : List Entity) (s : Labelled) (call : Call) → AreArguments us k arguments → IsInUnit us k s → call_in s.stmt ≡ Some call → AreArguments us (unit_of us call.name) (map (stands_for us k arguments) call.arguments)
  called-arguments k arguments s call are inside calls =
      let u = unit-of-it us k s inside in
      let below : k < length us = slice_get_within us k u.unit u.at in
      let here : list_all (λ x. is_name (name_for us (stands_for us k arguments x))) (appearing_here (is_array (unit_at us k)) s.stmt) ≡ true =
      all-members (λ x. is_name (name_for us (stands_for us k arguments x))) (appearing_here (is_array (unit_at us k)) s.stmt) (λ x has. new-name k arguments are below x (appears us k s inside x has)) in
      let fits : passes us (call_in s.stmt) ≡ true = pass_at (λ (t : Labelled). passes us (call_in t.stmt)) (unit_at us k) inside.place s (fit stmts called-well k) inside.here in
      let many : length call.arguments ≡ length (dummies_of (unit_at us (unit_of us call.name))) = eqb-true (length call.arguments) (length (dummies_of (unit_at us (unit_of us call.name)))) (ap (passes us) (sym calls) ∙ fits) in
      record {
        enough = omega (arith, many, length-map call.arguments (stands_for us k arguments));
        named = mapped-hold (λ (e : Entity). is_name (name_for us e) ≡ true) (stands_for us k arguments) call.arguments (λ x has. contained-passes (λ y. is_name (name_for us (stands_for us k arguments y))) (appearing_here (is_array (unit_at us k)) s.stmt) x here (call-names (is_array (unit_at us k)) s.stmt call calls x has));
      }
