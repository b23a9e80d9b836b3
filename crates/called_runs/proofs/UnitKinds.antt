-- In the units of an accepted text, what stands in for a statement is a tree of the right kinds; and what names become in a copy.
use Rattle.std.proofs.Common.{◌≡◌, ℕ, ◌<◌, ◌||◌, Bool, true, false, not, List, [], ◌++◌, map, take, Option, Some, None, if◌then◌else◌, refl, sym, ap, ◌∙◌, arith}
use Rattle.std.specs.List.{slice_get}
use Rattle.std.specs.Option.{option_map}
use Rattle.std.proofs.lemmas.Bool.{ne_eqb}
use Rattle.std.proofs.lemmas.List.Elements.{All-contains}
use Rattle.std.proofs.lemmas.Option.{slice_get-map}
use Rattle.f77_tree.specs.declared.statements.Labelled.{Labelled}
use Rattle.layout_rules.specs.declared.layout_end.LayoutEnd.TheVariants.{TypeWrong}
use Rattle.control_structure.proofs.LabelLemmas.{faultless}
use Rattle.layout_rules.specs.Faults.{first_line}
use Rattle.layout_rules.specs.Layout.{at_line, names_of, refusals}
use Rattle.layout_rules.specs.Source.{IsSource}
use Rattle.layout_rules.specs.StatementTrees.{IsTree}
use Rattle.layout_rules.specs.Tables.{has_simple_inner}
use Rattle.layout_rules.specs.TypeFaults.{has_wrong_type, implies_twice, is_beside_none, types_twice}
use Rattle.layout_rules.specs.Types.{is_well_kinded}
use Rattle.unit_laws.proofs.AcceptedTables.{not-not, or-parts}
use Rattle.unit_laws.proofs.NoAnswer.{laid, line-none, none-at}
use Rattle.program_units.specs.Contexts.{IsReached, called, main}
use Rattle.program_units.specs.Copies.{Context, changes}
use Rattle.program_units.specs.Entities.{entity_of, stands_for}
use Rattle.program_units.specs.Names.{name_for}
use Rattle.program_units.specs.Refusals.{unit_refusal}
use Rattle.program_units.specs.Units.{stand_in, standing_in, unit_at, unit_of, unit_or_none, units}
use Rattle.called_runs.proofs.ListedBlocks.{contains-at}

-- a unit with a statement is one of the units
pub unit-there : (us : List (List Labelled)) (k place : ℕ) (s : Labelled) → slice_get (unit_at us k) place ≡ Some s → slice_get us k ≡ Some (unit_at us k)
unit-there us k place s there = by (slice_get us k) refl there
  where
    by : (o : Option (List Labelled)) → slice_get us k ≡ o → slice_get (unit_or_none o) place ≡ Some s → slice_get us k ≡ Some (unit_at us k)
    by None is none = let e : None ≡ Some s = none in absurd cc
    by (Some u) is some = is ∙ ap (λ (v : List Labelled). Some v) (sym (ap unit_or_none is))

pub stands-at : (u : List Labelled) (place : ℕ) (s : Labelled) → slice_get u place ≡ Some s → slice_get (standing_in u) place ≡ Some (record s { stmt = stand_in s.stmt })
stands-at u place s there = slice_get-map (λ (t : Labelled). record t { stmt = stand_in t.stmt }) u place ∙ ap (option_map (λ (t : Labelled). record t { stmt = stand_in t.stmt })) there

module _ (stmts : List Labelled) (checked : Bool) (accepted : unit_refusal stmts checked ≡ None) (k place : ℕ) (s : Labelled) (there : slice_get (unit_at (units stmts) k) place ≡ Some s) where
  abbrev all : List Labelled
  all = standing_in (unit_at (units stmts) k)

  pub unit-kinds : is_well_kinded (names_of all) (stand_in s.stmt) ≡ true
  unit-kinds =
      let t : Labelled = record s { stmt = stand_in s.stmt } in
      let names = names_of all in
      let lines = first_line (has_wrong_type names) all in
      let none : lines ≡ None = line-none TypeWrong lines (none-at (refusals all checked) 2 (at_line TypeWrong lines) (laid stmts checked accepted k (unit_at (units stmts) k) (unit-there (units stmts) k place s there)) refl) in
      let above = [] ++ take place all in
      let right : has_wrong_type names above t ≡ false = faultless (has_wrong_type names) [] all none place t (stands-at (unit_at (units stmts) k) place s there) in
      not-not (is_well_kinded names t.stmt) (or-parts (types_twice above t || implies_twice above t || is_beside_none above t) (not (is_well_kinded names t.stmt)) right).1

  pub unit-inner : IsSource all → has_simple_inner (stand_in s.stmt) ≡ true
  unit-inner source =
      let t : Labelled = record s { stmt = stand_in s.stmt } in
      (All-contains (λ (a : Labelled). IsTree a.stmt) all t source.trees (contains-at all place t (stands-at (unit_at (units stmts) k) place s there))).inner

-- ---- names in copies

-- a name becomes that of what it stands for
pub copied-name : (us : List (List Labelled)) → ((x : List ℕ) → name_for us (entity_of us 0 x) ≡ x) → ((name : List ℕ) → 0 < unit_of us name) → (c : Context) (at : ℕ → ℕ) → IsReached us c at → (x : List ℕ) → (changes us c).name x ≡ name_for us (stands_for us c.unit c.arguments x)
copied-name us kept subs _ _ main x = sym (kept x)
copied-name us kept subs _ _ (called {c} {at} place s call reached is calls_it) x =
    let some : 0 < unit_of us call.name = subs call.name in
    ap (λ (b : Bool). if b then x else name_for us (stands_for us (unit_of us call.name) (map (stands_for us c.unit c.arguments) call.arguments) x)) (ne_eqb (unit_of us call.name) 0 (λ (e : unit_of us call.name ≡ 0). omega (arith, some, e)))
