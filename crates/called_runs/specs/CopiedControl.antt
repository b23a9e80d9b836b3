-- The executables of a unit's statement and those of its copy.
use Rattle.std.specs.Prelude.{◌≡◌, ℕ, ◌+◌, Bool, List, map, Some}
use Rattle.f77_tree.specs.declared.programs.NameInfo.{NameInfo}
use Rattle.f77_tree.specs.declared.statements.Labelled.{Labelled}
use Rattle.f77_tree.specs.declared.statements.RawExpr.{RawExpr}
use Rattle.layout_rules.specs.Executables.{beyond, first_of, increments, loops_to, own_executables, own_kinds}
use Rattle.program_units.specs.Copies.{Context, changed_stmt, changes}
use Rattle.program_units.specs.Expansion.{whole_list}
use Rattle.program_units.specs.Units.{stand_in, standing_in, unit_at}
use Rattle.called_runs.specs.CopiedKinds.{ArePairwise, IsCopyOf, condition_of}
use Rattle.called_runs.specs.CopiedPositions.{AreCopiedLoops, IsDoOf, IsPartOf, Stands, copy_of, first_increment, last_place, standing}

module _ (us : List (List Labelled)) (names others : List NameInfo) (checked : Bool) (c : Context) (at : ℕ → ℕ) (place : ℕ) (s : Labelled) where
  abbrev pub stood : List Labelled
  stood = standing_in (unit_at us c.unit)

  -- its own ones do the same, one by one, and lead to executables that stand for one another
  abbrev pub OwnAreAlike : Type 0
  OwnAreAlike =
      ArePairwise (IsCopyOf (IsPartOf s.stmt) (λ (e : RawExpr). condition_of s.stmt ≡ Some e) (Stands us (whole_list us) c at) (AreCopiedLoops us (whole_list us) c at) names others checked (changes us c))
      (own_kinds names checked stood place (first_of stood place) (beyond stood place (standing s)) (stand_in s.stmt))
      (own_kinds others checked (whole_list us) (at place) (first_of (whole_list us) (at place)) (beyond (whole_list us) (at place) (copy_of us c place s)) (changed_stmt (changes us c) s.stmt))

  -- so do the increments of the DOs that end there
  abbrev pub IncrementsAreAlike : Type 0
  IncrementsAreAlike =
      ArePairwise (IsCopyOf (IsDoOf (unit_at us c.unit) s.label) (λ (e : RawExpr). ⊥) (Stands us (whole_list us) c at) (AreCopiedLoops us (whole_list us) c at) names others checked (changes us c))
      (increments names stood place (first_of (unit_at us c.unit) place + own_executables s.stmt) (loops_to (unit_at us c.unit) s.label))
      (increments others (whole_list us) (last_place us c at place s) (first_increment us (whole_list us) c at place s) (map at (loops_to (unit_at us c.unit) s.label)))
