-- In the units of an accepted text no name stands in COMMON twice.
use Rattle.std.proofs.Common.{◌≡◌, ℕ, Bool, true, false, List, Option, Some, None, refl, sym, ap, subst, ◌∙◌}
use Rattle.std.specs.Prelude.{Ok}
use Rattle.std.specs.List.{slice_get}
use Rattle.f77_tree.specs.declared.programs.Program.{Program}
use Rattle.f77_tree.specs.declared.declarations.CommonPart.{CommonPart}
use Rattle.f77_tree.specs.declared.statements.Labelled.{Labelled}
use Rattle.f77_tree.specs.WellFormed.{IsWellFormed}
use Rattle.layout_rules.specs.declared.layout_end.LayoutEnd.{LayoutEnd}
use Rattle.layout_rules.specs.Declarations.{all_commons}
use Rattle.layout_rules.specs.Layout.{layout, program, unless_refused}
use Rattle.layout_rules.specs.Source.{IsSource}
use Rattle.unit_laws.proofs.NoAnswer.{laid, no-end, none-at}
use Rattle.program_units.specs.declared.entity.Entity.TheVariants.{InBlock}
use Rattle.program_units.specs.Entities.{block_list, entity_of, entity_or}
use Rattle.program_units.specs.Refusals.{main_line_if, has_great_name, unit_refusal, unit_refusals, end_at}
use Rattle.program_units.specs.declared.sub_end.SubEnd.TheVariants.{TooManyNames}
use Rattle.program_units.specs.Texts.{IsText}
use Rattle.program_units.specs.Units.{standing_in, unit_at, unit_or_none, units}
use Rattle.called_runs.proofs.OnceInCommon.{Once, common-once, entity-at, names_of_parts}
use Rattle.unit_laws.proofs.CommonOnce.{commons-same}

-- ---- units that can be laid out

module _ (stmts : List Labelled) (checked : Bool) (accepted : unit_refusal stmts checked ≡ None) where
  pub unit-laid : (k : ℕ) (u : List Labelled) → slice_get (units stmts) k ≡ Some u → layout (standing_in u) checked ≡ Ok (program (standing_in u) checked)
  unit-laid k u here = ap (λ (o : Option LayoutEnd). unless_refused o (program (standing_in u) checked)) (laid stmts checked accepted k u here)

  pub none-great : has_great_name (units stmts) ≡ false
  none-great =
      let us = units stmts in
      by (has_great_name us) (no-end TooManyNames (main_line_if us (has_great_name us)) (none-at (unit_refusals stmts us checked) 8 (end_at TooManyNames (main_line_if us (has_great_name us))) accepted refl))
    where
      by : (b : Bool) → main_line_if (units stmts) b ≡ None → b ≡ false
      by true none = absurd cc
      by false none = refl

  module _ (text : IsText stmts) (well_formed : (ss : List Labelled) (ch : Bool) (p : Program) → IsSource ss → layout ss ch ≡ Ok p → IsWellFormed p) (sources : (ts : List Labelled) → IsText ts → (k : ℕ) (u : List Labelled) → slice_get (units ts) k ≡ Some u → IsSource (standing_in u)) where
    unit-once : (k : ℕ) (u : List Labelled) → slice_get (units stmts) k ≡ Some u → Once (names_of_parts (all_commons u))
    unit-once k u here =
        let p = program (standing_in u) checked in
        let formed = well_formed (standing_in u) checked p (sources stmts text k u here) (unit-laid k u here) in
        subst (λ (parts : List CommonPart). Once (names_of_parts parts)) (commons-same u) (common-once p.names p.commons formed.declarations.common_once)

    pub stand-once : (k : ℕ) (block : Option (List ℕ)) (i : ℕ) (x : List ℕ) → slice_get (block_list (unit_at (units stmts) k) block) i ≡ Some x → entity_of (units stmts) k x ≡ InBlock block i
    stand-once k block i x there = by (slice_get (units stmts) k) refl
      where
        by : (o : Option (List Labelled)) → slice_get (units stmts) k ≡ o → entity_of (units stmts) k x ≡ InBlock block i
        by None is =
            let none : slice_get (block_list (unit_at (units stmts) k) block) i ≡ None = ap (λ (p : Option (List Labelled)). slice_get (block_list (unit_or_none p) block) i) is in
            let e : None ≡ Some x = sym none ∙ there in
            absurd cc
        by (Some u) is =
            let own : unit_at (units stmts) k ≡ u = ap unit_or_none is in
            let once : Once (names_of_parts (all_commons (unit_at (units stmts) k))) = subst (λ (v : List Labelled). Once (names_of_parts (all_commons v))) (sym own) (unit-once k u is) in
            ap (entity_or k x) (entity-at (unit_at (units stmts) k) once block i x there)
