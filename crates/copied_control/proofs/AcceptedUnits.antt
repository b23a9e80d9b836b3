-- In a text whose units nothing refuses, blocks and loops end in their units, none calls itself, and each context is in its place.
use Rattle.std.proofs.Common.{◌≡◌, ℕ, Bool, true, List, length, Option, Some, None, refl, sym, ap, subst, ◌∙◌}
use Rattle.std.specs.List.{slice_get, range_with_len}
use Rattle.f77_tree.specs.declared.statements.Labelled.{Labelled}
use Rattle.layout_rules.specs.Faults.{first_answer}
use Rattle.layout_rules.specs.Layout.{refusal}
use Rattle.program_units.specs.declared.sub_end.SubEnd.TheVariants.{Recursion}
use Rattle.program_units.specs.Contexts.{IsInPlace, IsReached}
use Rattle.program_units.specs.Copies.{Context}
use Rattle.program_units.specs.CopiedLoops.{HasEndOf, HaveEnds}
use Rattle.program_units.specs.Heights.{NoneCallsItself}
use Rattle.program_units.specs.OpenBlocks.{AreClosedUnits, IsEnded, are_closed}
use Rattle.program_units.specs.Refusals.{end_at, recursion, unit_refusal, unit_refusals}
use Rattle.program_units.specs.Texts.{IsText}
use Rattle.program_units.specs.Units.{reaches, standing_in, unit_at, unit_or_none, units}
use Rattle.copied_control.proofs.ClosedUnits.{accepted-closed}
use Rattle.unit_laws.proofs.NoAnswer.{each-none, in-range, laid, no-end, no-line, none-at}
use Rattle.unit_laws.proofs.PositiveLabels.{do-label}
use Rattle.copied_control.proofs.RangeEnds.{has-end}
use Rattle.copied_control.proofs.ReachedContexts.{in-place}
use Rattle.unit_laws.proofs.UnitSources.{IsUnit, text-unit}
use Rattle.std.proofs.Common.{arith}

-- ---- units of an accepted text

module _ (stmts : List Labelled) (checked : Bool) (text : IsText stmts) (accepted : unit_refusal stmts checked ≡ None) where
  abbrev us : List (List Labelled)
  us = units stmts

  pub closed-units : AreClosedUnits us
  closed-units k = by_unit (slice_get us k) refl
    where
      by_unit : (o : Option (List Labelled)) → slice_get us k ≡ o → are_closed 0 (unit_or_none o) ≡ true
      by_unit None here = refl
      by_unit (Some u) here = accepted-closed u checked (laid stmts checked accepted k u here) (IsUnit.once (text-unit stmts text k u here))

  pub ends-in-units : HaveEnds us
  ends-in-units k place label s there does = by_unit (slice_get us k) refl there
    where
      by_unit : (o : Option (List Labelled)) → slice_get us k ≡ o → slice_get (unit_or_none o) place ≡ Some s → HasEndOf us k label
      by_unit None here in_it = let e : None ≡ Some s = in_it in absurd cc
      by_unit (Some u) here in_it =
          let is : unit_at us k ≡ u = ap unit_or_none here in
          let unit = text-unit stmts text k u here in
          has-end us checked k (ap (λ (v : List Labelled). refusal (standing_in v) checked) is ∙ laid stmts checked accepted k u here) (subst IsEnded (sym is) (IsUnit.once unit))
          (λ at other t stands goes. do-label t.stmt other (unit.read.given at t (ap (λ (v : List Labelled). slice_get v at) (sym is) ∙ stands)) goes)
          place label s there does

  pub alone : NoneCallsItself us
  alone k below =
      grind (arith, no-end Recursion (first_answer (recursion us) (range_with_len 0 (length us))), none-at (unit_refusals stmts us checked) 6 (end_at Recursion (first_answer (recursion us) (range_with_len 0 (length us)))) accepted, no-line (reaches us (length us) k k) (unit_at us k), each-none (recursion us) (range_with_len 0 (length us)), in-range (length us) k below)

  pub placed : (c : Context) (at : ℕ → ℕ) → IsReached us c at → IsInPlace us c at
  placed = in-place us alone ends-in-units
