-- Which executables may trap, where subscripts that are seen in range don't count.
use Rattle.std.proofs.Common.{◌≡◌, ◌≤◌, ◌↔◌, ℕ, ℤ, Bool, true, List, [], length, All, Option, Some, None, refl, sym, ap, subst}
use Rattle.std.specs.Prelude.{IsTrue, slice_get}
use Rattle.std.proofs.lemmas.Option.{slice_get_past}
use Rattle.op_table.specs.Words.{IsWord}
use Rattle.f77_tree.specs.declared.declarations.Dim.{Dim}
use Rattle.f77_tree.specs.declared.expressions.Expr.{Expr}
use Rattle.f77_tree.specs.declared.programs.Exec.{Exec}
use Rattle.f77_tree.specs.declared.programs.ExecKind.{ExecKind}
use Rattle.f77_tree.specs.declared.programs.Program.{Program}
use Rattle.f77_tree.specs.CanRun.{CanExecute}
use Rattle.f77_tree.specs.Declarations.{IsNameInfo}
use Rattle.f77_tree.specs.Execution.{outcome}
use Rattle.f77_tree.specs.Known.{ExecMayTrapBut, none}
use Rattle.f77_tree.specs.Run.{source}
use Rattle.f77_tree.specs.Steps.{DoesNotTrap}
use Rattle.f77_tree.specs.Touched.{ExecReadsData}
use Rattle.f77_tree.specs.Value.{IsExpression}
use Rattle.f77_tree.specs.WellFormed.{IsWellFormed}
use Rattle.f77_tree.proofs.WellFormedLaws.{well_formed-runs}
use Rattle.alias_classes.specs.Classes.{ClassTable, IsClasses}
use Rattle.alias_classes.specs.WriteLaws.{WritesWhatChanges}
use Rattle.cfg_build.specs.Passes.{kind_in}
use Rattle.dep_routing.specs.KnownTraps.{ExecKnownToTrap}
use Rattle.dep_routing.specs.Risks.{AreRisks, StepDoesNotTrap}
use Rattle.loop_ranges.specs.Seen.{IsSeenInRange}
use Rattle.loop_ranges.proofs.PlainRuns.{variable-scalar}
use Rattle.range_lines.specs.declared.reaches.Reach.{Reach}
use Rattle.range_lines.specs.RangeRisks.{IsMarked, MayTrapInRuns}
use Rattle.range_lines.specs.Ranges.{IsCurrent}
use Rattle.range_lines.proofs.ExceptedTraps.{exec-may, exec-knowing, exec-reading}
use Rattle.range_lines.proofs.QuietForms.{IsHarmless, linear-harmless}
use Rattle.range_lines.proofs.RowLemmas.{seen-sound, seen-whole}

-- past the last executable there is none that may
pub none-past : (p : Program) (t : ClassTable) (k : ℕ) → length p.execs ≤ k → MayTrapInRuns p t k → ⊥
none-past p t k past = subst (λ (o : Option Exec). ExecMayTrapBut (IsSeenInRange p t k) p.names (kind_in o) → ⊥) (sym (slice_get_past p.execs k past)) (λ may. may)

module _ (p : Program) (t : ClassTable) (well : IsWellFormed p) where
  table : All IsNameInfo p.names
  table = well.declarations.table

  -- what is marked is seen in range
  pub marked-risks : (k : ℕ) (current : List (Option Reach)) → IsCurrent p t k current → (exec : Exec) → slice_get p.execs k ≡ Some exec → (risk : Bool)
      → IsTrue risk ↔ ExecMayTrapBut (IsMarked current k) p.names exec.kind → (risk ≡ true) ↔ MayTrapInRuns p t k
  marked-risks k current now exec at risk told =
      let seen = IsSeenInRange p t k in
      let marked = IsMarked current k in
      let here : exec.kind ≡ kind_in (slice_get p.execs k) = sym (ap kind_in at) in (
        λ is. subst (λ (kind : ExecKind). ExecMayTrapBut seen p.names kind) here
            (exec-may seen marked p.names table (λ sub dim dimension is_seen. seen-whole p t k current now (record { sub = sub; dim = dim }) is_seen) exec.kind (told.0 is)),
        λ may. told.1
            (exec-may marked seen p.names table (λ sub dim dimension is_marked. seen-sound p t k current now (record { sub = sub; dim = dim }) dimension is_marked) exec.kind
            (subst (λ (kind : ExecKind). ExecMayTrapBut seen p.names kind) (sym here) may)),
      )

  module _ (classes : IsClasses p t) (covers : WritesWhatChanges) where
    -- a subscript that is seen in range is harmless
    harmless : (k : ℕ) (sub : Expr) (dim : Dim) → IsExpression p.names sub → IsSeenInRange p t k sub dim → IsHarmless p.names sub
    harmless k sub dim fits seen =
        linear-harmless p.names seen.loop.variable (variable-scalar p t [] well classes covers seen.number seen.loop seen.parameters seen.plain) sub seen.form fits seen.linear

    -- what is so of an executable of the program, or of none, is so of each number
    each-kind : (P : ExecKind → Type 0) (Q : ExecKind → Type 0) → ((kind : ExecKind) → CanExecute p kind → P kind → Q kind) → (P (kind_in None) → Q (kind_in None)) → (k : ℕ) → P (kind_in (slice_get p.execs k)) → Q (kind_in (slice_get p.execs k))
    each-kind P Q step last k = by (slice_get p.execs k) refl
      where
        by : (o : Option Exec) → slice_get p.execs k ≡ o → P (kind_in o) → Q (kind_in o)
        by None is = last
        by (Some exec) is = step exec.kind ((well_formed-runs p well).executes k exec is)

    pub taking-may : (k : ℕ) → ExecReadsData (kind_in (slice_get p.execs k)) → MayTrapInRuns p t k
    taking-may k = each-kind (λ kind. ExecReadsData kind) (λ kind. ExecMayTrapBut (IsSeenInRange p t k) p.names kind) (λ kind can reads. exec-reading (IsSeenInRange p t k) p (harmless k) kind can reads) (λ reads. absurd reads) k

    known-may : (k : ℕ) → ExecKnownToTrap p.names (kind_in (slice_get p.execs k)) → MayTrapInRuns p t k
    known-may k = each-kind (λ kind. ExecKnownToTrap p.names kind) (λ kind. ExecMayTrapBut (IsSeenInRange p t k) p.names kind) (λ kind can traps. exec-knowing (IsSeenInRange p t k) p (harmless k) kind can traps) (λ traps. absurd traps) k

    -- over words an executable that may not trap doesn't
    abbrev pub RunsDoNotTrap : Type 0
    RunsDoNotTrap = (input : List ℤ) (steps : ℕ) (exec : Exec) → All IsWord input → slice_get p.execs (source p input steps).position ≡ Some exec
        → (ExecMayTrapBut (IsSeenInRange p t (source p input steps).position) p.names exec.kind → ⊥) → DoesNotTrap (outcome p.names input (source p input steps).memory exec.kind)

    step-safe : RunsDoNotTrap → (input : List ℤ) (n : ℕ) → All IsWord input → (MayTrapInRuns p t (source p input n).position → ⊥) → StepDoesNotTrap p input (source p input n)
    step-safe safe input n words not_may = by (slice_get p.execs (source p input n).position) refl
      where
        by : (o : Option Exec) → slice_get p.execs (source p input n).position ≡ o → DoesNotTrap (outcome p.names input (source p input n).memory (kind_in o))
        by None is = tt
        by (Some exec) is = safe input n exec words is (λ may. not_may (subst (λ (o : Option Exec). ExecMayTrapBut (IsSeenInRange p t (source p input n).position) p.names (kind_in o)) (sym is) may))

    pub are-risks : RunsDoNotTrap → AreRisks p (MayTrapInRuns p t)
    are-risks safe = record {
      sound = λ k. exec-may none (IsSeenInRange p t k) p.names table (λ sub dim dimension no. absurd no) (kind_in (slice_get p.execs k));
      known = known-may;
      whole = λ input n words running not_may. step-safe safe input n words not_may;
    }
