-- Runs of programs and of their simplified forms by their constants.
use Rattle.std.proofs.Common.{◌≡◌, ℕ, ℤ, Bool, List, [], All, sym, ap, subst, ◌∙◌}
use Rattle.std.specs.Prelude.{◌+◌, Some, slice_get, slice_index}
use Rattle.op_table.specs.Words.{IsWord}
use Rattle.f77_tree.specs.declared.programs.Exec.{Exec}
use Rattle.f77_tree.specs.declared.programs.ExecKind.{ExecKind}
use Rattle.f77_tree.specs.declared.programs.Program.{Program}
use Rattle.f77_tree.specs.Control.{successors}
use Rattle.f77_tree.specs.Execution.{Goes, outcome}
use Rattle.f77_tree.specs.Run.{PrintAlike, Running, Ended, source}
use Rattle.f77_tree.specs.WellFormed.{IsExecutable}
use Rattle.f77_tree.proofs.AllLemmas.{All-get}
use Rattle.alias_classes.specs.Classes.{ClassTable}
use Rattle.region_tree.specs.Tree.{Tree}
use Rattle.cfg_build.specs.Flow.{flow}
use Rattle.cfg_build.specs.Passes.{kind_in}
use Rattle.dep_routing.specs.Routing.{Routing}
use Rattle.const_prop.specs.Closed.{IsConstants}
use Rattle.const_prop.specs.Right.{AreRouted}
use Rattle.const_prop.specs.Table.{Knowns}
use Rattle.flat_programs.specs.declared.statements.FlatLine.{FlatLine}
use Rattle.flat_programs.specs.Executables.{executables, first_of, following, leading, program_of, width}
use Rattle.simplified_laws.specs.InStep.{SimplifiedProgramsKeepStep, SimplifiedProgramsLeaveTheSameWords, SimplifiedProgramsPrintAlike}
use Rattle.simplified_forms.specs.Items.{AreItems}
use Rattle.simplified_laws.specs.LiveItems.{DosAreItems, JumpsAreItems, RestsAreItems}
use Rattle.simplified_laws.specs.RightRuns.{ConstantsAreRightInRuns}
use Rattle.simplified_forms.specs.Simplified.{flat, IsSimplified}
use Rattle.simplified_laws.proofs.ClosedItems.{are-closed}
use Rattle.simplified_laws.proofs.EntriesLed.{AreInPlace}
use Rattle.simplified_laws.proofs.KindsInStep.{HasForm}
use Rattle.simplified_laws.proofs.RunsInStep.{keeps-step, print-alike, same-words, ComesNext}

module _ (first : (flat : List FlatLine) (place : ℕ) (l : FlatLine) → slice_get flat place ≡ Some l → slice_get (executables flat) (first_of flat place) ≡ Some (record { line = l.line; kind = leading flat place l.stmt }))
    (other : (flat : List FlatLine) (place : ℕ) (l : FlatLine) (kind : ExecKind) → slice_get flat place ≡ Some l → following flat place l.stmt ≡ Some kind → slice_get (executables flat) (first_of flat place + 1) ≡ Some (record { line = l.line; kind = kind }))
    (next : (flat : List FlatLine) (place : ℕ) (l : FlatLine) → slice_get flat place ≡ Some l → first_of flat (place + 1) ≡ first_of flat place + width flat place l.stmt) where
  -- executables that stand in order stand where their statements begin
  pub in-place : (flat : List FlatLine) → AreInPlace flat
  in-place flat = record { first = first flat; second = other flat; next = next flat }

-- the simplified form is that of its items
pub form-is : (p : Program) (c : ClassTable) (t : Knowns) (checked : Bool) (q : Program) → (s : IsSimplified p c t checked q) → program_of p (flat p c t checked s.simplified.is_item) ≡ q
form-is p c t checked q s = sym (s.is ∙ ap (program_of p) s.simplified.are)

module _ (right : ConstantsAreRightInRuns) (rests : RestsAreItems) (to_jumps : JumpsAreItems) (dos : DosAreItems) (in_place : (flat : List FlatLine) → AreInPlace flat) where
  module _ (p : Program) (c : ClassTable) (touches : ℕ → ℕ → Bool) (tree : Tree) (r : Routing) (t : Knowns) (checked : Bool) (is_item : ℕ → Bool) (input : List ℤ)
      (routed : AreRouted p c touches tree r) (constants : IsConstants p (flow p.execs) c touches r t) (items : AreItems p t is_item) (words : All IsWord input) where
    has-form : HasForm p c t checked is_item
    has-form = record {
      in_place = in_place (flat p c t checked is_item);
      kept = are-closed rests to_jumps dos p c touches tree r t routed constants.closed is_item items;
      loops = routed.well_formed.execs.loops_nest;
    }

    comes-next : (n : ℕ) → (source p input n).mark ≡ Running → ComesNext p c t checked is_item input (source p input n)
    comes-next n runs =
        let it = right p c touches tree r t input n routed constants words runs in
        let kind = ap kind_in it.reached.found in
        record {
          exec = it.exec;
          found = it.reached.found;
          right = record {
            item = (items (source p input n).position).1 it.item;
            proper = subst (IsExecutable p.names) (sym kind) (All-get (λ (e : Exec). IsExecutable p.names e.kind) p.execs (source p input n).position it.exec routed.well_formed.execs.each it.reached.found);
            words = λ other. it.words (λ end. other (kind ∙ end));
            goes = λ i told. subst (λ (x : ExecKind). outcome p.names input (source p input n).memory x ≡ Goes (slice_index (successors x) i) (source p input n).memory []) (sym kind) (it.goes i told);
            count_room = it.sizes.counts;
            step_room = it.sizes.steps;
            holds = it.holds.store;
          };
        }

  pub programs-keep-step : SimplifiedProgramsKeepStep
  programs-keep-step p c touches tree r t checked is_item input n routed constants items words =
      keeps-step p c t checked is_item input (has-form p c touches tree r t checked is_item input routed constants items words) (comes-next p c touches tree r t checked is_item input routed constants items words) n

  pub programs-print-alike : SimplifiedProgramsPrintAlike
  programs-print-alike p c touches tree r t checked q input routed constants s words =
      let is_item = s.simplified.is_item in
      subst (λ (new : Program). PrintAlike (source p input) (source new input)) (form-is p c t checked q s)
      (print-alike p c t checked is_item input (has-form p c touches tree r t checked is_item input routed constants s.simplified.items words) (comes-next p c touches tree r t checked is_item input routed constants s.simplified.items words))

  pub programs-leave-words : SimplifiedProgramsLeaveTheSameWords
  programs-leave-words p c touches tree r t checked q input m n routed constants s words ended new_ended =
      let is_item = s.simplified.is_item in
      let is = form-is p c t checked q s in
      subst (λ (new : Program). (source new input n).memory.store ≡ (source p input m).memory.store) is
      (same-words p c t checked is_item input (has-form p c touches tree r t checked is_item input routed constants s.simplified.items words) (comes-next p c touches tree r t checked is_item input routed constants s.simplified.items words) m n ended
      (subst (λ (new : Program). (source new input n).mark ≡ Ended) (sym is) new_ended))
