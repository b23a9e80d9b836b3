-- The constants that are found over the analysis of a program are its own, and its simplified form has few classes.
use Rattle.std.proofs.Common.{◌≡◌, suc, ◌+◌, ◌≤◌, Bool, length, sym, ap, subst, ◌∙◌, arith}
use Rattle.f77_tree.specs.declared.programs.Program.{Program}
use Rattle.f77_tree.specs.WellFormed.{IsWellFormed}
use Rattle.alias_classes.specs.Classes.{ClassTable, class_count}
use Rattle.alias_classes.specs.Number.{HasFewClasses, number_of_classes}
use Rattle.cfg_build.specs.Flow.{flow}
use Rattle.cfg_build.specs.Joined.{FlowGraph}
use Rattle.dep_routing.specs.Routing.{IsRouting}
use Rattle.dep_routing.specs.Touch.{touches_in}
use Rattle.const_prop.specs.Closed.{IsConstants}
use Rattle.const_prop.specs.Right.{IsProgramRouting}
use Rattle.const_prop.specs.Table.{Knowns}
use Rattle.flow_analysis.specs.declared.parts.Analysis.{Analysis}
use Rattle.flow_analysis.specs.Analysis.{IsAnalysisOf}
use Rattle.simplified_forms.specs.Simplified.{IsSimplified}
use Rattle.simplified_laws.specs.SimplifiedClasses.{SimplifiedProgramsHaveNoMoreClasses}
use Rattle.rewriting.specs.Rewritten.{AreConstantsOf}

module _ (p : Program) (found : Analysis) (is : IsAnalysisOf p found) where
  pub lines_routed : IsRouting (flow p.execs).graph found.tree (touches_in found.touch) (class_count found.classes + 1) found.lines
  lines_routed =
      let count : suc (class_count found.classes) ≡ class_count found.classes + 1 = omega arith in
      subst (λ n. IsRouting (flow p.execs).graph found.tree (touches_in found.touch) n found.lines) count is.routing

  pub program_routed : IsProgramRouting p (touches_in found.touch) (class_count found.classes + 1) found.lines
  program_routed = record { tree = found.tree; is_tree = is.tree; routing = lines_routed }

  pub pieces_touch : length found.touch ≡ found.flow.graph.nodes
  pieces_touch = is.sets ∙ ap (λ (f : FlowGraph). f.graph.nodes) (sym is.own_flow)

  pub own_constants : (t : Knowns) → IsConstants p found.flow found.classes (touches_in found.touch) found.lines t → IsConstants p (flow p.execs) found.classes (touches_in found.touch) found.lines t
  own_constants t are = subst (λ (f : FlowGraph). IsConstants p f found.classes (touches_in found.touch) found.lines t) is.own_flow are

  pub constants_of : (t : Knowns) → IsConstants p found.flow found.classes (touches_in found.touch) found.lines t → AreConstantsOf p found.classes t
  constants_of t are = record {
    touches = touches_in found.touch;
    wires = found.lines;
    classes = is.classes;
    touching = is.touches;
    no_others = λ node line past. is.outside node line past;
    routed = program_routed;
    constants = own_constants t are;
  }

pub simplified_has_few_classes : (p q : Program) (c : ClassTable) (t : Knowns) (checked : Bool) → IsWellFormed p → SimplifiedProgramsHaveNoMoreClasses → HasFewClasses p → IsSimplified p c t checked q → HasFewClasses q
simplified_has_few_classes p q c t checked well most few is =
    let less : number_of_classes q ≤ number_of_classes p = (most p c t checked q well is).classes in
    omega (arith, less, few)
