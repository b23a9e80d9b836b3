-- The text of a program's net that was made.
use Rattle.std.proofs.Common.{◌≡◌, ◌≤◌, ℕ, ℤ, Bool, false, List, [], All, refl, sym, subst}
use Rattle.std.proofs.lemmas.List.Elements.{All-nil}
use Rattle.op_table.specs.Words.{IsWord}
use Rattle.f77_tree.specs.declared.programs.Program.{Program}
use Rattle.f77_tree.specs.WellFormed.{IsWellFormed}
use Rattle.alias_classes.specs.Classes.{ClassTable}
use Rattle.cfg_build.specs.Flow.{flow}
use Rattle.dep_routing.specs.LineTable.{HaveRows}
use Rattle.dep_routing.specs.Routing.{Routing}
use Rattle.dep_routing.specs.Touch.{touches_in}
use Rattle.flow_analysis.specs.declared.parts.Analysis.{Analysis}
use Rattle.flow_analysis.specs.Analysis.{IsRangeAnalysisOf}
use Rattle.net_board.specs.Nodes.{NetOf, graph_in}
use Rattle.net_board.specs.NetParts.{AreParts, net_with}
use Rattle.net_board.specs.SoundNets.{IsNet}
use Rattle.op_board.specs.OperationNets.{OperationNet, operation_count}
use Rattle.op_board.specs.SoundOperationNets.{IsOperationNet}
use Rattle.program_nets.specs.Game.{AreToldByRanges, IsNetOn}
use Rattle.graph_texts.specs.GraphText.{graph_text}
use Rattle.program_nets.proofs.NetParts.{found_parts, found_ranges}
use Rattle.graph_jobs.specs.DueGraphs.{TellsGraph}

-- the net of a program over data, with these parts
abbrev pub made : Program → List ℤ → (touches : ℕ → ℕ → Bool) → Routing → (needs : ℕ → ℕ → ℕ → Bool) → OperationNet
made p words touches routing needs = record { net = net_with p words touches routing; needs = needs }

module _ (p : Program) (touches : ℕ → ℕ → Bool) (routing : Routing) (needs : ℕ → ℕ → ℕ → Bool) where
  -- what makes a net sound does not depend on the data
  abbrev net_over : (words others : List ℤ) → All IsWord others → IsNet (net_with p words touches routing) → IsNet (net_with p others touches routing)
  net_over words others are is = record {
    program = is.program;
    can_run = is.can_run;
    input_words = are;
    classes = is.classes;
    own_classes = is.own_classes;
    tree = is.tree;
    own_tree = is.own_tree;
    sound_touches = is.sound_touches;
    own_routing = is.own_routing;
  }

  abbrev operations_over : (words others : List ℤ) → All IsWord others → IsOperationNet (made p words touches routing needs) → IsOperationNet (made p others touches routing needs)
  operations_over words others are is = record {
    is_net = net_over words others are is.is_net;
    own_needs = is.own_needs;
    traps = is.traps;
  }

  -- the net of a program over data, without them
  pub over_none : (words : List ℤ) → IsNetOn p words (made p words touches routing needs) → IsNetOn p [] (made p [] touches routing needs)
  over_none words own = record {
    are_words = All-nil IsWord;
    parts = own.parts;
    ranges = own.ranges;
    rows = own.rows;
    is = refl;
    operations = operations_over words [] (All-nil IsWord) own.operations;
    outside_pieces = own.outside_pieces;
    outside_operations = own.outside_operations;
  }

  -- The parts of a program make such a net, and its text tells it.
  pub made_tells : (parts : AreParts p (flow p.execs) touches routing) → AreToldByRanges p touches → (net : NetOf) → HaveRows routing → net ≡ net_with p [] touches routing → IsOperationNet (record { net = net; needs = needs })
      → ((piece i line : ℕ) → (graph_in net).nodes ≤ piece → needs piece i line ≡ false)
      → ((piece i line : ℕ) → operation_count (record { net = net; needs = needs }) piece ≤ i → needs piece i line ≡ false)
      → TellsGraph p (graph_text p parts.classes (record { net = net; needs = needs }))
  made_tells parts ranges net rows same operations outside_pieces outside_operations =
      let own : IsNetOn p [] (made p [] touches routing needs) = record {
        are_words = All-nil IsWord;
        parts = parts;
        ranges = ranges;
        rows = rows;
        is = refl;
        operations = subst (λ (n : NetOf). IsOperationNet (record { net = n; needs = needs })) same operations;
        outside_pieces = subst (λ (n : NetOf). (piece i line : ℕ) → (graph_in n).nodes ≤ piece → needs piece i line ≡ false) same outside_pieces;
        outside_operations = subst (λ (n : NetOf). (piece i line : ℕ) → operation_count (record { net = n; needs = needs }) piece ≤ i → needs piece i line ≡ false) same outside_operations;
      } in
      told parts.classes own refl
    where
      told : (c : ClassTable) (own : IsNetOn p [] (made p [] touches routing needs)) → own.parts.classes ≡ c → TellsGraph p (graph_text p c (record { net = net; needs = needs }))
      told c own is =
          let here : TellsGraph p (graph_text p own.parts.classes (made p [] touches routing needs)) = record { net = made p [] touches routing needs; own = own; is = refl } in
          let same_classes = subst (λ (t : ClassTable). TellsGraph p (graph_text p t (made p [] touches routing needs))) is here in
          subst (λ (n : NetOf). TellsGraph p (graph_text p c (record { net = n; needs = needs }))) (sym same) same_classes

  -- the text of a net over data is that of the net without them
  pub same_text : (words : List ℤ) (c : ClassTable) → graph_text p c (made p [] touches routing needs) ≡ graph_text p c (made p words touches routing needs)
  same_text words c = refl

-- what was found of a program makes a net whose text tells it
pub found_tells : (p : Program) (found : Analysis) (x : OperationNet) → IsWellFormed p → IsRangeAnalysisOf p found → x.net ≡ net_with p [] (touches_in found.touch) found.lines → IsOperationNet x
    → ((piece i line : ℕ) → (graph_in x.net).nodes ≤ piece → x.needs piece i line ≡ false) → ((piece i line : ℕ) → operation_count x piece ≤ i → x.needs piece i line ≡ false)
    → TellsGraph p (graph_text p found.classes x)
found_tells p found x well_formed is same operations outside_pieces outside_operations =
    made_tells p (touches_in found.touch) found.lines x.needs (found_parts p found (flow p.execs) refl well_formed is) (found_ranges p found is) x.net is.rows same operations outside_pieces outside_operations
