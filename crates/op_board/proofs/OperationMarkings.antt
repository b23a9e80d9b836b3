-- Firings lead from markings that can come to markings that can come.
use Rattle.std.proofs.Common.{◌≡◌, ◌<◌, ℕ, ◌&&◌, Bool, true, false, if◌then◌else◌, length, Some, None, Result, Ok, Err, slice_get, refl, ◌∙◌, subst}
use Rattle.op_table.specs.declared.Trap.{Trap as Kind_of_trap}
use Rattle.closed_walks.specs.Graph.{edge_count}
use Rattle.f77_tree.specs.Execution.{Memory}
use Rattle.cfg_build.specs.Passes.{out}
use Rattle.dep_routing.specs.Routing.{next_at}
use Rattle.firing.specs.declared.system.NodeName.{NodeName}
use Rattle.firing.specs.declared.system.NodeName.TheVariants.{Act, Merge, Switch, Op}
use Rattle.list_laws.proofs.Members.{Member-filtered}
use Rattle.net_board.specs.Nodes.{graph_in, all_lines, kind_in, switches}
use Rattle.net_board.specs.ProgramFacts.{ProgramFacts}
use Rattle.net_board.specs.SoundNets.{IsNet, IsMarking, HasSizesOf}
use Rattle.net_board.specs.Tokens.{Tokens, joined, left_for, led_from, with_all}
use Rattle.net_board.specs.WokenNodes.{switch_number}
use Rattle.net_board.proofs.FiringLaws.{led_below, merged_marking, out_below, some_edge, switched_marking, with_all_below}
use Rattle.net_board.proofs.ListPlaces.{length_slice_set, length_with_all}
use Rattle.net_board.proofs.NodeLaws.{in_lines}
use Rattle.op_board.specs.Operations.{is_decision}
use Rattle.op_board.specs.Effects.{Effect}
use Rattle.op_board.specs.OperationNets.{OperationNet, is_last_at, last_needed, needed, operation_at}
use Rattle.op_board.specs.OperationTokens.{OperationTokens, fired_as, givers, moved_on, operated, operated_on, passed_after, performed_at, stopped_by, taken_values, trapped_tokens, zero_effect}
use Rattle.op_board.specs.SoundOperationNets.{IsOperationMarking}
use Rattle.op_board.proofs.OperationEffects.{IfPerformed, IsEffectFramed}
use Rattle.op_board.proofs.OperationNumbers.{IsOperationNamed, switch_line}
use Rattle.op_board.proofs.ReplacedItems.{length_replaced}

module _ (ground : ProgramFacts) (x : OperationNet) (is : IsNet x.net) where
  sizes_after : (m : Memory) (needs : ℕ → Bool) (effect : Effect) → HasSizesOf x.net.program m → IsEffectFramed is.classes needs m effect → HasSizesOf x.net.program effect.memory
  sizes_after m needs effect sizes framed = record { words = framed.words ∙ sizes.words; counts = framed.counts ∙ sizes.counts; steps = framed.steps ∙ sizes.steps }

  one : (a b : ℕ) → Some a ≡ Some b → a ≡ b
  one a b e = cc

  none : (e : ℕ) → None ≡ Some e → e < edge_count (graph_in x.net)
  none e at = absurd cc

  led_some : (edge line e : ℕ) → edge < edge_count (graph_in x.net) → line < x.net.routing.lines → led_from x.net edge line ≡ Some e → e < edge_count (graph_in x.net)
  led_some edge line e exists below at = subst (λ d. d < edge_count (graph_in x.net)) (one (next_at x.net.routing line edge) e at) (led_below ground x.net is edge line exists below)

  edges_long : (m : Tokens) (piece edge : ℕ) (b : Bool) → length (if b then with_all m.edges (switches x.net piece) (λ switch. Some edge) else m.edges) ≡ length m.edges
  edges_long m piece edge true = length_with_all m.edges (switches x.net piece) (λ switch. Some edge)
  edges_long m piece edge false = refl

  edges_lie : (m : Tokens) (piece edge : ℕ) (b : Bool) → edge < edge_count (graph_in x.net) → IsMarking x.net m → (k e : ℕ) → joined (slice_get (if b then with_all m.edges (switches x.net piece) (λ switch. Some edge) else m.edges) k) ≡ Some e → e < edge_count (graph_in x.net)
  edges_lie m piece edge true exists mark = with_all_below (edge_count (graph_in x.net)) m.edges (switches x.net piece) (λ switch. Some edge) mark.lie (λ k e t at. subst (λ d. d < edge_count (graph_in x.net)) (one edge e at) exists)
  edges_lie m piece edge false exists mark = mark.lie

  moved_marking : (m : OperationTokens) (piece i : ℕ) (effect : Effect) → HasSizesOf x.net.program effect.memory → IsMarking x.net m.tokens → IsMarking x.net (moved_on x m piece i (operation_at x piece i).work effect)
  moved_marking m piece i effect sizes mark =
      let edge : ℕ = out (graph_in x.net) piece effect.choice in
      let exists : edge < edge_count (graph_in x.net) = out_below (graph_in x.net) piece effect.choice (some_edge ground x.net is) in
      record {
        lines = length_with_all m.tokens.lines (last_needed x piece i) (led_from x.net edge) ∙ mark.lines;
        nodes = edges_long m.tokens piece edge (is_decision (operation_at x piece i).work) ∙ mark.nodes;
        stand = with_all_below (edge_count (graph_in x.net)) m.tokens.lines (last_needed x piece i) (led_from x.net edge) mark.stand
            (λ line e t at. led_some edge line e exists (in_lines x.net line ((Member-filtered (λ line. x.needs piece i line && is_last_at x piece i line) (all_lines x.net) line t).0)) at);
        lie = edges_lie m.tokens piece edge (is_decision (operation_at x piece i).work) exists mark;
        memory = sizes;
      }

  values_long : (m : OperationTokens) (piece i : ℕ) → length (taken_values x m piece (operation_at x piece i)) ≡ length m.values
  values_long m piece i = length_replaced m.values (givers x piece (operation_at x piece i).operands) (λ k. None)

  on_marking : (m : OperationTokens) (k piece i : ℕ) (effect : Effect) → HasSizesOf x.net.program effect.memory → IsOperationMarking x m → IsOperationMarking x (operated_on x m k piece i (operation_at x piece i) effect)
  on_marking m k piece i effect sizes mark = record {
    tokens = moved_marking m piece i effect sizes mark.tokens;
    passed = length_replaced m.passed (needed x piece i) (passed_after x m piece i) ∙ mark.passed;
    values = length_slice_set (taken_values x m piece (operation_at x piece i)) k effect.value ∙ values_long m piece i ∙ mark.values;
  }

  trapped_marking : (m : OperationTokens) (piece i : ℕ) (trap : Kind_of_trap) → IsMarking x.net m.tokens → IsMarking x.net (trapped_tokens x m piece i trap)
  trapped_marking m piece i trap mark = record {
    lines = length_with_all m.tokens.lines (needed x piece i) (λ line. None) ∙ mark.lines;
    nodes = mark.nodes;
    stand = with_all_below (edge_count (graph_in x.net)) m.tokens.lines (needed x piece i) (λ line. None) mark.stand (λ line e t at. none e at);
    lie = mark.lie;
    memory = mark.memory;
  }

  stopped_marking : (m : OperationTokens) (piece i : ℕ) (trap : Kind_of_trap) → IsOperationMarking x m → IsOperationMarking x (stopped_by x m piece i (operation_at x piece i) trap)
  stopped_marking m piece i trap mark = record {
    tokens = trapped_marking m piece i trap mark.tokens;
    passed = length_replaced m.passed (needed x piece i) (λ line. 0) ∙ mark.passed;
    values = values_long m piece i ∙ mark.values;
  }

  trap_marking : (m : OperationTokens) (k piece i : ℕ) (trap : Kind_of_trap) (b : Bool) → IsOperationMarking x m
      → IsOperationMarking x (if b then stopped_by x m piece i (operation_at x piece i) trap else operated_on x m k piece i (operation_at x piece i) (zero_effect m (operation_at x piece i).work))
  trap_marking m k piece i trap true mark = stopped_marking m piece i trap mark
  trap_marking m k piece i trap false mark = on_marking m k piece i (zero_effect m (operation_at x piece i).work) mark.tokens.memory mark

  operated_marking : (m : OperationTokens) (k piece i : ℕ) (r : Result Effect Kind_of_trap) → IfPerformed r (IsEffectFramed is.classes (x.needs piece i) m.tokens.memory) → IsOperationMarking x m → IsOperationMarking x (operated x m k piece i (operation_at x piece i) r)
  operated_marking m k piece i (Ok effect) framed mark = on_marking m k piece i effect (sizes_after m.tokens.memory (x.needs piece i) effect mark.tokens.memory framed) mark
  operated_marking m k piece i (Err trap) framed mark = trap_marking m k piece i trap (x.needs piece i 0) mark

  -- an operation is one of its piece that has an effect within what it needs
  abbrev pub IsFramedAt : OperationTokens → NodeName → Type 0
  IsFramedAt m (Op piece i) = IfPerformed (performed_at x m piece (operation_at x piece i)) (IsEffectFramed is.classes (x.needs piece i) m.tokens.memory)
  IsFramedAt m _ = Unit {0}

  pub fired_marking : (m : OperationTokens) (k : ℕ) (name : NodeName) → IsOperationNamed x name → IsFramedAt m name → IsOperationMarking x m → IsOperationMarking x (fired_as x m k name)
  fired_marking m k (Op piece i) named framed mark = operated_marking m k piece i (performed_at x m piece (operation_at x piece i)) framed mark
  fired_marking m k (Switch piece line) named framed mark = record {
    tokens = switched_marking ground x.net is m.tokens (switch_number x.net piece line) line (left_for m.tokens (switch_number x.net piece line)) refl ((switch_line x.net piece line (kind_in x.net piece) named.fits.2).exists) mark.tokens;
    passed = length_slice_set m.passed line 0 ∙ mark.passed;
    values = mark.values;
  }
  fired_marking m k (Merge piece line) named framed mark = record {
    tokens = merged_marking ground x.net is m.tokens piece line (named.fits.2) mark.tokens;
    passed = length_slice_set m.passed line 0 ∙ mark.passed;
    values = mark.values;
  }
  fired_marking m k (Act piece) named framed mark = mark
