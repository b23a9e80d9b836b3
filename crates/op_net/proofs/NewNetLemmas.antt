-- The marking of a net of operations before any firing.
use Rattle.std.proofs.Common.{ℤ, Bool, List, ◌≡◌, ◌≤◌, ℕ, true, false, length, None, Some, sym, ap, ◌∙◌, subst, arith}
use Rattle.std.proofs.lemmas.List.{length-map, length-replicate}
use Rattle.std.proofs.lemmas.List.Elements.{All-weaker}
use Rattle.std.proofs.lemmas.List.FromFn.{length-range_with_len}
use Rattle.f77_tree.specs.declared.programs.Program.{Program}
use Rattle.f77_tree.specs.Execution.{Memory}
use Rattle.f77_tree.specs.Run.{first_memory}
use Rattle.dep_routing.specs.Routing.{Routing}
use Rattle.firing.specs.Control.{IsInStep, KeepsStep}
use Rattle.firing.specs.SourceOrder.{IsSourceOrder}
use Rattle.net_board.specs.declared.control.Control.{Control}
use Rattle.net_board.specs.ControlCourse.{first_control}
use Rattle.net_board.specs.NetParts.{net_with}
use Rattle.net_board.specs.Nodes.{NetOf, all_lines, nodes_of}
use Rattle.net_board.specs.TokenEdges.{edge_at}
use Rattle.net_board.specs.Tokens.{led_from}
use Rattle.op_board.specs.OperationCourse.{operation_course}
use Rattle.op_board.specs.OperationLockstep.{IsInOperationLockstep}
use Rattle.op_board.specs.OperationNets.{OperationNet}
use Rattle.op_board.specs.OperationTokens.{OperationTokens, first_operation_tokens, operation_moves}
use Rattle.op_board.specs.SoundOperationNets.{OperationsCanCome}
use Rattle.op_board.specs.WholePieces.{PassesWhole}
use Rattle.operation_places.specs.declared.leads.Lead.{Lead}
use Rattle.operation_places.specs.declared.places.Places.{Places}
use Rattle.operation_places.specs.FirstPlaces.{AreFirstPlaces}
use Rattle.operation_places.specs.Leads.{IsLead}
use Rattle.operation_places.specs.PlacesView.{IsCounted}
use Rattle.operation_places.specs.SoundPlaces.{ArePlaces}
use Rattle.op_net.specs.StaysInStep.{StaysInStep}
use Rattle.operation_tables.specs.Waits.{node_total}

module _ (x : OperationNet) (s : Places) (first : AreFirstPlaces x s) where
  pub own_places : OperationsCanCome x (first_operation_tokens x) → ArePlaces x s
  own_places come = record {
    lines = ap length first.lines ∙ length-map (all_lines x.net) (led_from x.net 1) ∙ length-range_with_len 0 x.net.routing.lines;
    passed = ap length first.passed ∙ length-replicate x.net.routing.lines 0;
    edges = ap length first.edges ∙ length-replicate (length (nodes_of x.net)) None;
    values = ap length first.values ∙ length-replicate (node_total x) None;
    marks = ap length first.marks ∙ length-replicate (node_total x) false;
    room = first.room;
    stand = λ k edge is. come.is_marking.tokens.stand k edge (ap (λ xs. edge_at xs k) (sym first.lines) ∙ is);
    lie = λ k edge is. come.is_marking.tokens.lie k edge (ap (λ xs. edge_at xs k) (sym first.edges) ∙ is);
  }

  no_line : (lead : Lead) → x.net.routing.lines ≤ lead.line → IsLead x lead
  no_line lead past = record {
    wire = λ inside. absurd (omega (arith, past, inside));
    node = λ inside. absurd (omega (arith, past, inside));
  }

  pub not_counted : IsCounted x s
  not_counted = record {
    counts = λ is. let e : false ≡ true = sym first.counted ∙ is in absurd cc;
    marks = λ is. let e : false ≡ true = sym first.counted ∙ is in absurd cc;
    none = λ is. first.counts;
    leads = All-weaker (λ (lead : Lead). x.net.routing.lines ≤ lead.line) (IsLead x) no_line s.leads.items first.leads;
  }

  pub first_marking : (memory : Memory) → memory ≡ first_memory x.net.program → record { tokens = record { lines = s.lines.items; edges = s.edges.items; memory = memory; trap = None }; passed = s.passed.items; values = s.values.items } ≡ first_operation_tokens x
  first_marking memory is = λ i. record { tokens = record { lines = first.lines i; edges = first.edges i; memory = is i; trap = None }; passed = first.passed i; values = first.values i }

-- the memory of a program before any step is that of its net
pub memory_first : (net : NetOf) (p : Program) (input : List ℤ) (touches : (piece line : ℕ) → Bool) (routing : Routing) (memory : Memory) → net ≡ net_with p input touches routing → memory ≡ first_memory p → memory ≡ first_memory net.program
memory_first net p input touches routing memory same is = is ∙ ap (λ (y : NetOf). first_memory y.program) (sym same)

module _ (x : OperationNet) (m : OperationTokens) (is : m ≡ first_operation_tokens x) where
  pub can_come : OperationsCanCome x (first_operation_tokens x) → OperationsCanCome x m
  can_come come = subst (λ t. OperationsCanCome x t) (sym is) come

  pub in_step : (c : Control) → c ≡ first_control x.net → IsInOperationLockstep x (first_operation_tokens x) (first_control x.net) → KeepsStep (OperationsCanCome x) (operation_moves x) (operation_course x) (IsInOperationLockstep x) → IsSourceOrder (OperationsCanCome x) (operation_moves x) (operation_course x) (IsInOperationLockstep x) → PassesWhole x → IsInStep (operation_moves x) (StaysInStep x) m (Some c)
  in_step c stands begins steady ordered passes none = record {
    lockstep = subst (λ (p : Control). IsInOperationLockstep x m p) (sym stands) (subst (λ t. IsInOperationLockstep x t (first_control x.net)) (sym is) begins);
    steady = steady;
    ordered = ordered;
    passes = passes;
  }
