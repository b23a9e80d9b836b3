use Rattle.std.proofs.Common.{subst, arith}
use Rattle.std.proofs.lemmas.Grind.{merely}
use Rattle.f77_tree.specs.CanRun.{CanRun}
use Rattle.f77_tree.specs.Operations.{HasFewOperations}
use Rattle.alias_classes.specs.Classes.{ClassTable, IsClasses}
use Rattle.dep_routing.specs.Touch.{touches_in}
use Rattle.net_board.specs.Nodes.{NetOf}
use Rattle.net_tables.specs.LookupView.{net_on}
use Rattle.op_board.specs.OperationNets.{OperationNet}
use Rattle.op_board.specs.SoundOperationNets.{IsOperationNet}
use Rattle.operation_lists.specs.CanPerform.{CanPerform}
use Rattle.operation_tables.specs.PieceView.{net_with_operations}
use Rattle.operation_tables.proofs.PlanFactLemmas.{plan_facts}
use Rattle.operation_tables.proofs.PlanLemmas.{all_at, needs_are, on_net, operations_are, planned_net}
use Rattle.operation_tables.proofs.plan.make_plan.Goals as goal

pub planned_pieces-requires : goal.planned_pieces-requires
planned_pieces-requires g c =
    let net : NetOf = net_on c.in_ok-board.board in
    let p = c.args.p.now in
    let touches = touches_in c.args.touch.now in
    let own : IsClasses p c.args.c.now = subst (λ (t : ClassTable). IsClasses p t) c.requires.parts.own_classes c.requires.parts.parts.own_classes in
    let can : CanRun net.program = on_net CanRun net p c.args.input.now.items touches c.args.l.now c.in_ok-board.ensures (c.well_formed_programs_can_run.ensures p c.requires.parts.parts.program) in
    let classes : IsClasses net.program c.args.c.now = on_net (λ q. IsClasses q c.args.c.now) net p c.args.input.now.items touches c.args.l.now c.in_ok-board.ensures own in
    let modest : HasFewOperations net.program = on_net HasFewOperations net p c.args.input.now.items touches c.args.l.now c.in_ok-board.ensures c.requires.modest in
    (omega arith, (omega arith, (omega arith, (can, (classes, modest)))))

pub invariant_of-result : goal.invariant_of-result
invariant_of-result g c =
    let board = c.in_ok-board.board in
    let pieces = c.in_ok-pieces.pieces.items in
    let x : OperationNet = net_with_operations board pieces in
    let is : IsOperationNet x = planned_net board c.args.c.now pieces c.in_ok-pieces.ensures c.args.p.now c.args.f.now (touches_in c.args.touch.now) c.args.l.now c.args.input.now.items c.well_formed_programs_can_run.ensures c.known_traps_touch_output.ensures c.in_ok-board.ensures c.requires.parts c.words_are_words.ensures in
    record {
      is_net = merely is;
      facts = plan_facts x (c.operations_have_facts.ensures x is);
      every_piece = c.in_ok-pieces.ensures.every_piece;
      own_operations = λ piece o at. merely (operations_are board c.args.c.now pieces c.in_ok-pieces.ensures piece o at);
      own_needs = needs_are board c.args.c.now pieces c.in_ok-pieces.ensures;
      few_operations = λ piece o at. (c.in_ok-pieces.ensures.each piece o at).few;
      few_operands = λ piece i o op at is. (all_at (CanPerform (net_on board).program) o.operations.items (c.in_ok-pieces.ensures.each piece o at).can i op is).few;
    }

pub returns-clause-net : goal.returns-clause-net
returns-clause-net g c = c.in_ok-board.ensures

pub returns-clause-is_net : goal.returns-clause-is_net
returns-clause-is_net g c = planned_net c.in_ok-board.board c.args.c.now c.in_ok-pieces.pieces.items c.in_ok-pieces.ensures c.args.p.now c.args.f.now (touches_in c.args.touch.now) c.args.l.now c.args.input.now.items c.well_formed_programs_can_run.ensures c.known_traps_touch_output.ensures c.in_ok-board.ensures c.requires.parts c.words_are_words.ensures
