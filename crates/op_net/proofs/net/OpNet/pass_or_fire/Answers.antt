use Rattle.std.proofs.Common.{◌≡◌, ◌≤◌, Option, Some, ap, subst, ◌∙◌, arith}
use Rattle.firing.specs.declared.system.Fired.{Fired}
use Rattle.op_board.specs.OperationCourse.{due_operation}
use Rattle.op_board.specs.OperationNets.{OperationNet}
use Rattle.op_board.proofs.LockstepOperations.{IsDueOperation, due_operation_is}
use Rattle.operation_places.specs.declared.control_moves.Visit.{Visit}
use Rattle.op_net.specs.NetFirings.{FiresWhole, IsAsBefore}
use Rattle.op_net.specs.NetView.{net_of}
use Rattle.op_net.proofs.NetFirings.{CanGoOn, can_fire_due, fired_from, fired_within, one_fired, still_goes}
use Rattle.op_net.proofs.net.OpNet.pass_or_fire.Goals as goal

pub fire_visited-requires : goal.fire_visited-requires
fire_visited-requires g c =
    let v = c.args.visit.now in
    let s = c.fire_piece.new.self in
    let w = c.fire_piece.new.visit in
    let none : IsAsBefore c.args.self.now s × (w ≡ v) = subst (λ (r : Option Fired). FiresWhole c.args.self.now v r s w) c.in-None.is c.fire_piece.ensures.fires in
    let goes : CanGoOn s = still_goes none.0 (record { is_sound = c.requires.sound; stays = c.requires.in_step; going = c.requires.going }) in
    let due : due_operation (net_of s) w.control ≡ Some c.args.k = ap (λ (y : OperationNet). due_operation y w.control) none.0.net ∙ ap (λ (u : Visit). due_operation (net_of c.args.self.now) u.control) none.1 ∙ c.requires.due in
    let can = can_fire_due s goes c.fire_piece.ensures.here due in
    (omega arith, (c.fire_piece.ensures.visit, (c.fire_piece.ensures.here, (due, (can.node, (can.ready, (goes.is_sound.is_marking.tokens.memory, goes.going)))))))

pub returns-in-None-clause-fired : goal.returns-in-None-clause-fired
returns-in-None-clause-fired g c =
    let v = c.args.visit.now in
    let s = c.fire_piece.new.self in
    let w = c.fire_piece.new.visit in
    let none : IsAsBefore c.args.self.now s × (w ≡ v) = subst (λ (r : Option Fired). FiresWhole c.args.self.now v r s w) c.in-None.is c.fire_piece.ensures.fires in
    let goes : CanGoOn s = still_goes none.0 (record { is_sound = c.requires.sound; stays = c.requires.in_step; going = c.requires.going }) in
    let due : due_operation (net_of s) w.control ≡ Some c.args.k = ap (λ (y : OperationNet). due_operation y w.control) none.0.net ∙ ap (λ (u : Visit). due_operation (net_of c.args.self.now) u.control) none.1 ∙ c.requires.due in
    let can = can_fire_due s goes c.fire_piece.ensures.here due in
    let did = c.fire_visited.ensures in
    let here : IsDueOperation (net_of c.args.self.now) v.control c.args.k = due_operation_is (net_of c.args.self.now) v.control c.args.k c.requires.due in
    let low = here.low in
    let count = c.requires.visit.count in
    let enough : 1 ≤ v.count = omega (arith, low, count) in
    fired_from none.0 (fired_within v.count enough (one_fired c.fire_piece.ensures.here due can did.net did.marking did.place did.fired did.last))
