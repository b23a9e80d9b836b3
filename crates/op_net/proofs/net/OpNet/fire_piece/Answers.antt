use Rattle.std.proofs.Common.{◌≡◌, ℕ, None, Option, Some, refl, sym, ap, subst, ◌∙◌, rules, arith}
use Rattle.cfg_build.specs.Passes.{out}
use Rattle.f77_meaning.specs.Storage.{memory_of}
use Rattle.firing.specs.declared.system.Fired.{Fired}
use Rattle.firing.specs.Moves.{newest}
use Rattle.net_board.specs.ControlCourse.{arrived}
use Rattle.net_board.specs.Nodes.{graph_in}
use Rattle.net_board.specs.Tokens.{written}
use Rattle.op_board.specs.Effects.{Effect}
use Rattle.op_board.specs.OperationNets.{OperationNet}
use Rattle.op_board.specs.WholePieces.{PiecePasses, piece_passed}
use Rattle.operation_places.specs.declared.places.Places.{Places}
use Rattle.op_net.specs.FiringChanges.{remembered}
use Rattle.op_net.specs.NetFirings.{FiresWhole, IsAsBefore}
use Rattle.op_net.specs.NetView.{marking_of, net_of}
use Rattle.op_net.specs.PieceEnds.{effect_told}
use Rattle.operation_places.specs.StandingChanges.{lines_led}
use Rattle.operation_places.specs.Visits.{IsVisit}
use Rattle.op_net.proofs.NetFirings.{marking_passed, memory_told, passes_told}
use Rattle.op_net.proofs.NextNets.{marking_told}
use Rattle.op_net.proofs.net.OpNet.fire_piece.Goals as goal

pub returns-in_err-end-clause-fires : goal.returns-in_err-end-clause-fires
returns-in_err-end-clause-fires g c =
    let none : c.perform_operations.result ≡ None = search rules in
    let told : c.from_residual.result ≡ None = search rules in
    let did = c.perform_operations.ensures in
    let same : IsAsBefore c.args.self.now c.perform_operations.new.self = record { net = did.net; marking = did.none none; control = did.control; line = did.text } in
    subst (λ (r : Option Fired). FiresWhole c.args.self.now c.args.visit.now r c.perform_operations.new.self c.args.visit.now) (sym told) (same, refl)

pub returns-in_err-end-clause-visit : goal.returns-in_err-end-clause-visit
returns-in_err-end-clause-visit g c = subst (λ (y : OperationNet). IsVisit y c.args.visit.now) (sym c.perform_operations.ensures.net) c.requires.visit

pub leave_piece-requires : goal.leave_piece-requires
leave_piece-requires g c =
    let performed = c.perform_operations.ensures in
    let told = c.tell_end-fired.ensures in
    (omega arith, (subst (λ (y : OperationNet). IsVisit y c.args.visit.now) (sym (told.net ∙ performed.net)) c.requires.visit, ap (λ (s : Places). s.counted) (told.kept ∙ performed.kept) ∙ c.requires.uncounted))

pub returns-clause-fires : goal.returns-clause-fires
returns-clause-fires g c =
    let x = net_of c.args.self.now in
    let m = marking_of c.args.self.now in
    let place = c.args.visit.now.control in
    let mid = c.perform_operations.new.self in
    let next = c.tell_end-fired.new.self in
    let new = c.leave_piece.new.self in
    let end = c.in_ok-end.end in
    let choice = c.tell_end-fired.result.1 in
    let some : c.perform_operations.result ≡ Some end = search rules in
    let last : Effect = effect_told end (memory_of mid.storage) mid.draft.items in
    let performed = c.perform_operations.ensures in
    let told = c.tell_end-fired.ensures in
    let left = c.leave_piece.ensures in
    let passes : PiecePasses x m place last = c.requires.in_step.passes m place last c.requires.sound c.requires.in_step.lockstep c.requires.begins c.requires.inner (performed.done end some) in
    let same : net_of next ≡ x = told.net ∙ performed.net in
    let marking : marking_of new ≡ piece_passed x m place.piece last =
    marking_told same (λ y t. lines_led y t place.piece (out (graph_in y.net) place.piece choice)) (marking_of new) (marking_of next) (remembered m (memory_of mid.storage)) left.marking (told.marking ∙ performed.marking)
    ∙ marking_passed x m place.piece choice (memory_of mid.storage) last told.choice (memory_told end (memory_of mid.storage) mid.draft.items) in
    let control : new.control ≡ Some (arrived x.net (out (graph_in x.net) place.piece last.choice)) =
    left.control
    ∙ ap (λ (y : OperationNet). Some (arrived y.net (out (graph_in y.net) place.piece choice))) same
    ∙ ap (λ (i : ℕ). Some (arrived x.net (out (graph_in x.net) place.piece i))) told.choice in
    let are = passes_told x place last passes c.requires.here c.requires.visit.count told.fired marking control (left.text ∙ told.text ∙ ap (newest (written last.text)) performed.text) in
    record { net = left.net ∙ same; to = are.to; line = are.line }
