use Rattle.std.proofs.Common.{◌≡◌, ◌≤◌, ℤ, List, length, map, vec_capacity, refl, ap, subst, sym, ◌∙◌, arith, rules}
use mathlib.Core.Logic.{∥∥₁_elim}
use Rattle.std.proofs.Props.{props}
use Rattle.std.proofs.lemmas.List.{length-map}
use Rattle.f77_meaning.specs.Room.{most_room}
use Rattle.f77_meaning.specs.Storage.{memory_of}
use Rattle.op_board.specs.Effects.{performed}
use Rattle.op_board.specs.OperationNets.{operation_at}
use Rattle.op_board.specs.OperationTokens.{operand_in}
use Rattle.operation_lists.specs.Seen.{operand_seen}
use Rattle.operation_effects.specs.Tasks.{TakesOperands, task_room}
use Rattle.operation_tables.specs.BoardView.{operation_net_on}
use Rattle.op_net.specs.FiringChanges.{remembered}
use Rattle.operation_tables.specs.OperationRows.{IsRow}
use Rattle.operation_places.specs.PlacesView.{standing}
use Rattle.op_net.proofs.FiringParts.{args_same}
use Rattle.op_net.proofs.PlacesKept.{taken_kept}
use Rattle.op_net.proofs.TaskPropositions.{can_prop, result_prop, takes_prop}
use Rattle.op_net.proofs.net_firing.work_with_many.Goals as goal

pub perform-requires-clause-task : goal.perform-requires-clause-task
perform-requires-clause-task g c =
    let x = operation_net_on c.args.board.now in
    ∥∥₁_elim c.requires.row (can_prop x.net.program c.args.row.now.task) (λ (row : IsRow x c.args.piece c.args.i c.args.row.now). row.can)

pub perform-requires-clause-operands : goal.perform-requires-clause-operands
perform-requires-clause-operands g c =
    let x = operation_net_on c.args.board.now in
    let piece = c.args.piece in
    let i = c.args.i in
    let ops = (operation_at x piece i).operands in
    let same : c.as_slice.result.now ≡ c.take_operands.new.args.items = search rules in
    let args : c.as_slice.result.now ≡ map (operand_in x (standing c.args.places.now) piece) ops = same ∙ c.take_operands.ensures.args in
    ∥∥₁_elim c.requires.row (takes_prop c.args.row.now.task (length c.as_slice.result.now)) (λ (row : IsRow x piece i c.args.row.now).
    subst (TakesOperands c.args.row.now.task) (sym (length-map c.args.row.now.operands.items operand_seen) ∙ ap length row.operands ∙ sym (length-map ops (operand_in x (standing c.args.places.now) piece)) ∙ ap length (sym args)) row.takes)

pub perform-requires-clause-room : goal.perform-requires-clause-room
perform-requires-clause-room g c =
    let x = operation_net_on c.args.board.now in
    ∥∥₁_elim c.requires.row (hlevel props) (λ (row : IsRow x c.args.piece c.args.i c.args.row.now).
    let room : task_room c.args.row.now.task ≤ most_room x.net.program.execs = row.room in
    let enough : most_room x.net.program.execs ≤ vec_capacity c.args.draft.now = c.requires.draft_room in
    omega (arith, room, enough))

pub returns-clause-effect : goal.returns-clause-effect
returns-clause-effect g c =
    let x = operation_net_on c.args.board.now in
    let m = standing c.args.places.now in
    let memory = memory_of c.args.storage.now in
    let piece = c.args.piece in
    let i = c.args.i in
    let ops = (operation_at x piece i).operands in
    let same : c.as_slice.result.now ≡ c.take_operands.new.args.items = search rules in
    let args : c.as_slice.result.now ≡ map (operand_in x m piece) ops = same ∙ c.take_operands.ensures.args in
    ∥∥₁_elim c.requires.row (result_prop _ _) (λ (row : IsRow x piece i c.args.row.now).
    ap (performed x.net.program.names x.net.input memory (operation_at x piece i).work) (args_same x piece (remembered m memory) m refl ops ∙ sym args)
    ∙ ap (λ (data' : List ℤ). performed x.net.program.names data' memory (operation_at x piece i).work c.as_slice.result.now) (sym c.requires.«data»)
    ∙ c.perform.ensures.effect (operation_at x piece i).work row.task)

pub returns-clause-places : goal.returns-clause-places
returns-clause-places g c = taken_kept c.args.board.now c.args.places.now c.take_operands.new.places c.requires.places c.take_operands.ensures.kept c.args.piece c.args.i c.take_operands.ensures.standing
