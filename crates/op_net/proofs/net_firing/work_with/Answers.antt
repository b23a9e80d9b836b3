use Rattle.std.proofs.Common.{◌≡◌, ◌≤◌, ◌+◌, ℕ, ℤ, List, length, take, vec_capacity, refl, ap, subst, sym, ◌∙◌, arith, rules}
use mathlib.Core.Logic.{∥∥₁_elim}
use Rattle.std.proofs.Props.{props}
use Rattle.std.proofs.lemmas.List.{length-map}
use Rattle.f77_meaning.specs.Room.{most_room}
use Rattle.f77_meaning.specs.Storage.{memory_of}
use Rattle.op_board.specs.Effects.{performed}
use Rattle.op_board.specs.OperationNets.{first_operation, operation_at}
use Rattle.op_board.specs.OperationTokens.{givers, operand_in}
use Rattle.operation_lists.specs.Seen.{operand_seen}
use Rattle.operation_effects.specs.Tasks.{TakesOperands, task_room}
use Rattle.operation_tables.specs.BoardView.{operation_net_on}
use Rattle.op_net.specs.FiringChanges.{remembered}
use Rattle.operation_tables.specs.OperationRows.{IsRow}
use Rattle.operation_places.specs.PlacesView.{IsAheadBy, MakesUp, standing}
use Rattle.op_net.proofs.FiringParts.{args_same}
use Rattle.op_net.proofs.PlacesKept.{taken_kept}
use Rattle.operation_tables.proofs.RowOperands.{taken_three}
use Rattle.op_net.proofs.RowReads.{row_at_most, row_count, row_count_low}
use Rattle.op_net.proofs.TaskPropositions.{can_prop, result_prop, takes_prop}
use Rattle.op_net.proofs.net_firing.work_with.Goals as goal

pub take_few-few-requires : goal.take_few-few-requires
take_few-few-requires g c =
    let x = operation_net_on c.args.board.now in
    let ops = (operation_at x c.args.piece c.args.i).operands in
    let few : length ops ≤ 3 = row_at_most x c.args.piece c.args.i c.args.row.now c.requires.row c.if-row-eq-MANY.false in
    let there : first_operation x c.args.piece + c.args.i ≡ c.args.first + c.args.i = ap (λ (n : ℕ). n + c.args.i) (sym c.requires.first) in
    let ahead = subst (λ (k : ℕ). ∥ IsAheadBy x c.args.places.now k (length (givers x c.args.piece ops)) ∥₁) there c.requires.ahead in
    (omega arith, (c.requires.piece, (c.requires.operation, (c.requires.first, (c.requires.row, (few, (c.requires.places, (ahead, c.requires.given))))))))

pub slice_bounds-perform-end : goal.slice_bounds-perform-end
slice_bounds-perform-end g c =
    let low : c.args.row.now.count ≤ 3 = row_count_low (operation_net_on c.args.board.now) c.args.piece c.args.i c.args.row.now c.requires.row c.if-row-eq-MANY.false in
    search (rules, low)

pub perform-requires-clause-task : goal.perform-requires-clause-task
perform-requires-clause-task g c =
    let x = operation_net_on c.args.board.now in
    ∥∥₁_elim c.requires.row (can_prop x.net.program c.args.row.now.task) (λ (row : IsRow x c.args.piece c.args.i c.args.row.now). row.can)

pub perform-requires-clause-operands : goal.perform-requires-clause-operands
perform-requires-clause-operands g c =
    let x = operation_net_on c.args.board.now in
    let piece = c.args.piece in
    let i = c.args.i in
    let ops = (operation_at x piece i).operands in
    let f = operand_in x (standing c.args.places.now) piece in
    let told : c.from.result ≡ c.args.row.now.count = search rules in
    let low = row_count_low x piece i c.args.row.now c.requires.row c.if-row-eq-MANY.false in
    let args = taken_three f ops c.from.result c.take_few-few.result (told ∙ row_count x piece i c.args.row.now c.requires.row c.if-row-eq-MANY.false) (omega (arith, told, low)) c.take_few-few.ensures.args in
    ∥∥₁_elim c.requires.row (takes_prop c.args.row.now.task (length (take c.from.result c.take_few-few.result))) (λ (row : IsRow x piece i c.args.row.now).
    subst (TakesOperands c.args.row.now.task) (sym (length-map c.args.row.now.operands.items operand_seen) ∙ ap length row.operands ∙ sym (length-map ops f) ∙ ap length (sym args)) row.takes)

pub perform-requires-clause-room : goal.perform-requires-clause-room
perform-requires-clause-room g c =
    let x = operation_net_on c.args.board.now in
    ∥∥₁_elim c.requires.row (hlevel props) (λ (row : IsRow x c.args.piece c.args.i c.args.row.now).
    let room : task_room c.args.row.now.task ≤ most_room x.net.program.execs = row.room in
    let enough : most_room x.net.program.execs ≤ vec_capacity c.args.draft.now = c.requires.draft_room in
    omega (arith, room, enough))

pub returns-clause-effect : goal.returns-clause-effect
returns-clause-effect g c =
    let x = operation_net_on c.args.board.now in
    let m = standing c.args.places.now in
    let memory = memory_of c.args.storage.now in
    let piece = c.args.piece in
    let i = c.args.i in
    let ops = (operation_at x piece i).operands in
    let f = operand_in x m piece in
    let told : c.from.result ≡ c.args.row.now.count = search rules in
    let low = row_count_low x piece i c.args.row.now c.requires.row c.if-row-eq-MANY.false in
    let args = taken_three f ops c.from.result c.take_few-few.result (told ∙ row_count x piece i c.args.row.now c.requires.row c.if-row-eq-MANY.false) (omega (arith, told, low)) c.take_few-few.ensures.args in
    ∥∥₁_elim c.requires.row (result_prop _ _) (λ (row : IsRow x piece i c.args.row.now).
    ap (performed x.net.program.names x.net.input memory (operation_at x piece i).work) (args_same x piece (remembered m memory) m refl ops ∙ sym args)
    ∙ ap (λ (data' : List ℤ). performed x.net.program.names data' memory (operation_at x piece i).work (take c.from.result c.take_few-few.result)) (sym c.requires.«data»)
    ∙ c.perform.ensures.effect (operation_at x piece i).work row.task)

pub returns-clause-counted : goal.returns-clause-counted
returns-clause-counted g c =
    let x = operation_net_on c.args.board.now in
    let ops = (operation_at x c.args.piece c.args.i).operands in
    let there : c.args.first + c.args.i ≡ first_operation x c.args.piece + c.args.i = ap (λ (n : ℕ). n + c.args.i) c.requires.first in
    subst (λ (k : ℕ). MakesUp x c.args.places.now c.take_few-few.new.places k (length (givers x c.args.piece ops))) there c.take_few-few.ensures.counted

pub returns-clause-places : goal.returns-clause-places
returns-clause-places g c = taken_kept c.args.board.now c.args.places.now c.take_few-few.new.places c.requires.places c.take_few-few.ensures.kept c.args.piece c.args.i c.take_few-few.ensures.standing
