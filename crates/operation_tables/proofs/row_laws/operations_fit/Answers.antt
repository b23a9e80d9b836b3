use Rattle.dep_routing.specs.Touches.{exec_kind}
use Rattle.net_board.specs.Nodes.{kind_in}
use Rattle.op_board.specs.OperationNets.{operation_at}
use Rattle.operation_tables.proofs.RowLawLemmas.{operation_found, piece_acts, piece_can, room_of}
use Rattle.operation_tables.proofs.row_laws.operations_fit.Goals as goal

pub returns-clause-fits : goal.returns-clause-fits
returns-clause-fits c = λ x piece i is inside.
    let p = x.net.program in
    c.operations_fit_their_programs.ensures p (kind_in x.net piece) (exec_kind p piece) (piece_can p is.is_net.can_run piece) i (operation_at x piece i) (operation_found x piece i inside)

pub returns-clause-room : goal.returns-clause-room
returns-clause-room c = λ x piece i is exists inside.
    room_of x piece i (c.pieces_have_operations.ensures.lists x piece is exists (piece_acts x piece i inside)) inside
