use Rattle.op_board.proofs.WholePieces.{pieces_pass_whole}
use Rattle.op_board.proofs.simulation_laws.operation_nets_pass_pieces_whole.Goals as goal

pub returns : goal.returns
returns c = λ x n. pieces_pass_whole x n (c.runs_ground_orders.ensures x n)
