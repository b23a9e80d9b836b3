use Rattle.f77_tree.specs.declared.programs.Program.{Program}
use Rattle.f77_tree.specs.WellFormed.{IsWellFormed}
use Rattle.dep_routing.specs.Touches.{exec_kind}
use Rattle.net_board.specs.Nodes.{kind_in}
use Rattle.op_board.proofs.ListEnds.{RunsExecutables, decisions_end, lists_fitting, piece_fits}
use Rattle.op_board.proofs.OperationCounts.{piece_few}
use Rattle.op_board.proofs.structure_laws.pieces_have_operations.Goals as goal

pub returns-clause-lists : goal.returns-clause-lists
returns-clause-lists c = λ x piece is exists acts. lists_fitting x.net.program.names (kind_in x.net piece) (exec_kind x.net.program piece) (piece_fits x.net.program (runs x.net.program is.is_net.program) piece exists acts)
  where
    runs : (p : Program) → IsWellFormed p → RunsExecutables p
    runs p well = record {
      acts = λ piece exists is. c.pieces_run_executables.ensures.acts p.names p.execs p.loops piece well.execs exists is;
      branches = λ piece exists is. c.pieces_run_executables.ensures.branches p.names p.execs p.loops piece well.execs exists is;
    }

pub returns-clause-decisions : goal.returns-clause-decisions
returns-clause-decisions c = λ x piece i op at. decisions_end x.net.program.names (kind_in x.net piece) (exec_kind x.net.program piece) i op at

pub returns-clause-few : goal.returns-clause-few
returns-clause-few c = λ x piece. piece_few x.net.program piece (kind_in x.net piece)
