use mathlib.Core.Logic.{∥∥₁_elim}
use Rattle.std.proofs.Props.{props}
use Rattle.op_net.specs.NetView.{net_of}
use Rattle.operation_tables.specs.OperationRows.{IsRow}
use Rattle.op_net.proofs.net.OpNet.gives.Goals as goal

pub returns : goal.returns
returns g c = ∥∥₁_elim c.row.ensures (hlevel props) (λ (row : IsRow (net_of c.args.self.now) c.args.piece c.args.i c.row.result.now). row.gives)
