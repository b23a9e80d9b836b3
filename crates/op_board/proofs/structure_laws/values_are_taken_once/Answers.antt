use Rattle.dep_routing.specs.Touches.{exec_kind}
use Rattle.net_board.specs.Nodes.{kind_in}
use Rattle.op_board.proofs.ValueTaking.{taken_later, taken_once}
use Rattle.op_board.proofs.structure_laws.values_are_taken_once.Goals as goal

pub returns-clause-once : goal.returns-clause-once
returns-clause-once c = λ x piece number. taken_once x.net.program.names (kind_in x.net piece) (exec_kind x.net.program piece) number

pub returns-clause-later : goal.returns-clause-later
returns-clause-later c = λ x piece i number op at takes. taken_later x.net.program.names (kind_in x.net piece) (exec_kind x.net.program piece) i number op at takes
