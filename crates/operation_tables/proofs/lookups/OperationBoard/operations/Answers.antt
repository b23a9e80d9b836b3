use Rattle.std.proofs.Common.{arith}
use Rattle.operation_tables.proofs.LookedUp.{end_is, start_is, starts_long}
use Rattle.operation_tables.proofs.lookups.OperationBoard.operations.Goals as goal

pub index-requires : goal.index-requires
index-requires g c = let long = starts_long c.args.self.now in omega (arith, long, c.requires)

pub index-requires-2 : goal.index-requires-2
index-requires-2 g c = let long = starts_long c.args.self.now in omega (arith, long, c.requires)

pub overflow_sub-result : goal.overflow_sub-result
overflow_sub-result g c =
    let board = c.args.self.now in
    let end = end_is board c.args.piece c.index.result.now c.requires c.index.ensures in
    let start = start_is board c.args.piece c.index-2.result.now (omega (arith, c.requires)) c.index-2.ensures in
    omega (arith, end, start)

pub returns : goal.returns
returns g c =
    let board = c.args.self.now in
    let end = end_is board c.args.piece c.index.result.now c.requires c.index.ensures in
    let start = start_is board c.args.piece c.index-2.result.now (omega (arith, c.requires)) c.index-2.ensures in
    omega (arith, end, start)
