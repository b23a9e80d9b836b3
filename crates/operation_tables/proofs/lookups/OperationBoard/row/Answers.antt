use Rattle.std.proofs.Common.{◌≡◌, ◌+◌, ℕ, get_or, subst, arith}
use Rattle.operation_tables.proofs.LookedUp.{row_exists, row_is, start_is, starts_long}
use Rattle.operation_tables.proofs.lookups.OperationBoard.row.Goals as goal

pub index-requires : goal.index-requires
index-requires g c = let long = starts_long c.args.self.now in omega (arith, long, c.requires.piece)

pub overflow_add-index : goal.overflow_add-index
overflow_add-index g c =
    let board = c.args.self.now in
    let start = start_is board c.args.piece c.index.result.now (omega (arith, c.requires.piece)) c.index.ensures in
    let low = row_exists board c.args.piece c.args.i c.requires.piece c.requires.operation in
    let few = board.own_tables.rows.few in
    omega (arith, start, low, few)

pub index-requires-2 : goal.index-requires-2
index-requires-2 g c =
    let board = c.args.self.now in
    let start = start_is board c.args.piece c.index.result.now (omega (arith, c.requires.piece)) c.index.ensures in
    let low = row_exists board c.args.piece c.args.i c.requires.piece c.requires.operation in
    omega (arith, start, low)

pub returns : goal.returns
returns g c =
    let board = c.args.self.now in
    let start = start_is board c.args.piece c.index.result.now (omega (arith, c.requires.piece)) c.index.ensures in
    row_is board c.args.piece c.args.i c.index-2.result.now c.requires.piece c.requires.operation (subst (λ (n : ℕ). c.index-2.result.now ≡ get_or board.tables.rows.items (n + c.args.i) c.index-2.result.now) start c.index-2.ensures)
