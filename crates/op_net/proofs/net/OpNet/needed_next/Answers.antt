use Rattle.std.proofs.Common.{◌≡◌, ◌<◌, ℕ, length, Some, slice_get, true, sym, subst, arith, rules}
use Rattle.op_board.specs.OperationNets.{is_last_at, needed}
use Rattle.op_net.specs.NetView.{net_of}
use Rattle.operation_tables.specs.OperationRows.{IsNextNeed}
use Rattle.op_net.proofs.HopFacts.{hop_last, hop_next}
use Rattle.op_net.proofs.RowFacts.{row_hop, row_line_at, row_line_count}
use Rattle.op_net.proofs.net.OpNet.needed_next.Goals as goal

pub index-hop-requires : goal.index-hop-requires
index-hop-requires g c =
    let count = row_line_count (net_of c.args.self.now) c.args.piece c.args.i c.row.result.now c.row.ensures in
    omega (arith, count, c.requires.inside)

pub returns-in-Some : goal.returns-in-Some
returns-in-Some g c = λ line at.
    let x = net_of c.args.self.now in
    let row = c.row.result.now in
    let hop = c.index-hop.result.now in
    let count = row_line_count x c.args.piece c.args.i row c.row.ensures in
    let here : slice_get (needed x c.args.piece c.args.i) c.args.nth ≡ Some hop.line = row_line_at x c.args.piece c.args.i row c.row.ensures c.args.nth hop c.requires.inside c.index-hop.ensures in
    let same : hop.line ≡ line = cc in
    let low : c.args.nth < length row.hops.items = omega (arith, count, c.requires.inside) in
    let number : c.from.result ≡ c.in-Some.n = search rules in
    subst (λ (n : ℕ). IsNextNeed x c.args.piece c.args.i line n) (sym number)
    (subst (λ (l : ℕ). IsNextNeed x c.args.piece c.args.i l c.in-Some.n) same (hop_next x c.args.piece c.args.i hop (row_hop x c.args.piece c.args.i row c.row.ensures c.args.nth hop low c.index-hop.ensures) c.in-Some.n c.in-Some.is))

pub returns-in-None : goal.returns-in-None
returns-in-None g c = λ line at.
    let x = net_of c.args.self.now in
    let row = c.row.result.now in
    let hop = c.index-hop.result.now in
    let count = row_line_count x c.args.piece c.args.i row c.row.ensures in
    let here : slice_get (needed x c.args.piece c.args.i) c.args.nth ≡ Some hop.line = row_line_at x c.args.piece c.args.i row c.row.ensures c.args.nth hop c.requires.inside c.index-hop.ensures in
    let same : hop.line ≡ line = cc in
    let low : c.args.nth < length row.hops.items = omega (arith, count, c.requires.inside) in
    subst (λ (l : ℕ). is_last_at x c.args.piece c.args.i l ≡ true) same (hop_last x c.args.piece c.args.i hop (row_hop x c.args.piece c.args.i row c.row.ensures c.args.nth hop low c.index-hop.ensures) c.in-None.is)
