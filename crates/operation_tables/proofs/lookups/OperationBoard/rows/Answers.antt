use Rattle.std.proofs.Common.{◌≡◌, ◌≤◌, ◌+◌, ◌-◌, ◌∙◌, ℕ, List, Some, length, drop, take, slice_get, ap, sym, arith, length-drop}
use lib.Seq.{length-take-le}
use Rattle.operation_tables.specs.BoardView.{operation_net_on}
use Rattle.operation_tables.specs.PieceTables.{rows_before}
use Rattle.operation_tables.specs.declared.rows.Row.{Row}
use Rattle.operation_tables.proofs.FirstRows.{part_at}
use Rattle.operation_tables.proofs.LookedUp.{end_is, rows_end, start_is, starts_long}
use Rattle.operation_tables.proofs.lookups.OperationBoard.rows.Goals as goal

pub index-requires : goal.index-requires
index-requires g c = let long = starts_long c.args.self.now in omega (arith, long, c.requires)

pub index-requires-2 : goal.index-requires-2
index-requires-2 g c = let long = starts_long c.args.self.now in omega (arith, long, c.requires)

pub slice_bounds-result-count : goal.slice_bounds-result-count
slice_bounds-result-count g c =
    let board = c.args.self.now in
    let start = start_is board c.args.piece c.index.result.now (omega (arith, c.requires)) c.index.ensures in
    let end = end_is board c.args.piece c.index-2.result.now c.requires c.index-2.ensures in
    omega (arith, start, end)

pub slice_bounds-result-start : goal.slice_bounds-result-start
slice_bounds-result-start g c =
    let board = c.args.self.now in
    let start = start_is board c.args.piece c.index.result.now (omega (arith, c.requires)) c.index.ensures in
    let end = end_is board c.args.piece c.index-2.result.now c.requires c.index-2.ensures in
    let order : c.index.result.now ≤ c.index-2.result.now = omega (arith, start, end) in
    order

pub slice_bounds-result-end : goal.slice_bounds-result-end
slice_bounds-result-end g c =
    let board = c.args.self.now in
    let end = end_is board c.args.piece c.index-2.result.now c.requires c.index-2.ensures in
    let within = rows_end board c.args.piece c.requires in
    let size = ap length c.deref.ensures.value in
    let order : c.index-2.result.now ≤ length c.deref.result.now = omega (arith, end, within, size) in
    order

pub returns-clause-count : goal.returns-clause-count
returns-clause-count g c =
    let board = c.args.self.now in
    let from = c.index.result.now in
    let all = c.deref.result.now in
    let start = start_is board c.args.piece from (omega (arith, c.requires)) c.index.ensures in
    let end = end_is board c.args.piece c.index-2.result.now c.requires c.index-2.ensures in
    let within = rows_end board c.args.piece c.requires in
    let size = ap length c.deref.ensures.value in
    let rest : length (drop from all) ≡ length all - from = length-drop from all in
    let count : length (take (c.index-2.result.now - from) (drop from all)) ≡ c.index-2.result.now - from = length-take-le (c.index-2.result.now - from) (drop from all) (omega (arith, rest, start, end, within, size)) in
    omega (arith, count, start, end)

pub returns-clause-rows : goal.returns-clause-rows
returns-clause-rows g c = λ i row at.
    let board = c.args.self.now in
    let from = c.index.result.now in
    let start = start_is board c.args.piece from (omega (arith, c.requires)) c.index.ensures in
    let end = end_is board c.args.piece c.index-2.result.now c.requires c.index-2.ensures in
    let part = part_at c.deref.result.now from (c.index-2.result.now - from) i row at in
    let low = part.0 in
    let there : slice_get board.tables.rows.items (rows_before (operation_net_on board) c.args.piece + i) ≡ Some row = ap (λ (n : ℕ). slice_get board.tables.rows.items (n + i)) (sym start) ∙ ap (λ (rows : List Row). slice_get rows (from + i)) (sym c.deref.ensures.value) ∙ part.1 in
    board.own_tables.rows.rows c.args.piece i row c.requires (omega (arith, low, start, end)) there
