use Rattle.std.proofs.Common.{◌≡◌, ◌<◌, ℕ, suc, length, ap, subst, arith, rules}
use Rattle.net_board.specs.Nodes.{graph_in}
use Rattle.operation_tables.specs.PieceTables.{AreFirstRows}
use Rattle.operation_tables.specs.PlanView.{operations_in}
use Rattle.operation_tables.proofs.FirstRows.{all_count, next_rows}
use Rattle.operation_tables.proofs.tables.all_rows.Goals as goal

pub overflow_cast-count : goal.overflow_cast-count
overflow_cast-count g c =
    let x = operations_in c.args.plan.now in
    let l = c.loop-piece in
    let low : l.piece < (graph_in x.net).nodes = search rules in
    let fits = c.plans_can_be_numbered.ensures.rows (suc l.piece) (omega (arith, low)) in
    let all = all_count x l.piece l.rows.items l.starts.items l.entries.items l.invariant.rows c.in_ok-own.field-0 c.in_ok-own.ensures.rows in
    let rows = ap length c.in_ok-append.ensures.items in
    omega (arith, fits, all, rows, c.len-count.ensures, c.append.new.self.ok.0)

pub loop-piece-preserved : goal.loop-piece-preserved
loop-piece-preserved g c =
    let x = operations_in c.args.plan.now in
    let l = c.loop-piece in
    let low : l.piece < (graph_in x.net).nodes = search rules in
    let fits = c.plans_can_be_numbered.ensures.rows (suc l.piece) (omega (arith, low)) in
    record {
      rows = next_rows x l.piece l.rows.items l.starts.items l.entries.items l.invariant.rows c.in_ok-own.field-0 c.in_ok-own.ensures.rows
          c.append.new.self.items c.push-in-loop-piece.new.self.items c.push-in-loop-piece-2.new.self.items c.len-count.result
          c.in_ok-append.ensures.items (omega (arith, c.len-count.ensures, c.append.new.self.ok.0)) fits c.in_ok-push-2.ensures.items c.in_ok-push-3.ensures.items;
      clean = c.in_ok-own.ensures.clean;
    }

pub returns : goal.returns
returns g c =
    let x = operations_in c.args.plan.now in
    let l = c.loop-piece in
    let all : l.piece ≡ (graph_in x.net).nodes = search rules in
    subst (λ (n : ℕ). AreFirstRows x n l.rows.items l.starts.items l.entries.items) all l.invariant.rows
