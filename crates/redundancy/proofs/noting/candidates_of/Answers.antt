use Rattle.std.proofs.Common.{◌≡◌, ◌++◌, [], List, length, map, subst, sym, arith}
use Rattle.f77_tree.specs.declared.expressions.Expr.{Expr}
use Rattle.redundancy.specs.Collected.{IsGrown}
use Rattle.redundancy.specs.Computed.{computed_by}
use Rattle.redundancy.specs.Noted.{AreRows, IsNoted, at_node}
use Rattle.redundancy.proofs.Notes.{noted_none, gathered_none, gathered_next, all_gathered, marks_tell}
use Rattle.redundancy.proofs.noting.candidates_of.Goals as goal

pub loop-node-init : goal.loop-node-init
loop-node-init c =
    let start : IsNoted (length c.args.f.now.pieces) [] c.in_ok-table.table.exprs.items c.new-rows.result.items = rw (c.in_ok-table.ensures.empty, c.new-rows.ensures.items) (noted_none (length c.args.f.now.pieces)) in
    record {
      table = c.in_ok-table.ensures.table;
      rows = start.are_rows;
      computed = [];
      gathered = gathered_none c.args.p.now.names c.args.p.now.execs c.args.f.now.pieces;
      noted = start;
    }

pub loop-node-preserved : goal.loop-node-preserved
loop-node-preserved c =
    let pieces = c.args.f.now.pieces in
    let kept = c.loop-node.invariant in
    let node = c.loop-node.node in
    let found = c.collect_piece.new.found.items in
    let count : c.pieces.result ≡ length pieces = c.pieces.ensures.count in
    let old : IsNoted c.pieces.result kept.computed c.loop-node.table.exprs.items c.loop-node.rows.items = subst (λ n. IsNoted n kept.computed c.loop-node.table.exprs.items c.loop-node.rows.items) (sym count) kept.noted in
    let grown : IsGrown c.args.p.now.names (computed_by c.args.p.now.execs c.piece.result) [] found = subst (λ (z : List Expr). IsGrown c.args.p.now.names (computed_by c.args.p.now.execs c.piece.result) z found) c.new-found.ensures.items c.in_ok-collect_piece.ensures in
    record {
      table = c.in_ok-note.ensures.table;
      rows = subst (λ n. AreRows n (length c.note.new.table.exprs.items) c.note.new.rows.items) count c.in_ok-note.ensures.rows;
      computed = kept.computed ++ map (at_node node) found;
      gathered = gathered_next c.args.p.now.names c.args.p.now.execs pieces node c.piece.result kept.computed found c.piece.ensures grown kept.gathered;
      noted = subst (λ n. IsNoted n (kept.computed ++ map (at_node node) found) c.note.new.table.exprs.items c.note.new.rows.items) count
          (subst (λ (z : List Expr). IsNoted c.pieces.result (kept.computed ++ map (at_node node) z) c.note.new.table.exprs.items c.note.new.rows.items) c.deref.ensures.value (c.in_ok-note.ensures.noted kept.computed old));
    }

pub returns-clause-candidates : goal.returns-clause-candidates
returns-clause-candidates c = all_gathered c.args.p.now c.args.f.now c.loop-node.node c.loop-node.invariant.computed c.loop-node.table.exprs.items (omega (arith, c.loop-node-test.false, c.pieces-node-end.ensures.count)) c.loop-node.invariant.gathered c.loop-node.invariant.noted.firsts

pub returns-clause-computed : goal.returns-clause-computed
returns-clause-computed c = marks_tell c.args.p.now c.args.f.now (length c.args.f.now.pieces) c.loop-node.node c.loop-node.invariant.computed c.loop-node.table.exprs.items c.loop-node.rows.items (omega (arith, c.loop-node-test.false, c.pieces-node-end.ensures.count)) c.loop-node.invariant.gathered c.loop-node.invariant.noted
