use Rattle.std.proofs.Common.{ℕ, ◌++◌, List, map, take, subst}
use Rattle.std.proofs.lemmas.List.{take_all}
use Rattle.f77_tree.specs.declared.expressions.Expr.{Expr}
use Rattle.redundancy.specs.Noted.{IsNoted, at_node}
use Rattle.redundancy.proofs.Notes.{rows_next, noted_next, numbered_below, pairs_more}
use Rattle.redundancy.proofs.noting.note.Goals as goal

pub mark-requires-clause-place : goal.mark-requires-clause-place
mark-requires-clause-place c = numbered_below c.e-item.result c.loop-e.table.exprs.items c.number.new.self.exprs.items c.args.nodes c.in_ok-k.k c.loop-e.rows.items c.in_ok-k.ensures.number c.loop-e.invariant.rows

pub loop-e-preserved : goal.loop-e-preserved
loop-e-preserved c =
    let e = c.e-item.result in
    let old = c.loop-e.table.exprs.items in
    let new = c.number.new.self.exprs.items in
    let rows = c.loop-e.rows.items in
    let more = c.mark.new.rows.items in
    let k = c.in_ok-k.k in
    let i = c.loop-e.e-index in
    let found = c.args.found.now in
    let node = c.args.node in
    let are = rows_next e old new c.args.nodes k rows more c.in_ok-k.ensures.number c.loop-e.invariant.rows c.in_ok-mark.ensures.each c.in_ok-mark.ensures.old c.in_ok-mark.ensures.new in
    record {
      table = c.in_ok-k.ensures.table;
      rows = are;
      noted = λ computed s.
          subst (λ (z : List (ℕ × Expr)). IsNoted c.args.nodes z new more) (pairs_more node computed found i e c.loop-e-test.true c.e-item.is)
          (noted_next c.args.nodes (computed ++ map (at_node node) (take i found)) old new rows more e k node (c.loop-e.invariant.noted computed s) c.in_ok-k.ensures.number c.in_ok-mark.ensures.marked are);
    }

pub returns-clause-noted : goal.returns-clause-noted
returns-clause-noted c = λ computed s.
    subst (λ (z : List Expr). IsNoted c.args.nodes (computed ++ map (at_node c.args.node) z) c.loop-e.table.exprs.items c.loop-e.rows.items) (take_all c.loop-e.e-index c.args.found.now c.loop-e-test.false) (c.loop-e.invariant.noted computed s)
