use Rattle.std.proofs.Common.{◌≡◌, [], arith, length, subst, sym}
use Rattle.graph_dependences.specs.Added.{Adds, Below}
use Rattle.graph_dependences.specs.Dependences.{DependsBy}
use Rattle.graph_dependences.proofs.Added.{Adds-more, Adds-none}
use Rattle.graph_dependences.proofs.Decisions.{are_all}
use Rattle.graph_dependences.proofs.dependence.dependences.Goals as goal

pub loop-line-init : goal.loop-line-init
loop-line-init c = subst (λ xs. Adds [] xs (Below (DependsBy c.args.graph.now c.args.flow.now) 0)) (sym c.new-all.ensures.items) (Adds-none [] (DependsBy c.args.graph.now c.args.flow.now))

pub loop-line-preserved : goal.loop-line-preserved
loop-line-preserved c =
    Adds-more [] c.loop-line.all.items c.add_by_line.new.all.items (DependsBy c.args.graph.now c.args.flow.now) c.loop-line.line c.loop-line.invariant c.in_ok-add_by_line.ensures

pub returns : goal.returns
returns c =
    let whole : c.loop-line.line ≡ length c.args.graph.now.lines.items = omega (arith, c.loop-line-test.false, c.loop-line.auto.line-end, c.len-line-end.ensures, c.len-else-len-gt-MOST_NODES.ensures, c.if-len-gt-MOST_NODES-2.false) in
    are_all c.args.graph.now c.args.flow.now c.loop-line.line c.loop-line.all.items c.add_controls.new.all.items c.put_in_order.new.all.items whole c.loop-line.invariant c.in_ok-add_controls.ensures c.in_ok-put_in_order.ensures.same c.in_ok-put_in_order.ensures.ordered
