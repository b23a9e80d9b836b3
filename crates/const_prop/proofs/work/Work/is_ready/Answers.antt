use Rattle.std.proofs.Common.{◌≡◌, ℕ, false, true, get_or, refl, rules, sym, ap, subst, ◌∙◌, arith}
use Rattle.closed_walks.specs.Graph.{to}
use Rattle.cfg_build.specs.Shape.{kind_at}
use Rattle.dep_routing.specs.Touch.{touches_in}
use Rattle.const_prop.specs.Closed.{is_action}
use Rattle.const_prop.specs.Known.{IsSomething}
use Rattle.const_prop.specs.Work.{so_far}
use Rattle.const_prop.proofs.Readiness.{touched_items, touched_at, line_at, all-more}
use Rattle.const_prop.proofs.Sending.{false_true}
use Rattle.const_prop.proofs.work.Work.is_ready.Goals as goal

pub get-requires : goal.get-requires
get-requires g c =
    let row = touched_items c.args.s.now.flow.now.graph.nodes c.args.s.now.lines.now.lines (touches_in c.args.s.now.touch.now) c.args.s.now.touched.items c.head-node.result (to c.args.s.now.flow.now.graph c.args.edge) c.index.result.now c.as_slice-line-items.result.now c.requires.setting.touched c.head-node.ensures.exists c.head-node.ensures.node c.index.ensures c.as_slice-line-items.ensures in
    let at = touched_at (touches_in c.args.s.now.touch.now) c.args.s.now.lines.now.lines (to c.args.s.now.flow.now.graph c.args.edge) c.as_slice-line-items.result.now c.loop-line.line-index row c.loop-line-test.true in
    let inside = at.0 in
    let size = c.requires.sized.lines_are in
    let edges = c.requires.sized.edges_are in
    let edge = c.requires.edge in
    (search rules, (omega (arith, inside, size), omega (arith, edges, edge)))

pub returns-then-not-is_something : goal.returns-then-not-is_something
returns-then-not-is_something g c =
    let row = touched_items c.args.s.now.flow.now.graph.nodes c.args.s.now.lines.now.lines (touches_in c.args.s.now.touch.now) c.args.s.now.touched.items c.head-node.result (to c.args.s.now.flow.now.graph c.args.edge) c.index.result.now c.as_slice-line-items.result.now c.requires.setting.touched c.head-node.ensures.exists c.head-node.ensures.node c.index.ensures c.as_slice-line-items.ensures in
    let line = get_or c.as_slice-line-items.result.now c.loop-line.line-index 0 in
    let at = touched_at (touches_in c.args.s.now.touch.now) c.args.s.now.lines.now.lines (to c.args.s.now.flow.now.graph c.args.edge) c.as_slice-line-items.result.now c.loop-line.line-index row c.loop-line-test.true in
    let read : c.get.result ≡ (so_far c.args.self.now).value line c.args.edge = c.get.ensures in (
      λ is. let clash : false ≡ true = is in absurd cc,
      λ ready. absurd (false_true c.is_something.result (c.is_something.ensures.1 (subst IsSomething (sym read) (ready.each line at.0 at.1))) c.if-not-is_something.true),
    )

pub loop-line-preserved : goal.loop-line-preserved
loop-line-preserved g c =
    let line = get_or c.as_slice-line-items.result.now c.loop-line.line-index 0 in
    let read : c.get.result ≡ (so_far c.args.self.now).value line c.args.edge = c.get.ensures in
    all-more (λ (n : ℕ). IsSomething ((so_far c.args.self.now).value n c.args.edge)) c.as_slice-line-items.result.now c.loop-line.line-index (subst IsSomething read (c.is_something.ensures.0 c.if-not-is_something.false)) c.loop-line.invariant

pub returns : goal.returns
returns g c =
    let row = touched_items c.args.s.now.flow.now.graph.nodes c.args.s.now.lines.now.lines (touches_in c.args.s.now.touch.now) c.args.s.now.touched.items c.head-node.result (to c.args.s.now.flow.now.graph c.args.edge) c.index.result.now c.as_slice-line-items.result.now c.requires.setting.touched c.head-node.ensures.exists c.head-node.ensures.node c.index.ensures c.as_slice-line-items.ensures in (
      λ is. record {
        edge = c.requires.edge;
        action = ap is_action (sym (ap (kind_at c.args.s.now.flow.now) c.head-node.ensures.node)) ∙ ap is_action (sym c.kind.ensures) ∙ sym c.is_action.ensures ∙ c.if-not-is_action.false;
        each = λ line l t. let at = line_at (touches_in c.args.s.now.touch.now) c.args.s.now.lines.now.lines (to c.args.s.now.flow.now.graph c.args.edge) c.as_slice-line-items.result.now line row l t in
            subst (λ (n : ℕ). IsSomething ((so_far c.args.self.now).value n c.args.edge)) at.is (c.loop-line.invariant at.place (omega (arith, at.within, c.loop-line-test.false)));
      },
      λ ready. refl,
    )
