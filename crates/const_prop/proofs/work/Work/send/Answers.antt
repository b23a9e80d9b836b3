use Rattle.std.proofs.Common.{◌≡◌, ◌<◌, ◌+◌, ℕ, List, get_or, sym, ap, subst, ◌∙◌, arith, rules}
use Rattle.std.proofs.lemmas.List.{get_or_read}
use Rattle.closed_walks.specs.Graph.{edge_count, to}
use Rattle.cfg_build.specs.Passes.{outs}
use Rattle.dep_routing.specs.Routing.{next_at}
use Rattle.dep_routing.specs.Touch.{touches_in}
use Rattle.const_prop.specs.declared.known.Known.TheVariants.{Nothing}
use Rattle.const_prop.specs.Closed.{IsClosed, led_to}
use Rattle.const_prop.specs.Known.{AtMost}
use Rattle.const_prop.specs.Table.{Knowns}
use Rattle.const_prop.specs.Work.{so_far}
use Rattle.const_prop.proofs.Rising.{rises-trans}
use Rattle.const_prop.proofs.Sending.{outs_row, out_exists, allows_way, sent-more, sent-skip, false_true, LedInside}
use Rattle.const_prop.proofs.work.Work.send.Goals as goal
use Rattle.const_prop.proofs.work.Work.send.Goals.{then-allows, else-allows}

pub next_wire-requires : goal.next_wire-requires
next_wire-requires g c =
    let items = outs_row c.args.s.now.flow.now c.args.s.now.outs.items c.head-node.result c.args.edge c.index.result.now c.as_slice-out-items.result.now c.requires.setting.outs c.head-node.ensures.exists c.head-node.ensures.node c.index.ensures c.as_slice-out-items.ensures in
    let inside = out_exists c.args.s.now.flow.now c.args.edge c.ways.i c.as_slice-out-items.result.now items c.ways-test.true in
    let edge : get_or c.as_slice-out-items.result.now c.ways.i 0 < c.args.s.now.lines.now.edges = omega (arith, inside, c.requires.setting.lines.edges) in
    search (rules, edge)

pub raise-requires : goal.raise-requires
raise-requires g c =
    let items = outs_row c.args.s.now.flow.now c.args.s.now.outs.items c.head-node.result c.args.edge c.index.result.now c.as_slice-out-items.result.now c.requires.setting.outs c.head-node.ensures.exists c.head-node.ensures.node c.index.ensures c.as_slice-out-items.ensures in
    let inside = out_exists c.args.s.now.flow.now c.args.edge c.ways.i c.as_slice-out-items.result.now items c.ways-test.true in
    let led = c.requires.setting.lines.next c.args.line (get_or c.as_slice-out-items.result.now c.ways.i 0) c.requires.line inside in
    let way = allows_way c.args.s.now.flow.now c.args.self.now c.args.edge c.ways.i c.head-node.result c.kind-kind.result c.index-decision.result.now c.as_slice-out-items.result.now c.requires.edge c.head-node.ensures.node c.kind-kind.ensures (get_or_read c.args.self.now.decisions.items c.head-node.result c.index-decision.result.now (omega (arith, c.head-node.ensures.exists, c.requires.sized.decisions)) c.index-decision.ensures Nothing) items c.ways-test.true (c.allows.ensures.0 c.if-allows.true) in
    let is : led_to c.args.s.now.flow.now c.args.s.now.lines.now c.args.edge c.args.line c.ways.i ≡ c.next_wire.result =
    ap (λ (xs : List ℕ). next_at c.args.s.now.lines.now c.args.line (get_or xs c.ways.i 0)) (sym items) ∙ sym c.next_wire.ensures in
    let edge : c.next_wire.result < edge_count c.args.s.now.flow.now.graph = omega (arith, led, c.next_wire.ensures) in
    let due : (b : Knowns) → IsClosed c.args.s.now.program.now c.args.s.now.flow.now c.args.s.now.classes.now (touches_in c.args.s.now.touch.now) c.args.s.now.lines.now b → AtMost c.args.known (b.value c.args.line c.next_wire.result) = λ b closed. subst (λ (n : ℕ). AtMost c.args.known (b.value c.args.line n)) is (c.requires.due b c.ways.i closed way) in
    search (rules, c.ways.invariant.rises.sized, c.ways.invariant.found, edge, due)

pub ways-preserved : goal.ways-preserved
ways-preserved g c =
    let f = c.args.s.now.flow.now in
    let r = c.args.s.now.lines.now in
    let touches = touches_in c.args.s.now.touch.now in
    let items = outs_row c.args.s.now.flow.now c.args.s.now.outs.items c.head-node.result c.args.edge c.index.result.now c.as_slice-out-items.result.now c.requires.setting.outs c.head-node.ensures.exists c.head-node.ensures.node c.index.ensures c.as_slice-out-items.ensures in
    let led : LedInside f r c.args.edge c.args.line (c.ways.i + 1) =
    λ k l. c.requires.setting.lines.next c.args.line (get_or (outs f.graph (to f.graph c.args.edge)) k 0) c.requires.line
    (subst (λ (xs : List ℕ). get_or xs k 0 < edge_count f.graph) items (out_exists f c.args.edge k c.as_slice-out-items.result.now items (omega (arith, l, c.ways-test.true)))) in
    let is : led_to f r c.args.edge c.args.line c.ways.i ≡ next_at r c.args.line (get_or c.as_slice-out-items.result.now c.ways.i 0) =
    ap (λ (xs : List ℕ). next_at r c.args.line (get_or xs c.ways.i 0)) (sym items) in
    elim c.if-allows.branch [
      | then-allows w ↦
          rw w.self-is (record {
            rises = rises-trans f r.lines c.args.self.now c.ways.self w.raise.new.self c.ways.invariant.rises w.raise.ensures.rises;
            found = w.raise.ensures.found;
            sent = sent-more f r c.args.edge c.args.line c.kind-kind.result c.index-decision.result.now c.args.known c.ways.self w.raise.new.self c.ways.i w.raise.ensures.rises c.requires.line (λ k l. led k (omega arith)) c.ways.invariant.sent
                (subst (λ (n : ℕ). AtMost c.args.known ((so_far w.raise.new.self).value c.args.line n)) (w.next_wire.ensures ∙ sym is) w.raise.ensures.reached);
          })
      | else-allows w ↦
          rw w.self-is (record {
            rises = c.ways.invariant.rises;
            found = c.ways.invariant.found;
            sent = sent-skip f r c.args.edge c.args.line c.kind-kind.result c.index-decision.result.now c.args.known c.ways.self c.ways.i (λ allows. false_true c.allows.result (c.allows.ensures.1 allows) w.if-allows.false) c.ways.invariant.sent;
          })
    ]
