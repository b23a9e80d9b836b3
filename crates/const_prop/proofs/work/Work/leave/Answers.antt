use Rattle.std.proofs.Common.{◌≡◌, true, get_or, rules, inl, inr, ⊎_elim, arith}
use Rattle.closed_walks.specs.Graph.{to}
use Rattle.dep_routing.specs.Touch.{touches_in}
use Rattle.const_prop.specs.Work.{so_far, is_waiting, IsSeenFor, no_line, this_piece}
use Rattle.const_prop.proofs.Leaving.{Among, left-due, left-one, ready-on, seen-more, seen-all, seen-none}
use Rattle.const_prop.proofs.Readiness.{touched_items, touched_at}
use Rattle.const_prop.proofs.Settling.{settling-rises, piece-closed}
use Rattle.const_prop.proofs.Uses.{setting-covered}
use Rattle.const_prop.proofs.work.Work.leave.Goals as goal

pub left-known-requires : goal.left-known-requires
left-known-requires g c =
    let row = touched_items c.args.s.now.flow.now.graph.nodes c.args.s.now.lines.now.lines (touches_in c.args.s.now.touch.now) c.args.s.now.touched.items c.head-node.result (to c.args.s.now.flow.now.graph c.args.edge) c.index.result.now c.as_slice-line-items.result.now c.requires.setting.touched c.head-node.ensures.exists c.head-node.ensures.node c.index.ensures c.as_slice-line-items.ensures in
    let line = get_or c.as_slice-line-items.result.now c.loop-line.line-index 0 in
    let at = touched_at (touches_in c.args.s.now.touch.now) c.args.s.now.lines.now.lines (to c.args.s.now.flow.now.graph c.args.edge) c.as_slice-line-items.result.now c.loop-line.line-index row c.loop-line-test.true in
    (search rules, (search rules, (c.requires.setting, (c.requires.edge, (at.0, c.loop-line.invariant.settling.sized)))))

pub send-requires : goal.send-requires
send-requires g c =
    let row = touched_items c.args.s.now.flow.now.graph.nodes c.args.s.now.lines.now.lines (touches_in c.args.s.now.touch.now) c.args.s.now.touched.items c.head-node.result (to c.args.s.now.flow.now.graph c.args.edge) c.index.result.now c.as_slice-line-items.result.now c.requires.setting.touched c.head-node.ensures.exists c.head-node.ensures.node c.index.ensures c.as_slice-line-items.ensures in
    let line = get_or c.as_slice-line-items.result.now c.loop-line.line-index 0 in
    let at = touched_at (touches_in c.args.s.now.touch.now) c.args.s.now.lines.now.lines (to c.args.s.now.flow.now.graph c.args.edge) c.as_slice-line-items.result.now c.loop-line.line-index row c.loop-line-test.true in
    let t = so_far c.loop-line.self in
    let s = c.loop-line.invariant.settling in (
      search rules,
      (
        search rules,
        (
          c.requires.setting,
          (
            s.sized,
            (
              at.0,
              (
                c.requires.edge,
                (
                  s.found,
                  (
                    λ b i closed way. left-due c.args.s.now.program.now c.args.s.now.flow.now c.args.s.now.classes.now (touches_in c.args.s.now.touch.now) c.args.s.now.lines.now (setting-covered c.args.s.now.program.now c.args.s.now.flow.now c.args.s.now.classes.now c.args.s.now.touch.now c.args.s.now.lines.now c.requires.setting.program c.requires.setting.lines) c.requires.setting.program.shape.two_edges c.requires.setting.lines.next t b c.args.edge line i c.left-known.result (c.requires.setting.program.sound.ends c.args.edge c.requires.edge) s.found closed c.loop-line.invariant.ready at.0 at.1 c.left-known.ensures way,
                    left-one c.args.s.now.program.now c.args.s.now.flow.now c.args.s.now.classes.now (touches_in c.args.s.now.touch.now) c.args.s.now.lines.now (setting-covered c.args.s.now.program.now c.args.s.now.flow.now c.args.s.now.classes.now c.args.s.now.touch.now c.args.s.now.lines.now c.requires.setting.program c.requires.setting.lines) c.requires.setting.program.shape.two_edges c.requires.setting.lines.next t c.args.edge line c.left-known.result c.requires.edge s.found at.0 c.left-known.ensures,
                  ),
                ),
              ),
            ),
          ),
        ),
      ),
    )

pub loop-line-init : goal.loop-line-init
loop-line-init g c = record {
  settling = c.requires.settling;
  ready = c.requires.ready;
  bounded = omega arith;
  seen = inr (seen-none c.args.s.now.program.now c.args.s.now.flow.now c.args.s.now.classes.now (touches_in c.args.s.now.touch.now) c.args.s.now.lines.now (setting-covered c.args.s.now.program.now c.args.s.now.flow.now c.args.s.now.classes.now c.args.s.now.touch.now c.args.s.now.lines.now c.requires.setting.program c.requires.setting.lines) c.requires.setting.program.shape.two_edges c.requires.setting.lines.next (so_far c.args.self.now) c.args.edge c.as_slice-line-items.result.now c.requires.decided);
}

pub loop-line-preserved : goal.loop-line-preserved
loop-line-preserved g c =
    let row = touched_items c.args.s.now.flow.now.graph.nodes c.args.s.now.lines.now.lines (touches_in c.args.s.now.touch.now) c.args.s.now.touched.items c.head-node.result (to c.args.s.now.flow.now.graph c.args.edge) c.index.result.now c.as_slice-line-items.result.now c.requires.setting.touched c.head-node.ensures.exists c.head-node.ensures.node c.index.ensures c.as_slice-line-items.ensures in
    let line = get_or c.as_slice-line-items.result.now c.loop-line.line-index 0 in
    let at = touched_at (touches_in c.args.s.now.touch.now) c.args.s.now.lines.now.lines (to c.args.s.now.flow.now.graph c.args.edge) c.as_slice-line-items.result.now c.loop-line.line-index row c.loop-line-test.true in
    let old = c.loop-line.self in
    let new = c.send.new.self in
    let rises = c.send.ensures.rises in
    let found = c.send.ensures.found in
    let s = c.loop-line.invariant.settling in
    record {
      settling = settling-rises c.args.s.now.program.now c.args.s.now.flow.now c.args.s.now.classes.now (touches_in c.args.s.now.touch.now) c.args.s.now.lines.now (setting-covered c.args.s.now.program.now c.args.s.now.flow.now c.args.s.now.classes.now c.args.s.now.touch.now c.args.s.now.lines.now c.requires.setting.program c.requires.setting.lines) c.requires.setting.program.shape.two_edges c.requires.setting.lines.next old new rises found no_line (this_piece c.args.edge) s;
      ready = ready-on c.args.s.now.program.now c.args.s.now.flow.now c.args.s.now.classes.now (touches_in c.args.s.now.touch.now) c.args.s.now.lines.now (setting-covered c.args.s.now.program.now c.args.s.now.flow.now c.args.s.now.classes.now c.args.s.now.touch.now c.args.s.now.lines.now c.requires.setting.program c.requires.setting.lines) c.requires.setting.program.shape.two_edges c.requires.setting.lines.next old new rises found s.found c.args.edge c.requires.edge c.loop-line.invariant.ready;
      bounded = (let b = rises.bounded in let d = c.loop-line.invariant.bounded in omega (arith, b, d));
      seen = seen-more c.args.s.now.program.now c.args.s.now.flow.now c.args.s.now.classes.now (touches_in c.args.s.now.touch.now) c.args.s.now.lines.now (setting-covered c.args.s.now.program.now c.args.s.now.flow.now c.args.s.now.classes.now c.args.s.now.touch.now c.args.s.now.lines.now c.requires.setting.program c.requires.setting.lines) c.requires.setting.program.shape.two_edges c.requires.setting.lines.next old new rises found s.found c.args.edge c.requires.edge s.waits c.as_slice-line-items.result.now c.loop-line.line-index c.left-known.result c.loop-line.invariant.ready c.left-known.ensures c.send.ensures.sent c.loop-line.invariant.seen;
    }

pub returns-clause-settling : goal.returns-clause-settling
returns-clause-settling g c =
    let row = touched_items c.args.s.now.flow.now.graph.nodes c.args.s.now.lines.now.lines (touches_in c.args.s.now.touch.now) c.args.s.now.touched.items c.head-node.result (to c.args.s.now.flow.now.graph c.args.edge) c.index.result.now c.as_slice-line-items.result.now c.requires.setting.touched c.head-node.ensures.exists c.head-node.ensures.node c.index.ensures c.as_slice-line-items.ensures in
    let w = c.loop-line.self in
    piece-closed c.args.s.now.program.now c.args.s.now.flow.now c.args.s.now.classes.now (touches_in c.args.s.now.touch.now) c.args.s.now.lines.now (setting-covered c.args.s.now.program.now c.args.s.now.flow.now c.args.s.now.classes.now c.args.s.now.touch.now c.args.s.now.lines.now c.requires.setting.program c.requires.setting.lines) c.requires.setting.program.shape.two_edges c.requires.setting.lines.next w c.args.edge no_line c.loop-line.invariant.settling
    (⊎_elim
    (λ (waits : is_waiting w c.args.edge ≡ true). inl waits)
    (λ (seen : IsSeenFor c.args.s.now.program.now c.args.s.now.flow.now c.args.s.now.classes.now (touches_in c.args.s.now.touch.now) c.args.s.now.lines.now (Among c.as_slice-line-items.result.now c.loop-line.line-index) (so_far w) c.args.edge). inr (seen-all c.args.s.now.program.now c.args.s.now.flow.now c.args.s.now.classes.now (touches_in c.args.s.now.touch.now) c.args.s.now.lines.now (setting-covered c.args.s.now.program.now c.args.s.now.flow.now c.args.s.now.classes.now c.args.s.now.touch.now c.args.s.now.lines.now c.requires.setting.program c.requires.setting.lines) c.requires.setting.program.shape.two_edges c.requires.setting.lines.next (so_far w) c.args.edge c.as_slice-line-items.result.now c.loop-line.line-index row c.loop-line-test.false seen))
    c.loop-line.invariant.seen)
