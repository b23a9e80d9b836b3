use Rattle.std.proofs.Common.{◌≡◌, ◌<◌, ◌+◌, ℕ, ◌||◌, List, length, get_or, rules, sym, ap, subst, ◌∙◌, ⊎_elim, arith}
use Rattle.std.proofs.lemmas.Bool.{cases_lt}
use Rattle.std.proofs.lemmas.List.{get_or_read}
use Rattle.closed_walks.specs.Graph.{edge_count}
use Rattle.cfg_build.specs.declared.pieces.PieceKind.{PieceKind}
use Rattle.cfg_build.specs.Shape.{kind_at}
use Rattle.dep_routing.specs.Routing.{next_at}
use Rattle.dep_routing.specs.Touch.{touches_in}
use Rattle.const_prop.specs.declared.known.Known.TheVariants.{Nothing}
use Rattle.const_prop.specs.Closed.{KindAllows, is_switch, is_merge, kind_after, led_to}
use Rattle.const_prop.specs.Known.{AtMost}
use Rattle.const_prop.specs.Work.{so_far, these_lines, this_piece}
use Rattle.const_prop.proofs.Order.{at_most-trans}
use Rattle.const_prop.proofs.Rising.{rises-trans}
use Rattle.const_prop.proofs.Sending.{outs_row, out_exists, allows_way, way_allows, false_true}
use Rattle.const_prop.proofs.Settling.{due-past, lines-closed, sent-past, settling-rises}
use Rattle.const_prop.proofs.Standing.{ArePast, past-parts, past-all}
use Rattle.const_prop.proofs.Uses.{setting-covered}
use Rattle.const_prop.proofs.work.Work.pass.Goals as goal
use Rattle.const_prop.proofs.work.Work.pass.Goals.{then-allows, else-allows}

pub pass_along-requires : goal.pass_along-requires
pass_along-requires g c =
    let s = c.args.s.now in
    let f = s.flow.now in
    let r = s.lines.now in
    let e = c.args.edge in
    let old = c.args.self.now in
    let node = c.head-node.result in
    let settling = c.requires.settling in
    let items = outs_row f s.outs.items node e c.index.result.now c.as_slice-out-items.result.now c.requires.setting.outs c.head-node.ensures.exists c.head-node.ensures.node c.index.ensures c.as_slice-out-items.ensures in
    let inside = out_exists f e c.ways.i c.as_slice-out-items.result.now items c.ways-test.true in
    let kinds : c.passes_on.result ≡ (is_switch (kind_after f e) || is_merge (kind_after f e)) = c.passes_on.ensures ∙ ap (λ (k : PieceKind). is_switch k || is_merge k) (c.kind-kind.ensures ∙ ap (kind_at f) c.head-node.ensures.node) in
    let way = allows_way f old e c.ways.i node c.kind-kind.result c.index-decision.result.now c.as_slice-out-items.result.now c.requires.edge c.head-node.ensures.node c.kind-kind.ensures (get_or_read old.decisions.items node c.index-decision.result.now (omega (arith, c.head-node.ensures.exists, settling.sized.decisions)) c.index-decision.ensures Nothing) items c.ways-test.true (c.allows.ensures.0 c.if-allows.true) in
    let past : ArePast r s.touch.now e node c.args.fresh.now c.difference-lines.result = record { wires = c.wires.result.now; standing = c.intersection-standing.result; touched = c.at.result.now; are_wires = c.wires.ensures.wires; within = c.wires.ensures.within; stand = c.intersection-standing.ensures; pass = c.difference-lines.ensures; item = c.at.ensures.item } in
    let parts = past-parts r s.touch.now e node c.args.fresh.now c.difference-lines.result past in
    let is : (line : ℕ) → led_to f r e line c.ways.i ≡ next_at r line (get_or c.as_slice-out-items.result.now c.ways.i 0) = λ line. ap (λ (xs : List ℕ). next_at r line (get_or xs c.ways.i 0)) (sym items) in (
      search rules,
      (
        search rules,
        (
          search rules,
          (
            c.requires.setting,
            (
              c.ways.invariant.rises.sized,
              (
                λ line h. (parts line h).inside,
                (
                  c.requires.edge,
                  (
                    inside,
                    (
                      c.ways.invariant.found,
                      λ b line closed h.
                          let p = parts line h in
                          subst (λ (n : ℕ). AtMost (b.value line e) (b.value line n)) (is line)
                          (due-past s.program.now f s.classes.now (touches_in s.touch.now) r (so_far old) b line e c.ways.i (c.requires.setting.program.sound.ends e c.requires.edge) settling.found closed p.inside (ap (λ (n : ℕ). touches_in s.touch.now n line) (sym c.head-node.ensures.node) ∙ p.untouched) (sym kinds ∙ c.if-not-passes_on.false) p.wire way),
                    ),
                  ),
                ),
              ),
            ),
          ),
        ),
      ),
    )

pub ways-preserved : goal.ways-preserved
ways-preserved g c =
    let s = c.args.s.now in
    let f = s.flow.now in
    let r = s.lines.now in
    let e = c.args.edge in
    let old = c.args.self.now in
    let before = c.ways.self in
    let node = c.head-node.result in
    let items = outs_row f s.outs.items node e c.index.result.now c.as_slice-out-items.result.now c.requires.setting.outs c.head-node.ensures.exists c.head-node.ensures.node c.index.ensures c.as_slice-out-items.ensures in
    let past : ArePast r s.touch.now e node c.args.fresh.now c.difference-lines.result = record { wires = c.wires.result.now; standing = c.intersection-standing.result; touched = c.at.result.now; are_wires = c.wires.ensures.wires; within = c.wires.ensures.within; stand = c.intersection-standing.ensures; pass = c.difference-lines.ensures; item = c.at.ensures.item } in
    let parts = past-parts r s.touch.now e node c.args.fresh.now c.difference-lines.result past in
    let is : (line : ℕ) → led_to f r e line c.ways.i ≡ next_at r line (get_or c.as_slice-out-items.result.now c.ways.i 0) = λ line. ap (λ (xs : List ℕ). next_at r line (get_or xs c.ways.i 0)) (sym items) in
    let led : (line k : ℕ) → line < r.lines → k < c.ways.i + 1 → led_to f r e line k < edge_count f.graph = λ line k l m. subst (λ (xs : List ℕ). next_at r line (get_or xs k 0) < edge_count f.graph) items (c.requires.setting.lines.next line (get_or c.as_slice-out-items.result.now k 0) l (out_exists f e k c.as_slice-out-items.result.now items (omega (arith, m, c.ways-test.true)))) in
    elim c.if-allows.branch [
      | then-allows w ↦
          rw w.self-is (record {
            rises = rises-trans f r.lines old before w.pass_along.new.self c.ways.invariant.rises w.pass_along.ensures.rises;
            found = w.pass_along.ensures.found;
            passed = λ k m allows line h.
                let inside = (parts line h).inside in
                ⊎_elim
                (λ (l : k < c.ways.i). at_most-trans ((so_far old).value line e) ((so_far before).value line (led_to f r e line k)) ((so_far w.pass_along.new.self).value line (led_to f r e line k)) (c.ways.invariant.passed k l allows line h) (w.pass_along.ensures.rises.grows line (led_to f r e line k) inside (led line k inside m)))
                (λ last. subst (λ (n : ℕ). AtMost ((so_far old).value line e) ((so_far w.pass_along.new.self).value line (led_to f r e line n))) (omega (arith, m, last))
                (subst (λ (n : ℕ). AtMost ((so_far old).value line e) ((so_far w.pass_along.new.self).value line n)) (sym (is line))
                (at_most-trans ((so_far old).value line e) ((so_far before).value line e) ((so_far w.pass_along.new.self).value line (next_at r line (get_or c.as_slice-out-items.result.now c.ways.i 0))) (c.ways.invariant.rises.grows line e inside c.requires.edge) (w.pass_along.ensures.passed line h))))
                (cases_lt k c.ways.i);
          })
      | else-allows w ↦
          rw w.self-is (record {
            rises = c.ways.invariant.rises;
            found = c.ways.invariant.found;
            passed = λ k m allows line h. ⊎_elim
                (λ (l : k < c.ways.i). c.ways.invariant.passed k l allows line h)
                (λ last. absurd (false_true c.allows.result (c.allows.ensures.1 (subst (λ (n : ℕ). KindAllows c.kind-kind.result c.index-decision.result.now n) (omega (arith, m, last)) allows)) w.if-allows.false))
                (cases_lt k c.ways.i);
          })
    ]

pub returns-clause-settling : goal.returns-clause-settling
returns-clause-settling g c =
    let s = c.args.s.now in
    let p = s.program.now in
    let f = s.flow.now in
    let r = s.lines.now in
    let touches = touches_in s.touch.now in
    let e = c.args.edge in
    let old = c.args.self.now in
    let new = c.ways.self in
    let node = c.head-node.result in
    let settling = c.requires.settling in
    let covered = setting-covered p f s.classes.now s.touch.now r c.requires.setting.program c.requires.setting.lines in
    let two = c.requires.setting.program.shape.two_edges in
    let next = c.requires.setting.lines.next in
    let items = outs_row f s.outs.items node e c.index.result.now c.as_slice-out-items.result.now c.requires.setting.outs c.head-node.ensures.exists c.head-node.ensures.node c.index.ensures c.as_slice-out-items.ensures in
    let past : ArePast r s.touch.now e node c.args.fresh.now c.difference-lines.result = record { wires = c.wires.result.now; standing = c.intersection-standing.result; touched = c.at.result.now; are_wires = c.wires.ensures.wires; within = c.wires.ensures.within; stand = c.intersection-standing.ensures; pass = c.difference-lines.ensures; item = c.at.ensures.item } in
    let on = settling-rises p f s.classes.now touches r covered two next old new c.ways.invariant.rises c.ways.invariant.found (these_lines c.args.fresh.now e) (this_piece e) settling in
    let decided = get_or_read old.decisions.items node c.index-decision.result.now (omega (arith, c.head-node.ensures.exists, settling.sized.decisions)) c.index-decision.ensures Nothing in
    lines-closed p f s.classes.now touches r covered two next new c.args.fresh.now e (this_piece e) on
    (λ line l k untouched fresh. sent-past p f s.classes.now touches r covered two next old new line e c.ways.invariant.rises l k
    (λ i way kind wire.
    let size = ap length items in
    let exists = way.exists in
    c.ways.invariant.passed i (omega (arith, size, exists, c.ways-test.false)) (way_allows f old e i node c.kind-kind.result c.index-decision.result.now c.head-node.ensures.node c.kind-kind.ensures decided way) line
    (past-all r s.touch.now e node c.args.fresh.now c.difference-lines.result past line fresh (record { inside = l; wire = wire; untouched = ap (λ (n : ℕ). touches n line) c.head-node.ensures.node ∙ untouched }))))
