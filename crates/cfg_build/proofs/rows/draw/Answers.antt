use Rattle.std.proofs.Common.{◌∙◌, ◌++◌, List, ap, sym, length, map, arith}
use Rattle.std.proofs.lemmas.Result.{on_ok_weaker}
use Rattle.cfg_build.specs.declared.parts.Target.{Target}
use Rattle.cfg_build.specs.declared.rows.Drawing.{Drawing}
use Rattle.cfg_build.specs.Tables.{number_in, is_joined_by}
use Rattle.cfg_build.proofs.BuildingRows.{joined_edges, single_edges}
use Rattle.cfg_build.proofs.rows.draw.Goals as goal
use Rattle.cfg_build.proofs.rows.draw.Goals.{then-is_joined+in_ok-push+in_ok-push-2, else-is_joined}

pub returns-clause-edges : goal.returns-clause-edges
returns-clause-edges c =
    let old = c.args.drawing.now in
    let middle = c.if-is_joined.drawing in
    let part = c.args.part.now in
    let heads = map (number_in c.args.numbers.now) part.outs in
    on_ok_weaker c.draw_outs.result
    (λ drawn.
    let after = drawn ∙ ap (λ (outs : List Target). middle.edges.items ++ map (λ head. (c.len-piece.result, head)) (map (number_in c.args.numbers.now) outs)) c.as_slice.ensures.items in
    elim c.if-is_joined.branch [
      | then-is_joined+in_ok-push+in_ok-push-2 w ↦
          joined_edges old.edges.items middle.edges.items c.draw_outs.new.drawing.edges.items (length old.pieces.items) w.len-join.result c.len-piece.result (is_joined_by (number_in c.args.ways.now part.own) part) part heads
          (sym c.is_joined.ensures ∙ w.if-is_joined.true)
          (omega (arith, w.len-join.ensures, old.pieces.ok.0))
          (let e = ap (λ (d : Drawing). length d.pieces.items) w.drawing-is in omega (arith, c.len-piece.ensures, w.in_ok-push.ensures.len, old.pieces.ok.0, middle.pieces.ok.0, e, w.push.new.self.ok.0))
          (ap (λ (d : Drawing). d.edges.items) w.drawing-is ∙ w.in_ok-push-2.ensures.items)
          after
      | else-is_joined w ↦
          single_edges old.edges.items middle.edges.items c.draw_outs.new.drawing.edges.items (length old.pieces.items) c.len-piece.result (is_joined_by (number_in c.args.ways.now part.own) part) part heads
          (sym c.is_joined.ensures ∙ w.if-is_joined.false)
          (let e = ap (λ (d : Drawing). length d.pieces.items) w.drawing-is in omega (arith, c.len-piece.ensures, old.pieces.ok.0, middle.pieces.ok.0, e))
          (ap (λ (d : Drawing). d.edges.items) w.drawing-is)
          after
    ])
    c.draw_outs.ensures.edges
