use Rattle.std.proofs.Common.{◌≡◌, ◌∙◌, ap, length, take, flat_map, get_or, refl, arith}
use Rattle.std.proofs.lemmas.List.{get_or_read, length-map}
use Rattle.cfg_build.specs.Parts.{start_part}
use Rattle.cfg_build.specs.Joined.{Row, rows_of}
use Rattle.cfg_build.specs.Tables.{room}
use Rattle.cfg_build.proofs.BuildingTables.{few_so_far}
use Rattle.cfg_build.proofs.BuildingRows.{length_so_far, pieces_step, edges_step}
use Rattle.cfg_build.proofs.rows.drawn.Goals as goal

pub draw-requires-clause-few : goal.draw-requires-clause-few
draw-requires-clause-few c =
    let ps = c.args.parts.now in
    let i = c.loop-part.part-index in
    let rs = flat_map (rows_of ps) (take i ps) in
    let count = ap length c.loop-part.invariant.pieces ∙ length-map rs (λ (row : Row). row.piece) ∙ length_so_far (room c.args.ways.now) ps c.requires.parts c.args.ways.now c.args.numbers.now c.requires.ways c.requires.numbers i in
    omega (arith, count, few_so_far (room c.args.ways.now) ps i c.requires.parts)

pub loop-part-preserved : goal.loop-part-preserved
loop-part-preserved c =
    let ps = c.args.parts.now in
    let i = c.loop-part.part-index in
    let is : c.part-item.result ≡ get_or ps i start_part = get_or_read ps i c.part-item.result c.loop-part-test.true c.part-item.is start_part in
    let before = c.loop-part.drawing in
    record {
      pieces = pieces_step (room c.args.ways.now) ps c.requires.parts c.args.ways.now c.args.numbers.now c.requires.ways c.requires.numbers i (length before.pieces.items) c.part-item.result before.pieces.items c.draw.new.drawing.pieces.items
          c.loop-part-test.true is refl c.loop-part.invariant.pieces c.in_ok-draw.ensures.pieces;
      edges = edges_step (room c.args.ways.now) ps c.requires.parts c.args.ways.now c.args.numbers.now c.requires.ways c.requires.numbers i (length before.pieces.items) c.part-item.result before.pieces.items (c.args.finish, 0) before.edges.items c.draw.new.drawing.edges.items
          c.loop-part-test.true is refl c.loop-part.invariant.pieces c.loop-part.invariant.edges c.in_ok-draw.ensures.edges;
    }
