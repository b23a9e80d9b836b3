use Rattle.std.proofs.Common.{◌∙◌, arith}
use Rattle.net_tables.specs.LookupView.{net_on}
use Rattle.operation_places.proofs.PieceLines.{led_begin, led_end, led_next}
use Rattle.operation_places.proofs.piece_lines.lead_all.Goals as goal

pub loop-k-init : goal.loop-k-init
loop-k-init g c = record {
  lines = led_begin (net_on c.args.board.now) c.args.piece c.args.edge c.first-first.result c.args.lines.now.items c.first-first.ensures;
  all = Rattle.std.proofs.Common.refl;
  stand = λ h. h;
}

pub loop-k-preserved : goal.loop-k-preserved
loop-k-preserved g c =
    let net = net_on c.args.board.now in
    let first = c.first-first.ensures in
    let end = c.end-end.ensures.end in
    record {
      lines = led_next net c.args.piece c.args.edge c.loop-k.k c.loop-k.lines.items c.lead_moved.new.lines.items _ c.requires.piece (omega arith) (omega arith) c.lead_moved.ensures.lines c.loop-k.invariant.lines;
      all = c.lead_moved.ensures.all ∙ c.loop-k.invariant.all;
      stand = λ h. c.lead_moved.ensures.stand (c.loop-k.invariant.stand h);
    }

pub returns-clause-lines : goal.returns-clause-lines
returns-clause-lines g c =
    let net = net_on c.args.board.now in
    let first = c.first-first.ensures in
    let end = c.end-end.ensures.end in
    led_end net c.args.piece c.args.edge c.loop-k.k c.loop-k.lines.items _ (omega arith) c.loop-k.invariant.lines
