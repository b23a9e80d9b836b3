use Rattle.std.proofs.Common.{ℕ, Some, ap, ◌∙◌, arith}
use Rattle.operation_tables.specs.BoardView.{operation_net_on}
use Rattle.operation_places.specs.PlacesView.{line_put, standing}
use Rattle.op_net.proofs.MadeUp.{ahead_leads, led_ahead, led_makes}
use Rattle.op_net.proofs.operating.lead_line.Goals as goal

pub lead_of-lead-requires : goal.lead_of-lead-requires
lead_of-lead-requires g c = (omega arith, (c.requires.line, (c.requires.edge, ahead_leads (operation_net_on c.args.board.now) c.args.k c.args.places.now 1 c.requires.ahead)))

pub lead_on-requires : goal.lead_on-requires
lead_on-requires g c =
    let line = c.requires.line in
    let lines = c.requires.lines in
    let passed = c.requires.passed in
    let ahead = led_ahead (operation_net_on c.args.board.now) c.args.k c.args.places.now c.lead_of-lead.new.leads 1 c.lead_of-lead.ensures.leads c.requires.ahead in
    (omega arith, (line, (omega (arith, line, lines), (omega (arith, line, passed), (c.requires.marks, (ahead, ((λ counted. c.requires.from), (λ counted. c.lead_of-lead.ensures.node counted))))))))

pub returns-clause-standing : goal.returns-clause-standing
returns-clause-standing g c =
    c.lead_on.ensures.standing ∙ ap (λ (e : ℕ). line_put (standing c.args.places.now) c.args.line (Some e) 0) c.lead_of-lead.ensures.wire

pub returns-clause-counted : goal.returns-clause-counted
returns-clause-counted g c = led_makes (operation_net_on c.args.board.now) c.args.k c.args.places.now c.lead_on.new.self c.lead_of-lead.new.leads 1 c.lead_of-lead.ensures.leads c.lead_on.ensures.counted
