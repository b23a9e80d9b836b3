use Rattle.std.proofs.Common.{◌+◌, suc, refl, ap, ◌∙◌, arith, add-one}
use Rattle.net_board.specs.Tokens.{edge_of}
use Rattle.operation_tables.specs.BoardView.{operation_net_on}
use Rattle.operation_tables.specs.OperationRows.{IsNextNeed}
use Rattle.operation_places.specs.PlacesView.{standing}
use Rattle.op_net.proofs.HopFacts.{before_here, before_next, hop_before, hop_exists, hop_last, hop_next, moved_away, moved_past, passed_few}
use Rattle.operation_tables.proofs.OperationRanges.{few_operations}
use Rattle.op_net.proofs.TakenOperands.{own_node}
use Rattle.op_net.proofs.operating.move_line.Goals as goal

pub overflow_add-hop : goal.overflow_add-hop
overflow_add-hop g c =
    let x = operation_net_on c.args.board.now in
    let few = few_operations x c.args.board.now.tables c.args.board.now.own_tables c.args.piece c.requires.piece in
    record { fits = passed_few x c.args.piece c.args.i c.args.hop c.requires.hop c.in-Some.n c.in-Some.is few }

pub overflow_add-first : goal.overflow_add-first
overflow_add-first g c =
    let below = own_node (operation_net_on c.args.board.now) c.args.piece c.args.i c.args.first c.requires.piece c.requires.operation c.requires.first in
    let few = c.args.board.now.own_tables.few in
    record { fits = omega (arith, below, few) }

pub overflow_add-first-in-Some : goal.overflow_add-first-in-Some
overflow_add-first-in-Some g c =
    let x = operation_net_on c.args.board.now in
    let next = hop_next x c.args.piece c.args.i c.args.hop c.requires.hop c.in-Some.n c.in-Some.is in
    let below = own_node x c.args.piece c.in-Some.n c.args.first c.requires.piece next.inside c.requires.first in
    let few = c.args.board.now.own_tables.few in
    record { fits = omega (arith, below, few) }

pub overflow_add-first-in-None : goal.overflow_add-first-in-None
overflow_add-first-in-None g c =
    let below = own_node (operation_net_on c.args.board.now) c.args.piece c.args.i c.args.first c.requires.piece c.requires.operation c.requires.first in
    let few = c.args.board.now.own_tables.few in
    record { fits = omega (arith, below, few) }

pub pass_on-requires : goal.pass_on-requires
pass_on-requires g c =
    let x = operation_net_on c.args.board.now in
    let m = standing c.args.places.now in
    let hop = c.args.hop in
    let exists = hop_exists x c.args.piece c.args.i hop c.requires.hop in
    let lines = c.requires.lines in
    let passed = c.requires.passed in
    let facts = c.args.board.now.plan.facts in
    let next : IsNextNeed x c.args.piece c.args.i hop.line c.in-Some.n = hop_next x c.args.piece c.args.i hop c.requires.hop c.in-Some.n c.in-Some.is in (
      omega arith,
      (
        exists,
        (
          omega (arith, exists, lines),
          (
            omega (arith, exists, passed),
            (
              c.requires.marks,
              (
                c.requires.ahead,
                (
                  (λ counted. before_here x facts c.args.piece c.args.i hop.line m c.requires.piece c.requires.operation c.requires.needs c.requires.stands c.args.first c.requires.first),
                  (λ counted. before_next x facts c.args.piece c.args.i hop.line m c.requires.piece c.requires.operation c.requires.needs c.requires.stands c.args.first c.in-Some.n (hop.before + 1) (edge_of m.tokens hop.line) c.requires.first next refl (add-one hop.before ∙ ap suc (hop_before x c.args.piece c.args.i hop c.requires.hop))),
                ),
              ),
            ),
          ),
        ),
      ),
    )

pub lead_line-requires : goal.lead_line-requires
lead_line-requires g c =
    let x = operation_net_on c.args.board.now in
    let hop = c.args.hop in
    let exists = hop_exists x c.args.piece c.args.i hop c.requires.hop in (
      omega arith,
      (
        c.requires.edge,
        (
          exists,
          (
            c.requires.lines,
            (
              c.requires.passed,
              (
                c.requires.marks,
                (
                  own_node x c.args.piece c.args.i c.args.first c.requires.piece c.requires.operation c.requires.first,
                  (
                    c.requires.ahead,
                    before_here x c.args.board.now.plan.facts c.args.piece c.args.i hop.line (standing c.args.places.now) c.requires.piece c.requires.operation c.requires.needs c.requires.stands c.args.first c.requires.first,
                  ),
                ),
              ),
            ),
          ),
        ),
      ),
    )

pub returns-in-Some-clause-standing : goal.returns-in-Some-clause-standing
returns-in-Some-clause-standing g c =
    let x = operation_net_on c.args.board.now in
    let m = standing c.args.places.now in
    let hop = c.args.hop in
    let next : IsNextNeed x c.args.piece c.args.i hop.line c.in-Some.n = hop_next x c.args.piece c.args.i hop c.requires.hop c.in-Some.n c.in-Some.is in
    c.pass_on.ensures.standing
    ∙ moved_past x c.args.piece c.args.i c.args.edge hop.line m (edge_of m.tokens hop.line) (hop.before + 1) next.more refl (add-one hop.before ∙ ap suc (hop_before x c.args.piece c.args.i hop c.requires.hop))

pub returns-in-None-clause-standing : goal.returns-in-None-clause-standing
returns-in-None-clause-standing g c =
    let x = operation_net_on c.args.board.now in
    c.lead_line.ensures.standing
    ∙ moved_away x c.args.piece c.args.i c.args.edge c.args.hop.line (standing c.args.places.now) (hop_last x c.args.piece c.args.i c.args.hop c.requires.hop c.in-None.is)
