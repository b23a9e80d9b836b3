use Rattle.std.proofs.Common.{◌<◌, sym, subst, arith}
use Rattle.op_board.specs.OperationNets.{OperationNet}
use Rattle.op_board.specs.SoundOperationNets.{IsOperationNet}
use Rattle.op_net.specs.NetView.{marking_of as operations_on, net_of as net_in}
use Rattle.read_forks.specs.KeptLoads.{IsOpenForNone, opened_of}
use Rattle.read_forks.proofs.ArrivedLines.{first_begins, first_more}
use Rattle.read_forks.proofs.KeptNets.{apart_too, kept_there}
use Rattle.read_forks.proofs.waiting.Waiting.arrive_all.Goals as goal

pub loop-line-init : goal.loop-line-init
loop-line-init g c = first_begins c.args.self.now c.args.net.now c.requires.kept c.requires.none

pub arrive_first-requires : goal.arrive_first-requires
arrive_first-requires g c =
    let inv = c.loop-line.invariant in
    let x = net_in c.args.net.now in
    let low = c.loop-line-test.true in
    let count = c.lines-line-end.ensures in
    let below : c.loop-line.line < x.net.routing.lines = omega (arith, low, count) in (
      omega arith,
      (
        subst (λ (y : OperationNet). IsOperationNet y) (sym inv.rest.net) c.requires.is_net,
        (
          subst (λ (y : OperationNet). c.loop-line.line < y.net.routing.lines) (sym inv.rest.net) below,
          (
            apart_too c.args.net.now c.loop-line.net inv.rest.net inv.rest.apart c.requires.apart,
            (
              kept_there x (net_in c.loop-line.net) (operations_on c.args.net.now) (operations_on c.loop-line.net) c.loop-line.self inv.rest.net inv.rest.marking inv.kept,
              subst (λ (y : OperationNet). IsOpenForNone (opened_of y c.loop-line.self) c.loop-line.line) (sym inv.rest.net) (inv.left c.loop-line.line (omega arith)),
            ),
          ),
        ),
      ),
    )

pub loop-line-preserved : goal.loop-line-preserved
loop-line-preserved g c =
    let did = c.arrive_first in
    first_more c.loop-line.line c.loop-line.self did.new.self c.args.net.now c.loop-line.net did.new.net c.loop-line.invariant did.ensures.rest did.ensures.kept did.ensures.opened

pub returns-clause-rest : goal.returns-clause-rest
returns-clause-rest g c = c.loop-line.invariant.rest

pub returns-clause-kept : goal.returns-clause-kept
returns-clause-kept g c = c.loop-line.invariant.kept

pub returns-clause-opened : goal.returns-clause-opened
returns-clause-opened g c = λ line low.
    let over = c.loop-line-test.false in
    let count = c.lines-line-end.ensures in
    c.loop-line.invariant.opens line (omega (arith, over, low, count))
