use Rattle.std.proofs.Common.{◌≡◌, ◌∙◌, ℕ, false, sym, subst, arith}
use Rattle.op_board.specs.OperationNets.{operation_node}
use Rattle.op_net.specs.NetView.{net_of}
use Rattle.operation_tables.specs.Waits.{node_total}
use Rattle.fork_board.specs.ForkTokens.{is_load_node}
use Rattle.read_forks.specs.NodeLinks.{IsLoadTaker}
use Rattle.read_forks.proofs.MadeGivers.{gives_none, no_load_taker, other_taker}
use Rattle.read_forks.proofs.MadeTables.{flag_read}
use Rattle.read_forks.proofs.OpenLines.{IsOperationHere, is_operation_here}
use Rattle.read_forks.proofs.new_steps.load_taker.Goals as goal

pub gives-requires : goal.gives-requires
gives-requires g c =
    let here : IsOperationHere (net_of c.args.net.now) c.args.piece c.args.i = is_operation_here (net_of c.args.net.now) c.args.k c.args.piece c.args.i c.requires.node c.requires.name in
    let of_piece = here.exists in
    let of_operation = here.inside in
    (omega arith, (of_piece, of_operation))

pub returns-then-index-clause-takes : goal.returns-then-index-clause-takes
returns-then-index-clause-takes g c = λ j low loads. c.taker-taker.ensures.takes j low

pub returns-then-index-clause-loads : goal.returns-then-index-clause-loads
returns-then-index-clause-loads g c = λ below.
    let room = c.requires.room in
    let within = c.taker-taker.ensures.within in
    sym (c.requires.flags c.taker-taker.result within) ∙ flag_read c.args.loads.now.items c.taker-taker.result c.index.result.now (omega (arith, room, within)) c.index.ensures ∙ c.if-index.true

pub returns-else-index-clause-takes : goal.returns-else-index-clause-takes
returns-else-index-clause-takes g c =
    let x = net_of c.args.net.now in
    let room = c.requires.room in
    let within = c.taker-taker.ensures.within in
    let no_load : is_load_node x (operation_node x c.taker-taker.result) ≡ false = sym (c.requires.flags c.taker-taker.result within) ∙ flag_read c.args.loads.now.items c.taker-taker.result c.index.result.now (omega (arith, room, within)) c.index.ensures ∙ c.if-index.false in
    subst (λ (n : ℕ). IsLoadTaker x c.args.k n) (sym c.nodes-none.ensures) (other_taker x c.args.k c.taker-taker.result c.taker-taker.ensures.takes no_load)

pub returns-else-index-clause-loads : goal.returns-else-index-clause-loads
returns-else-index-clause-loads g c = λ below. let count = c.nodes-none.ensures in absurd (omega (arith, below, count))

pub returns-else-gives-clause-takes : goal.returns-else-gives-clause-takes
returns-else-gives-clause-takes g c =
    let x = net_of c.args.net.now in
    subst (λ (n : ℕ). IsLoadTaker x c.args.k n) (sym c.nodes-none.ensures) (no_load_taker x c.args.k (gives_none x c.args.k c.args.piece c.args.i c.requires.name (sym c.gives.ensures ∙ c.if-gives.false)) (node_total (net_of c.args.net.now)) (omega arith))

pub returns-else-gives-clause-loads : goal.returns-else-gives-clause-loads
returns-else-gives-clause-loads g c = λ below. let count = c.nodes-none.ensures in absurd (omega (arith, below, count))
