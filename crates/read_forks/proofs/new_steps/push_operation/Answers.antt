use Rattle.std.proofs.Common.{◌≡◌, ◌<◌, ◌+◌, ◌∙◌, length, map, refl, sym, ap, arith, rules}
use Rattle.std.proofs.lemmas.List.{length-append, length-map}
use Rattle.op_board.specs.OperationNets.{needed, operation_at}
use Rattle.op_net.specs.NetView.{net_of}
use Rattle.read_forks.specs.MadeSteps.{load_givers, new_link_of}
use Rattle.read_forks.proofs.MadeTables.{flag_read, load_few, operation_more}
use Rattle.read_forks.proofs.OpenLines.{IsOperationHere, is_operation_here}
use Rattle.read_forks.proofs.new_steps.push_operation.Goals as goal

pub operand_count-operands-requires : goal.operand_count-operands-requires
operand_count-operands-requires g c =
    let here : IsOperationHere (net_of c.args.net.now) c.args.piece c.args.i = is_operation_here (net_of c.args.net.now) c.args.k c.args.piece c.args.i c.requires.node c.requires.name in
    let of_piece = here.exists in
    let of_operation = here.inside in
    (omega arith, (of_piece, of_operation))

pub needed_count-requires : goal.needed_count-requires
needed_count-requires g c =
    let here : IsOperationHere (net_of c.args.net.now) c.args.piece c.args.i = is_operation_here (net_of c.args.net.now) c.args.k c.args.piece c.args.i c.requires.node c.requires.name in
    let of_piece = here.exists in
    let of_operation = here.inside in
    (omega arith, (of_piece, of_operation))

pub push_links-requires : goal.push_links-requires
push_links-requires g c =
    let here : IsOperationHere (net_of c.args.net.now) c.args.piece c.args.i = is_operation_here (net_of c.args.net.now) c.args.k c.args.piece c.args.i c.requires.node c.requires.name in
    let of_piece = here.exists in
    let of_operation = here.inside in
    (omega arith, (of_piece, of_operation))

pub push_givers-requires : goal.push_givers-requires
push_givers-requires g c =
    let here : IsOperationHere (net_of c.args.net.now) c.args.piece c.args.i = is_operation_here (net_of c.args.net.now) c.args.k c.args.piece c.args.i c.requires.node c.requires.name in
    let of_piece = here.exists in
    let of_operation = here.inside in
    (omega arith, (c.requires.flags, (c.requires.room, (of_piece, of_operation))))

pub overflow_sub-givers : goal.overflow_sub-givers
overflow_sub-givers g c =
    let x = net_of c.args.net.now in
    let t = c.args.tables.now in
    let end : c.len-end.result ≡ length c.push_givers.new.givers.items = omega (arith, c.len-end.ensures, c.push_givers.new.givers.ok.0) in
    let begin : c.len-giver.result ≡ length t.givers.items = omega (arith, c.len-giver.ensures, t.givers.ok.0) in
    let grown = ap length c.in_ok-push_givers.ensures ∙ length-append t.givers.items (load_givers x c.args.piece (operation_at x c.args.piece c.args.i).operands) in
    omega (arith, end, begin, grown)

pub overflow_cast-givers : goal.overflow_cast-givers
overflow_cast-givers g c =
    let x = net_of c.args.net.now in
    let t = c.args.tables.now in
    let operands = (operation_at x c.args.piece c.args.i).operands in
    let end : c.len-end.result ≡ length c.push_givers.new.givers.items = omega (arith, c.len-end.ensures, c.push_givers.new.givers.ok.0) in
    let begin : c.len-giver.result ≡ length t.givers.items = omega (arith, c.len-giver.ensures, t.givers.ok.0) in
    let grown = ap length c.in_ok-push_givers.ensures ∙ length-append t.givers.items (load_givers x c.args.piece operands) in
    let few = load_few x c.args.piece operands in
    let count = c.operand_count-operands.ensures in
    let small : c.operand_count-operands.result < 4294967296 = search rules in
    omega (arith, end, begin, grown, few, count, small)

pub push-requires : goal.push-requires
push-requires g c =
    let all = c.requires.made.steps_made.all in
    let node = c.requires.node in
    let count = c.nodes-nodes.ensures in
    omega (arith, all, node, count)

pub returns : goal.returns
returns g c =
    let x = net_of c.args.net.now in
    let t = c.args.tables.now in
    let links = c.push_links.new.links.items in
    let givers = c.push_givers.new.givers.items in
    let first : c.len-first.result ≡ length t.links.items = omega (arith, c.len-first.ensures, t.links.ok.0) in
    let grown : length links ≡ length t.links.items + length (map (new_link_of c.args.k) (needed x c.args.piece c.args.i)) = ap length c.in_ok-push_links.ensures ∙ length-append t.links.items (map (new_link_of c.args.k) (needed x c.args.piece c.args.i)) in
    let counted = c.needed_count.ensures in
    let same = length-map (needed x c.args.piece c.args.i) (new_link_of c.args.k) in
    let long_2 : c.len-end.result ≡ length givers = omega (arith, c.len-end.ensures, c.push_givers.new.givers.ok.0) in
    let first_2 : c.len-giver.result ≡ length t.givers.items = omega (arith, c.len-giver.ensures, t.givers.ok.0) in
    let these = load_givers x c.args.piece (operation_at x c.args.piece c.args.i).operands in
    let grown_2 : length givers ≡ length t.givers.items + length these = ap length c.in_ok-push_givers.ensures ∙ length-append t.givers.items these in
    let room = c.requires.room in
    let node = c.requires.node in
    operation_more x c.args.k t.steps t.links.items t.givers.items c.requires.made c.requires.node _ c.push.new.self links c.in_ok-push.ensures first
    c.args.piece c.args.i c.requires.name givers refl refl
    (sym (flag_read c.args.loads.now.items c.args.k c.index.result.now (omega (arith, room, node)) c.index.ensures) ∙ c.requires.flags c.args.k c.requires.node) refl
    c.in_ok-push_links.ensures (omega (arith, counted, same, first, grown))
    c.in_ok-push_givers.ensures first_2 (omega (arith, long_2, first_2, grown_2))
    c.load_taker.ensures.takes c.load_taker.ensures.loads
