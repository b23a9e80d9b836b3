use Rattle.std.proofs.Common.{◌≡◌, ◌+◌, ℤ, true, None, Some, length, refl, ap, w32, ◌∙◌, arith, rules}
use mir.Val.{to_z, of_z}
use Rattle.std.specs.List.{list_all}
use Rattle.std.proofs.lemmas.Int.{ints}
use Rattle.f77_meaning.specs.Storage.{memory_of}
use Rattle.op_board.specs.OperationNets.{first_operation, operation_at}
use Rattle.op_board.specs.OperationTokens.{OperationTokens, givers, is_given, value_at}
use Rattle.op_net.specs.FiringChanges.{worked_on}
use Rattle.op_net.specs.NetView.{marking_of, net_of}
use Rattle.operation_places.specs.PlacesView.{standing, value_put}
use Rattle.operation_places.specs.StandingChanges.{values_taken}
use Rattle.op_net.proofs.ApartNets.{IsGivenAs, apart_marking, gives_one, load_gives_value}
use Rattle.operation_places.proofs.CountedAhead.{ahead_counted}
use Rattle.operation_places.proofs.CountsKept.{keeps_more}
use Rattle.op_net.proofs.FiringParts.{given_same, taken_empty}
use Rattle.operation_tables.proofs.NodeNames.{IsOperationAt, operation_at_node}
use Rattle.op_net.proofs.OperatedNets.{ahead_apart, ahead_by, ahead_load, performed_so, whole}
use Rattle.op_net.proofs.PlacesKept.{given_kept}
use Rattle.op_net.proofs.RowFacts.{row_line_count}
use Rattle.op_net.proofs.RowReads.{row_waits, taker_after, taker_within}
use Rattle.op_net.proofs.net.OpNet.load_apart.Goals as goal

pub row-row-requires : goal.row-row-requires
row-row-requires g c =
    let x = net_of c.args.self.now in
    let n : IsOperationAt x c.args.k c.args.piece c.args.i = operation_at_node x c.args.k c.args.piece c.args.i c.requires.node c.requires.name in
    (omega arith, (n.exists, n.inside))

pub work_with-did-requires : goal.work_with-did-requires
work_with-did-requires g c =
    let x = net_of c.args.self.now in
    let k = c.args.k in
    let piece = c.args.piece in
    let i = c.args.i in
    let n : IsOperationAt x k piece i = operation_at_node x k piece i c.requires.node c.requires.name in
    let s1 = c.count_ahead.new.places in
    let is = n.number in
    let ops = (operation_at x piece i).operands in
    let given : list_all (is_given x (standing s1) piece) ops ≡ true = given_same x piece (standing s1) (marking_of c.args.self.now) (ap (λ (t : OperationTokens). t.values) c.count_ahead.ensures.standing) ops ∙ c.requires.given in
    let gives = load_gives_value (operation_at x piece i).work c.requires.loads in
    let hop_count : c.len.result ≡ length c.row-row.result.now.hops.items = search rules in
    let all = ahead_apart x s1 k piece i n.number _ _ _ gives (row_waits x piece i c.row-row.result.now c.row-row.ensures) (hop_count ∙ row_line_count x piece i c.row-row.result.now c.row-row.ensures) refl c.count_ahead.ensures.ahead in
    let ahead = ahead_by x s1 (first_operation x piece + i) (length (givers x piece ops)) 1 all in
    (omega arith, (n.exists, (n.inside, (omega (arith, is), (c.row-row.ensures, (c.count_ahead.ensures.places, (given, (c.requires.sizes, (refl, (c.args.self.now.data, (c.args.self.now.args_room, (c.args.self.now.draft_room, ahead))))))))))))

pub overflow_sub-k : goal.overflow_sub-k
overflow_sub-k g c =
    let n : IsOperationAt (net_of c.args.self.now) c.args.k c.args.piece c.args.i = operation_at_node (net_of c.args.self.now) c.args.k c.args.piece c.args.i c.requires.node c.requires.name in
    let is = n.number in
    omega (arith, is)

pub overflow_sub-k-in-Gave : goal.overflow_sub-k-in-Gave
overflow_sub-k-in-Gave g c =
    let n : IsOperationAt (net_of c.args.self.now) c.args.k c.args.piece c.args.i = operation_at_node (net_of c.args.self.now) c.args.k c.args.piece c.args.i c.requires.node c.requires.name in
    let is = n.number in
    omega (arith, is)

pub overflow_add-k : goal.overflow_add-k
overflow_add-k g c =
    let x = net_of c.args.self.now in
    let n : IsOperationAt x c.args.k c.args.piece c.args.i = operation_at_node x c.args.k c.args.piece c.args.i c.requires.node c.requires.name in
    let gives = load_gives_value (operation_at x c.args.piece c.args.i).work c.requires.loads in
    let within = taker_within x c.args.piece c.args.i c.row-row.result.now c.row-row.ensures gives n.exists c.args.k n.number in
    let few = c.args.self.now.board.own_tables.few in
    record { fits = omega (arith, within, few) }

pub give-requires : goal.give-requires
give-requires g c =
    let x = net_of c.args.self.now in
    let m = marking_of c.args.self.now in
    let k = c.args.k in
    let piece = c.args.piece in
    let i = c.args.i in
    let n : IsOperationAt x k piece i = operation_at_node x k piece i c.requires.node c.requires.name in
    let s1 = c.count_ahead.new.places in
    let s2 = c.work_with-did.new.places in
    let row = c.row-row.result.now in
    let gives = load_gives_value (operation_at x piece i).work c.requires.loads in
    let hop_count : c.len.result ≡ length c.row-row.result.now.hops.items = search rules in
    let all = ahead_apart x s1 k piece i n.number _ _ _ gives (row_waits x piece i row c.row-row.ensures) (hop_count ∙ row_line_count x piece i row c.row-row.ensures) refl c.count_ahead.ensures.ahead in
    let ahead = ahead_by x s2 k 1 0 (ahead_load x s2 k piece i n.number (c.work_with-did.ensures.counted 1 all)) in
    let own = c.work_with-did.ensures.places in
    let values = own.values in
    let node = c.requires.node in
    let taken : standing s2 ≡ values_taken x (standing c.args.self.now.places) piece i = c.work_with-did.ensures.standing ∙ ap (λ (t : OperationTokens). values_taken x t piece i) c.count_ahead.ensures.standing in
    let empty : value_at (standing s2) k ≡ None = ap (λ (t : OperationTokens). value_at t k) taken ∙ taken_empty x m k piece i c.requires.empty in
    let within = taker_within x piece i row c.row-row.ensures gives n.exists k n.number in
    let after = taker_after x piece i row c.row-row.ensures gives n.exists k n.number in
    (omega arith, (omega (arith, node, values), (node, (own.marks, (ahead, (empty, (within, λ asked. after)))))))

pub returns-in_default : goal.returns-in_default
returns-in_default g c =
    let x = net_of c.args.self.now in
    let s = c.args.self.now in
    let m = marking_of s in
    let mem = memory_of c.work_with-did.new.storage in
    let did = performed_so x (standing s.places) (memory_of s.storage) s.trapped c.args.piece c.args.i (standing c.count_ahead.new.places) _ c.count_ahead.ensures.standing c.work_with-did.ensures.effect in
    let gave : IsGivenAs m.tokens.memory mem c.work_with-did.result _ = gives_one x m c.args.k c.args.piece c.args.i c.requires.loads mem c.work_with-did.result c.work_with-did.new.draft.items did in
    absurd (c.in_default.not-Gave gave.value gave.is)

pub invariant_of-self-in_default : goal.invariant_of-self-in_default
invariant_of-self-in_default g c =
    let x = net_of c.args.self.now in
    let s = c.args.self.now in
    let m = marking_of s in
    let mem = memory_of c.work_with-did.new.storage in
    let did = performed_so x (standing s.places) (memory_of s.storage) s.trapped c.args.piece c.args.i (standing c.count_ahead.new.places) _ c.count_ahead.ensures.standing c.work_with-did.ensures.effect in
    let gave : IsGivenAs m.tokens.memory mem c.work_with-did.result _ = gives_one x m c.args.k c.args.piece c.args.i c.requires.loads mem c.work_with-did.result c.work_with-did.new.draft.items did in
    absurd (c.in_default.not-Gave gave.value gave.is)

pub returns-in-Gave-clause-marking : goal.returns-in-Gave-clause-marking
returns-in-Gave-clause-marking g c =
    let x = net_of c.args.self.now in
    let s = c.args.self.now in
    let m = marking_of s in
    let k = c.args.k in
    let piece = c.args.piece in
    let i = c.args.i in
    let s2 = c.work_with-did.new.places in
    let mem = memory_of c.work_with-did.new.storage in
    let n = whole (standing s2) mem s.trapped in
    let did = performed_so x (standing s.places) (memory_of s.storage) s.trapped piece i (standing c.count_ahead.new.places) _ c.count_ahead.ensures.standing c.work_with-did.ensures.effect in
    let taken : standing s2 ≡ values_taken x (standing s.places) piece i = c.work_with-did.ensures.standing ∙ ap (λ (t : OperationTokens). values_taken x t piece i) c.count_ahead.ensures.standing in
    let worked : n ≡ worked_on x m piece i mem = ap (λ (t : OperationTokens). whole t mem s.trapped) taken in
    let same : to_z w32 (of_z w32 c.in-Gave.z) ≡ c.in-Gave.z = search (rules, ints) in
    ap (λ (t : OperationTokens). whole t mem s.trapped) c.give.ensures.standing
    ∙ ap (λ (v : ℤ). value_put n k (Some v)) same
    ∙ apart_marking x m k piece i c.requires.loads mem c.work_with-did.result c.work_with-did.new.draft.items c.in-Gave.z n did c.in-Gave.is worked

pub returns-in-Gave-clause-kept : goal.returns-in-Gave-clause-kept
returns-in-Gave-clause-kept g c =
    keeps_more c.args.self.now.places c.count_ahead.new.places c.give.new.self c.count_ahead.ensures.kept
    (keeps_more c.count_ahead.new.places c.work_with-did.new.places c.give.new.self c.work_with-did.ensures.kept c.give.ensures.kept)

pub invariant_of-self : goal.invariant_of-self
invariant_of-self g c =
    let x = net_of c.args.self.now in
    let k = c.args.k in
    let piece = c.args.piece in
    let i = c.args.i in
    let n : IsOperationAt x k piece i = operation_at_node x k piece i c.requires.node c.requires.name in
    let s1 = c.count_ahead.new.places in
    let s2 = c.work_with-did.new.places in
    let row = c.row-row.result.now in
    let gives = load_gives_value (operation_at x piece i).work c.requires.loads in
    let hop_count : c.len.result ≡ length c.row-row.result.now.hops.items = search rules in
    let all = ahead_apart x s1 k piece i n.number _ _ _ gives (row_waits x piece i row c.row-row.ensures) (hop_count ∙ row_line_count x piece i row c.row-row.ensures) refl c.count_ahead.ensures.ahead in
    let left = ahead_load x s2 k piece i n.number (c.work_with-did.ensures.counted 1 all) in
    let longer = c.work_with-did.ensures.room in
    let room = c.args.self.now.args_room in
    let more = c.work_with-did.ensures.draft_room in
    let enough = c.args.self.now.draft_room in
    record {
      own_places = given_kept c.args.self.now.board s2 c.give.new.self c.work_with-did.ensures.places c.give.ensures.kept k _ c.give.ensures.standing;
      counted = ahead_counted x c.give.new.self k (c.give.ensures.counted 0 left);
      «data» = c.work_with-did.ensures.data;
      text_room = c.args.self.now.text_room;
      draft_room = omega (arith, more, enough);
      args_room = omega (arith, longer, room);
      values_room = c.args.self.now.values_room;
      placed = c.args.self.now.placed;
    }
