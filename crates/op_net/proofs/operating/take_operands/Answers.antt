use Rattle.std.proofs.Common.{◌≡◌, ◌+◌, ◌++◌, ◌∷◌, List, [], w32, length, map, drop, vec_len, sym, ap, ◌∙◌, arith, rules}
use mir.Val.{SFits}
use Rattle.std.proofs.lemmas.Int.{to_z-of_z}
use Rattle.std.proofs.lemmas.List.{length-map}
use Rattle.op_board.specs.OperationNets.{first_operation, operation_at}
use Rattle.op_board.specs.Operations.{Operand}
use Rattle.op_board.specs.OperationTokens.{givers, operand_in}
use Rattle.operation_lists.specs.Seen.{operand_seen}
use Rattle.operation_tables.specs.BoardView.{operation_net_on}
use Rattle.operation_places.specs.PlacesView.{standing}
use Rattle.op_net.proofs.MadeUp.{leaves_all, leaves_end}
use Rattle.operation_places.proofs.CountsKept.{keeps_more, keeps_own}
use Rattle.op_net.proofs.RowFacts.{row_operands}
use Rattle.op_net.proofs.WalkedRows as walked
use Rattle.operation_places.proofs.FoldedLists.{fold_end, left_none, map_end}
use Rattle.op_net.specs.PlaceSteps.{operand_taken}
use Rattle.operation_places.specs.StandingChanges.{values_taken}
use Rattle.op_net.proofs.TakenOperands.{operands_taken}
use Rattle.op_net.proofs.operating.take_operands.Goals as goal

pub loop-operand-init : goal.loop-operand-init
loop-operand-init g c =
    let x = operation_net_on c.args.board.now in
    let operands = (operation_at x c.args.piece c.args.i).operands in
    record {
      args = ap (λ xs. xs ++ map (operand_in x (standing c.args.places.now) c.args.piece) operands) c.clear.ensures.items;
      room = let same = c.clear.ensures.capacity in omega (arith, same);
      taken = operands_taken x c.args.piece (standing c.args.places.now) c.args.i;
      given = c.requires.given;
      values = c.requires.places.values;
      counted = leaves_all x (first_operation x c.args.piece + c.args.i) c.args.places.now (length (givers x c.args.piece operands));
      kept = keeps_own c.args.places.now;
    }

pub take_operand-z-requires : goal.take_operand-z-requires
take_operand-z-requires g c =
    let x = operation_net_on c.args.board.now in
    let items = c.as_slice-operand-items.result.now in
    let j = c.loop-operand.operand-index in
    let seen : map operand_seen items ≡ (operation_at x c.args.piece c.args.i).operands = ap (map operand_seen) c.as_slice-operand-items.ensures ∙ row_operands x c.args.piece c.args.i c.args.row.now c.requires.row in
    let own = walked.own_at x c.args.piece c.args.i items j _ seen c.loop-operand-test.true c.requires.operation in
    let given = walked.given_at x c.args.piece c.args.i items j _ seen c.loop-operand-test.true (standing c.loop-operand.places) c.loop-operand.invariant.given in
    (omega arith, (c.requires.piece, (c.requires.operation, (c.first-first.ensures, (c.loop-operand.invariant.values, (c.loop-operand.invariant.kept.marks ∙ c.requires.places.marks, (walked.operand_ahead x c.args.piece c.args.i items j _ seen c.loop-operand-test.true c.args.places.now c.loop-operand.places c.first-first.result c.first-first.ensures c.loop-operand.invariant.counted c.requires.ahead, (own, given))))))))

pub push_argument-requires : goal.push_argument-requires
push_argument-requires g c =
    let x = operation_net_on c.args.board.now in
    let operands = (operation_at x c.args.piece c.args.i).operands in
    let items = c.as_slice-operand-items.result.now in
    let seen : map operand_seen items ≡ operands = ap (map operand_seen) c.as_slice-operand-items.ensures ∙ row_operands x c.args.piece c.args.i c.args.row.now c.requires.row in
    let count : length items ≡ length operands = sym (length-map items operand_seen) ∙ ap length seen in
    let test = c.loop-operand-test.true in
    let done = walked.read_length c.loop-operand.args.items operands c.loop-operand.operand-index (operand_in x (standing c.loop-operand.places) c.args.piece) (operand_in x (standing c.args.places.now) c.args.piece) c.loop-operand.invariant.args (omega (arith, test, count)) in
    let long : length c.loop-operand.args.items ≡ vec_len c.loop-operand.args = search rules in
    let most = c.args.board.now.own_tables.most c.args.piece c.args.i c.requires.operation in
    let given = c.requires.room in
    let room = c.loop-operand.invariant.room in
    omega (arith, test, count, done, long, most, given, room)

pub loop-operand-preserved : goal.loop-operand-preserved
loop-operand-preserved g c =
    let x = operation_net_on c.args.board.now in
    let operands = (operation_at x c.args.piece c.args.i).operands in
    let f = operand_in x (standing c.loop-operand.places) c.args.piece in
    let all = map (operand_in x (standing c.args.places.now) c.args.piece) operands in
    let j = c.loop-operand.operand-index in
    let items = c.as_slice-operand-items.result.now in
    let seen : map operand_seen items ≡ operands = ap (map operand_seen) c.as_slice-operand-items.ensures ∙ row_operands x c.args.piece c.args.i c.args.row.now c.requires.row in
    let r = walked.taken_next x c.args.piece c.args.i items j _ seen c.loop-operand-test.true (standing c.loop-operand.places) (standing c.take_operand-z.new.places) (values_taken x (standing c.args.places.now) c.args.piece c.args.i) c.requires.operation c.take_operand-z.ensures.standing c.loop-operand.invariant.taken c.loop-operand.invariant.given in
    let more = c.push_argument.ensures.capacity in
    let fits : SFits w32 c.take_operand-z.result = search rules in
    let room = c.loop-operand.invariant.room in
    let read = walked.read_next x c.args.piece c.args.i items j _ seen c.loop-operand-test.true f c.loop-operand.args.items c.push_argument.new.args.items all
    (c.push_argument.ensures.items ∙ ap (λ z. c.loop-operand.args.items ++ z ∷ []) (to_z-of_z w32 c.take_operand-z.result fits ∙ c.take_operand-z.ensures.value)) c.loop-operand.invariant.args in
    record {
      args = ap (λ zs. c.push_argument.new.args.items ++ zs) r.read ∙ read;
      room = omega (arith, more, room);
      taken = r.taken;
      given = r.given;
      values = r.values ∙ c.loop-operand.invariant.values;
      counted = walked.operand_leaves x c.args.piece c.args.i items j _ seen c.loop-operand-test.true c.args.places.now c.loop-operand.places c.first-first.result c.first-first.ensures c.loop-operand.invariant.counted c.take_operand-z.new.places c.take_operand-z.ensures.counted;
      kept = keeps_more c.args.places.now c.loop-operand.places c.take_operand-z.new.places c.loop-operand.invariant.kept c.take_operand-z.ensures.kept;
    }

pub returns-clause-args : goal.returns-clause-args
returns-clause-args g c =
    let x = operation_net_on c.args.board.now in
    let operands = (operation_at x c.args.piece c.args.i).operands in
    let items = c.as_slice-operand-items.result.now in
    let seen : map operand_seen items ≡ operands = ap (map operand_seen) c.as_slice-operand-items.ensures ∙ row_operands x c.args.piece c.args.i c.args.row.now c.requires.row in
    map_end (operand_in x (standing c.loop-operand.places) c.args.piece) c.loop-operand.args.items (map (operand_in x (standing c.args.places.now) c.args.piece) operands) (drop c.loop-operand.operand-index operands) (left_none operand_seen items operands c.loop-operand.operand-index seen c.loop-operand-test.false) c.loop-operand.invariant.args

pub returns-clause-standing : goal.returns-clause-standing
returns-clause-standing g c =
    let x = operation_net_on c.args.board.now in
    let operands = (operation_at x c.args.piece c.args.i).operands in
    let items = c.as_slice-operand-items.result.now in
    let seen : map operand_seen items ≡ operands = ap (map operand_seen) c.as_slice-operand-items.ensures ∙ row_operands x c.args.piece c.args.i c.args.row.now c.requires.row in
    fold_end (operand_taken x c.args.piece) (standing c.loop-operand.places) (values_taken x (standing c.args.places.now) c.args.piece c.args.i) (drop c.loop-operand.operand-index operands) (left_none operand_seen items operands c.loop-operand.operand-index seen c.loop-operand-test.false) c.loop-operand.invariant.taken

pub returns-clause-counted : goal.returns-clause-counted
returns-clause-counted g c =
    let x = operation_net_on c.args.board.now in
    let operands = (operation_at x c.args.piece c.args.i).operands in
    let items = c.as_slice-operand-items.result.now in
    let j = c.loop-operand.operand-index in
    let seen : map operand_seen items ≡ operands = ap (map operand_seen) c.as_slice-operand-items.ensures ∙ row_operands x c.args.piece c.args.i c.args.row.now c.requires.row in
    leaves_end x (first_operation x c.args.piece + c.args.i) c.args.places.now c.loop-operand.places (length (givers x c.args.piece operands)) (length (givers x c.args.piece (drop j operands))) c.loop-operand.invariant.counted
    (ap (λ (os : List Operand). length (givers x c.args.piece os)) (left_none operand_seen items operands j seen c.loop-operand-test.false))
