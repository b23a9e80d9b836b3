use Rattle.std.proofs.Common.{◌++◌, ◌∷◌, [], w32, ap, ◌∙◌, arith, rules}
use mir.Val.{SFits}
use Rattle.std.proofs.lemmas.Int.{to_z-of_z}
use Rattle.op_net.proofs.PieceValues.{read_next}
use Rattle.op_net.proofs.piece_performing.read_operands.Goals as goal

pub loop-operand-preserved : goal.loop-operand-preserved
loop-operand-preserved c =
    let fits : SFits w32 c.operand_value-z.result = search rules in
    let more = c.push_argument.ensures.capacity in
    let room = c.loop-operand.invariant.room in
    record {
      items = read_next c.args.values.now c.loop-operand.args.items c.push_argument.new.args.items c.args.operands.now.items c.as_slice-operand-items.result.now c.loop-operand.operand-index _ c.operand_value-z.result c.as_slice-operand-items.ensures (search rules) c.loop-operand.invariant.items
          (c.push_argument.ensures.items ∙ ap (λ z. c.loop-operand.args.items ++ z ∷ []) (to_z-of_z w32 c.operand_value-z.result fits)) c.operand_value-z.ensures;
      room = omega (arith, more, room);
    }
