use Rattle.std.proofs.Common.{◌≡◌, ◌+◌, ℕ, ℤ, pos, unwrap_or, Option, true, w32, ap, sym, subst, ◌∙◌, arith, rules}
use mir.Val.{SFits}
use Rattle.std.proofs.lemmas.Int.{to_z-of_z}
use Rattle.op_board.specs.OperationTokens.{is_given, operand_in, value_at}
use Rattle.op_board.specs.Operations.{From}
use Rattle.operation_lists.specs.Seen.{operand_seen}
use Rattle.operation_lists.specs.declared.operations.Operand.{Operand}
use Rattle.operation_tables.specs.BoardView.{operation_net_on}
use Rattle.operation_tables.specs.OperationRows.{IsTaker}
use Rattle.op_net.specs.PlaceSteps.{IsOwnOperand, values_for}
use Rattle.operation_places.specs.PlacesView.{IsAheadBy, MakesUp, standing}
use Rattle.op_net.proofs.MadeUp.{makes_none}
use Rattle.op_net.proofs.TakenOperands.{giver_after, giver_exists, giver_full, own_node, read_value}
use Rattle.op_net.proofs.operating.take_operand.Goals as goal

pub overflow_add-giver : goal.overflow_add-giver
overflow_add-giver g c =
    let x = operation_net_on c.args.board.now in
    let own : IsTaker x c.args.piece c.in-Node.number c.args.i = subst (λ (o : Operand). IsOwnOperand x c.args.piece c.args.i (operand_seen o)) c.in-Node.is c.requires.own in
    let below = giver_exists x c.args.piece c.args.i c.in-Node.number c.requires.piece own c.args.first c.requires.first in
    let few = c.args.board.now.own_tables.few in
    record { fits = omega (arith, below, few) }

pub index-requires : goal.index-requires
index-requires g c =
    let x = operation_net_on c.args.board.now in
    let own : IsTaker x c.args.piece c.in-Node.number c.args.i = subst (λ (o : Operand). IsOwnOperand x c.args.piece c.args.i (operand_seen o)) c.in-Node.is c.requires.own in
    let below = giver_exists x c.args.piece c.args.i c.in-Node.number c.requires.piece own c.args.first c.requires.first in
    let values = c.requires.values in
    omega (arith, below, values)

pub overflow_add-first : goal.overflow_add-first
overflow_add-first g c =
    let x = operation_net_on c.args.board.now in
    let below = own_node x c.args.piece c.args.i c.args.first c.requires.piece c.requires.operation c.requires.first in
    let few = c.args.board.now.own_tables.few in
    record { fits = omega (arith, below, few) }

pub take-requires : goal.take-requires
take-requires g c =
    let x = operation_net_on c.args.board.now in
    let first = c.args.first in
    let number = c.in-Node.number in
    let own : IsTaker x c.args.piece number c.args.i = subst (λ (o : Operand). IsOwnOperand x c.args.piece c.args.i (operand_seen o)) c.in-Node.is c.requires.own in
    let given : is_given x (standing c.args.places.now) c.args.piece (From number) ≡ true = subst (λ (o : Operand). is_given x (standing c.args.places.now) c.args.piece (operand_seen o) ≡ true) c.in-Node.is c.requires.given in
    let ahead : ∥ IsAheadBy x c.args.places.now (first + c.args.i) 1 ∥₁ = subst (λ (o : Operand). ∥ IsAheadBy x c.args.places.now (first + c.args.i) (values_for (operand_seen o)) ∥₁) c.in-Node.is c.requires.ahead in
    let giver = giver_exists x c.args.piece c.args.i number c.requires.piece own first c.requires.first in
    let values = c.requires.values in
    let full = giver_full x c.args.piece c.args.i number c.requires.piece own (standing c.args.places.now) first c.requires.first given in
    (omega arith, (omega (arith, giver, values), (own_node x c.args.piece c.args.i first c.requires.piece c.requires.operation c.requires.first, (c.requires.marks, (ahead, (full, λ counted. giver_after x c.args.piece c.args.i number c.requires.piece own first c.requires.first))))))

pub returns-in-Node-clause-value : goal.returns-in-Node-clause-value
returns-in-Node-clause-value g c =
    let x = operation_net_on c.args.board.now in
    let m = standing c.args.places.now in
    let own : IsTaker x c.args.piece c.in-Node.number c.args.i = subst (λ (o : Operand). IsOwnOperand x c.args.piece c.args.i (operand_seen o)) c.in-Node.is c.requires.own in
    let below = giver_exists x c.args.piece c.args.i c.in-Node.number c.requires.piece own c.args.first c.requires.first in
    let values = c.requires.values in
    let fits : SFits w32 c.unwrap_or-z.result = search rules in
    to_z-of_z w32 c.unwrap_or-z.result fits
    ∙ c.unwrap_or-z.ensures
    ∙ ap (λ (o : Option ℤ). unwrap_or o (pos 0)) (sym (read_value c.args.places.now.values.items (c.args.first + c.in-Node.number) c.index.result.now (omega (arith, below, values)) c.index.ensures))
    ∙ ap (λ (f : ℕ). unwrap_or (value_at m (f + c.in-Node.number)) (pos 0)) c.requires.first
    ∙ ap (λ (o : Operand). operand_in x m c.args.piece (operand_seen o)) (sym c.in-Node.is)

pub returns-in-Node-clause-counted : goal.returns-in-Node-clause-counted
returns-in-Node-clause-counted g c =
    subst (λ (o : Operand). MakesUp (operation_net_on c.args.board.now) c.args.places.now c.take.new.self (c.args.first + c.args.i) (values_for (operand_seen o))) (sym c.in-Node.is) c.take.ensures.counted

pub returns-in-Known-clause-counted : goal.returns-in-Known-clause-counted
returns-in-Known-clause-counted g c =
    subst (λ (o : Operand). MakesUp (operation_net_on c.args.board.now) c.args.places.now c.args.places.now (c.args.first + c.args.i) (values_for (operand_seen o))) (sym c.in-Known.is) (makes_none (operation_net_on c.args.board.now) (c.args.first + c.args.i) c.args.places.now)
