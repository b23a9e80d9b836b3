use Rattle.std.proofs.Common.{◌≡◌, ◌+◌, ℕ, ℤ, [], ◌∷◌, get_or, length, w32, sym, ap, ◌∙◌, subst, arith, rules}
use mir.Val.{SFits}
use Rattle.std.proofs.lemmas.Int.{to_z-of_z}
use Rattle.op_board.specs.OperationTokens.{OperationTokens}
use Rattle.operation_lists.specs.Seen.{operand_seen}
use Rattle.operation_lists.specs.declared.operations.Operand as rust
use Rattle.operation_tables.specs.BoardView.{operation_net_on}
use Rattle.op_net.specs.PlaceSteps.{values_for}
use Rattle.operation_places.specs.PlacesView.{IsAheadBy, MakesUp, standing}
use Rattle.op_net.proofs.FirstThree.{few_count, few_may, few_read, few_taken, first_given, first_own, second_may, third_may}
use Rattle.op_net.proofs.MadeUp.{ahead_left, ahead_less, makes_more}
use Rattle.op_net.proofs.TakenOperands.{taken_length}
use Rattle.op_net.proofs.operating.take_few.Goals as goal

pub take_operand-requires : goal.take_operand-requires
take_operand-requires g c =
    let x = operation_net_on c.args.board.now in
    let none : rust.Operand = rust.Operand.Node 0 in
    let v = values_for (operand_seen (get_or c.args.row.now.few 0 none)) in
    let w = values_for (operand_seen (get_or c.args.row.now.few 1 none)) in
    let u = values_for (operand_seen (get_or c.args.row.now.few 2 none)) in
    let ahead : ∥ IsAheadBy x c.args.places.now (c.args.first + c.args.i) (v + (w + u)) ∥₁ = subst (λ (n : ℕ). ∥ IsAheadBy x c.args.places.now (c.args.first + c.args.i) n ∥₁) (few_count x c.args.piece c.args.i c.requires.operation c.requires.few c.args.row.now c.requires.row none) c.requires.ahead in
    let may = few_may x c.args.piece c.args.i c.requires.operation c.requires.few c.args.row.now c.requires.row none (standing c.args.places.now) c.requires.given in
    (omega arith, (c.requires.piece, (c.requires.operation, (c.requires.first, (c.requires.places.values, (c.requires.places.marks, (ahead_less x (c.args.first + c.args.i) c.args.places.now v (w + u) ahead, (first_own x c.args.piece c.args.i (standing c.args.places.now) (operand_seen (get_or c.args.row.now.few 0 none)) (operand_seen (get_or c.args.row.now.few 1 none) ∷ operand_seen (get_or c.args.row.now.few 2 none) ∷ []) may, first_given x c.args.piece c.args.i (standing c.args.places.now) (operand_seen (get_or c.args.row.now.few 0 none)) (operand_seen (get_or c.args.row.now.few 1 none) ∷ operand_seen (get_or c.args.row.now.few 2 none) ∷ []) may))))))))

pub take_operand-requires-2 : goal.take_operand-requires-2
take_operand-requires-2 g c =
    let x = operation_net_on c.args.board.now in
    let none : rust.Operand = rust.Operand.Node 0 in
    let v = values_for (operand_seen (get_or c.args.row.now.few 0 none)) in
    let w = values_for (operand_seen (get_or c.args.row.now.few 1 none)) in
    let u = values_for (operand_seen (get_or c.args.row.now.few 2 none)) in
    let ahead : ∥ IsAheadBy x c.args.places.now (c.args.first + c.args.i) (v + (w + u)) ∥₁ = subst (λ (n : ℕ). ∥ IsAheadBy x c.args.places.now (c.args.first + c.args.i) n ∥₁) (few_count x c.args.piece c.args.i c.requires.operation c.requires.few c.args.row.now c.requires.row none) c.requires.ahead in
    let second = ahead_left x (c.args.first + c.args.i) c.args.places.now c.take_operand.new.places v (w + u) ahead c.take_operand.ensures.counted in
    let may = second_may x c.args.piece c.args.i c.requires.operation c.requires.few c.args.row.now c.requires.row none (standing c.args.places.now) c.requires.given (standing c.take_operand.new.places) c.take_operand.ensures.standing in
    let values = ap (λ (n : OperationTokens). length n.values) c.take_operand.ensures.standing ∙ taken_length x c.args.piece (standing c.args.places.now) (operand_seen (get_or c.args.row.now.few 0 none)) ∙ c.requires.places.values in
    (omega arith, (c.requires.piece, (c.requires.operation, (c.requires.first, (values, (c.take_operand.ensures.kept.marks ∙ c.requires.places.marks, (ahead_less x (c.args.first + c.args.i) c.take_operand.new.places w u second, (first_own x c.args.piece c.args.i (standing c.take_operand.new.places) (operand_seen (get_or c.args.row.now.few 1 none)) (operand_seen (get_or c.args.row.now.few 2 none) ∷ []) may, first_given x c.args.piece c.args.i (standing c.take_operand.new.places) (operand_seen (get_or c.args.row.now.few 1 none)) (operand_seen (get_or c.args.row.now.few 2 none) ∷ []) may))))))))

pub take_operand-requires-3 : goal.take_operand-requires-3
take_operand-requires-3 g c =
    let x = operation_net_on c.args.board.now in
    let none : rust.Operand = rust.Operand.Node 0 in
    let v = values_for (operand_seen (get_or c.args.row.now.few 0 none)) in
    let w = values_for (operand_seen (get_or c.args.row.now.few 1 none)) in
    let u = values_for (operand_seen (get_or c.args.row.now.few 2 none)) in
    let ahead : ∥ IsAheadBy x c.args.places.now (c.args.first + c.args.i) (v + (w + u)) ∥₁ = subst (λ (n : ℕ). ∥ IsAheadBy x c.args.places.now (c.args.first + c.args.i) n ∥₁) (few_count x c.args.piece c.args.i c.requires.operation c.requires.few c.args.row.now c.requires.row none) c.requires.ahead in
    let second = ahead_left x (c.args.first + c.args.i) c.args.places.now c.take_operand.new.places v (w + u) ahead c.take_operand.ensures.counted in
    let third = ahead_left x (c.args.first + c.args.i) c.take_operand.new.places c.take_operand-2.new.places w u second c.take_operand-2.ensures.counted in
    let may = third_may x c.args.piece c.args.i c.requires.operation c.requires.few c.args.row.now c.requires.row none (standing c.args.places.now) c.requires.given (standing c.take_operand.new.places) c.take_operand.ensures.standing (standing c.take_operand-2.new.places) c.take_operand-2.ensures.standing in
    let values = ap (λ (n : OperationTokens). length n.values) c.take_operand.ensures.standing ∙ taken_length x c.args.piece (standing c.args.places.now) (operand_seen (get_or c.args.row.now.few 0 none)) ∙ c.requires.places.values in
    let later = ap (λ (n : OperationTokens). length n.values) c.take_operand-2.ensures.standing ∙ taken_length x c.args.piece (standing c.take_operand.new.places) (operand_seen (get_or c.args.row.now.few 1 none)) ∙ values in
    (omega arith, (c.requires.piece, (c.requires.operation, (c.requires.first, (later, (c.take_operand-2.ensures.kept.marks ∙ c.take_operand.ensures.kept.marks ∙ c.requires.places.marks, (third, (first_own x c.args.piece c.args.i (standing c.take_operand-2.new.places) (operand_seen (get_or c.args.row.now.few 2 none)) ([]) may, first_given x c.args.piece c.args.i (standing c.take_operand-2.new.places) (operand_seen (get_or c.args.row.now.few 2 none)) ([]) may))))))))

pub returns-clause-args : goal.returns-clause-args
returns-clause-args g c =
    let x = operation_net_on c.args.board.now in
    let none : rust.Operand = rust.Operand.Node 0 in
    let fits : SFits w32 c.take_operand.result = search rules in
    let fits_more : SFits w32 c.take_operand-2.result = search rules in
    let fits_last : SFits w32 c.take_operand-3.result = search rules in
    let one = to_z-of_z w32 c.take_operand.result fits ∙ c.take_operand.ensures.value in
    let two = to_z-of_z w32 c.take_operand-2.result fits_more ∙ c.take_operand-2.ensures.value in
    let three = to_z-of_z w32 c.take_operand-3.result fits_last ∙ c.take_operand-3.ensures.value in
    few_read x c.args.piece c.args.i c.requires.operation c.requires.few c.args.row.now c.requires.row none (standing c.args.places.now) c.requires.given (standing c.take_operand.new.places) c.take_operand.ensures.standing (standing c.take_operand-2.new.places) c.take_operand-2.ensures.standing
    ∙ three_alike _ _ _ _ _ _ (sym one) (sym two) (sym three)
  where
    three_alike : (a b c d e f : ℤ) → a ≡ d → b ≡ e → c ≡ f → (a ∷ b ∷ c ∷ []) ≡ (d ∷ e ∷ f ∷ [])
    three_alike a b c d e f same also too = ap (λ z. z ∷ b ∷ c ∷ []) same ∙ ap (λ z. d ∷ z ∷ c ∷ []) also ∙ ap (λ z. d ∷ e ∷ z ∷ []) too

pub returns-clause-standing : goal.returns-clause-standing
returns-clause-standing g c =
    let x = operation_net_on c.args.board.now in
    let none : rust.Operand = rust.Operand.Node 0 in
    few_taken x c.args.piece c.args.i c.requires.operation c.requires.few c.args.row.now c.requires.row none (standing c.args.places.now) c.requires.given (standing c.take_operand.new.places) c.take_operand.ensures.standing (standing c.take_operand-2.new.places) c.take_operand-2.ensures.standing (standing c.take_operand-3.new.places) c.take_operand-3.ensures.standing

pub returns-clause-counted : goal.returns-clause-counted
returns-clause-counted g c =
    let x = operation_net_on c.args.board.now in
    let none : rust.Operand = rust.Operand.Node 0 in
    let v = values_for (operand_seen (get_or c.args.row.now.few 0 none)) in
    let w = values_for (operand_seen (get_or c.args.row.now.few 1 none)) in
    let u = values_for (operand_seen (get_or c.args.row.now.few 2 none)) in
    let makes : MakesUp x c.args.places.now c.take_operand-3.new.places (c.args.first + c.args.i) (v + (w + u)) = makes_more x (c.args.first + c.args.i) c.args.places.now c.take_operand.new.places c.take_operand-3.new.places v (w + u) c.take_operand.ensures.counted
    (makes_more x (c.args.first + c.args.i) c.take_operand.new.places c.take_operand-2.new.places c.take_operand-3.new.places w u c.take_operand-2.ensures.counted c.take_operand-3.ensures.counted) in
    subst (λ (n : ℕ). MakesUp x c.args.places.now c.take_operand-3.new.places (c.args.first + c.args.i) n) (sym (few_count x c.args.piece c.args.i c.requires.operation c.requires.few c.args.row.now c.requires.row none)) makes
