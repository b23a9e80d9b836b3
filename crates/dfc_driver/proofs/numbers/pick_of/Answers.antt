use Rattle.std.proofs.Common.{length, arith}
use Rattle.dfc_driver.proofs.Pieces.{few_digits, small_number}
use Rattle.dfc_driver.proofs.numbers.pick_of.Goals as goal

pub overflow_cast-result : goal.overflow_cast-result
overflow_cast-result c =
    let few = few_digits 9 c.args.piece.now c.requires in
    let small = small_number c.number_in.result (length c.args.piece.now) 9 c.number_in.ensures.small few in
    omega (arith, small)
