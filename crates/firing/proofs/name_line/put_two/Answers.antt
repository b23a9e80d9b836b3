use Rattle.std.proofs.Common.{◌-◌, decimal, arith, append_assoc, length-set}
use Rattle.std.proofs.lemmas.List.{drop-set}
use Rattle.firing.proofs.LineLemmas.{digits_at_most_ten, drop-set_last}
use Rattle.firing.proofs.name_line.put_two.Goals as goal

pub write_digits-at-requires : goal.write_digits-at-requires
write_digits-at-requires c = grind (arith, decimal c.from.result, digits_at_most_ten c.from.result, length-set c.args.line.now 39 10)

pub overflow_sub-at : goal.overflow_sub-at
overflow_sub-at c = grind (arith, decimal c.from.result, digits_at_most_ten c.from.result)

pub write_digits-at-requires-2 : goal.write_digits-at-requires-2
write_digits-at-requires-2 c =
    grind (arith, decimal c.from.result, digits_at_most_ten c.from.result, decimal c.from-2.result, digits_at_most_ten c.from-2.result, length-set c.write_digits-at.new.buf (c.write_digits-at.result - 1) 32, length-set c.args.line.now 39 10)

pub put_start-requires-clause-room : goal.put_start-requires-clause-room
put_start-requires-clause-room c =
    grind (arith, decimal c.from.result, digits_at_most_ten c.from.result, decimal c.from-2.result, digits_at_most_ten c.from-2.result)

pub returns-clause-bytes : goal.returns-clause-bytes
returns-clause-bytes c =
    grind (arith, decimal c.from.result, digits_at_most_ten c.from.result, length-set c.args.line.now 39 10, drop-set c.write_digits-at.new.buf (c.write_digits-at.result - 1) 32, drop-set_last c.args.line.now 39 10 c.requires.room, append_assoc)
