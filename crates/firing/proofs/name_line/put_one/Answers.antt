use Rattle.std.proofs.Common.{decimal, arith, append_assoc, length-set}
use Rattle.firing.proofs.LineLemmas.{digits_at_most_ten, drop-set_last}
use Rattle.firing.proofs.name_line.put_one.Goals as goal

pub write_digits-at-requires : goal.write_digits-at-requires
write_digits-at-requires c = grind (arith, decimal c.from.result, digits_at_most_ten c.from.result, length-set c.args.line.now 39 10)

pub put_start-requires-clause-room : goal.put_start-requires-clause-room
put_start-requires-clause-room c = grind (arith, decimal c.from.result, digits_at_most_ten c.from.result)

pub returns-clause-bytes : goal.returns-clause-bytes
returns-clause-bytes c = grind (arith, drop-set_last c.args.line.now 39 10 c.requires.room, append_assoc)
