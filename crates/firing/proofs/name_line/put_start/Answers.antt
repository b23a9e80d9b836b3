use Rattle.std.proofs.Common.{decimal, arith, append_assoc}
use Rattle.firing.proofs.LineLemmas.{digits_at_most_ten, drop-put_mid_here}
use borrow.Rule.Slice.PartMut.{put_mid, same_len_mid}
use Rattle.firing.proofs.name_line.put_start.Goals as goal

pub write_digits-requires : goal.write_digits-requires
write_digits-requires c = grind (arith, decimal c.from.result, digits_at_most_ten c.from.result, same_len_mid)

pub returns-clause-bytes : goal.returns-clause-bytes
returns-clause-bytes c = grind (arith, put_mid, drop-put_mid_here, decimal c.from.result, decimal, append_assoc (decimal c.args.k), decimal c.args.k)
