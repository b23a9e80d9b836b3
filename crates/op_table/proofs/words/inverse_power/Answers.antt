-- 1 divided by a power of 0, 1, -1 and any other number
use Rattle.std.proofs.Common.{◌≡◌, ◌≤◌, pos, negsuc, sym, ap, arith}
use Rattle.std.specs.Prelude.{unsigned_abs}
use Rattle.std.specs.Int.{int_wrap}
use Rattle.std.proofs.lemmas.Int.{ints}
use Rattle.op_table.specs.Operators.{in_a_word}
use Rattle.op_table.proofs.Powers.{inverse-zero, inverse-one, inverse-even, inverse-odd, inverse-other}
use Rattle.op_table.proofs.words.inverse_power.Goals as goal

pub returns-in-0 : goal.returns-in-0
returns-in-0 c =
    let is : c.args.a ≡ pos 0 = omega (arith, ints) in
    rw is (sym (ap in_a_word (inverse-zero c.args.n c.requires)))

pub returns-in-1 : goal.returns-in-1
unfolding int_wrap
returns-in-1 c =
    let is : c.args.a ≡ pos 1 = omega (arith, ints) in
    rw is (sym (ap in_a_word (inverse-one c.args.n)))

pub returns-then-n-eq0 : goal.returns-then-n-eq0
unfolding int_wrap
returns-then-n-eq0 c =
    let is : c.args.a ≡ negsuc 0 = omega (arith, ints) in
    rw is (sym (ap in_a_word (inverse-even c.args.n c.if-n-eq0.true)))

pub returns-else-n-eq0 : goal.returns-else-n-eq0
unfolding int_wrap
returns-else-n-eq0 c =
    let is : c.args.a ≡ negsuc 0 = omega (arith, ints) in
    rw is (sym (ap in_a_word (inverse-odd c.args.n c.if-n-eq0.false)))

pub returns-in_default : goal.returns-in_default
unfolding int_wrap
returns-in_default c =
    let large : 2 ≤ unsigned_abs c.args.a = omega (arith, ints) in
    sym (ap in_a_word (inverse-other c.args.a c.args.n c.requires large))
