-- a power that has to be a word
use Rattle.std.proofs.Common.{◌∙◌, subst, ap, ℤ}
use Rattle.std.specs.Option.{SomeIff}
use Rattle.std.specs.Int.{int_pow}
use Rattle.op_table.specs.Words.{IsWord}
use Rattle.op_table.specs.Operators.{power}
use Rattle.op_table.proofs.Rows.{bits_back, word_or_overflow}
use Rattle.op_table.proofs.Powers.{int_pow-power}
use Rattle.op_table.proofs.words.checked_power.Goals as goal

pub returns : goal.returns
returns c =
    let P : ℤ → Type 0 = λ z. SomeIff c.checked_pow.result (IsWord z) z in
    let some : P (power c.args.a c.args.n) = subst P (ap (λ a. int_pow a c.args.n) (bits_back c.args.a c.ranges.a) ∙ int_pow-power c.args.a c.args.n) c.checked_pow.ensures in
    c.ok_or.ensures.value ∙ word_or_overflow (power c.args.a c.args.n) c.checked_pow.result some
