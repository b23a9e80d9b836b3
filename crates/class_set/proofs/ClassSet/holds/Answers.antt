use Rattle.std.proofs.Common.{arith, ap, sym, ◌==◌, ◌≡◌, ◌∙◌, ◌/◌, ltb, false}
use Rattle.std.proofs.lemmas.Bool.Decides.{nat_tests}
use Rattle.std.proofs.lemmas.Nat.Bits.{shr_and_one}
use Rattle.class_set.specs.ClassSet.{holds}
use Rattle.class_set.specs.Members.{bit_of}
use Rattle.class_set.proofs.Bits.{bit_of-past}
use Rattle.class_set.proofs.ClassSet.holds.Goals as goal

pub returns-then-at-clause-member : goal.returns-then-at-clause-member
unfolding holds bit_of
returns-then-at-clause-member g c = ap (λ x. x == 1) (shr_and_one _ _)

pub returns-else-at-clause-member : goal.returns-else-at-clause-member
unfolding holds
returns-else-at-clause-member g c =
    let beyond : ltb (c.args.n / 64) g.row.W ≡ false = grind (arith, nat_tests, c.if-at.false) in
    beyond ∙ sym (bit_of-past c.args.self.now.words c.args.n (omega arith))
