use Rattle.std.proofs.Common.{◌≡◌, subst, arith}
use Rattle.firing.specs.BlockCounts.{IsDigitAt}
use Rattle.std.specs.Int.{trailing_zeros, w64}
use Rattle.firing.proofs.DigitLemmas.{some_left, takes_more, finds}
use Rattle.firing.proofs.ready_set.set_digit.Goals as goal

pub loop-taken-preserved : goal.loop-taken-preserved
loop-taken-preserved c =
    let k = c.loop-taken in
    let some = some_left c.args.word k.rest k._taken k.invariant (omega arith) in
    takes_more c.args.word k.rest k._taken k.invariant some (omega (arith, k.auto.rest-fits))

pub returns : goal.returns
returns c =
    let k = c.loop-taken in
    let e : k._taken ≡ c.args.place = omega arith in
    let some = some_left c.args.word k.rest k._taken k.invariant (omega arith) in
    subst (λ n. IsDigitAt c.args.word n (trailing_zeros w64 k.rest)) e (finds c.args.word k.rest k._taken k.invariant some (omega (arith, k.auto.rest-fits)))
