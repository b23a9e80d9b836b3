use Rattle.std.proofs.Common.{◌+◌, sym, ◌∙◌, arith}
use Rattle.std.proofs.Math.Nat.{mod-eq_of_lt}
use Rattle.firing.proofs.playing.place_in.Goals as goal

-- Less than four times the count, it is below the count once that is taken off three times.
pub returns-then-pick-count : goal.returns-then-pick-count
returns-then-pick-count c =
    let count = c.args.count in
    let once = c.once_less in
    let twice = c.once_less-then-pick-count in
    let thrice = c.once_less-then-pick-count-2 in
    let below_three = once.ensures.less (count + count + count) (omega arith) (omega (arith, c.if-pick-count.true)) in
    let below_two = twice.ensures.less (count + count) (omega arith) (omega (arith, below_three)) in
    let below = thrice.ensures.less count (omega arith) (omega (arith, below_two)) in
    sym (mod-eq_of_lt below) ∙ thrice.ensures.rest ∙ twice.ensures.rest ∙ once.ensures.rest
