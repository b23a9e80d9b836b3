use Rattle.std.proofs.Common.{ℕ, ◌+◌, ◌*◌, ◌^◌, ◌<◌, ◌≤◌, arith}
use Rattle.dfc_driver.proofs.Pieces.{small_number}
use Rattle.dfc_driver.proofs.words.number_in.Goals as goal

-- one digit more, or any byte
fits : (n i count : ℕ) → n < 10 ^ i → i < count → count ≤ 18 → 10 * n + 255 < 2 ^ 64
fits n i count small lt few =
    let most = small_number n i 17 small (omega (arith, lt, few)) in
    omega (arith, most)

pub overflow_mul-number : goal.overflow_mul-number
overflow_mul-number c =
    let all = fits c.loop-b.number c.loop-b.b-index _ c.loop-b.invariant.small c.loop-b-test.true c.loop-b.invariant.few in
    omega (arith, all)

pub overflow_add-number : goal.overflow_add-number
overflow_add-number c =
    let all = fits c.loop-b.number c.loop-b.b-index _ c.loop-b.invariant.small c.loop-b-test.true c.loop-b.invariant.few in
    grind (arith, all)
