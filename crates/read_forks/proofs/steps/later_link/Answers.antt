use Rattle.std.proofs.Common.{◌≡◌, ◌<◌, ◌+◌, ◌-◌, ◌/◌, ℕ, arith}
use Rattle.read_forks.specs.RisingLinks.{line_at}
use Rattle.read_forks.proofs.HalvedLinks.{line_read_at, lower_half, upper_half}
use Rattle.read_forks.proofs.steps.later_link.Goals as goal

pub halves-preserved-then-index-line : goal.halves-preserved-then-index-line
halves-preserved-then-index-line c =
    let links = c.args.links.now.items in
    let middle : ℕ = c.halves.low + (c.halves.high - c.halves.low) / 2 in
    let more = c.halves-test.true in
    let to = c.halves.invariant.to in
    let exist = c.requires.exist in
    let above : c.halves.low < middle = omega (arith, more) in
    let below : middle < c.halves.high = omega (arith, more) in
    let line : line_at links middle ≡ c.index.result.now.line = line_read_at links middle c.index.result.now (omega (arith, below, to, exist)) c.index.ensures in
    let least = c.if-index-line.true in
    upper_half links c.args.step c.args.line c.requires.rise c.halves.low c.halves.high middle c.halves.invariant above below (omega (arith, line, least))

pub halves-preserved : goal.halves-preserved
halves-preserved c =
    let links = c.args.links.now.items in
    let middle : ℕ = c.halves.low + (c.halves.high - c.halves.low) / 2 in
    let more = c.halves-test.true in
    let to = c.halves.invariant.to in
    let exist = c.requires.exist in
    let above : c.halves.low < middle = omega (arith, more) in
    let below : middle < c.halves.high = omega (arith, more) in
    let line : line_at links middle ≡ c.index.result.now.line = line_read_at links middle c.index.result.now (omega (arith, below, to, exist)) c.index.ensures in
    let greater = c.if-index-line.false in
    lower_half links c.args.step c.args.line c.requires.rise c.halves.low c.halves.high middle c.halves.invariant above below (omega (arith, line, greater))
