use Rattle.std.proofs.Common.{arith, ◌≡◌, ℕ, subst}
use Rattle.std.specs.Fmt.{HasWritten}
use Rattle.trace_profiles.specs.Profiles.{rows_text}
use Rattle.trace_profiles.proofs.bars.TableDisplay.fmt.Goals as goal

pub returns-clause-writes : goal.returns-clause-writes
returns-clause-writes g c = λ plain ok.
    let end : c.loop-number.number ≡ 40 = omega (arith, c.loop-number-test.false, c.loop-number.auto.number-end) in
    subst (λ (n : ℕ). HasWritten g.W.Write.write_str_gives c.args.f.now (rows_text c.args.self.now.0.now n) c.loop-number.f) end (c.loop-number.invariant plain)
