use Rattle.std.specs.Fmt.{HasWritten, IsPlainFormatter}
use Rattle.trace_profiles.specs.Profiles.{rows_text}
use Rattle.trace_profiles.proofs.bars.TableDisplay.fmt.Given as goal

abbrev pub invariant-loop-number : goal.invariant-loop-number
invariant-loop-number g l = IsPlainFormatter l.initial.f → HasWritten g.W.Write.write_str_gives l.initial.f (rows_text l.self.0.now l.number) l.f
