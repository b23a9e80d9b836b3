use Rattle.std.proofs.Output.{has_written_of_eq}
use mathlib.Core.List.{append_assoc}
use Rattle.trace_profiles.specs.Profiles.{sums_text}
use Rattle.trace_profiles.proofs.profile.SumsDisplay.fmt.Goals as goal

pub returns-clause-writes : goal.returns-clause-writes
unfolding sums_text
returns-clause-writes g c = λ plain ok.
    has_written_of_eq _ _ _ _ _ (simp (append_assoc, c.hundredths_of.ensures, c.greatest-width.ensures, c.widest_round-round.ensures)) (c.writeln.ensures.writes plain ok)
