use Rattle.std.specs.Fmt.{HasWritten, IsPlainFormatter}
use Rattle.graph_pictures.specs.Numbers.{numbered}
use Rattle.graph_pictures.proofs.numbered.UpToDisplay.fmt.Given as goal

abbrev pub invariant-loop-number : goal.invariant-loop-number
invariant-loop-number g l = IsPlainFormatter l.initial.f → HasWritten g.W.Write.write_str_gives l.initial.f (numbered (g.T.Numbered.text l.self.0.now) l.number) l.f
