use Rattle.closed_walks.specs.Graph.{to}
use Rattle.simplified_forms.proofs.Entering.{AreNoted}
use Rattle.simplified_forms.proofs.items.entered_pieces.Given as goal

abbrev pub invariant-loop-e : goal.invariant-loop-e
invariant-loop-e g l = AreNoted (to l.g) l.live.items l.g.nodes l.e l.entered.items
