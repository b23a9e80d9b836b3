use Rattle.std.proofs.Common.{◌-◌}
use Rattle.firing.specs.declared.system.NodeName.TheVariants.{Merge}
use Rattle.net_board.specs.Nodes.{is_free}
use Rattle.net_tables.specs.PartsView.{net_in}
use Rattle.net_tables.proofs.TableLemmas.{IsNaming}
use Rattle.net_tables.proofs.tables.push_merges.Given as goal

abbrev pub invariant-loop-line : goal.invariant-loop-line
invariant-loop-line g l = IsNaming (Merge l.piece) (is_free (net_in l.plan) l.piece) l.initial.names l.lines l.line l.names

abbrev pub decreases-loop-line : goal.decreases-loop-line
decreases-loop-line g l = l.lines - l.line
