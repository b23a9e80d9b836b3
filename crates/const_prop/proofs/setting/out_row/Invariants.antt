use Rattle.std.proofs.Common.{◌≡◌, ◌==◌, filter, take}
use Rattle.closed_walks.specs.Graph.{from}
use Rattle.const_prop.proofs.setting.out_row.Given as goal

abbrev pub invariant-loop-e : goal.invariant-loop-e
invariant-loop-e l = l.row ≡ filter (λ e. from l.g e == l.node) (take l.e-index l.e-items)
