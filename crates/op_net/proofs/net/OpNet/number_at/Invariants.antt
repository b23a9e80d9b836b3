use Rattle.std.proofs.Common.{◌≡◌, ◌-◌, filter, slice_get}
use Rattle.std.specs.List.{range_with_len}
use Rattle.op_net.specs.ApartLoads.{needing}
use Rattle.op_net.specs.NetView.{net_of}
use Rattle.op_net.proofs.net.OpNet.number_at.Given as goal

abbrev pub invariant-loop-i : goal.invariant-loop-i
invariant-loop-i g l =
    let x = net_of l.self in
    slice_get (filter (λ j. x.needs l.piece j l.line) (range_with_len l.i (l.count - l.i))) l.left ≡ slice_get (needing x l.piece l.line) l.passed
