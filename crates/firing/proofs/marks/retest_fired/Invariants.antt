use Rattle.std.proofs.Common.{◌≡◌, length}
use Rattle.firing.proofs.MarkLemmas.{RetestedTo}
use Rattle.firing.proofs.marks.retest_fired.Given as goal

abbrev pub invariant-loop-i : goal.invariant-loop-i
invariant-loop-i g l =
    let y = g.S.ReadyMarks in
    let fixed = y.rest l.fn.sys in
    record {
      rest : y.rest l.sys ≡ fixed;
      count : l.count ≡ length (y.woken fixed);
      tested : RetestedTo (y.count fixed) (y.is_ready fixed) (y.woken fixed) l.i l.k (y.marks l.fn.sys) (y.marks l.sys);
    }
