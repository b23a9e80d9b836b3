use Rattle.std.proofs.Common.{◌≡◌}
use Rattle.firing.proofs.MarkLemmas.{RightBelow}
use Rattle.firing.proofs.marks.mark_ready.Given as goal

abbrev pub invariant-loop-k : goal.invariant-loop-k
invariant-loop-k g l =
    let y = g.S.ReadyMarks in
    let fixed = y.rest l.fn.sys in
    record {
      rest : y.rest l.sys ≡ fixed;
      below : RightBelow (y.count fixed) (y.is_ready fixed) l.k (y.marks l.sys);
    }
