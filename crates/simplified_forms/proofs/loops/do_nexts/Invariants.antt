use Rattle.std.proofs.Common.{◌+◌, drop}
use Rattle.std.specs.List.{position_or_len}
use Rattle.f77_tree.specs.Loops.{incremented, is_number}
use Rattle.simplified_forms.specs.Tables.{IsTable}
use Rattle.simplified_forms.proofs.loops.do_nexts.Given as goal

abbrev pub invariant-loop-k : goal.invariant-loop-k
invariant-loop-k l = IsTable (λ n. l.k + position_or_len (λ exec. is_number n (incremented exec.kind)) (drop l.k l.p.execs)) l.p.loops l.nexts.items
