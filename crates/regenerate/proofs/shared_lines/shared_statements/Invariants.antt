use Rattle.std.proofs.Common.{◌≡◌, ◌≤◌, drop, length, reverse}
use Rattle.shared_forms.proofs.SharedLineLemmas.{lines_to}
use Rattle.regenerate.proofs.shared_lines.shared_statements.Given as goal

abbrev pub invariant-loop-l : goal.invariant-loop-l
invariant-loop-l l = record {
  place : l.place ≤ length l.fn.flat;
  waiting : drop l.place l.fn.flat ≡ reverse l.waiting;
  few : length l.all ≤ 4000;
  all : l.all ≡ lines_to l.t.q.now l.t.a.now l.fn.flat l.place;
}

abbrev pub decreases-loop-l : goal.decreases-loop-l
decreases-loop-l l = length l.waiting
