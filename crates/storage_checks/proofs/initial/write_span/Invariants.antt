use Rattle.std.proofs.Common.{◌≡◌, ◌+◌, ◌-◌, drop}
use Rattle.std.specs.Prelude.{zip}
use Rattle.f77_tree.specs.InitialWords.{words_from}
use Rattle.storage_checks.specs.Writing.{written}
use Rattle.storage_checks.proofs.initial.write_span.Given as goal

abbrev pub invariant-loop-k : goal.invariant-loop-k
invariant-loop-k l = record {
  cells : written l.cells (zip (words_from (l.span.first + l.k) (l.span.len - l.k)) l.constants) ≡ written l.initial.cells (zip (words_from l.span.first l.span.len) l.initial.constants);
  constants : l.constants ≡ drop l.k l.initial.constants;
}
