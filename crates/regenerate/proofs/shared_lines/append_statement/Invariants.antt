use Rattle.std.proofs.Common.{◌≡◌, ◌++◌, map, take}
use Rattle.shared_forms.specs.Numbered.{number_of}
use Rattle.shared_forms.specs.Shared.{kept_value}
use Rattle.regenerate.proofs.shared_lines.append_statement.Given as goal

abbrev pub invariant-loop-n : goal.invariant-loop-n
invariant-loop-n l = record {
  all : l.all ≡ l.initial.all ++ map (kept_value l.t.q.now l.t.a.now (number_of l.t.a.now) l.l.line) (take l.n-index l.due);
}
