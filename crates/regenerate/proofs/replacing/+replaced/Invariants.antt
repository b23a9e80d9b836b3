use Rattle.std.proofs.Common.{◌≡◌, take, map}
use Rattle.shared_forms.specs.Numbered.{number_of}
use Rattle.shared_forms.specs.Shared.{replaced}
use Rattle.regenerate.proofs.replacing.+replaced.Given as goal

abbrev pub invariant-replace_all-loop-e : goal.invariant-replace_all-loop-e
invariant-replace_all-loop-e l = record {
  all : l.all ≡ map (replaced l.t.q.now l.t.a.now (number_of l.t.a.now)) (take l.e-index l.e-items);
}
