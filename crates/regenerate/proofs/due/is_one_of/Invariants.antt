use Rattle.std.proofs.Common.{◌≡◌, false, take}
use Rattle.shared_forms.specs.Shared.{is_one_of}
use Rattle.regenerate.proofs.due.is_one_of.Given as goal

abbrev pub invariant-loop-m : goal.invariant-loop-m
invariant-loop-m l = record {
  none : is_one_of (take l.m-index l.ns) l.n ≡ false;
}
