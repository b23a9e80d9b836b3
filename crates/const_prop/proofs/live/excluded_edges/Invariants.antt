use Rattle.std.proofs.Common.{◌≡◌, ◌<◌, ℕ, false, length, get_or}
use Rattle.const_prop.specs.Kept.{excludes}
use Rattle.const_prop.specs.Table.{knowns_of}
use Rattle.const_prop.proofs.live.excluded_edges.Given as goal

abbrev pub invariant-loop-e : goal.invariant-loop-e
invariant-loop-e g l = record {
  size : length l.excluded.items ≡ l.e;
  tells : (e : ℕ) → e < l.e → get_or l.excluded.items e false ≡ excludes l.f (knowns_of l.t) e;
}
