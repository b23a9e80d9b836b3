use Rattle.std.proofs.Common.{◌≡◌, ◌*◌, ◌≤◌, drop}
use Rattle.alias_classes.proofs.SizeLemmas.{count_of}
use Rattle.game_jobs.proofs.store.size.Given as goal

abbrev pub invariant-loop-dim : goal.invariant-loop-dim
invariant-loop-dim l = record {
  some : 1 ≤ l.size;
  whole : l.size * count_of (drop l.dim-index l.dim-items) ≡ count_of l.dim-items;
}
