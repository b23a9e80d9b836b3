use Rattle.std.proofs.Common.{◌≡◌, ◌^◌, ℕ, take, min, nat_eq}
use Rattle.indexmap.specs.IndexMap.{get}
use Rattle.inlined_copies.specs.LabelCounts.{labels_of}
use Rattle.inlined_copies.proofs.TabledLabels.{Told}
use Rattle.inlined_copies.proofs.counted_units.LabelCounts.new_labels.Given as goal

abbrev pub invariant-loop-s : goal.invariant-loop-s
invariant-loop-s l = record {
  before : l.before ≡ min (labels_of l.self.us.now l.self.counts.now l.k (take l.s-index l.unit)) (2 ^ 20);
  told : (label : ℕ) → Told l.self.us.now (2 ^ 20) l.self.counts.now l.k (take l.s-index l.unit) label (get nat_eq l.labels label);
}
