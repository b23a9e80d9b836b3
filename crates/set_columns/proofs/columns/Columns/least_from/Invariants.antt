use Rattle.std.proofs.Common.{◌≡◌, ◌+◌, ◌*◌, ◌<◌, ◌≤◌, ℕ, false}
use Rattle.class_set.specs.Members.{first_above}
use Rattle.set_columns.specs.Marks.{marked_in}
use Rattle.set_columns.proofs.columns.Columns.least_from.Given as goal

abbrev pub invariant-loop-block : goal.invariant-loop-block
invariant-loop-block l = record {
  in_word : first_above l.before < 64;
  from : l.first ≤ 64 * l.block + first_above l.before;
  passed : (k : ℕ) → l.first ≤ k → k < 64 * l.block + first_above l.before → marked_in l.self.marks.items l.self.blocks l.column k ≡ false;
}
