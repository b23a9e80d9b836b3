use Rattle.std.proofs.Common.{◌≡◌, ◌-◌, ◌≤◌, ◌⊎◌, length, flat_map}
use Rattle.std.specs.List.{range_with_len}
use Rattle.copied_names.specs.CopiedNames.{names_in_copies}
use Rattle.copied_names.proofs.copied.names_of_text.Given as goal

abbrev pub invariant-loop-k : goal.invariant-loop-k
invariant-loop-k l = record {
  some : 1 ≤ l.k;
  most : (l.k ≤ length l.new.text.now.us.now) ⊎ (l.k ≡ 1);
  names : l.names.items ≡ flat_map (names_in_copies l.new.text.now.us.now) (range_with_len 1 (l.k - 1));
}
