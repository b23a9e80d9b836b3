use Rattle.std.proofs.Common.{◌≡◌, ℕ, ◌==◌, ◌&&◌, not, List, ◌++◌, take, drop}
use Rattle.std.specs.List.{flat_map}
use Rattle.std.specs.Ordering.{nat_cmp}
use Rattle.std.specs.BTreeMap.{get}
use Rattle.layout_rules.specs.Faults.{has_repeat}
use Rattle.storage_checks.specs.Runs.{span_words}
use Rattle.storage_checks.specs.GivenWords.{Holds}
use Rattle.storage_checks.proofs.given_words.GivenWords.add_spans.Given as goal

abbrev pub invariant-loop-span : goal.invariant-loop-span
invariant-loop-span l =
    (seen : List ℕ) → Holds (get nat_cmp l.initial.self.ends) seen → Holds (get nat_cmp l.self.ends) (seen ++ flat_map span_words (take l.span-index l.spans)) × (not (has_repeat (λ a b. a == b) seen (flat_map span_words l.spans)) ≡ (l.free && not (has_repeat (λ a b. a == b) (seen ++ flat_map span_words (take l.span-index l.spans)) (flat_map span_words (drop l.span-index l.spans)))))
