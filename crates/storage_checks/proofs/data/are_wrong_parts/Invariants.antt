use Rattle.std.proofs.Common.{◌≡◌, ℕ, ◌||◌, List, ◌++◌, take, drop}
use Rattle.std.specs.List.{flat_map}
use Rattle.std.specs.Ordering.{nat_cmp}
use Rattle.std.specs.BTreeMap.{get}
use Rattle.f77_tree.specs.InitialWords.{part_words}
use Rattle.layout_rules.specs.StorageFaults.{has_wrong_part}
use Rattle.layout_rules.specs.PlacedNames.{with_places}
use Rattle.storage_checks.specs.GivenWords.{Holds}
use Rattle.storage_checks.proofs.data.are_wrong_parts.Given as goal

abbrev pub invariant-loop-part : goal.invariant-loop-part
invariant-loop-part l =
    let placed = with_places l.names l.places in
    (seen : List ℕ) → Holds (get nat_cmp l.initial.given.ends) seen → Holds (get nat_cmp l.given.ends) (seen ++ flat_map (part_words placed) (take l.part-index l.parts)) × (has_wrong_part placed seen l.parts ≡ (l.wrong || has_wrong_part placed (seen ++ flat_map (part_words placed) (take l.part-index l.parts)) (drop l.part-index l.parts)))
