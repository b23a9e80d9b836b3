use Rattle.std.proofs.Common.{◌≡◌, take, drop}
use Rattle.std.specs.List.{flat_map}
use Rattle.std.specs.Ordering.{nat_cmp}
use Rattle.std.specs.BTreeMap.{get}
use Rattle.f77_tree.specs.InitialWords.{part_words}
use Rattle.storage_checks.specs.GivenWords.{Holds}
use Rattle.layout_rules.specs.LowestLines.{lower_line, lowest_after, lowest_line}
use Rattle.layout_rules.specs.PlacedNames.{with_places}
use Rattle.layout_rules.specs.StorageLines.{given_by, initializes_wrongly}
use Rattle.storage_checks.proofs.storage_faults.lowest_wrong_data.Given as goal

abbrev pub invariant-loop-s : goal.invariant-loop-s
invariant-loop-s l =
    let placed = with_places l.names l.places in
    let above = take l.s-index l.stmts in
    record {
      held : Holds (get nat_cmp l.given.ends) (flat_map (part_words placed) (flat_map (given_by l.names) above));
      lowest : lowest_line (initializes_wrongly l.names placed) l.stmts ≡ lower_line l.lowest (lowest_after (initializes_wrongly l.names placed) above (drop l.s-index l.stmts));
    }
