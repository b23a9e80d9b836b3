use Rattle.std.proofs.Common.{◌≡◌, map}
use Rattle.std.specs.List.{range_with_len}
use Rattle.shared_rows.specs.Table.{AreThere, numbered_rows}
use Rattle.net_tables.specs.PartsView.{net_in}
use Rattle.net_tables.specs.NetTables.{kept_places}
use Rattle.net_tables.specs.PlaceRowSteps.{IsBlank}
use Rattle.net_tables.proofs.places.all_places.Given as goal

abbrev pub invariant-loop-piece : goal.invariant-loop-piece
invariant-loop-piece g l = record {
  blank : IsBlank (net_in l.plan) l.table;
  there : AreThere l.table l.row_of.items;
  places : numbered_rows l.table l.row_of.items ≡ map (kept_places (net_in l.plan)) (range_with_len 0 l.piece);
}
