use Rattle.std.proofs.Common.{◌≡◌}
use Rattle.operation_tables.specs.BoardView.{operation_net_on}
use Rattle.operation_places.specs.PlacesView.{standing}
use Rattle.operation_places.specs.SoundPlaces.{ArePlaces}
use Rattle.operation_tables.specs.Waits.{awaits, node_total}
use Rattle.operation_places.proofs.CountedBelow.{CountedBelow}
use Rattle.operation_places.proofs.places.Places.count_all.Given as goal

abbrev pub invariant-loop-k : goal.invariant-loop-k
invariant-loop-k g l = record {
  stands : standing l.self ≡ standing l.fn.self;
  leads : l.self.leads.items ≡ l.fn.self.leads.items;
  apart : l.self.apart.items ≡ l.fn.self.apart.items;
  below : CountedBelow (node_total (operation_net_on l.board)) l.k (awaits (operation_net_on l.board) l.fn.self.apart.items (standing l.fn.self)) l.self.counts.items l.self.set;
  places : ArePlaces (operation_net_on l.board) l.self;
}
