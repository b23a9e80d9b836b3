use Rattle.std.proofs.Common.{◌≡◌, arith}
use Rattle.operation_places.specs.PlacesView.{standing}
use Rattle.operation_tables.specs.Waits.{one_if}
use Rattle.operation_places.proofs.FailingLists.{one_at_most}
use Rattle.operation_places.proofs.places.Places.count_one.Goals as goal

pub overflow_add-count : goal.overflow_add-count
overflow_add-count g c =
    let few = c.waits_are_few.ensures (standing c.args.self.now) c.args.k c.requires.node in
    let waits = c.waits.ensures in
    let one : c.one_if.result ≡ one_if c.is_apart.result = c.one_if.ensures in
    let most = one_at_most c.is_apart.result in
    record { fits = omega (arith, few, waits, one, most) }
