use Rattle.std.proofs.Common.{◌≡◌, ◌+◌, ◌∙◌, ap}
use Rattle.trace_profiles.proofs.PlacesTold.{one_more_place}
use Rattle.trace_profiles.proofs.rounds.places_of_operands.Goals as goal

pub loop-value-preserved : goal.loop-value-preserved
loop-value-preserved c =
    let i = c.loop-value.value-index in
    let next : c.loop-value.place + 1 ≡ i + 1 = ap (λ n. n + 1) c.loop-value.invariant.place in
    record {
      count = c.put_place.ensures.count ∙ c.loop-value.invariant.count;
      place = next;
      told = one_more_place c.args.values.now i (c.loop-value.place + 1) c.args.nodes c.loop-value.places.items c.put_place.new.places.items c.value-item.result c.loop-value-test.true c.value-item.is next c.loop-value.invariant.count c.put_place.ensures.marked c.loop-value.invariant.told;
    }
