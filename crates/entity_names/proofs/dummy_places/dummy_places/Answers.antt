use Rattle.std.specs.Prelude.{bytes_eq}
use Rattle.indexmap.specs.IndexMap.{get}
use Rattle.entity_names.proofs.DummyPlaces.{place-next}
use Rattle.entity_names.proofs.dummy_places.dummy_places.Goals as goal

pub loop-i-preserved : goal.loop-i-preserved
loop-i-preserved c = λ x.
    place-next x c.args.dummies.now c.loop-i.i c.index-dummies-i.result (get bytes_eq c.loop-i.places x) (get bytes_eq c.note_name.new.index x) c.loop-i-test.true c.index-dummies-i.is (c.loop-i.invariant x) (c.in_ok-note_name.ensures x)
