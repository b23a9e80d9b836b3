use Rattle.std.proofs.Common.{◌≡◌, ℕ, List, take}
use Rattle.std.specs.Prelude.{bytes_eq}
use Rattle.indexmap.specs.IndexMap.{get}
use Rattle.entity_names.proofs.DummyPlaces.{place_in}
use Rattle.entity_names.proofs.dummy_places.dummy_places.Given as goal

abbrev pub invariant-loop-i : goal.invariant-loop-i
invariant-loop-i l = (x : List ℕ) → get bytes_eq l.places x ≡ place_in x (take l.i l.dummies)
