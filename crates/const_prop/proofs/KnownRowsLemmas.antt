-- What is known of the other lines and edges, after one value is put down.
use Rattle.std.proofs.Common.{◌≡◌, ◌≢◌, ℕ, ℤ, ◌+◌, ◌*◌, ◌^◌, ◌<◌, ◌≤◌, Bool, true, false, ◌==◌, if◌then◌else◌, Option, Some, refl, arith, add-one, suc-mul, mul-le-mul_right}
use Rattle.std.proofs.lemmas.Bool.Decides.{nat_tests}
use Rattle.const_prop.specs.declared.known.Known.TheVariants.{One}
use Rattle.const_prop.specs.KnownRows.{Rows, edges_of, known_by, value_in}
use Rattle.const_prop.specs.Rise.{room}
use Rattle.const_prop.specs.SparseSets.{set_holds}
use Rattle.const_prop.specs.Values.{word_of}
use Rattle.const_prop.proofs.Cells.{one_cell}

other_place : (k place : ℕ) → k ≢ place → (k == place) ≡ false
other_place k place other = grind (arith, nat_tests)

pub few_places : (lines edges : ℕ) → lines ≤ 1024 → edges < 2 ^ 32 → lines * edges < 2 ^ 60
few_places lines edges few short = let most : lines * edges ≤ 1024 * edges = mul-le-mul_right edges few in omega (arith, most, short)

pub place_within : (lines edges line edge places : ℕ) → line < lines → edge < edges → lines * edges ≤ places → line * edges + edge < places
place_within lines edges line edge places within inside room =
    let more : (line + 1) * edges ≤ lines * edges = mul-le-mul_right edges (omega (arith, within)) in
    let row : (line + 1) * edges ≡ line * edges + edges = rw add-one (suc-mul line edges) in
    omega (arith, more, row, inside, room)

none_there : (any : Bool) (v : ℤ) (w : Option ℤ) → room (One v) < room (known_by any w) → any ≡ false
none_there true v w more = absurd (omega (arith, more))
none_there false v w more = refl

same_place : (place : ℕ) → (place == place) ≡ true
same_place place = grind (arith, nat_tests)

module _ {W : ℕ} where
  -- what is known of that line there
  pub value_in_here : (old new : Rows W) (line edge : ℕ) (v : ℤ) → new.any ≡ old.any → ((k : ℕ) → word_of new.values k ≡ (if k == line * edges_of old + edge then Some v else word_of old.values k)) → room (One v) < room (value_in old line edge) → value_in new line edge ≡ One v
  value_in_here old new line edge v any values more =
      let none : set_holds old.any edge line ≡ false = none_there (set_holds old.any edge line) v (word_of old.values (line * edges_of old + edge)) more in
      let word : word_of new.values (line * edges_of old + edge) ≡ Some v = rw (same_place (line * edges_of old + edge)) at (values (line * edges_of old + edge)) in
      rw (any, none, word) refl

  -- one line of one edge got a value, and its place is no other's
  pub value_in-other : (old new : Rows W) (line edge : ℕ) (v : ℤ) → edge < edges_of old → new.any ≡ old.any → ((k : ℕ) → word_of new.values k ≡ (if k == line * edges_of old + edge then Some v else word_of old.values k)) → (l e : ℕ) → e < edges_of old → ((l ≡ line) × (e ≡ edge) → ⊥) → value_in new l e ≡ value_in old l e
  value_in-other old new line edge v within any values l e e_within other =
      let apart : l * edges_of old + e ≢ line * edges_of old + edge = λ same. other (one_cell (edges_of old) l e line edge e_within within same) in
      let elsewhere : (l * edges_of old + e == line * edges_of old + edge) ≡ false = other_place (l * edges_of old + e) (line * edges_of old + edge) apart in
      let same_value : word_of new.values (l * edges_of old + e) ≡ word_of old.values (l * edges_of old + e) = rw elsewhere at (values (l * edges_of old + e)) in
      rw (any, same_value) refl
