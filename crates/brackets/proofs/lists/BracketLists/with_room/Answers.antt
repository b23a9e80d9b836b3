use Rattle.std.proofs.Common.{◌≡◌, IsSome, subst, ap, ◌∙◌, ⊎_elim, arith}
use Rattle.std.proofs.lemmas.Bool.{cases_eq}
use Rattle.brackets.specs.Kept.{lists_of}
use Rattle.brackets.proofs.RoomLemmas.{room_are, room_seen}
use Rattle.brackets.proofs.lists.BracketLists.with_room.Goals as goal

pub cells-preserved : goal.cells-preserved
cells-preserved c =
    let k = c.cells.invariant in
    let did = c.insert_reserved.ensures in
    record {
      made = omega (arith, k.made, did.len);
      room = did.capacity ∙ k.room;
      below = λ x some. ⊎_elim
          (λ (same : x ≡ c.insert_reserved.result). omega (arith, same, did.key_in_range, did.capacity, k.room))
          (λ differ. k.below x (subst IsSome (did.updates.others x differ) some))
          (cases_eq x c.insert_reserved.result);
    }

pub invariant_of-result : goal.invariant_of-result
invariant_of-result c =
    let k = c.cells.invariant in
    let lists = c.in_ok-lists.ensures.items_if_clones_equal (λ y e. e) in
    rw lists (room_are c.cells.cells.slots c.args.edges c.capacity-capacity.result c.requires (omega (arith, c.in_ok-cells.ensures.capacity, c.capacity-capacity.ensures.value)) (omega (arith, k.made, c.cells-test.false, c.cells.auto._made-end)) k.below)

pub returns : goal.returns
returns c =
    let k = c.cells.invariant in
    let lists = c.in_ok-lists.ensures.items_if_clones_equal (λ y e. e) in
    ap (lists_of c.cells.cells.slots) lists ∙ room_seen c.cells.cells.slots c.args.edges c.capacity-capacity.result c.requires (omega (arith, c.in_ok-cells.ensures.capacity, c.capacity-capacity.ensures.value)) (omega (arith, k.made, c.cells-test.false, c.cells.auto._made-end)) k.below
