use Rattle.std.proofs.Common.{◌≡◌, ◌≢◌, ◌<◌, ◌++◌, ◌∷◌, [], length, set, get_or, arith, rules, ap, ◌∙◌}
use Rattle.std.proofs.lemmas.Grind.{get_or_default_zero}
use Rattle.std.proofs.lemmas.List.{length-set}
use Rattle.const_prop.specs.SparseSets.{keys_of}
use Rattle.const_prop.proofs.SparseSetLemmas.{shared_cleared, holds_cleared, free_left}
use Rattle.const_prop.proofs.sparse_sets.SparseSets.clear.Goals as goal

pub invariant_of-self : goal.invariant_of-self
invariant_of-self g c =
    let kept = c.self.invariant in
    let within : c.args.key < length c.self.inside.numbers.items = omega (arith, ap (keys_of {W = g.row.W}) c.self.view_is, c.requires) in
    let is : c.index-number.result.now ≡ get_or c.self.inside.numbers.items c.args.key 0 = c.index-number.ensures ∙ get_or_default_zero c.self.inside.numbers.items c.args.key c.index-number.result.now within in
    let size : length (set c.self.inside.numbers.items c.args.key 0) ≡ length c.self.inside.numbers.items = length-set c.self.inside.numbers.items c.args.key 0 in
    let some : get_or c.self.inside.numbers.items c.args.key 0 ≢ 0 = λ zero. c.if-number-eq0.false (is ∙ zero) in
    record {
      width = kept.width;
      few = (let few = kept.few in omega (arith, few, size));
      shared = shared_cleared c.self.inside.numbers.items c.self.inside.sets.items c.self.inside.free.items kept.shared c.args.key within c.push_reserved.new.self.items some (c.push_reserved.ensures.items ∙ ap (λ n. c.self.inside.free.items ++ n ∷ []) is);
      room = (let room = kept.room in omega (arith, room, size));
      free_room = (let room = kept.free_room in let same = c.push_reserved.ensures.capacity in omega (arith, room, same, size));
    }

pub returns-clause-holds : goal.returns-clause-holds
returns-clause-holds g c =
    let within : c.args.key < length c.self.inside.numbers.items = omega (arith, ap (keys_of {W = g.row.W}) c.self.view_is, c.requires) in
    rw (← c.self.view_is) (holds_cleared c.self.inside.numbers.items c.self.inside.sets.items c.self.inside.free.items c.self.invariant.shared c.args.key within)

pub push_reserved-requires : goal.push_reserved-requires
push_reserved-requires g c =
    let within : c.args.key < length c.self.inside.numbers.items = omega (arith, ap (keys_of {W = g.row.W}) c.self.view_is, c.requires) in
    let is : c.index-number.result.now ≡ get_or c.self.inside.numbers.items c.args.key 0 = c.index-number.ensures ∙ get_or_default_zero c.self.inside.numbers.items c.args.key c.index-number.result.now within in
    let some : get_or c.self.inside.numbers.items c.args.key 0 ≢ 0 = λ zero. c.if-number-eq0.false (is ∙ zero) in
    let left = free_left c.self.inside.numbers.items c.self.inside.sets.items c.self.inside.free.items c.self.invariant.shared c.args.key within some in
    let room = c.self.invariant.free_room in
    search (rules, left, room)
