use Rattle.std.proofs.Common.{◌≡◌, ◌<◌, length, set, get_or, arith, rules, ap, ◌∙◌}
use Rattle.std.proofs.lemmas.List.{length-set}
use Rattle.const_prop.specs.SparseSets.{Sets, keys_of, number_of}
use Rattle.const_prop.proofs.SparseSetLemmas.{shared_reused, shared_new, holds_reused, holds_new, sets_left, reused_some}
use Rattle.const_prop.proofs.sparse_sets.SparseSets.give_number.Goals as goal

pub invariant_of-self : goal.invariant_of-self
invariant_of-self g c =
    let within : c.args.key < length c.self.inside.numbers.items = omega (arith, ap (keys_of {W = g.row.W}) c.self.view_is, c.requires.key) in
    let none : get_or c.self.inside.numbers.items c.args.key 0 ≡ 0 = ap (λ (s : Sets g.row.W). number_of s c.args.key) c.self.view_is ∙ c.requires.none in
    let kept = c.self.invariant in
    let size : length (set c.self.inside.numbers.items c.args.key c.in-Some.number) ≡ length c.self.inside.numbers.items = length-set c.self.inside.numbers.items c.args.key c.in-Some.number in
    record {
      width = kept.width;
      few = (let few = kept.few in omega (arith, few, size));
      shared = shared_reused c.self.inside.numbers.items c.self.inside.sets.items c.self.inside.free.items c.self.invariant.shared c.args.key within c.pop.new.self.items c.in-Some.number c.empty.result none c.in-Some.ensures.items;
      room = (let room = kept.room in omega (arith, room, size));
      free_room = (let room = kept.free_room in let same = c.in-Some.ensures.capacity in omega (arith, room, same, size));
    }

pub returns-in-Some-clause-numbered : goal.returns-in-Some-clause-numbered
returns-in-Some-clause-numbered g c =
    let within : c.args.key < length c.self.inside.numbers.items = omega (arith, ap (keys_of {W = g.row.W}) c.self.view_is, c.requires.key) in
    reused_some c.self.inside.numbers.items c.self.inside.sets.items c.self.inside.free.items c.self.invariant.shared c.args.key within c.pop.new.self.items c.in-Some.number c.in-Some.ensures.items

pub returns-in-Some-clause-holds : goal.returns-in-Some-clause-holds
returns-in-Some-clause-holds g c =
    let within : c.args.key < length c.self.inside.numbers.items = omega (arith, ap (keys_of {W = g.row.W}) c.self.view_is, c.requires.key) in
    let none : get_or c.self.inside.numbers.items c.args.key 0 ≡ 0 = ap (λ (s : Sets g.row.W). number_of s c.args.key) c.self.view_is ∙ c.requires.none in
    rw (← c.self.view_is) (holds_reused c.self.inside.numbers.items c.self.inside.sets.items c.self.inside.free.items c.self.invariant.shared c.args.key within c.pop.new.self.items c.in-Some.number c.empty.result none c.in-Some.ensures.items c.empty.ensures)

pub push_reserved-requires : goal.push_reserved-requires
push_reserved-requires g c =
    let within : c.args.key < length c.self.inside.numbers.items = omega (arith, ap (keys_of {W = g.row.W}) c.self.view_is, c.requires.key) in
    let none : get_or c.self.inside.numbers.items c.args.key 0 ≡ 0 = ap (λ (s : Sets g.row.W). number_of s c.args.key) c.self.view_is ∙ c.requires.none in
    let empty : length c.self.inside.free.items ≡ 0 = search (rules, c.in_default.ensures.cases) in
    let left = sets_left c.self.inside.numbers.items c.self.inside.sets.items c.self.inside.free.items c.self.invariant.shared c.args.key within none empty in
    let room = c.self.invariant.room in
    search (rules, left, room)

pub overflow_cast-number-2 : goal.overflow_cast-number-2
overflow_cast-number-2 g c =
    let within : c.args.key < length c.self.inside.numbers.items = omega (arith, ap (keys_of {W = g.row.W}) c.self.view_is, c.requires.key) in
    let none : get_or c.self.inside.numbers.items c.args.key 0 ≡ 0 = ap (λ (s : Sets g.row.W). number_of s c.args.key) c.self.view_is ∙ c.requires.none in
    let empty : length c.self.inside.free.items ≡ 0 = search (rules, c.in_default.ensures.cases) in
    let left = sets_left c.self.inside.numbers.items c.self.inside.sets.items c.self.inside.free.items c.self.invariant.shared c.args.key within none empty in
    let few = c.self.invariant.few in
    search (rules, left, few)

pub invariant_of-self-2 : goal.invariant_of-self-2
invariant_of-self-2 g c =
    let within : c.args.key < length c.self.inside.numbers.items = omega (arith, ap (keys_of {W = g.row.W}) c.self.view_is, c.requires.key) in
    let none : get_or c.self.inside.numbers.items c.args.key 0 ≡ 0 = ap (λ (s : Sets g.row.W). number_of s c.args.key) c.self.view_is ∙ c.requires.none in
    let kept = c.self.invariant in
    let empty : length c.self.inside.free.items ≡ 0 = search (rules, c.in_default.ensures.cases) in
    let no_left : length c.pop.new.self.items ≡ 0 = search (rules, c.in_default.ensures.cases) in
    let is : c.len-number.result ≡ length c.self.inside.sets.items = search (rules, c.len-number.ensures) in
    let size : length (set c.self.inside.numbers.items c.args.key c.len-number.result) ≡ length c.self.inside.numbers.items = length-set c.self.inside.numbers.items c.args.key c.len-number.result in
    record {
      width = kept.width;
      few = (let few = kept.few in omega (arith, few, size));
      shared = shared_new c.self.inside.numbers.items c.self.inside.sets.items c.self.inside.free.items c.self.invariant.shared c.args.key within c.len-number.result c.empty-2.result c.push_reserved.new.self.items c.pop.new.self.items none empty no_left is c.push_reserved.ensures.items;
      room = (let room = kept.room in let same = c.push_reserved.ensures.capacity in omega (arith, room, same, size));
      free_room = (let room = kept.free_room in let same = c.in_default.ensures.capacity in omega (arith, room, same, size));
    }

pub returns-clause-holds : goal.returns-clause-holds
returns-clause-holds g c =
    let within : c.args.key < length c.self.inside.numbers.items = omega (arith, ap (keys_of {W = g.row.W}) c.self.view_is, c.requires.key) in
    let none : get_or c.self.inside.numbers.items c.args.key 0 ≡ 0 = ap (λ (s : Sets g.row.W). number_of s c.args.key) c.self.view_is ∙ c.requires.none in
    let is : c.len-number.result ≡ length c.self.inside.sets.items = search (rules, c.len-number.ensures) in
    rw (← c.self.view_is) (holds_new c.self.inside.numbers.items c.self.inside.sets.items c.self.inside.free.items c.self.invariant.shared c.args.key within c.len-number.result c.empty-2.result c.push_reserved.new.self.items none is c.push_reserved.ensures.items c.empty-2.ensures)
