use Rattle.std.proofs.Common.{◌≡◌, ◌<◌, ◌+◌, ◌∷◌, [], ℕ, pos, length, set, get_or, arith, rules, ap, ◌∙◌}
use Rattle.std.proofs.lemmas.List.{length-set, length-append}
use Rattle.const_prop.specs.Values.{Blocks}
use Rattle.const_prop.proofs.ValuesLemmas.{some_left, are_numbered_more, word_of_begun}
use Rattle.const_prop.proofs.values.Values.give_number.Goals as goal

pub push_reserved-requires : goal.push_reserved-requires
push_reserved-requires c =
    let within : c.args.block < length c.self.inside.numbers.items = omega (arith, ap (λ (b : Blocks). length b.numbers) c.self.view_is, c.requires.block) in
    let none : get_or c.self.inside.numbers.items c.args.block 0 ≡ 0 = ap (λ (b : Blocks). get_or b.numbers c.args.block 0) c.self.view_is ∙ c.requires.none in
    let left : length c.self.inside.filled.items < length c.self.inside.numbers.items = some_left c.self.inside.numbers.items c.args.block (length c.self.inside.filled.items) c.self.invariant.numbered within none in
    let room = c.self.invariant.filled_room in
    search (rules, left, room)

pub invariant_of-self : goal.invariant_of-self
invariant_of-self c =
    let within : c.args.block < length c.self.inside.numbers.items = omega (arith, ap (λ (b : Blocks). length b.numbers) c.self.view_is, c.requires.block) in
    let none : get_or c.self.inside.numbers.items c.args.block 0 ≡ 0 = ap (λ (b : Blocks). get_or b.numbers c.args.block 0) c.self.view_is ∙ c.requires.none in
    let left : length c.self.inside.filled.items < length c.self.inside.numbers.items = some_left c.self.inside.numbers.items c.args.block (length c.self.inside.filled.items) c.self.invariant.numbered within none in
    let size : length c.push_reserved.new.self.items ≡ length c.self.inside.filled.items + 1 = ap length c.push_reserved.ensures.items ∙ length-append c.self.inside.filled.items (c.empty.result ∷ []) in
    let is : c.len-number.result ≡ length c.self.inside.filled.items + 1 = search (rules, c.len-number.ensures, size) in
    let kept = c.self.invariant in
    let same : length (set c.self.inside.numbers.items c.args.block c.len-number.result) ≡ length c.self.inside.numbers.items = length-set c.self.inside.numbers.items c.args.block c.len-number.result in
    record {
      numbered = are_numbered_more c.self.inside.numbers.items c.args.block within none (length c.self.inside.filled.items) kept.numbered c.len-number.result is (length c.push_reserved.new.self.items) size;
      words = (let room = kept.words_room in let before = kept.words in let ok = c.resize-grown.ensures.succeeds (omega (arith, room, left, is)) in search (rules, ok, is, size));
      filled_room = (let room = kept.filled_room in let cap = c.push_reserved.ensures.capacity in omega (arith, room, same, cap));
      words_room = (let room = kept.words_room in let cap = c.resize-grown.ensures.capacity in omega (arith, room, same, cap));
    }

pub returns-clause-words : goal.returns-clause-words
returns-clause-words c =
    let within : c.args.block < length c.self.inside.numbers.items = omega (arith, ap (λ (b : Blocks). length b.numbers) c.self.view_is, c.requires.block) in
    let none : get_or c.self.inside.numbers.items c.args.block 0 ≡ 0 = ap (λ (b : Blocks). get_or b.numbers c.args.block 0) c.self.view_is ∙ c.requires.none in
    let size : length c.push_reserved.new.self.items ≡ length c.self.inside.filled.items + 1 = ap length c.push_reserved.ensures.items ∙ length-append c.self.inside.filled.items (c.empty.result ∷ []) in
    let is : c.len-number.result ≡ length c.self.inside.filled.items + 1 = search (rules, c.len-number.ensures, size) in
    let kept : (i : ℕ) → i < length c.self.inside.words.items → get_or c.resize-grown.new.self.items i (pos 0) ≡ get_or c.self.inside.words.items i (pos 0) = (λ i l. let before = c.self.invariant.words in c.resize-grown.ensures.by_index.0 i (pos 0) (omega (arith, l, before, is)) (search (rules, l))) in
    rw (← c.self.view_is) (word_of_begun c.self.inside.numbers.items c.self.inside.filled.items c.push_reserved.new.self.items c.empty.result c.self.inside.words.items c.resize-grown.new.self.items c.args.block c.len-number.result within none c.self.invariant.numbered c.self.invariant.words is c.push_reserved.ensures.items c.empty.ensures kept)
