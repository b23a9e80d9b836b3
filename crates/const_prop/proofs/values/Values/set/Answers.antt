use Rattle.std.proofs.Common.{◌≡◌, ◌≢◌, ◌<◌, ◌/◌, ◌==◌, if◌then◌else◌, ℤ, Option, Some, length, get_or, arith, ap, sym, ◌∙◌, w32, to_z, of_z}
use Rattle.std.proofs.lemmas.Grind.{get_or_default_zero}
use Rattle.std.proofs.lemmas.Int.{to_z-of_z}
use Rattle.const_prop.specs.Values.{Blocks, word_of}
use Rattle.const_prop.proofs.ValuesLemmas.{word_of_set}
use Rattle.const_prop.proofs.values.Values.set.Goals as goal

pub returns-clause-words : goal.returns-clause-words
returns-clause-words c =
    let within : c.args.place / 32 < length c.self.inside.numbers.items = omega (arith, ap (λ (b : Blocks). length b.numbers) c.self.view_is, c.begin.ensures.blocks, c.requires) in
    let is : c.index-number.result.now ≡ get_or c.self.inside.numbers.items (c.args.place / 32) 0 = c.index-number.ensures ∙ get_or_default_zero c.self.inside.numbers.items (c.args.place / 32) c.index-number.result.now within in
    let some : c.index-number.result.now ≢ 0 = λ none. c.begin.ensures.numbered (sym (ap (λ (b : Blocks). get_or b.numbers (c.args.place / 32) 0) c.self.view_is) ∙ sym is ∙ none) in
    let plain : to_z w32 (of_z w32 c.args.word) ≡ c.args.word = to_z-of_z w32 c.args.word c.ranges.word in
    rw plain
    (λ k. word_of_set c.self.inside.numbers.items c.self.inside.filled.items c.index_mut.result.now c.insert.new.self c.self.inside.words.items c.args.place c.index-number.result.now c.args.word c.self.invariant.numbered c.self.invariant.words is some c.index_mut.ensures.value c.insert.ensures k
    ∙ ap (λ (w : Option ℤ). if k == c.args.place then Some c.args.word else w) (ap (λ (b : Blocks). word_of b k) c.self.view_is ∙ c.begin.ensures.words k))
