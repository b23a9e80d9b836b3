use Rattle.std.proofs.Common.{◌≡◌, ◌<◌, ◌/◌, ◌*◌, length, get_or, arith, rules, ap, sym, ◌∙◌}
use Rattle.std.proofs.lemmas.Grind.{get_or_default_zero}
use Rattle.const_prop.specs.Values.{places}
use Rattle.const_prop.proofs.ValuesLemmas.{word_none, word_off, word_on}
use Rattle.const_prop.proofs.values.Values.get.Goals as goal

pub returns-then-number-eq0 : goal.returns-then-number-eq0
returns-then-number-eq0 c =
    let within : c.args.place / 32 < length c.self.inside.numbers.items = (let all : 32 * length c.self.inside.numbers.items ≡ places c.args.self.now = ap places c.self.view_is in omega (arith, all, c.requires)) in
    let is : c.index-number.result.now ≡ get_or c.self.inside.numbers.items (c.args.place / 32) 0 = c.index-number.ensures ∙ get_or_default_zero c.self.inside.numbers.items (c.args.place / 32) c.index-number.result.now within in
    rw (← c.self.view_is) (word_none c.self.inside.numbers.items c.self.inside.filled.items c.self.inside.words.items c.args.place c.index-number.result.now is c.if-number-eq0.true)

pub returns-then-not-holds : goal.returns-then-not-holds
returns-then-not-holds c =
    let within : c.args.place / 32 < length c.self.inside.numbers.items = (let all : 32 * length c.self.inside.numbers.items ≡ places c.args.self.now = ap places c.self.view_is in omega (arith, all, c.requires)) in
    let is : c.index-number.result.now ≡ get_or c.self.inside.numbers.items (c.args.place / 32) 0 = c.index-number.ensures ∙ get_or_default_zero c.self.inside.numbers.items (c.args.place / 32) c.index-number.result.now within in
    rw (← c.self.view_is) (word_off c.self.inside.numbers.items c.self.inside.filled.items c.self.inside.words.items c.args.place c.index-number.result.now c.index.result.now c.self.invariant.numbered is c.if-number-eq0.false c.index.ensures (sym c.holds.ensures.member ∙ c.if-not-holds.true))

pub returns : goal.returns
returns c =
    let within : c.args.place / 32 < length c.self.inside.numbers.items = (let all : 32 * length c.self.inside.numbers.items ≡ places c.args.self.now = ap places c.self.view_is in omega (arith, all, c.requires)) in
    let is : c.index-number.result.now ≡ get_or c.self.inside.numbers.items (c.args.place / 32) 0 = c.index-number.ensures ∙ get_or_default_zero c.self.inside.numbers.items (c.args.place / 32) c.index-number.result.now within in
    let on = word_on c.self.inside.numbers.items c.self.inside.filled.items c.self.inside.words.items c.args.place c.index-number.result.now c.index.result.now c.index-2.result.now c.self.invariant.numbered c.self.invariant.words is c.if-number-eq0.false c.index.ensures (sym c.holds.ensures.member ∙ c.if-not-holds.false) c.index-2.ensures in
    rw (← c.self.view_is) (search (rules, on))
