use Rattle.std.proofs.Common.{◌≡◌, ◌<◌, Bool, List, [], ◌∷◌, ◌++◌, length, Some, None, Err, rules, arith, sym, subst}
use Rattle.f77_parse.specs.Parts.{after_comma}
use Rattle.f77_parse.specs.Keeping.{kept_list}
use Rattle.f77_parse.proofs.Given.{given_fails}
use Rattle.f77_parse.proofs.ListsKept.{IsBegun, no_first, first_item, last_item, no_next, next_item}
use Rattle.f77_parse.proofs.reader.Reader.list.Goals as goal

pub returns-in_err-read-clause-gives : goal.returns-in_err-read-clause-gives
returns-in_err-read-clause-gives g c =
    let text = c.args.self.now.rest.now in
    let bad = c.args.self.now.is_bad in
    let whole : c.from_residual-in_err-read.result ≡ Err c.in_err-read.field-0.0 = search rules in
    given_fails _ _ c.read.result c.from_residual-in_err-read.result c.in_err-read.field-0.0 _ _ _ _ c.in_err-read.was whole c.read.ensures.gives (λ none. no_first g.P.Part.kept [] bad text none)

pub loop-alloc-init : goal.loop-alloc-init
loop-alloc-init g c =
    let text = c.args.self.now.rest.now in
    let bad = c.args.self.now.is_bad in
    let rest = c.read.new.reader.rest.now in
    let bad_now = c.read.new.reader.is_bad in
    let some : g.P.Part.kept bad text ≡ Some (c.in_ok-read.field-0, bad_now, rest) = search rules in
    let less : length rest < length text = search rules in
    let made : c.push.new.self ≡ [] ++ c.in_ok-read.field-0 ∷ [] = search rules in
    subst (λ (list : List _). IsBegun g.P.Part.kept [] text (kept_list g.P.Part.kept bad text) list bad_now rest) (sym made) (first_item g.P.Part.kept [] bad text c.in_ok-read.field-0 bad_now rest some less)

pub returns-in_err-read-2-clause-gives : goal.returns-in_err-read-2-clause-gives
returns-in_err-read-2-clause-gives g c =
    let begun = c.loop-alloc.invariant in
    let next = c.passes_comma.new.self.rest.now in
    let comma : after_comma c.loop-alloc.self.rest.now ≡ Some next = search rules in
    let same : c.passes_comma.new.self.is_bad ≡ c.loop-alloc.self.is_bad = search rules in
    let whole : c.from_residual-in_err-read-2.result ≡ Err c.in_err-read-2.field-0.0 = search rules in
    given_fails _ _ c.read-in-loop-alloc.result c.from_residual-in_err-read-2.result c.in_err-read-2.field-0.0 _ _ _ _ c.in_err-read-2.was whole c.read-in-loop-alloc.ensures.gives
    (λ none. no_next g.P.Part.kept _ _ _ _ _ _ begun next comma (subst (λ (b : Bool). g.P.Part.kept b next ≡ None) same none))

pub push-requires-in-loop-alloc : goal.push-requires-in-loop-alloc
push-requires-in-loop-alloc g c =
    let room = c.loop-alloc.invariant.room in
    let less : length c.passes_comma.new.self.rest.now < length c.loop-alloc.self.rest.now = search rules in
    let bound = c.args.self.now.room in
    let whole = c.args.self.now.shorter in
    omega arith

pub loop-alloc-smaller : goal.loop-alloc-smaller
loop-alloc-smaller g c =
    let less : length c.passes_comma.new.self.rest.now < length c.loop-alloc.self.rest.now = search rules in
    let shorter : length c.read-in-loop-alloc.new.reader.rest.now < length c.passes_comma.new.self.rest.now = search rules in
    let falls : length c.read-in-loop-alloc.new.reader.rest.now < length c.loop-alloc.self.rest.now = omega arith in
    falls

pub loop-alloc-preserved : goal.loop-alloc-preserved
loop-alloc-preserved g c =
    let text = c.args.self.now.rest.now in
    let begun = c.loop-alloc.invariant in
    let next = c.passes_comma.new.self.rest.now in
    let later = c.read-in-loop-alloc.new.reader.rest.now in
    let bad_now = c.read-in-loop-alloc.new.reader.is_bad in
    let comma : after_comma c.loop-alloc.self.rest.now ≡ Some next = search rules in
    let less : length next < length c.loop-alloc.self.rest.now = search rules in
    let same : c.passes_comma.new.self.is_bad ≡ c.loop-alloc.self.is_bad = search rules in
    let shorter : length later < length next = search rules in
    let some : g.P.Part.kept c.passes_comma.new.self.is_bad next ≡ Some (c.in_ok-read-2.field-0, bad_now, later) = search rules in
    let made : c.push-in-loop-alloc.new.self ≡ c.loop-alloc.list ++ c.in_ok-read-2.field-0 ∷ [] = search rules in
    let there = subst (λ (b : Bool). g.P.Part.kept b next ≡ Some (c.in_ok-read-2.field-0, bad_now, later)) same some in
    subst (λ (list : List _). IsBegun g.P.Part.kept [] text (kept_list g.P.Part.kept c.args.self.now.is_bad text) list bad_now later) (sym made) (next_item g.P.Part.kept _ _ _ _ _ _ begun next c.in_ok-read-2.field-0 bad_now later comma less there shorter)

pub returns-clause-gives : goal.returns-clause-gives
returns-clause-gives g c =
    let begun = c.loop-alloc.invariant in
    let none : after_comma c.loop-alloc.self.rest.now ≡ None = search rules in
    let ends : kept_list g.P.Part.kept c.args.self.now.is_bad c.args.self.now.rest.now ≡ Some (c.loop-alloc.list, c.loop-alloc.self.is_bad, c.loop-alloc.self.rest.now) = last_item g.P.Part.kept _ _ _ _ _ _ begun none in
    search rules

pub returns-clause-shorter : goal.returns-clause-shorter
returns-clause-shorter g c =
    let less = c.loop-alloc.invariant.shorter in
    let rest : length c.passes_comma.new.self.rest.now < length c.args.self.now.rest.now = search rules in
    rest
