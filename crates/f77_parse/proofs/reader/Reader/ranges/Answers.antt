use Rattle.std.proofs.Common.{◌≡◌, ◌<◌, Bool, List, [], ◌∷◌, ◌++◌, length, Some, None, Err, rules, arith, sym, ap, subst}
use Rattle.f77_parse.specs.Parts.{after_comma}
use Rattle.f77_parse.specs.Keeping.{kept_after, range_kept}
use Rattle.f77_parse.proofs.Given.{given_fails}
use Rattle.f77_parse.proofs.ListsKept.{IsBegun, no_first, first_item, last_item, no_next, next_item}
use Rattle.f77_parse.proofs.reader.Reader.ranges.Goals as goal

pub returns-in_err-range-clause-gives : goal.returns-in_err-range-clause-gives
returns-in_err-range-clause-gives c =
    let text = c.args.self.now.rest.now in
    let bad = c.args.self.now.is_bad in
    let whole : c.from_residual.result ≡ Err c.in_err-range.field-0.0 = search rules in
    given_fails _ _ c.range.result c.from_residual.result c.in_err-range.field-0.0 _ _ _ _ c.in_err-range.was whole c.range.ensures.gives (λ none. no_first (range_kept c.args.kind) c.args.list bad text none)

pub loop-kind-init : goal.loop-kind-init
loop-kind-init c =
    let text = c.args.self.now.rest.now in
    let bad = c.args.self.now.is_bad in
    let rest = c.range.new.self.rest.now in
    let bad_now = c.range.new.self.is_bad in
    let some : (range_kept c.args.kind) bad text ≡ Some (c.in_ok-range.field-0, bad_now, rest) = search rules in
    let less : length rest < length text = search rules in
    let made : c.push.new.self ≡ c.args.list ++ c.in_ok-range.field-0 ∷ [] = search rules in
    subst (λ (list : List _). IsBegun (range_kept c.args.kind) c.args.list text (kept_after (range_kept c.args.kind) c.args.list bad text) list bad_now rest) (sym made) (first_item (range_kept c.args.kind) c.args.list bad text c.in_ok-range.field-0 bad_now rest some less)

pub returns-in_err-range-2-clause-gives : goal.returns-in_err-range-2-clause-gives
returns-in_err-range-2-clause-gives c =
    let begun = c.loop-kind.invariant in
    let next = c.passes_comma.new.self.rest.now in
    let comma : after_comma c.loop-kind.self.rest.now ≡ Some next = search rules in
    let same : c.passes_comma.new.self.is_bad ≡ c.loop-kind.self.is_bad = search rules in
    let whole : c.from_residual-in_err-range-2.result ≡ Err c.in_err-range-2.field-0.0 = search rules in
    given_fails _ _ c.range-in-loop-kind.result c.from_residual-in_err-range-2.result c.in_err-range-2.field-0.0 _ _ _ _ c.in_err-range-2.was whole c.range-in-loop-kind.ensures.gives
    (λ none. no_next (range_kept c.args.kind) _ _ _ _ _ _ begun next comma (subst (λ (b : Bool). (range_kept c.args.kind) b next ≡ None) same none))

pub push-requires-in-loop-kind : goal.push-requires-in-loop-kind
push-requires-in-loop-kind c =
    let room = c.loop-kind.invariant.room in
    let less : length c.passes_comma.new.self.rest.now < length c.loop-kind.self.rest.now = search rules in
    let bound = c.args.self.now.room in
    let whole = c.args.self.now.shorter in
    omega arith

pub loop-kind-smaller : goal.loop-kind-smaller
loop-kind-smaller c =
    let less : length c.passes_comma.new.self.rest.now < length c.loop-kind.self.rest.now = search rules in
    let shorter : length c.range-in-loop-kind.new.self.rest.now < length c.passes_comma.new.self.rest.now = search rules in
    let falls : length c.range-in-loop-kind.new.self.rest.now < length c.loop-kind.self.rest.now = omega arith in
    falls

pub loop-kind-preserved : goal.loop-kind-preserved
loop-kind-preserved c =
    let text = c.args.self.now.rest.now in
    let begun = c.loop-kind.invariant in
    let next = c.passes_comma.new.self.rest.now in
    let later = c.range-in-loop-kind.new.self.rest.now in
    let bad_now = c.range-in-loop-kind.new.self.is_bad in
    let comma : after_comma c.loop-kind.self.rest.now ≡ Some next = search rules in
    let less : length next < length c.loop-kind.self.rest.now = search rules in
    let same : c.passes_comma.new.self.is_bad ≡ c.loop-kind.self.is_bad = search rules in
    let shorter : length later < length next = search rules in
    let some : (range_kept c.args.kind) c.passes_comma.new.self.is_bad next ≡ Some (c.in_ok-range-2.field-0, bad_now, later) = search rules in
    let made : c.push-in-loop-kind.new.self ≡ c.loop-kind.list ++ c.in_ok-range-2.field-0 ∷ [] = search rules in
    let there = subst (λ (b : Bool). (range_kept c.args.kind) b next ≡ Some (c.in_ok-range-2.field-0, bad_now, later)) same some in
    subst (λ (list : List _). IsBegun (range_kept c.args.kind) c.args.list text (kept_after (range_kept c.args.kind) c.args.list c.args.self.now.is_bad text) list bad_now later) (sym made) (next_item (range_kept c.args.kind) _ _ _ _ _ _ begun next c.in_ok-range-2.field-0 bad_now later comma less there shorter)

pub returns-clause-gives : goal.returns-clause-gives
returns-clause-gives c =
    let begun = c.loop-kind.invariant in
    let none : after_comma c.loop-kind.self.rest.now ≡ None = search rules in
    let ends : kept_after (range_kept c.args.kind) c.args.list c.args.self.now.is_bad c.args.self.now.rest.now ≡ Some (c.loop-kind.list, c.loop-kind.self.is_bad, c.loop-kind.self.rest.now) = last_item (range_kept c.args.kind) _ _ _ _ _ _ begun none in
    search rules

pub returns-clause-shorter : goal.returns-clause-shorter
returns-clause-shorter c =
    let less = c.loop-kind.invariant.shorter in
    let rest : length c.passes_comma.new.self.rest.now < length c.args.self.now.rest.now = search rules in
    rest

pub returns-clause-room : goal.returns-clause-room
returns-clause-room c =
    let room = c.loop-kind.invariant.room in
    let same : c.passes_comma.new.self.rest.now ≡ c.loop-kind.self.rest.now = search rules in
    let count = ap length same in
    omega arith
