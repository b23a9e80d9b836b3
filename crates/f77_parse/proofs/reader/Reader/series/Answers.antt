use Rattle.std.proofs.Common.{◌≡◌, ◌<◌, List, [], ◌∷◌, ◌++◌, length, Some, Err, rules, arith, sym, subst}
use Rattle.f77_parse.specs.Keeping.{kept_parts}
use Rattle.f77_parse.proofs.Given.{given_fails}
use Rattle.f77_parse.proofs.ListsKept.{IsFilled, no_first_part, first_part, parts_end, no_part, next_part}
use Rattle.f77_parse.proofs.reader.Reader.series.Goals as goal

pub returns-in_err-read_first-clause-gives : goal.returns-in_err-read_first-clause-gives
returns-in_err-read_first-clause-gives g c =
    let text = c.args.self.now.rest.now in
    let bad = c.args.self.now.is_bad in
    let whole : c.from_residual.result ≡ Err c.in_err-read_first.field-0.0 = search rules in
    given_fails _ _ c.read_first.result c.from_residual.result c.in_err-read_first.field-0.0 _ _ _ _ c.in_err-read_first.was whole c.read_first.ensures.gives (λ none. no_first_part g.S.Series.kept_first g.S.Series.kept_next bad text none)

pub loop-alloc-init : goal.loop-alloc-init
loop-alloc-init g c =
    let text = c.args.self.now.rest.now in
    let bad = c.args.self.now.is_bad in
    let rest = c.read_first.new.reader.rest.now in
    let bad_now = c.read_first.new.reader.is_bad in
    let some : g.S.Series.kept_first bad text ≡ Some (c.in_ok-read_first.field-0, bad_now, rest) = search rules in
    let less : length rest < length text = search rules in
    let made : c.push.new.self ≡ c.in_ok-read_first.field-0 ∷ [] = search rules in
    subst (λ (list : List _). IsFilled g.S.Series.kept_next text (kept_parts g.S.Series.kept_first g.S.Series.kept_next bad text) list bad_now rest) (sym made) (first_part g.S.Series.kept_first g.S.Series.kept_next bad text c.in_ok-read_first.field-0 bad_now rest some less)

pub returns-in_err-read_next-clause-gives : goal.returns-in_err-read_next-clause-gives
returns-in_err-read_next-clause-gives g c =
    let filled = c.loop-alloc.invariant in
    let some : 0 < length c.loop-alloc.self.rest.now = search rules in
    let whole : c.from_residual-in_err-read_next.result ≡ Err c.in_err-read_next.field-0.0 = search rules in
    given_fails _ _ c.read_next.result c.from_residual-in_err-read_next.result c.in_err-read_next.field-0.0 _ _ _ _ c.in_err-read_next.was whole c.read_next.ensures.gives
    (λ none. no_part g.S.Series.kept_next _ _ _ _ _ filled none some)

pub push-requires-in-loop-alloc : goal.push-requires-in-loop-alloc
push-requires-in-loop-alloc g c =
    let room = c.loop-alloc.invariant.room in
    let less : length c.read_next.new.reader.rest.now < length c.loop-alloc.self.rest.now = search rules in
    let bound = c.args.self.now.room in
    let whole = c.args.self.now.shorter in
    omega arith

pub loop-alloc-preserved : goal.loop-alloc-preserved
loop-alloc-preserved g c =
    let text = c.args.self.now.rest.now in
    let filled = c.loop-alloc.invariant in
    let later = c.read_next.new.reader.rest.now in
    let bad_now = c.read_next.new.reader.is_bad in
    let less : length later < length c.loop-alloc.self.rest.now = search rules in
    let some : g.S.Series.kept_next c.loop-alloc.self.is_bad c.loop-alloc.self.rest.now ≡ Some (c.in_ok-read_next.field-0, bad_now, later) = search rules in
    let made : c.push-in-loop-alloc.new.self ≡ c.loop-alloc.list ++ c.in_ok-read_next.field-0 ∷ [] = search rules in
    subst (λ (list : List _). IsFilled g.S.Series.kept_next text (kept_parts g.S.Series.kept_first g.S.Series.kept_next c.args.self.now.is_bad text) list bad_now later) (sym made) (next_part g.S.Series.kept_next _ _ _ _ _ filled c.in_ok-read_next.field-0 bad_now later some less)

pub returns-clause-gives : goal.returns-clause-gives
returns-clause-gives g c =
    let none : c.loop-alloc.self.rest.now ≡ [] = search rules in
    parts_end g.S.Series.kept_next _ _ _ _ _ c.loop-alloc.invariant none

pub returns-clause-shorter : goal.returns-clause-shorter
returns-clause-shorter g c = c.loop-alloc.invariant.shorter
