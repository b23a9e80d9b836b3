use Rattle.std.proofs.Common.{◌≡◌, ◌<◌, ◌≤◌, ◌+◌, Bool, List, [], length, Some, Err, rules, arith, sym, ap, subst, ◌∙◌}
use Rattle.f77_tree.specs.declared.declarations.LetterRange.{LetterRange}
use Rattle.f77_parse.specs.Parts.{after_comma}
use Rattle.f77_parse.specs.Keeping.{letters_kept}
use Rattle.f77_parse.proofs.Given.{given_fails}
use Rattle.f77_parse.proofs.ListsKept.{no_letters, first_letters, next_letters}
use Rattle.f77_parse.proofs.reader.Reader.letters_list.Goals as goal

pub returns-in_err-list-clause-gives : goal.returns-in_err-list-clause-gives
returns-in_err-list-clause-gives c =
    let text = c.args.self.now.rest.now in
    let bad = c.args.self.now.is_bad in
    let made : c.new.result ≡ [] = search rules in
    let whole : c.from_residual.result ≡ Err c.in_err-list.field-0.0 = search rules in
    given_fails _ _ c.letters.result c.from_residual.result c.in_err-list.field-0.0 _ _ _ _ c.in_err-list.was whole c.letters.ensures.gives
    (λ none. no_letters bad text (ap (λ (list : List LetterRange). letters_kept list bad text) (sym made) ∙ none))

pub loop-self-init : goal.loop-self-init
loop-self-init c =
    let text = c.args.self.now.rest.now in
    let bad = c.args.self.now.is_bad in
    let rest = c.letters.new.self.rest.now in
    let bad_now = c.letters.new.self.is_bad in
    let made : c.new.result ≡ [] = search rules in
    let some : letters_kept c.new.result bad text ≡ Some (c.in_ok-list.list, bad_now, rest) = search rules in
    let less : length rest < length text = search rules in
    let room : length c.in_ok-list.list + length rest ≤ length c.new.result + length text = search rules in
    let nothing : length c.new.result ≡ 0 = ap length made in
    first_letters bad text c.in_ok-list.list bad_now rest (ap (λ (list : List LetterRange). letters_kept list bad text) (sym made) ∙ some) less (omega arith)

pub loop-self-preserved : goal.loop-self-preserved
loop-self-preserved c =
    let next = c.passes_comma.new.self.rest.now in
    let later = c.letters-in-loop-self.new.self.rest.now in
    let bad_now = c.letters-in-loop-self.new.self.is_bad in
    let longer = c.in_ok-list-2.list in
    let comma : after_comma c.loop-self.self.rest.now ≡ Some next = search rules in
    let less : length next < length c.loop-self.self.rest.now = search rules in
    let same : c.passes_comma.new.self.is_bad ≡ c.loop-self.self.is_bad = search rules in
    let some : letters_kept c.loop-self.list c.passes_comma.new.self.is_bad next ≡ Some (longer, bad_now, later) = search rules in
    let shorter : length later < length next = search rules in
    let grows : length longer + length later ≤ length c.loop-self.list + length next = search rules in
    next_letters _ _ _ _ _ c.loop-self.invariant next longer bad_now later comma less (subst (λ (b : Bool). letters_kept c.loop-self.list b next ≡ Some (longer, bad_now, later)) same some) shorter grows
