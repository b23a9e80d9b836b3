use Rattle.std.proofs.Common.{◌≡◌, ◌<◌, ℕ, List, [], ◌∷◌, ◌++◌, length, Some, rules, sym, subst}
use Rattle.f77_parse.specs.Keeping.{next_character_kept, characters_kept}
use Rattle.f77_parse.proofs.ListsKept.{IsQuoting, quoting_begins, quoting_goes_on}
use Rattle.f77_parse.proofs.reader.Reader.characters.Goals as goal

pub loop-list-init : goal.loop-list-init
loop-list-init c =
    let text = c.args.self.now.rest.now in
    let bad = c.args.self.now.is_bad in
    let made : c.new-list.result ≡ [] = search rules in
    subst (λ (list : List ℕ). IsQuoting text (characters_kept bad text) list bad text) (sym made) (quoting_begins bad text)

pub loop-list-preserved : goal.loop-list-preserved
loop-list-preserved c =
    let text = c.args.self.now.rest.now in
    let rest = c.loop-list.self.rest.now in
    let later = c.next_of_constant.new.self.rest.now in
    let bad_now = c.next_of_constant.new.self.is_bad in
    let some : next_character_kept c.loop-list.self.is_bad rest ≡ Some (Some c.in-Some.c, bad_now, later) = search rules in
    let less : length later < length rest = search rules in
    let made : c.push.new.self ≡ c.loop-list.list ++ c.in-Some.c ∷ [] = search rules in
    subst (λ (list : List ℕ). IsQuoting text (characters_kept c.args.self.now.is_bad text) list bad_now later) (sym made) (quoting_goes_on text _ _ _ rest c.loop-list.invariant c.in-Some.c bad_now later some less)
