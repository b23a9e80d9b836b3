use Rattle.std.proofs.Common.{sym, ap, subst, ◌∙◌, ◌<◌, length, Option, None, ℕ}
use Rattle.std.specs.Prelude.{IfSome}
use Rattle.std.specs.Result.{result_ok}
use Rattle.alias_classes.proofs.KnownPlaces.{constant-word, other-word, place-inside}
use Rattle.alias_classes.proofs.known.known_word.Goals as goal

pub returns-then-are_constant-clause-word : goal.returns-then-are_constant-clause-word
returns-then-are_constant-clause-word c =
    c.ok.ensures.value ∙ ap result_ok c.locate.ensures ∙ sym (constant-word c.args.names.now c.args.store.now None c.args.access.now c.requires.access (sym c.are_constant.ensures ∙ c.if-are_constant.true))

pub returns-then-are_constant-clause-inside : goal.returns-then-are_constant-clause-inside
returns-then-are_constant-clause-inside c =
    subst (λ (o : Option ℕ). IfSome o (λ word. word < length c.args.store.now)) (sym c.ok.ensures.value) (place-inside c.accesses_stay_in_their_names.ensures.own c.args.names.now c.args.store.now c.args.access.now c.requires.access c.requires.places c.locate.result c.locate.ensures)

pub returns-else-are_constant-clause-word : goal.returns-else-are_constant-clause-word
returns-else-are_constant-clause-word c =
    sym (other-word c.args.names.now c.args.access.now (sym c.are_constant.ensures ∙ c.if-are_constant.false))
