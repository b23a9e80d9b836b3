use Rattle.std.proofs.Common.{◌≡◌, true}
use Rattle.f77_tree.proofs.Safety.{has-value-but, has-value, names-word}
use Rattle.f77_tree.proofs.expression_laws.what_cannot_trap_has_a_value.Goals as goal

pub returns-clause-expressions : goal.returns-clause-expressions
returns-clause-expressions c = λ excepted names store next e words fine can.
    let has = has-value-but (λ sub dim. excepted sub dim ≡ true) names store next words fine e can in
    record { result = has.result; is = has.is }

pub returns-clause-words : goal.returns-clause-words
returns-clause-words c = λ names store next e words can. let has = has-value names store next e words can in record { result = has.result; is = has.is }

pub returns-clause-accesses : goal.returns-clause-accesses
returns-clause-accesses c = λ names store next access words can. let named = names-word names store next access words can in record { result = named.word; is = named.is }
