use Rattle.storage_checks.proofs.GivenWordLemmas.{below_from_less, less_below, not_below}
use Rattle.storage_checks.proofs.given_words.GivenWords.last_before.Goals as goal

pub returns-in-Some : goal.returns-in-Some
returns-in-Some c =
    let inside = (c.range.ensures.in_range tt).3 _ _ c.in-Some.ensures.steps in
    let greatest = (c.range.ensures.in_range tt).4 _ _ c.in-Some.ensures.steps in
    (below_from_less c.in-Some.first.now c.args.word inside.0.1, inside.1, λ first lt is. not_below c.in-Some.first.now first (greatest first (tt, less_below first c.args.word lt) is))
