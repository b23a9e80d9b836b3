use Rattle.std.proofs.Common.{ℕ, ◌<◌, ◌≤◌, not, ⊎_elim, ap, sym, ◌∙◌}
use Rattle.std.specs.Ordering.{nat_cmp}
use Rattle.std.specs.BTreeMap.{get}
use Rattle.std.proofs.lemmas.Bool.{cases_lt, le-leb, lt-leb}
use Rattle.storage_checks.proofs.GivenWordLemmas.{free_without, free_after, taken_inside}
use Rattle.storage_checks.proofs.given_words.GivenWords.is_free.Goals as goal

pub returns-in-Some : goal.returns-in-Some
returns-in-Some c = λ seen holds.
    let end_of = get nat_cmp c.args.self.now.ends in
    let first = c.args.first in
    let len = c.args.len in
    let found : ℕ × ℕ = (c.in-Some.field-0-0, c.in-Some.last) in
    ⊎_elim
    (λ (beyond : first < c.in-Some.last). lt-leb c.in-Some.last first beyond ∙ ap not (sym (taken_inside end_of seen holds first len found c.requires.some c.in-Some.ensures beyond)))
    (λ (le : c.in-Some.last ≤ first). le-leb c.in-Some.last first le ∙ ap not (sym (free_after end_of seen holds first len found c.in-Some.ensures le)))
    (cases_lt first c.in-Some.last)

pub returns-in-None : goal.returns-in-None
returns-in-None c = λ seen holds. ap not (sym (free_without (get nat_cmp c.args.self.now.ends) seen holds c.args.first c.args.len c.in-None.ensures))
