use Rattle.std.proofs.Common.{◌++◌}
use Rattle.std.specs.Ordering.{nat_cmp}
use Rattle.std.specs.BTreeMap.{get}
use Rattle.f77_tree.specs.InitialWords.{words_from}
use Rattle.storage_checks.proofs.GivenWordLemmas.{is_other}
use Rattle.storage_checks.proofs.MergedWords.{beside-words, holds_all}
use Rattle.storage_checks.proofs.given_words.GivenWords.add.Goals as goal

pub returns-clause-added : goal.returns-clause-added
returns-clause-added c = λ seen holds.
    let words = seen ++ words_from c.args.first c.args.len in
    let beside = beside-words (get nat_cmp c.args.self.now.ends) seen holds c.args.first c.args.len in
    let out = c.take_out-from.ensures in
    let updates = c.in_ok-insert.ensures.updates in
    let from = c.take_out-from.result.0 in
    holds_all (get nat_cmp c.take_out-from.new.self.ends) (get nat_cmp c.insert.new.self) from c.take_out-from.result.1 words (out.beside words beside) (out.clear words beside) out.some updates.1 (λ q ne. updates.2 q (is_other from q ne))
