use Rattle.std.proofs.Common.{rules, ◌<◌, pos, All, length, subst}
use Rattle.std.proofs.lemmas.List.{take_all}
use Rattle.std.proofs.lemmas.List.Elements.{All-more}
use Rattle.op_table.specs.Words.{IsWord}
use Rattle.net_tables.proofs.new_board.words_are_words.Goals as goal

pub loop-word-preserved : goal.loop-word-preserved
loop-word-preserved c =
    let below : c.loop-word.word-index < length c.args.words.now.items = search rules in
    All-more IsWord c.args.words.now.items c.loop-word.word-index (pos 0) below c.loop-word.invariant (search rules)

pub returns : goal.returns
returns c =
    let all = take_all c.loop-word.word-index c.args.words.now.items (search rules) in
    subst (λ xs. All IsWord xs) all c.loop-word.invariant
