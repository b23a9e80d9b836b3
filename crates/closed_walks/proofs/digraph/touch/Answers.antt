use Rattle.std.proofs.Common.{◌<◌, ◌∙◌, ap, [], ◌∷◌, ◌++◌, length, set, length-set}
use Rattle.std.proofs.lemmas.List.{get_or_default}
use Rattle.closed_walks.proofs.Digraphs.{set-undone}
use Rattle.closed_walks.proofs.digraph.touch.Goals as goal

pub returns-clause-err : goal.returns-clause-err
returns-clause-err c =
    let lists = c.args.lists.now.items in
    let once = set lists c.args.from c.push.new.self in
    let twice = set once c.args.to c.push-2.new.self in
    let ends : c.args.to < length once = rw length-set c.requires.ends in
    let begins : c.args.from < length twice = rw (length-set, length-set) c.requires.begins in
    set-undone lists c.args.from c.args.to c.args.e c.push.new.self c.push-2.new.self c.drop_last.new.self c.if-from-to.true c.requires.begins
    (c.in_ok-push.ensures.ok ∙ ap (λ xs. xs ++ c.args.e ∷ []) (c.index_mut.ensures.value ∙ get_or_default lists c.args.from c.index_mut.result.now [] c.requires.begins))
    (c.in-Err.ensures.err ∙ (c.index_mut-2.ensures.value ∙ get_or_default once c.args.to c.index_mut-2.result.now [] ends))
    (λ xs is. c.drop_last.ensures xs ((c.index_mut-3.ensures.value ∙ get_or_default twice c.args.from c.index_mut-3.result.now [] begins) ∙ is))
