use Rattle.std.proofs.Common.{◌++◌, List, [], ap, ◌∙◌, arith}
use Rattle.f77_tree.specs.declared.statements.Labelled.{Labelled}
use Rattle.program_units.specs.Expansion.{merged}
use Rattle.unit_laws.proofs.AcceptedTexts.{some-first}
use Rattle.inlined_copies.proofs.WholeLists.{main-back, main-front, main-whole}
use Rattle.f77_subs.proofs.whole_list.put_whole.Goals as goal

pub at-main-requires : goal.at-main-requires
at-main-requires c = some-first c.args.copies.now.units.us.now (c.requires.tables.fit.subs [])

pub labels_in_main-before-requires : goal.labels_in_main-before-requires
labels_in_main-before-requires c =
    main-front c.args.copies.now c.requires.tables c.requires.few c.index-copies-0.result c.at-main.result.now c.at-main.ensures.statements c.declared_first-first.result

pub put_pieces-requires : goal.put_pieces-requires
put_pieces-requires c =
    let less = main-front c.args.copies.now c.requires.tables c.requires.few c.index-copies-0.result c.at-main.result.now c.at-main.ensures.statements c.declared_first-first.result in
    omega (arith, less)

pub put_pieces-requires-2 : goal.put_pieces-requires-2
put_pieces-requires-2 c =
    main-back c.args.copies.now c.requires.tables c.requires.few c.index-copies-0.result c.at-main.result.now c.at-main.ensures.statements c.declared_first-first.result
    c.labels_in_main-before.result c.labels_in_main-before.ensures

pub returns : goal.returns
returns c =
    main-whole c.args.copies.now c.requires.tables c.requires.few c.index-copies-0.result c.at-main.result.now c.at-main.ensures.statements
    c.len.result c.len-2.result c.declared_first-first.result c.labels_in_main-before.result c.new-out.result.items c.put_pieces.new.out.items c.put_all.new.out.items c.put_pieces-2.new.out.items
    c.len.ensures c.len-2.ensures c.declared_first-first.ensures.count c.labels_in_main-before.ensures c.new-out.ensures.items
    c.in_ok-put_pieces.ensures
    (c.in_ok-put_all.ensures ∙ ap (λ (ws : List (List Labelled)). c.put_pieces.new.out.items ++ merged ws) c.requires.same)
    c.in_ok-put_pieces-2.ensures
