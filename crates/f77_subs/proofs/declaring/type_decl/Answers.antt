use Rattle.std.proofs.Common.{ap, ◌∙◌}
use Rattle.layout_rules.specs.Executables.{kind_or_integer}
use Rattle.entity_names.proofs.KeptNames.{kept-at}
use Rattle.entity_names.proofs.PutDecls.{decl-made, dims-told, kind-told}
use Rattle.f77_subs.proofs.declaring.type_decl.Goals as goal

pub returns-clause-kind : goal.returns-clause-kind
returns-clause-kind c =
    let text = c.args.put.now.new.now.text.now in
    let us = text.us.now in
    let k = c.in_ok-k.k in
    let kept = c.index.result.now in
    let are = kept-at us text.kept.items k kept text.all_kept c.in_ok-k.ensures.inside c.index.ensures in
    c.kind_or_integer.ensures ∙ ap kind_or_integer (c.kind.ensures ∙ kind-told us k c.in_ok-k.name kept c.args.entity.now are c.in_ok-k.ensures.same)

pub returns-clause-decls : goal.returns-clause-decls
returns-clause-decls c =
    let text = c.args.put.now.new.now.text.now in
    let us = text.us.now in
    let k = c.in_ok-k.k in
    let kept = c.index.result.now in
    let entity = c.args.entity.now in
    let are = kept-at us text.kept.items k kept text.all_kept c.in_ok-k.ensures.inside c.index.ensures in
    let told = c.in_ok-dims_of.ensures ∙ dims-told us k c.in_ok-k.name kept entity are c.in_ok-k.ensures.same in
    decl-made us entity c.in_ok-name_for.field-0 c.in_ok-dims_of.field-0 c.new-decls.result c.push.new.self c.in_ok-name_for.ensures told c.new-decls.ensures c.in_ok-push.ensures.ok
