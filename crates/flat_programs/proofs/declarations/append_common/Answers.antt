use Rattle.std.proofs.Common.{◌≡◌, ◌++◌, map, drop, ap, ◌∙◌}
use Rattle.std.specs.Prelude.{codes}
use Rattle.std.proofs.lemmas.Result.{on_ok_weaker}
use Rattle.f77_tree.specs.StatementGrammar.{after_commas, block_text, decl_text}
use Rattle.flat_programs.specs.Declarations.{block_decls, block_statement, written_block}
use Rattle.flat_programs.specs.Typeset.{blank, typeset}
use Rattle.flat_programs.proofs.TextLemmas.{common_text, four_texts}
use Rattle.flat_programs.proofs.declarations.append_common.Goals as goal

pub returns : goal.returns
returns c =
    let parts = c.args.parts.now in
    let block = c.args.block.now in
    let names = after_commas (map decl_text (block_decls parts block)) in
    let begun : c.append_names_of_block.new.out.items ≡ names = c.in_ok-append_names_of_block.ensures ∙ ap (λ t. t ++ names) c.new-names.ensures.items in
    let last : c.without_first.result.now ≡ drop 1 names = c.without_first.ensures ∙ ap (drop 1) (c.deref.ensures.value ∙ begun) in
    on_ok_weaker c.append-3.result
    (λ is. four_texts c.args.out.now.items (codes "COMMON ") (block_text (written_block block)) blank (drop 1 names) c.append.new.out.items c.append_block.new.out.items c.append-2.new.out.items c.append-3.new.out.items (typeset (block_statement parts block)) c.in_ok-append.ensures c.in_ok-append_block.ensures c.in_ok-append-2.ensures (is ∙ ap (λ t. c.append-2.new.out.items ++ t) last) (common_text parts block))
    c.append-3.ensures
