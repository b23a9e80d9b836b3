use Rattle.std.proofs.Common.{rules, ◌≡◌, [], map}
use Rattle.std.specs.Prelude.{codes}
use Rattle.std.proofs.lemmas.Result.{on_ok_weaker}
use Rattle.f77_tree.specs.StatementGrammar.{with_commas, bracketed_list, signed_text}
use Rattle.flat_programs.specs.Declarations.{signed}
use Rattle.flat_programs.proofs.TextLemmas.{bracketed-some, three_texts}
use Rattle.flat_programs.proofs.declarations.append_subscripts.Goals as goal

pub returns : goal.returns
returns c =
    let old = c.args.out.now.items in
    let texts = map signed_text (map signed c.args.subs.now) in
    let some : c.args.subs.now ≡ [] → ⊥ = search rules in
    on_ok_weaker c.append-2.result (λ is. three_texts old (codes "(") (with_commas texts) (codes ")") c.append.new.out.items c.append_numbers.new.out.items c.append-2.new.out.items (bracketed_list texts) c.in_ok-append.ensures c.in_ok-append_numbers.ensures is (bracketed-some signed_text signed c.args.subs.now some)) c.append-2.ensures
