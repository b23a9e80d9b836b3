use Rattle.std.proofs.Common.{◌++◌}
use Rattle.std.specs.Prelude.{codes, decimal}
use Rattle.std.proofs.lemmas.Result.{on_ok_weaker}
use Rattle.f77_tree.specs.StatementGrammar.{step_text}
use Rattle.f77_expr.specs.Printing.{name_at, printed_text}
use Rattle.flat_programs.specs.declared.statements.Flat.TheVariants.{DoLoop}
use Rattle.flat_programs.specs.Shown.{shown, written_step}
use Rattle.flat_programs.specs.Typeset.{blank, typeset}
use Rattle.flat_programs.proofs.ShownLemmas.{do_text}
use Rattle.flat_programs.proofs.TextLemmas.{three_texts}
use Rattle.flat_programs.proofs.shown.append_do_loop.Goals as goal

pub returns : goal.returns
returns c =
    let names = c.args.p.now.names in
    let first = c.args.first.now in
    let last = c.args.last.now in
    let step = c.args.step.now in
    let head = codes "DO " ++ decimal c.args.end ++ blank ++ name_at names c.args.var ++ codes "=" in
    let bounds = printed_text names first ++ codes "," ++ printed_text names last in
    on_ok_weaker c.append_step.result
    (λ is. three_texts c.args.out.now.items head bounds (step_text (written_step names step)) c.append_head.new.out.items c.append_bounds.new.out.items c.append_step.new.out.items (typeset (shown names (DoLoop c.args.end c.args.var first last step))) c.in_ok-append_head.ensures c.in_ok-append_bounds.ensures is (do_text names c.args.end c.args.var first last step))
    c.append_step.ensures
