use Rattle.std.proofs.Common.{rules, ◌++◌, ap, ◌∙◌}
use Rattle.std.proofs.lemmas.Result.{on_ok_weaker}
use Rattle.flat_programs.proofs.appending.append_signed.Goals as goal

pub returns : goal.returns
returns c =
    let text = c.format.ensures.text in
    on_ok_weaker c.append.result (λ is. is ∙ ap (λ t. c.args.out.now.items ++ t) (search rules)) c.append.ensures
