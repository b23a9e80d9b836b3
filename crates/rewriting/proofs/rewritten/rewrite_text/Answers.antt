use Rattle.std.proofs.lemmas.Result.{IfOk-weaker}
use Rattle.rewriting.specs.Rewritten.{IsRewrittenText, IsSharedTextOf}
use Rattle.rewriting.proofs.Texts.{rewritten_text}
use Rattle.rewriting.proofs.rewritten.rewrite_text.Goals as goal

pub returns-clause-text : goal.returns-clause-text
returns-clause-text c =
    let p = c.args.p.now in
    let form = c.in-Ok.simple.form in
    IfOk-weaker c.shared_text.result (λ text. IsSharedTextOf form text.items) (λ text. IsRewrittenText p c.args.checked text.items)
    (λ text is. rewritten_text p c.args.checked form c.in-Ok.ensures.simplified text.items is)
    c.shared_text.ensures.text
