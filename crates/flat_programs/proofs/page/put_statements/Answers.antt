use Rattle.std.proofs.Common.{rules, ◌≡◌, ◌++◌, ap, ◌∙◌, arith}
use Rattle.list_laws.proofs.Counts.{bit}
use Rattle.flat_programs.specs.Marks.{is_mark}
use Rattle.flat_programs.specs.Shown.{shown}
use Rattle.flat_programs.specs.Typeset.{typeset}
use Rattle.flat_programs.specs.Text.{typeset_at}
use Rattle.flat_programs.proofs.MarkLemmas.{bit-most, mark_at-next}
use Rattle.flat_programs.proofs.PageLemmas.{statement_put, statements_next}
use Rattle.flat_programs.proofs.page.put_statements.Goals as goal

pub loop-k-preserved : goal.loop-k-preserved
loop-k-preserved c =
    let names = c.args.p.now.names in
    let flat = c.args.flat.now in
    let k = c.loop-k.k in
    let l = c.at.result.now in
    let kept = c.loop-k.invariant in
    let whole = typeset (shown names l.stmt) in
    let text : c.append_statement.new.out.items ≡ whole = c.in_ok-append_statement.ensures ∙ ap (λ t. t ++ whole) c.clear.ensures.items in
    let step = mark_at-next flat k l c.at.ensures.item in
    let one : c.from-number.result ≡ bit (is_mark l.stmt) = search rules in
    let most = bit-most (is_mark l.stmt) in
    record {
      number = omega (arith, step, one, kept.number);
      few = omega (arith, one, most, kept.few);
      grows = statements_next (typeset_at names flat) k c.args.page.now c.loop-k.page c.put.new.self kept.grows (statement_put names flat k c.loop-k.number c.label_of.result l c.deref.result.now c.loop-k.page c.put.new.self c.at.ensures.item kept.number c.label_of.ensures (c.deref.ensures.value ∙ text) c.in_ok-put.ensures);
    }
