use Rattle.std.proofs.Common.{◌≡◌, true, false, take, sym, ap, ◌∙◌}
use Rattle.f77_tree.specs.declared.statements.Stmt.{Stmt}
use Rattle.layout_rules.proofs.FirstLine.{first_after-here, first_after-next}
use Rattle.program_units.specs.Units.{call_by}
use Rattle.program_units.specs.Refusals.{lacks_sub, lacks_told}
use Rattle.program_units.proofs.NamesAbove.{lacking-is}
use Rattle.program_units.proofs.named_subs.first_lacking_sub.Goals as goal

pub returns-then-is_lacking : goal.returns-then-is_lacking
returns-then-is_lacking c =
    let s = c.s-item.result in
    let i = c.loop-s.s-index in
    let stmts = c.args.stmts.now in
    let names = c.args.names.now in
    let fault : lacks_sub stmts (take i stmts) s ≡ true =
    sym (lacking-is stmts names c.requires (take i stmts) s) ∙ sym (c.is_lacking.ensures ∙ ap (λ (stmt : Stmt). lacks_told names (call_by stmt)) c.inner_of.ensures) ∙ c.if-is_lacking.true
    in
    sym (c.loop-s.invariant ∙ first_after-here (lacks_sub stmts) stmts i s c.loop-s-test.true c.s-item.is fault)

pub loop-s-preserved : goal.loop-s-preserved
loop-s-preserved c =
    let s = c.s-item.result in
    let i = c.loop-s.s-index in
    let stmts = c.args.stmts.now in
    let names = c.args.names.now in
    let no_fault : lacks_sub stmts (take i stmts) s ≡ false =
    sym (lacking-is stmts names c.requires (take i stmts) s) ∙ sym (c.is_lacking.ensures ∙ ap (λ (stmt : Stmt). lacks_told names (call_by stmt)) c.inner_of.ensures) ∙ c.if-is_lacking.false
    in
    c.loop-s.invariant ∙ first_after-next (lacks_sub stmts) stmts i s c.loop-s-test.true c.s-item.is no_fault
