use Rattle.std.proofs.Common.{◌≡◌, ℕ, List, All, sym, ap, subst, ◌∙◌, arith}
use Rattle.std.specs.List.{list_any}
use Rattle.f77_tree.specs.declared.statements.Stmt.{Stmt}
use Rattle.layout_rules.specs.Labels.{IsBorne, jumps, statement_of}
use Rattle.layout_rules.specs.Jumps.{leads_into}
use Rattle.control_structure.proofs.Usable.{jumps-ThenIf, guards, guards-ThenIf}
use Rattle.control_structure.proofs.jumps.+enters_from.Goals as goal

pub enters_from-requires : goal.enters_from-requires
enters_from-requires t c =
    let same : jumps c.args.stmt.now ≡ jumps c.get.result.now = ap jumps c.in-ThenIf.is ∙ jumps-ThenIf c.in-ThenIf.field-0 c.in-ThenIf.inner ∙ ap jumps (sym c.get.ensures) in
    let fewer = ap guards c.in-ThenIf.is ∙ guards-ThenIf c.in-ThenIf.field-0 c.in-ThenIf.inner in
    let here = ap guards c.get.ensures in
    (let d = c.decreases in omega (arith, d, fewer, here), (c.requires.places, (c.requires.blocks, (c.requires.heads, (c.requires.once, subst (λ (labels : List ℕ). All (IsBorne c.args.stmts.now) labels) same c.requires.targets)))))

pub returns-in-ThenIf : goal.returns-in-ThenIf
returns-in-ThenIf t c =
    let same : jumps c.args.stmt.now ≡ jumps c.get.result.now = ap jumps c.in-ThenIf.is ∙ jumps-ThenIf c.in-ThenIf.field-0 c.in-ThenIf.inner ∙ ap jumps (sym c.get.ensures) in
    c.enters_from.ensures ∙ ap (list_any (λ label. leads_into c.args.stmts.now c.args.from (statement_of c.args.stmts.now label))) (sym same)

pub returns-in-SignIf : goal.returns-in-SignIf
returns-in-SignIf t c = c.enters_one-in-SignIf.ensures ∙ sym (ap (λ (stmt : Stmt). list_any (λ label. leads_into c.args.stmts.now c.args.from (statement_of c.args.stmts.now label)) (jumps stmt)) c.in-SignIf.is)
