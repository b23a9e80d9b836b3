use Rattle.std.proofs.Common.{ap, ◌∙◌}
use Rattle.f77_tree.specs.declared.expressions.Expr.{Read}
use Rattle.shared_forms.proofs.ReplacedLemmas.{replaced-Read, replaced-other}
use Rattle.regenerate.proofs.replacing.+replaced.Goals as goal

pub replace-returns-in_ok-replace_access-in-Read : goal.replace-returns-in_ok-replace_access-in-Read
replace-returns-in_ok-replace_access-in-Read t c =
    ap Read c.in_ok-replace_access-in-Read.ensures
    ∙ replaced-Read c.args.t.now.q.now c.args.t.now.a.now c.args.e.now c.in-Read.access c.in-Read.is

pub replace-returns-in_ok-args-in-Apply : goal.replace-returns-in_ok-args-in-Apply
replace-returns-in_ok-args-in-Apply t c =
    replaced-other c.args.t.now.q.now c.args.t.now.a.now c.args.e.now c.in-Apply.op c.in-Apply.args c.in_ok-args-in-Apply.args c.temporary.result c.in-Apply.is c.temporary.ensures c.in_default.is c.in_ok-args-in-Apply.ensures
