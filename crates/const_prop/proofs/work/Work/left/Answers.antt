use Rattle.std.proofs.Common.{◌≡◌, inr, ap, ◌∙◌}
use Rattle.cfg_build.specs.Shape.{kind_at}
use Rattle.const_prop.specs.Closed.{kind_after, exec_after}
use Rattle.const_prop.proofs.Uses.{not_act-writes}
use Rattle.const_prop.proofs.work.Work.left.Goals as goal

pub returns-in_default : goal.returns-in_default
returns-in_default g c =
    let f = c.args.s.now.flow.now in
    let kind : c.kind.result ≡ kind_after f c.args.edge = c.kind.ensures ∙ ap (kind_at f) c.head.ensures.node in
    inr (not_act-writes c.args.s.now.classes.now (kind_after f c.args.edge) (exec_after c.args.s.now.program.now f c.args.edge) c.args.line (λ is. c.in_default.not-Act (kind ∙ is)), c.get.ensures)
