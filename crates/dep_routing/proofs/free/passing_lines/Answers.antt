use Rattle.std.proofs.Common.{◌&&◌, not, Bool, ap, sym, ◌∙◌}
use Rattle.class_set.specs.ClassSet.{holds}
use Rattle.dep_routing.specs.FreeLines.{is_free}
use Rattle.dep_routing.proofs.SetTables.{touches-at}
use Rattle.dep_routing.proofs.free.passing_lines.Goals as goal

pub returns-clause-lines : goal.returns-clause-lines
returns-clause-lines g c = λ line below.
    c.difference.ensures line
    ∙ ap (λ (b : Bool). b && not (holds c.at.result.now line)) (c.free_lines.ensures.lines line below)
    ∙ ap (λ (b : Bool). is_free c.args.g.now c.args.l.now c.args.node line && not b) (sym (touches-at c.args.touch.now c.args.node line c.at.result.now c.at.ensures.item))
