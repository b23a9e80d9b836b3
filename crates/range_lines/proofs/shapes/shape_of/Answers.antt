use Rattle.std.proofs.Common.{sym, ◌∙◌}
use Rattle.range_lines.proofs.ShapeLinks.{shape-two}
use Rattle.range_lines.proofs.shapes.shape_of.Goals as goal

pub returns-then-len-eq2-clause-shape : goal.returns-then-len-eq2-clause-shape
returns-then-len-eq2-clause-shape c =
    shape-two c.args.e.now c.in-Apply.op c.in-Apply.args c.at.result.now c.at-then-len-eq2.result.now c.term_of.result c.term_of-then-len-eq2.result c.combined.result c.in-Apply.is (sym c.len.ensures ∙ c.if-len-eq2.true) c.at.ensures.item c.at-then-len-eq2.ensures.item c.term_of.ensures c.term_of-then-len-eq2.ensures c.combined.ensures.shape
