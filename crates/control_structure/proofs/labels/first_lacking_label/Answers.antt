use Rattle.std.proofs.Common.{length, refl, sym, ◌∙◌}
use Rattle.std.proofs.lemmas.Option.{slice_get_read}
use Rattle.layout_rules.specs.Labels.{lacks_label}
use Rattle.layout_rules.proofs.FirstLine.{first_after-here, first_after-next}
use Rattle.control_structure.proofs.Usable.{used_labels}
use Rattle.control_structure.proofs.labels.first_lacking_label.Goals as goal

pub lacks_one-requires-clause-targets : goal.lacks_one-requires-clause-targets
lacks_one-requires-clause-targets c =
    let here = slice_get_read c.args.stmts.now (length c.args.stmts.now) c.loop-s.s-index c.s-item.result refl c.loop-s-test.true c.s-item.is in
    used_labels c.args.stmts.now c.requires.source c.loop-s.s-index c.s-item.result here

pub returns-then-lacks_one : goal.returns-then-lacks_one
returns-then-lacks_one c =
    sym (c.loop-s.invariant ∙ first_after-here (lacks_label c.args.stmts.now) c.args.stmts.now c.loop-s.s-index c.s-item.result c.loop-s-test.true c.s-item.is (sym c.lacks_one.ensures ∙ c.if-lacks_one.true))

pub loop-s-preserved : goal.loop-s-preserved
loop-s-preserved c =
    c.loop-s.invariant ∙ first_after-next (lacks_label c.args.stmts.now) c.args.stmts.now c.loop-s.s-index c.s-item.result c.loop-s-test.true c.s-item.is (sym c.lacks_one.ensures ∙ c.if-lacks_one.false)
