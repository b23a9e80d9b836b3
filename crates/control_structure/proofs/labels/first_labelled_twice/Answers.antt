use Rattle.std.proofs.Common.{length, refl, sym, ◌∙◌}
use Rattle.std.proofs.lemmas.Option.{slice_get_read}
use Rattle.layout_rules.specs.Labels.{is_labelled_twice}
use Rattle.layout_rules.proofs.FirstLine.{first_after-here, first_after-next}
use Rattle.control_structure.proofs.LabelLemmas.{is_twice, not_twice-first, not_twice-blank}
use Rattle.control_structure.proofs.labels.first_labelled_twice.Goals as goal
use Rattle.control_structure.proofs.labels.first_labelled_twice.Goals.{else-s-ne0-via-then-s-ne0+else-place-i, else-s-ne0-via-else-s-ne0}

pub returns-then-place-i : goal.returns-then-place-i
returns-then-place-i c =
    let s = c.index-stmts-i.result in
    let here = slice_get_read c.args.stmts.now (length c.args.stmts.now) c.loop-i.i s refl c.loop-i-test.true c.index-stmts-i.is in
    let fault = is_twice c.args.stmts.now c.loop-i.i s here c.if-s-ne0.true (λ e. c.if-place-i.true (c.place.ensures ∙ (c.requires.places s.label ∙ e))) in
    sym (c.loop-i.invariant ∙ first_after-here is_labelled_twice c.args.stmts.now c.loop-i.i s c.loop-i-test.true c.index-stmts-i.is fault)

pub loop-i-preserved : goal.loop-i-preserved
loop-i-preserved c =
    let s = c.index-stmts-i.result in
    let here = slice_get_read c.args.stmts.now (length c.args.stmts.now) c.loop-i.i s refl c.loop-i-test.true c.index-stmts-i.is in
    c.loop-i.invariant ∙ first_after-next is_labelled_twice c.args.stmts.now c.loop-i.i s c.loop-i-test.true c.index-stmts-i.is (elim c.else-s-ne0.branch [
      | else-s-ne0-via-then-s-ne0+else-place-i w ↦ not_twice-first c.args.stmts.now c.loop-i.i s here (sym (c.requires.places s.label) ∙ (sym w.place.ensures ∙ w.if-place-i.false))
      | else-s-ne0-via-else-s-ne0 w ↦ not_twice-blank c.args.stmts.now c.loop-i.i s w.if-s-ne0.false
    ])
