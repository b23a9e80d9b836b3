use Rattle.std.proofs.Common.{length, refl, sym, ◌∙◌}
use Rattle.std.proofs.lemmas.List.{get_or_read}
use Rattle.std.proofs.lemmas.Option.{slice_get_read}
use Rattle.control_structure.proofs.LabelLemmas.{IsTable-begin, IsTable-alike, IsTable-keep, IsTable-set, IsTable-end}
use Rattle.control_structure.proofs.labels.Labels.of.Goals as goal
use Rattle.control_structure.proofs.labels.Labels.of.Goals.{then-index-count, else-index-count}

pub loop-i-init : goal.loop-i-init
loop-i-init c = rw c.new-places.ensures.items (IsTable-begin c.args.stmts.now (length c.args.stmts.now) refl)

pub loop-i-preserved : goal.loop-i-preserved
loop-i-preserved c =
    let stmts = c.args.stmts.now in
    let s = c.index-stmts-i.result in
    let places = c.make_room.new.table.items in
    let here = slice_get_read stmts (length stmts) c.loop-i.i s refl c.loop-i-test.true c.index-stmts-i.is in
    let in_table = c.in_ok-make_room.ensures.within in
    let table = IsTable-alike stmts c.loop-i.i (length stmts) c.loop-i.places.items places c.in_ok-make_room.ensures.entries c.loop-i.invariant in
    let value = get_or_read places s.label c.index.result.now in_table c.index.ensures (length stmts) in
    elim c.if-index-count.branch [
      | then-index-count w ↦ rw w.places-is (IsTable-set stmts c.loop-i.i (length stmts) places s here in_table (sym value ∙ w.if-index-count.true) table)
      | else-index-count w ↦ rw w.places-is (IsTable-keep stmts c.loop-i.i (length stmts) places s here (λ e. w.if-index-count.false (value ∙ e)) table)
    ]

pub returns : goal.returns
returns c = IsTable-end c.args.stmts.now c.loop-i.i (length c.args.stmts.now) c.loop-i.places.items c.loop-i-test.false c.loop-i.invariant
