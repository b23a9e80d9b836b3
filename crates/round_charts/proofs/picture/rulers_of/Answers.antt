use Rattle.std.proofs.Common.{All}
use Rattle.std.proofs.lemmas.List.Elements.{All-push}
use Rattle.round_charts.specs.Picture.{IsRulerOn}
use Rattle.round_charts.proofs.picture.rulers_of.Goals.{else-is_labelled, else-is_numbered, then-is_labelled+in_ok-push-2, then-is_numbered+in_ok-push-3}
use Rattle.round_charts.proofs.picture.rulers_of.Goals as goal

pub loop-width-preserved : goal.loop-width-preserved
loop-width-preserved c =
    let P = IsRulerOn c.args.page in
    let with_bar : All P c.push.new.self.items = rw c.in_ok-push.ensures.items (All-push P c.loop-width.rulers.items _ c.loop-width.invariant c.rectangle-bar.ensures.inside) in
    let with_width : All P c.if-is_labelled.rulers.items = elim c.if-is_labelled.branch [
      | then-is_labelled+in_ok-push-2 w ↦ rw (w.rulers-is, w.in_ok-push-2.ensures.items) (All-push P c.push.new.self.items _ with_bar w.number.ensures)
      | else-is_labelled w ↦ rw w.rulers-is with_bar
    ] in
    elim c.if-is_numbered.branch [
      | then-is_numbered+in_ok-push-3 w ↦ rw (w.rulers-is, w.in_ok-push-3.ensures.items) (All-push P c.if-is_labelled.rulers.items _ with_width w.number-then-is_numbered.ensures)
      | else-is_numbered w ↦ rw w.rulers-is with_width
    ]
