use Rattle.std.proofs.Common.{◌≡◌, ◌+◌, ◌<◌, ◌&&◌, Bool, List, false, true, length, slice_index_or, arith, refl, subst, ap, ◌∙◌}
use Rattle.std.specs.List.{list_any}
use Rattle.printed_graphs.specs.declared.flow.Piece.{Piece}
use Rattle.printed_graphs.specs.declared.flow.PieceKind.TheVariants as piece_kind
use Rattle.graph_dependences.specs.Added.{Adds}
use Rattle.graph_dependences.specs.Control.{is_branch, is_statement}
use Rattle.graph_dependences.specs.Dependences.{DependsOnDecision, IfTold, leads}
use Rattle.graph_dependences.proofs.Added.{Adds-more, Adds-none, item_at}
use Rattle.graph_dependences.proofs.Decisions.{AreAt, controls_so, decision_added, none_added, told_of}
use Rattle.graph_dependences.proofs.control.add_controls_of.Goals as goal

pub returns-then-not-is_statement : goal.returns-then-not-is_statement
returns-then-not-is_statement c =
    let none : is_statement c.args.piece.kind ≡ false = grind (arith, c.if-not-is_statement.true, c.is_statement.ensures) in
    none_added c.args.flow.now c.args.second c.args.piece c.requires.piece none c.args.all.now.items

pub loop-decision-init : goal.loop-decision-init
loop-decision-init c = record { first = refl; added = Adds-none c.args.all.now.items (DependsOnDecision c.args.flow.now c.args.second) }

pub loop-decision-preserved : goal.loop-decision-preserved
loop-decision-preserved c =
    let flow = c.args.flow.now in
    let second = c.args.second in
    let first = c.loop-decision.first in
    let pieces = c.as_slice-decision-items.result.now in
    let one : Piece = slice_index_or pieces c.loop-decision.decision-index (record { kind = piece_kind.Start; line = 0 }) in
    let acts : is_statement c.args.piece.kind ≡ true = grind (arith, c.if-not-is_statement.false, c.is_statement.ensures) in
    let at : AreAt flow second first one c.args.piece = record {
      is_one = item_at flow.pieces.items pieces first c.loop-decision.decision-index (record { kind = piece_kind.Start; line = 0 }) c.as_slice-decision-items.ensures.value c.loop-decision.invariant.first c.loop-decision-test.true;
      is_two = c.requires.piece;
      acts = acts;
    } in
    let count : length pieces ≡ length flow.pieces.items = ap (λ ps. length ps) c.as_slice-decision-items.ensures.value in
    let low : first < length flow.pieces.items = omega (arith, count, c.loop-decision.invariant.first, c.loop-decision-test.true) in
    let always = c.in_ok-always.always.items in
    let perhaps = c.in_ok-perhaps.perhaps.items in
    let marks = c.in_ok-evading.evading.items in
    let is_always : slice_index_or always first false ≡ list_any (leads marks false first) flow.edges.items = c.in_ok-always.ensures.edges first low ∙ ap (λ (ms : List Bool). list_any (leads ms false first) flow.edges.items) c.as_slice.ensures.value in
    let is_perhaps : slice_index_or perhaps first false ≡ list_any (leads marks true first) flow.edges.items = c.in_ok-perhaps.ensures.edges first low ∙ ap (λ (ms : List Bool). list_any (leads ms true first) flow.edges.items) c.as_slice-2.ensures.value in
    let tested : c.controls-controls.result ≡ (is_branch one.kind && (slice_index_or always first false && slice_index_or perhaps first false)) =
    c.controls-controls.ensures ∙ ap (λ (ms : List Bool). is_branch one.kind && (slice_index_or ms first false && slice_index_or c.as_slice-in-loop-decision-2.result.now first false)) c.as_slice-in-loop-decision.ensures.value
    ∙ ap (λ (ms : List Bool). is_branch one.kind && (slice_index_or always first false && slice_index_or ms first false)) c.as_slice-in-loop-decision-2.ensures.value in
    let told = told_of flow second first one c.args.piece in
    let step = subst (λ (b : Bool). Adds c.loop-decision.all.items c.add_if.new.all.items (IfTold b told)) tested c.in_ok-add_if.ensures in
    let so = controls_so flow second first marks c.in_ok-evading.ensures (slice_index_or always first false) (slice_index_or perhaps first false) is_always is_perhaps in
    record {
      first = ap (λ n. n + 1) c.loop-decision.invariant.first;
      added = Adds-more c.args.all.now.items c.loop-decision.all.items c.add_if.new.all.items (DependsOnDecision flow second) first c.loop-decision.invariant.added
          (decision_added flow second first one c.args.piece at (slice_index_or always first false && slice_index_or perhaps first false) so c.loop-decision.all.items c.add_if.new.all.items step);
    }
