use Rattle.std.proofs.Common.{◌≡◌, ◌<◌, ℕ, false, rules, sym, subst, ◌∙◌, inl, inr, arith}
use Rattle.std.proofs.lemmas.List.{get_or_read}
use Rattle.closed_walks.specs.Graph.{edge_count}
use Rattle.dep_routing.specs.Touch.{touches_in}
use Rattle.const_prop.specs.declared.known.Known.TheVariants.{Any}
use Rattle.const_prop.specs.Closed.{IsClosed, is_one_word}
use Rattle.const_prop.specs.Known.{AtMost}
use Rattle.const_prop.specs.Table.{Knowns}
use Rattle.const_prop.specs.Work.{so_far, no_line, no_piece}
use Rattle.const_prop.proofs.Opening.{others-more}
use Rattle.const_prop.proofs.Settling.{settling-rises-from}
use Rattle.const_prop.proofs.Uses.{setting-covered}
use Rattle.const_prop.proofs.work.Work.open_others.Goals as goal
use Rattle.const_prop.proofs.work.Work.open_others.Goals.{then-not-index, else-not-index}

pub raise-requires : goal.raise-requires
raise-requires g c =
    let r = c.args.s.now.lines.now in
    let line = c.loop-line.line in
    let inside : line < r.lines = omega (arith, c.loop-line-test.true, c.lines-line-end.ensures) in
    let several : is_one_word c.args.s.now.classes.now line ≡ false =
    sym (c.requires.setting.tell.tells line inside) ∙ sym (get_or_read c.args.s.now.one_word.items line c.index.result.now (omega (arith, inside, c.requires.setting.tell.size)) c.index.ensures false) ∙ c.if-not-index.true in
    let led = c.requires.setting.lines.next line 1 inside c.requires.setting.program.shape.two_edges in
    let edge : c.next_wire.result < edge_count c.args.s.now.flow.now.graph = omega (arith, led, c.next_wire.ensures) in
    let due : (b : Knowns) → IsClosed c.args.s.now.program.now c.args.s.now.flow.now c.args.s.now.classes.now (touches_in c.args.s.now.touch.now) r b → AtMost Any (b.value line c.next_wire.result) = λ b closed. subst (λ (n : ℕ). AtMost Any (b.value line n)) (sym c.next_wire.ensures) (closed.others line inside several) in
    search (rules, c.loop-line.invariant.sized, c.loop-line.invariant.found, inside, edge, due)

pub loop-line-preserved : goal.loop-line-preserved
loop-line-preserved g c =
    let r = c.args.s.now.lines.now in
    let line = c.loop-line.line in
    let inside : line < r.lines = omega (arith, c.loop-line-test.true, c.lines-line-end.ensures) in
    let tell : c.index.result.now ≡ is_one_word c.args.s.now.classes.now line =
    get_or_read c.args.s.now.one_word.items line c.index.result.now (omega (arith, inside, c.requires.setting.tell.size)) c.index.ensures false ∙ c.requires.setting.tell.tells line inside in
    elim c.if-not-index.branch [
      | then-not-index w ↦
          rw w.self-is (others-more c.args.s.now.program.now c.args.s.now.flow.now c.args.s.now.classes.now (touches_in c.args.s.now.touch.now) c.args.s.now.lines.now 0 line w.raise.new.self
          (inr (subst (λ (n : ℕ). AtMost Any ((so_far w.raise.new.self).value line n)) w.next_wire.ensures w.raise.ensures.reached))
          (settling-rises-from c.args.s.now.program.now c.args.s.now.flow.now c.args.s.now.classes.now (touches_in c.args.s.now.touch.now) c.args.s.now.lines.now (setting-covered c.args.s.now.program.now c.args.s.now.flow.now c.args.s.now.classes.now c.args.s.now.touch.now c.args.s.now.lines.now c.requires.setting.program c.requires.setting.lines) c.requires.setting.program.shape.two_edges c.requires.setting.lines.next c.loop-line.self w.raise.new.self w.raise.ensures.rises w.raise.ensures.found 0 line no_line no_piece c.loop-line.invariant))
      | else-not-index w ↦
          rw w.self-is (others-more c.args.s.now.program.now c.args.s.now.flow.now c.args.s.now.classes.now (touches_in c.args.s.now.touch.now) c.args.s.now.lines.now 0 line c.loop-line.self (inl (sym tell ∙ w.if-not-index.false)) c.loop-line.invariant)
    ]
