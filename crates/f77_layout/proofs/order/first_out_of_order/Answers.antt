use Rattle.std.proofs.Common.{◌≡◌, ◌∙◌, sym, ap, true, false, take}
use Rattle.layout_rules.specs.Order.{rank, is_out_of_order}
use Rattle.layout_rules.proofs.FirstLine.{first_after-here, first_after-next}
use Rattle.f77_layout.proofs.Ranks.{is_late, late-more}
use Rattle.f77_layout.proofs.order.first_out_of_order.Goals as goal

pub returns-then-is_late : goal.returns-then-is_late
returns-then-is_late c =
    let late : is_out_of_order (take c.loop-s.s-index c.args.stmts.now) c.s-item.result ≡ true =
    c.loop-s.invariant.late (rank c.s-item.result.stmt) ∙ ap (is_late c.loop-s.greatest c.loop-s.has_program) (sym c.rank_of-rank.ensures) ∙ sym c.is_late.ensures ∙ c.if-is_late.true
    in
    sym (c.loop-s.invariant.first ∙ first_after-here is_out_of_order c.args.stmts.now c.loop-s.s-index c.s-item.result c.loop-s-test.true c.s-item.is late)

pub loop-s-preserved : goal.loop-s-preserved
loop-s-preserved c =
    let is_timely : is_late c.loop-s.greatest c.loop-s.has_program c.rank_of-rank.result ≡ false = sym c.is_late.ensures ∙ c.if-is_late.false in
    let no_fault : is_out_of_order (take c.loop-s.s-index c.args.stmts.now) c.s-item.result ≡ false =
    c.loop-s.invariant.late (rank c.s-item.result.stmt) ∙ ap (is_late c.loop-s.greatest c.loop-s.has_program) (sym c.rank_of-rank.ensures) ∙ is_timely
    in
    record {
      first = c.loop-s.invariant.first ∙ first_after-next is_out_of_order c.args.stmts.now c.loop-s.s-index c.s-item.result c.loop-s-test.true c.s-item.is no_fault;
      late = λ r. late-more c.args.stmts.now c.loop-s.s-index c.s-item.result c.loop-s.greatest c.rank_of-rank.result r c.loop-s.has_program c.loop-s-test.true c.s-item.is c.rank_of-rank.ensures is_timely (c.loop-s.invariant.late r);
    }
