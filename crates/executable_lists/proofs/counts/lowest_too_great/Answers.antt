use Rattle.std.proofs.Common.{arith, ◌≡◌, ◌+◌, Some, cond, take, drop, get_or, sym, ap, ◌∙◌}
use Rattle.f77_tree.specs.declared.statements.Labelled.{Labelled}
use Rattle.control_structure.specs.Counted.{counted}
use Rattle.layout_rules.specs.Counts.{is_too_great, labels_picked, items_taken}
use Rattle.layout_rules.specs.LowestLines.{lower_line, lowest_after}
use Rattle.control_structure.specs.OwnOperations.{own_operations}
use Rattle.layout_rules.proofs.LowestWalk.{lowest-next, lowest-end}
use Rattle.control_structure.proofs.OwnExecutables.{sum-more}
use Rattle.executable_lists.proofs.StatementOperations.{great-counted}
use Rattle.executable_lists.proofs.counts.lowest_too_great.Goals as goal

pub loop-s-preserved : goal.loop-s-preserved
loop-s-preserved c =
    let names = c.args.names.now in
    let stmts = c.args.stmts.now in
    let i = c.loop-s.s-index in
    let s = c.s-item.result in
    let inv = c.loop-s.invariant in
    let is : s ≡ get_or stmts i s = c.s-item.is in
    let labels : c.from-labels.result ≡ labels_picked s.stmt = c.from-labels.ensures ∙ c.labels_picked.ensures in
    let items : c.from-items.result ≡ items_taken s.stmt = c.from-items.ensures ∙ c.items_taken.ensures in
    record {
      labels = omega (arith, labels, inv.labels, sum-more (λ (a : Labelled). labels_picked a.stmt) stmts i s c.loop-s-test.true is);
      few_labels = omega (arith, inv.few_labels);
      items = omega (arith, items, inv.items, sum-more (λ (a : Labelled). items_taken a.stmt) stmts i s c.loop-s-test.true is);
      few_items = omega (arith, inv.few_items);
      line = λ checked.
          let count : c.own_operations_of.result ≡ counted (own_operations names checked s.stmt) = c.own_operations_of.ensures checked in
          let great = great-counted names checked stmts (take i stmts) s c.own_operations_of.result (c.loop-s.labels + c.from-labels.result) c.loop-s.items (c.loop-s.items + c.from-items.result) count (omega (arith, labels, inv.labels)) inv.items (omega (arith, items, inv.items)) in
          inv.line checked
          ∙ lowest-next (is_too_great names checked stmts) stmts c.loop-s.lowest i s c.loop-s-test.true is
          ∙ ap (λ b. lower_line (cond b (lower_line c.loop-s.lowest (Some s.line)) c.loop-s.lowest) (lowest_after (is_too_great names checked stmts) (take (i + 1) stmts) (drop (i + 1) stmts))) (great ∙ sym c.are_too_many-faulty.ensures)
          ∙ ap (λ low. lower_line low (lowest_after (is_too_great names checked stmts) (take (i + 1) stmts) (drop (i + 1) stmts))) (sym c.with_line-lowest.ensures);
    }

pub returns : goal.returns
returns c = λ checked.
    let stmts = c.args.stmts.now in
    sym (c.loop-s.invariant.line checked ∙ lowest-end (is_too_great c.args.names.now checked stmts) stmts c.loop-s.lowest c.loop-s.s-index c.loop-s-test.false)
