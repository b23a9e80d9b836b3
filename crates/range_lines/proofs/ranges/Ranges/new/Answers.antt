use Rattle.std.proofs.Common.{◌<◌, ◌+◌, ◌∷◌, List, [], None, Option, length, replicate, sym, ap, subst, ◌∙◌, length-append, arith}
use Rattle.range_lines.specs.declared.reaches.Reach.{Reach}
use Rattle.range_lines.specs.Ranges.{IsCurrent}
use Rattle.range_lines.specs.Reaches.{IsReach}
use Rattle.range_lines.specs.Marks.{exec_flags}
use Rattle.range_lines.proofs.RangeLemmas.{current-first, current-next}
use Rattle.range_lines.proofs.RowLemmas.{marks-row, rows-more, rows-done, reach-at}
use Rattle.range_lines.proofs.ranges.Ranges.new.Goals as goal

pub loop-k-init : goal.loop-k-init
loop-k-init g c =
    record {
      each = ap length c.new-rows.ensures.items;
      rows = λ j exec lt at. absurd (omega (arith, lt));
      current = current-first c.args.p.now c.args.c.now c.in_ok-current.current.items (c.in_ok-current.ensures ∙ ap (λ n. replicate n None) c.len.ensures);
    }

pub advance-requires-clause-each : goal.advance-requires-clause-each
advance-requires-clause-each g c = c.loop-k.invariant.current.each

pub loop-k-preserved : goal.loop-k-preserved
loop-k-preserved g c =
    let p = c.args.p.now in
    let t = c.args.c.now in
    let kept = c.loop-k.invariant in
    let exec = c.at-exec.result.now in
    let row = marks-row p t c.loop-k.k c.loop-k.current.items kept.current exec c.in_ok-row_of.field-0 c.requires.program (c.in_ok-row_of.ensures ∙ ap (λ xs. exec_flags p.names xs c.loop-k.k exec.kind) c.deref.ensures.value) in
    let reach : IsReach p t c.loop-k.k c.index.result.now = reach-at p t c.in_ok-reaches.reaches.items c.in_ok-reaches.ensures c.loop-k.k c.index.result.now (subst (λ n. c.loop-k.k < n) c.len-k-end.ensures c.loop-k-test.true) c.index.ensures in
    let each = kept.each in
    let longer = ap length c.in_ok-push.ensures.items in
    let lengths = length-append c.loop-k.rows.items (c.in_ok-row_of.field-0 ∷ []) in
    record {
      each = omega (arith, each, longer, lengths);
      rows = rows-more p t c.loop-k.rows.items c.push.new.self.items c.loop-k.k exec c.in_ok-row_of.field-0 kept.each c.at-exec.ensures.item c.in_ok-push.ensures.items row kept.rows;
      current = subst (λ (xs : List (Option Reach)). IsCurrent p t (c.loop-k.k + 1) xs) (sym c.advance.ensures) (current-next p t c.requires.classes c.loop-k.k exec c.at-exec.ensures.item c.loop-k.current.items kept.current c.index.result.now c.executable_fits.ensures reach);
    }

pub returns : goal.returns
returns g c =
    let test = c.loop-k-test.false in
    let bound = c.loop-k.auto.k-end in
    let end = c.len-k-end.ensures in
    rows-done c.args.p.now c.args.c.now c.loop-k.rows.items c.loop-k.k c.loop-k.invariant.each (omega (arith, test, bound, end)) c.loop-k.invariant.rows
